-- The loops of the writer: what is left, from here, comes to what all comes to from the start.
use mathlib.Core.Path.{◌≡◌, refl, sym, ◌∙◌}
use mathlib.Core.List.{List, [], ◌∷◌, append_assoc, append-nil}
use Prim.Native.Nat.{ℕ, zero, suc, ◌+◌, ◌*◌, ◌-◌, ◌/◌, ◌%◌, ◌≤◌, ◌<◌}
use native.Mathlib.Omega.{arith}
use lib.ListN.{length, take, drop, get_or, set, length-append, length-take, length-drop}
use lib.Seq.{sets, drop-length, drop-cons}
use native.Mathlib.Numerals.{add-one}
use borrow.Author.Tests.{eq-eqb, ne_eqb, lt-ltb, le-ltb}
use Rattle.text_decimal.proofs.StoreLaws.{sets_append, sets_front}
use Rattle.text_decimal.proofs.DecimalLaws.{justified_length}
use Rattle.text_lines.specs.Answer.{accepted, refused}
use Rattle.text_lines.specs.Write.{column, fields, line, lines_of, write_lines}
use Rattle.text_lines.proofs.ListLaws.{turn, over, hop}

-- ---- the bytes of a number

pub field_length : (n : ℕ) → length (column n) ≡ 11
field_length n = justified_length 11 n

-- ---- the fields of a line, and the lines of a text

pub fields_length : (w : List ℕ) → length (fields w) ≡ 11 * length w
fields_length [] = refl
fields_length (n ∷ w) = simp length-append (let h = field_length n in let k = fields_length w in omega arith)

pub line_length : (w : List ℕ) → length w ≡ 8 → length (line w) ≡ 89
line_length w h = simp length-append (let k = fields_length w in omega arith)

pub lines_length : (n : ℕ) (w : List ℕ) → 8 * n ≤ length w → length (lines_of n w) ≡ 89 * n
lines_length zero w h = refl
lines_length (suc n) w h =
    let a : length (take 8 w) ≡ 8 = length-take 8 w ∙ omega arith in
    let k = line_length (take 8 w) a in
    let t = lines_length n (drop 8 w) (rw length-drop (omega arith)) in
    length-append (line (take 8 w)) _ ∙ omega arith

module _ (w : List ℕ) where
  abbrev pub line_left : ℕ → List ℕ → List ℕ
  line_left i l = sets l (11 * i) (line (drop i w))

  -- a text as long as the line becomes it
  pub line_start : (l : List ℕ) → length w ≡ 8 → length l ≡ 89 → line_left 0 l ≡ line w
  line_start l h k = let n = line_length w h in rw (sets_front l (line w) 89 n (omega arith), ← k, drop-length l, append-nil (line w))

  pub line_turn : (i : ℕ) (l : List ℕ) → i < length w → line_left (i + 1) (sets l (11 * i) (column (get_or w i 0))) ≡ line_left i l
  line_turn i l h =
      let g = field_length (get_or w i 0) in
      sym
      (rw (add-one, drop-cons w i 0, append_assoc (column (get_or w i 0)))
      (sets_append l (11 * i) (11 * suc i) (column (get_or w i 0)) (line (drop (suc i) w)) (omega arith)))

  -- past the eighth field only the line's end is left, from any place of the words and of the text
  pub line_end_lem : (from at i : ℕ) (l : List ℕ) → 8 ≤ i → i ≤ 8 → sets l (at + 11 * i) (line (take (8 - i) (drop (from + i) w))) ≡ set l (at + 88) 10
  line_end_lem from at i l h k = let e : i ≡ 8 = omega arith in rw e

  pub line_ended : (l : List ℕ) → length w ≡ 8 → line_left 8 l ≡ set l 88 10
  line_ended l h = let e : drop 8 w ≡ [] = rw (← h) (drop-length w) in rw e

  abbrev pub lines_left : ℕ → ℕ → List ℕ → List ℕ
  lines_left n i l = sets l (89 * i) (lines_of (n - i) (drop (8 * i) w))

  pub lines_start : (n : ℕ) (l : List ℕ) → lines_left n 0 l ≡ sets l 0 (lines_of n w)
  lines_start n l = let e : n - 0 ≡ n = omega arith in rw e

  pub lines_turn : (n i : ℕ) (l : List ℕ) → i < n → 8 * n ≤ length w → lines_left n (i + 1) (sets l (89 * i) (line (take 8 (drop (8 * i) w)))) ≡ lines_left n i l
  lines_turn n i l h k =
      let a : length (take 8 (drop (8 * i) w)) ≡ 8 = simp (length-take, length-drop) (omega arith) in
      let b = line_length (take 8 (drop (8 * i) w)) a in
      sym
      (rw (turn n i h, hop 8 (8 * i) (8 * (i + 1)) w (omega arith))
      (sets_append l (89 * i) (89 * (i + 1)) (line (take 8 (drop (8 * i) w))) (lines_of (n - (i + 1)) (drop (8 * (i + 1)) w)) (omega arith)))

  pub lines_end : (n i : ℕ) (l : List ℕ) → n ≤ i → lines_left n i l ≡ l
  lines_end n i l h = rw (over n i h)

-- ---- the answer, by the tests that led to it

module _ (w l : List ℕ) where
  abbrev count : ℕ
  count = length w / 8

  pub uneven : (length w % 8 ≡ 0 → ⊥) → write_lines w l ≡ (refused 14 0, l)
  unfolding write_lines
  uneven h = rw (ne_eqb (length w % 8) 0 h)

  module _ (even : length w % 8 ≡ 0) where
    pub too_few : length l / 89 < count → write_lines w l ≡ (refused 14 0, l)
    unfolding write_lines
    too_few h = rw (eq-eqb (length w % 8) 0 even, lt-ltb (length l) (89 * count) (omega arith))

    pub all_fit : count ≤ length l / 89 → (m : List ℕ) → m ≡ sets l 0 (lines_of count w) → write_lines w l ≡ (accepted (89 * count), m)
    unfolding write_lines
    all_fit h m e =
        rw (eq-eqb (length w % 8) 0 even, le-ltb (length l) (89 * count) (omega arith), e, sets_front l (lines_of count w) (89 * count) (lines_length count w (omega arith)) (omega arith))
