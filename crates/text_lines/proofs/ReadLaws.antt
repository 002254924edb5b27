-- The reader: what its chains and its loops come to.
use mathlib.Core.Path.{◌≡◌, refl, sym, ap, ap₂, ◌∙◌}
use mathlib.Core.Bool.{Bool, true, false, not, ◌&&◌, cond}
use mathlib.Core.List.{List, [], ◌∷◌, ◌++◌, append-nil}
use Prim.Native.Nat.{ℕ, zero, suc, ◌+◌, ◌*◌, ◌-◌, ◌/◌, ◌%◌, ◌≤◌, ◌<◌}
use native.Mathlib.Omega.{arith}
use native.Mathlib.Decide.{dec_lt}
use native.Mathlib.Numerals.{add-one}
use lib.ListN.{length, take, drop, get_or, set, length-append}
use lib.Dec.{eqb, ltb}
use borrow.Author.Tests.{eq-eqb, ne_eqb, lt-ltb, le-ltb}
use lib.Seq.{get_or-take, sets, drop-length}
use Rattle.std.proofs.Common.{Option, Some, None, MatchOption, is_some, unwrap_or}
use Rattle.std.specs.List.{list_all, position_or_len}
use Rattle.std.proofs.lemmas.List.{drop-take}
use Rattle.text_lines.specs.declared.Field.{Field}
use Rattle.text_lines.specs.declared.Field.TheVariants.{Spaces, Number, Bad}
use Rattle.ast.specs.Choice.{choose}
use Rattle.text_lines.specs.Answer.{accepted, refused}
use Rattle.text_lines.specs.Read.{next, reads, column_read, is_number, number_in, field_number, are_numbers, numbers, good_line, good_lines, words_of, read_lines}
use Rattle.text_decimal.proofs.StoreLaws.{sets_append, sets_front}
use Rattle.text_lines.proofs.ListLaws.{turn, over, hop}
use Rattle.text_lines.proofs.ChunkLaws.{parts, parts_length}

-- ---- the bytes of a field

pub reads_append : (f : Field) (a b : List ℕ) → reads f (a ++ b) ≡ reads (reads f a) b
reads_append f [] b = refl
reads_append f (x ∷ a) b = reads_append (next f x) a b

pub reads_more : (l : List ℕ) (f g : Field) (b : ℕ) → f ≡ reads Spaces l → g ≡ next f b → g ≡ reads Spaces (l ++ (b ∷ []))
reads_more l f g b p q = q ∙ ap (λ h. next h b) p ∙ sym (reads_append Spaces l (b ∷ []))

pub number_or : (f : Field) → unwrap_or (number_in f) 0 ≡ field_number f
number_or Spaces = refl
number_or (Number n) = refl
number_or Bad = refl

-- ---- the fields of a line

abbrev pub is_field : List ℕ → Bool
is_field l = is_some (number_in (column_read l))

some_number : (f : Field) → is_some (number_in f) ≡ is_number f
some_number Spaces = refl
some_number (Number n) = refl
some_number Bad = refl

fields_all : (k : ℕ) (l : List ℕ) → list_all is_field (parts 11 k l) ≡ are_numbers k l
fields_all zero l = refl
fields_all (suc k) l = ap₂ (λ a b. a && b) (some_number (column_read (take 11 l))) (fields_all k (drop 11 l))

-- past the eighth field none is left
pub line_end_lem : (l : List ℕ) (at i : ℕ) → 8 ≤ i → are_numbers (8 - i) (drop (at + 11 * i) l) ≡ true
line_end_lem l at i h = rw (over 8 i h)

pub line_told : (l : List ℕ) → true ≡ list_all is_field (parts 11 8 l) → eqb (get_or l 88 0) 10 ≡ good_line l
unfolding good_line
line_told l h = let e = h ∙ fields_all 8 l in ap (λ t. t && eqb (get_or l 88 0) 10) e

pub line_refused : (l : List ℕ) → false ≡ list_all is_field (parts 11 8 l) → false ≡ good_line l
unfolding good_line
line_refused l h = let e = h ∙ fields_all 8 l in ap (λ t. t && eqb (get_or l 88 0) 10) e

-- what a line says is said by its front
front : (k m : ℕ) (l : List ℕ) → k ≤ m → take k (take m l) ≡ take k l
front zero m l h = refl
front (suc k) zero l h = absurd (omega arith)
front (suc k) (suc m) [] h = refl
front (suc k) (suc m) (x ∷ l) h = ap (λ r. x ∷ r) (front k m l (omega arith))

past : (k m n : ℕ) (l : List ℕ) → k + n ≡ m → drop k (take m l) ≡ take n (drop k l)
past k m n l e = rw (← e) (drop-take k n l)

are_front : (k m : ℕ) (l : List ℕ) → 11 * k ≤ m → are_numbers k (take m l) ≡ are_numbers k l
are_front zero m l h = refl
are_front (suc k) m l h =
    ap₂ (λ a b. a && b) (ap (λ x. is_number (column_read x)) (front 11 m l (omega arith)))
    (ap (λ x. are_numbers k x) (past 11 m (m - 11) l (omega arith)) ∙ are_front k (m - 11) (drop 11 l) (omega arith))

pub numbers_front : (k m : ℕ) (l : List ℕ) → 11 * k ≤ m → numbers k (take m l) ≡ numbers k l
numbers_front zero m l h = refl
numbers_front (suc k) m l h =
    ap₂ (λ a b. a ∷ b) (ap (λ x. field_number (column_read x)) (front 11 m l (omega arith)))
    (ap (λ x. numbers k x) (past 11 m (m - 11) l (omega arith)) ∙ numbers_front k (m - 11) (drop 11 l) (omega arith))

good_front : (l : List ℕ) → good_line (take 89 l) ≡ good_line l
unfolding good_line
good_front l = ap₂ (λ a b. a && eqb b 10) (are_front 8 89 l (omega arith)) (get_or-take 89 l 88 0 (omega arith))

-- ---- the lines of a text

one_more : (t : Bool) (m : ℕ) → cond (not (not t)) (1 + m) 0 ≡ choose t (suc m) 0
one_more true m = omega arith
one_more false m = refl

good_parts : (k : ℕ) (l : List ℕ) → position_or_len (λ x. not (good_line x)) (parts 89 k l) ≡ good_lines k l
good_parts zero l = refl
good_parts (suc k) l = rw (good_front l, good_parts k (drop 89 l)) (one_more (good_line l) (good_lines k (drop 89 l)))

good_upto : (k : ℕ) (l : List ℕ) → good_lines k l ≤ k
good_upto zero l = omega arith
good_upto (suc k) l = go (good_line l) (good_upto k (drop 89 l))
  where
    go : (t : Bool) {m : ℕ} → m ≤ k → choose t (suc m) 0 ≤ suc k
    go true h = omega arith
    go false h = omega arith

pub first_bad_told : (n : ℕ) (l : List ℕ) {r : Option ℕ} → r ≡ cond (ltb (position_or_len (λ x. not (good_line x)) (parts 89 n l)) (length (parts 89 n l))) (Some (position_or_len (λ x. not (good_line x)) (parts 89 n l))) None
    → MatchOption r (good_lines n l ≡ n) (λ i. (good_lines n l ≡ i) × (i < n))
first_bad_told n l {r} e = let f = rw (good_parts n l, parts_length 89 n l) at e in rw f (go (dec_lt (good_lines n l) n))
  where
    go : Dec (good_lines n l < n) → MatchOption (cond (ltb (good_lines n l) n) (Some (good_lines n l)) None) (good_lines n l ≡ n) (λ i. (good_lines n l ≡ i) × (i < n))
    go (yes h) = rw (lt-ltb _ _ h) (refl, h)
    go (no h) = rw (le-ltb (good_lines n l) n (omega arith)) (omega (arith, good_upto n l))

module _ (l : List ℕ) where
  -- ---- the words of a line, and of a text

  abbrev pub row_left : ℕ → List ℕ → List ℕ
  row_left i w = sets w i (numbers (8 - i) (drop (11 * i) l))

  numbers_length : (k : ℕ) (m : List ℕ) → length (numbers k m) ≡ k
  numbers_length zero m = refl
  numbers_length (suc k) m = let h = numbers_length k (drop 11 m) in omega arith

  pub row_start : (w : List ℕ) → length w ≡ 8 → row_left 0 w ≡ numbers 8 l
  row_start w h = sets_front w (numbers 8 l) 8 (numbers_length 8 l) (omega arith) ∙ none_left w (numbers 8 l) h
    where
      none_left : (w m : List ℕ) → length w ≡ 8 → m ++ drop 8 w ≡ m
      none_left w m e = let z = drop-length w in let y : drop 8 w ≡ [] = rw (← e) z in rw y (append-nil m)

  pub row_turn : (i : ℕ) (w : List ℕ) → i < 8 → row_left (i + 1) (set w i (field_number (column_read (take 11 (drop (11 * i) l))))) ≡ row_left i w
  row_turn i w h = rw (turn 8 i h, hop 11 (11 * i) (11 * (i + 1)) l (omega arith), add-one)

  pub row_end : (i : ℕ) (w : List ℕ) → 8 ≤ i → row_left i w ≡ w
  row_end i w h = rw (over 8 i h)

  abbrev pub rows_left : ℕ → ℕ → List ℕ → List ℕ
  rows_left n i w = sets w (8 * i) (words_of (n - i) (drop (89 * i) l))

  pub rows_start : (n : ℕ) (w : List ℕ) → rows_left n 0 w ≡ sets w 0 (words_of n l)
  rows_start n w = let e : n - 0 ≡ n = omega arith in rw e

  pub rows_turn : (n i : ℕ) (w : List ℕ) → i < n → rows_left n (i + 1) (sets w (8 * i) (numbers 8 (drop (89 * i) l))) ≡ rows_left n i w
  rows_turn n i w h =
      sym
      (rw (turn n i h, hop 89 (89 * i) (89 * (i + 1)) l (omega arith))
      (sets_append w (8 * i) (8 * (i + 1)) (numbers 8 (drop (89 * i) l)) (words_of (n - (i + 1)) (drop (89 * (i + 1)) l)) (omega arith)))

  pub rows_end : (n i : ℕ) (w : List ℕ) → n ≤ i → rows_left n i w ≡ w
  rows_end n i w h = rw (over n i h)

-- ---- the answer, by the tests that led to it

-- eight words for each line
pub words_length : (n : ℕ) (l : List ℕ) → length (words_of n l) ≡ 8 * n
words_length zero l = refl
words_length (suc n) l = simp length-append (let h = words_length n (drop 89 l) in omega arith)

module _ (l w : List ℕ) where
  abbrev count : ℕ
  count = length l / 89

  pub uneven : (length l % 89 ≡ 0 → ⊥) → read_lines l w ≡ (refused 12 0, w)
  unfolding read_lines
  uneven h = rw (ne_eqb (length l % 89) 0 h)

  module _ (even : length l % 89 ≡ 0) where
    pub too_many : length w / 8 < count → read_lines l w ≡ (refused 12 0, w)
    unfolding read_lines
    too_many h = rw (eq-eqb (length l % 89) 0 even, lt-ltb (length w / 8) count h)

    module _ (room : count ≤ length w / 8) where
      pub first_bad : good_lines count l < count → read_lines l w ≡ (refused 13 (good_lines count l), w)
      unfolding read_lines
      first_bad h = rw (eq-eqb (length l % 89) 0 even, le-ltb (length w / 8) count room, lt-ltb (good_lines count l) count h)

      pub all_good : count ≤ good_lines count l → (v : List ℕ) → v ≡ sets w 0 (words_of count l) → read_lines l w ≡ (accepted count, v)
      unfolding read_lines
      all_good h v e =
          rw (eq-eqb (length l % 89) 0 even, le-ltb (length w / 8) count room, le-ltb (good_lines count l) count h, e, sets_front w (words_of count l) (8 * count) (words_length count l) (omega arith))
