-- What is read, by the tests that led to each return.
use Rattle.std.proofs.Common.{Result, Ok, Err, ◌≡◌, ℕ, ◌+◌, ◌-◌, ◌*◌, ◌/◌, ◌%◌, ◌<◌, ◌≤◌, Bool, true, false, not, ◌||◌, eqb, ltb, List, ◌++◌, length, take, drop, ap, append-nil, arith, length-drop, take-append-drop, drop_of_length-le, length-take, take_all, take_at, drop_at}
use Rattle.ast.specs.Choice.{choose}
use Rattle.text_lines.specs.Answer.{Answer, accepted, refused}
use Rattle.text_lines.specs.declared.ReadError.{ReadError}
use Rattle.text_lines.specs.declared.ReadError.TheVariants.{WrongLength, BadLine}
use Rattle.test_cases.specs.declared.frame.FrameError.{FrameError}
use Rattle.text_lines.specs.Read.{good_lines, words_of, read_lines, read_answer}
use Rattle.test_cases.specs.Frame.{or_stay, Text, Lines, SheetRead}

abbrev refusal_of : Answer × List ℕ → ℕ
refusal_of x = x.0.refusal

abbrev count_of : Answer × List ℕ → ℕ
count_of x = x.0.count

abbrev words_of_lem : Answer × List ℕ → List ℕ
words_of_lem x = x.1

abbrev reading : Bool → Bool → ℕ → ℕ → List ℕ → List ℕ → Answer × List ℕ
reading a g n m w x = choose a (refused 12 0, w) (choose g (refused 13 m, w) (accepted n, x))

-- accepted, the count is that of the lines; refused, the words stay
by_count : (a g : Bool) (n m k : ℕ) (w x v : List ℕ) → reading a g n m w x ≡ (accepted k, v) → k ≡ n
by_count true g n m k w x v e = absurd (omega (arith, ap refusal_of e))
by_count false true n m k w x v e = absurd (omega (arith, ap refusal_of e))
by_count false false n m k w x v e = omega (arith, ap count_of e)

by_words : (a g : Bool) (n m p q : ℕ) (w x v : List ℕ) → 0 < p → reading a g n m w x ≡ (refused p q, v) → v ≡ w
by_words true g n m p q w x v h e = cc (ap words_of_lem e)
by_words false true n m p q w x v h e = cc (ap words_of_lem e)
by_words false false n m p q w x v h e = absurd (omega (arith, ap refusal_of e))

module _ (l w v : List ℕ) where
  abbrev n : ℕ
  n = length l / 89

  abbrev m : ℕ
  m = good_lines n l

  count : (k : ℕ) → read_lines l w ≡ (accepted k, v) → k ≡ n
  unfolding read_lines
  count k e = by_count (not (eqb (length l % 89) 0) || ltb (length w / 8) n) (ltb m n) n m k w (words_of n l ++ drop (8 * n) w) v e

  words : (p q : ℕ) → 0 < p → read_lines l w ≡ (refused p q, v) → v ≡ w
  unfolding read_lines
  words p q h e = by_words (not (eqb (length l % 89) 0) || ltb (length w / 8) n) (ltb m n) n m p q w (words_of n l ++ drop (8 * n) w) v h e

  module _ (r : Result ℕ ReadError) (e : read_lines l w ≡ (read_answer r, v)) where
    pub all_good : (k : ℕ) → r ≡ Ok k → Text l w v
    all_good k q = let f : read_lines l w ≡ (accepted k, v) = rw q at e in rw (count k f) at f

    pub not_read : (x : ReadError) → r ≡ Err x → v ≡ w
    not_read WrongLength q = words 12 0 (omega arith) (rw q at e)
    not_read (BadLine k) q = words 13 k (omega arith) (rw q at e)

pub some_lines : {T : Type 0} (r : Result T FrameError) (k : ℕ) (l w v : List ℕ) → length l ≡ 89 * k → or_stay r (Text l) w v → or_stay r (Lines k) w v
some_lines (Ok x) k l w v e h = record { text = l; long = e; read = let q : length l / 89 ≡ k = omega arith in rw q at h }
some_lines (Err x) k l w v e h = h

module _ (kept k : ℕ) (w v : List ℕ) (h : kept ≤ (k + 7) / 8) (room : kept ≤ length w / 8) where
  abbrev a : ℕ
  a = 8 * kept

  abbrev rest : List ℕ
  rest = drop a w

  abbrev z : ℕ
  z = length w - a

  -- the part that is lent ends where the words do
  whole : length rest ≤ z
  whole = simp length-drop (omega arith)

  front_length : length (take a w) ≡ a
  front_length = simp length-take (omega arith)

  pub some_sheet : {T : Type 0} (r : Result T FrameError) → or_stay r (Lines ((k + 7) / 8 - kept)) (take z rest) v → or_stay r (SheetRead kept k) w (take a w ++ (v ++ drop z rest))
  some_sheet (Ok x) s =
      rw (drop_of_length-le rest whole, append-nil v)
      (record {
        within = h;
        room = omega arith;
        front = take_at (take a w) v a front_length;
        others = rw (drop_at (take a w) v a front_length) (rw (take_all z rest whole) at s);
      })
  some_sheet (Err x) s = rw (s, take-append-drop z rest, take-append-drop a w)
