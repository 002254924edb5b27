-- What the answers of reading and writing lines say of lengths.
use mathlib.Core.Path.{◌≡◌, refl, ap, ◌∙◌}
use mathlib.Core.Bool.{Bool, true, false, not, ◌||◌}
use mathlib.Core.List.{List, ◌++◌}
use Prim.Native.Nat.{ℕ, ◌*◌, ◌/◌, ◌%◌, ◌≤◌, ◌<◌}
use native.Mathlib.Omega.{arith}
use lib.Dec.{ltb, eqb}
use lib.ListN.{length, drop}
use borrow.Author.Tests.{ltb-false, ltb-true}
use Rattle.ast.specs.Choice.{choose}
use Rattle.text_lines.specs.Answer.{Answer, accepted, refused}
use Rattle.text_lines.specs.declared.ReadError.{ReadError}
use Rattle.text_lines.specs.declared.ReadError.TheVariants.{WrongLength, BadLine}
use Rattle.text_lines.specs.Read.{good_lines, words_of, read_lines, read_number, read_place}
use Rattle.text_lines.specs.Write.{lines_of, write_lines}

abbrev refusal_of : Answer × List ℕ → ℕ
refusal_of a = a.0.refusal

abbrev place_of : Answer × List ℕ → ℕ
place_of a = a.0.place

abbrev count_of : Answer × List ℕ → ℕ
count_of a = a.0.count

-- ---- reading

abbrev reading : Bool → Bool → Bool → ℕ → ℕ → List ℕ → List ℕ → Answer × List ℕ
reading a b g n m w v = choose (a || b) (refused 12 0, w) (choose g (refused 13 m, w) (accepted n, v))

accepted_read : (a b g : Bool) (n m k : ℕ) (w v u : List ℕ) → reading a b g n m w v ≡ (accepted k, u) → (b ≡ false) × (n ≡ k)
accepted_read true b g n m k w v u e = absurd (omega (arith, ap refusal_of e))
accepted_read false true g n m k w v u e = absurd (omega (arith, ap refusal_of e))
accepted_read false false true n m k w v u e = absurd (omega (arith, ap refusal_of e))
accepted_read false false false n m k w v u e = (refl, ap count_of e)

bad_read : (a b g : Bool) (n m k : ℕ) (w v u : List ℕ) → reading a b g n m w v ≡ (refused 13 k, u) → (b ≡ false) × (g ≡ true) × (m ≡ k)
bad_read true b g n m k w v u e = absurd (omega (arith, ap refusal_of e))
bad_read false true g n m k w v u e = absurd (omega (arith, ap refusal_of e))
bad_read false false true n m k w v u e = (refl, refl, ap place_of e)
bad_read false false false n m k w v u e = absurd (omega (arith, ap refusal_of e))

-- the rows that are read fit into the lent words
pub rows_fit : (l w u : List ℕ) (k : ℕ) → read_lines l w ≡ (accepted k, u) → k ≤ length w / 8
unfolding read_lines
rows_fit l w u k e =
    let p = accepted_read (not (eqb (length l % 89) 0)) (ltb (length w / 8) (length l / 89)) (ltb (good_lines (length l / 89) l) (length l / 89)) (length l / 89) (good_lines (length l / 89) l) k w (words_of (length l / 89) l ++ drop (8 * (length l / 89)) w) u e in
    omega (arith, ltb-false, p.0, p.1)

-- a bad line's number is below the number of rows that the lent words hold
bad_line_fits : (l w u : List ℕ) (k : ℕ) → read_lines l w ≡ (refused 13 k, u) → k < length w / 8
unfolding read_lines
bad_line_fits l w u k e =
    let p = bad_read (not (eqb (length l % 89) 0)) (ltb (length w / 8) (length l / 89)) (ltb (good_lines (length l / 89) l) (length l / 89)) (length l / 89) (good_lines (length l / 89) l) k w (words_of (length l / 89) l ++ drop (8 * (length l / 89)) w) u e in
    omega (arith, ltb-false, ltb-true, p.0, p.1, p.2)

pub read_refuses : (e : ReadError) → 0 < read_number e
read_refuses WrongLength = omega arith
read_refuses (BadLine i) = omega arith

-- so the place of any error fits into a word
pub place_fits : (l w u : List ℕ) (e : ReadError) → read_lines l w ≡ (refused (read_number e) (read_place e), u) → read_place e ≤ length w / 8
place_fits l w u WrongLength h = omega arith
place_fits l w u (BadLine i) h = omega (arith, bad_line_fits l w u i h)

first_part : (a b g : Bool) (n m : ℕ) (w v x y : List ℕ) → (reading a b g n m w v).0 ≡ (reading a b g n m x y).0
first_part true b g n m w v x y = refl
first_part false true g n m w v x y = refl
first_part false false true n m w v x y = refl
first_part false false false n m w v x y = refl

-- the answer depends on how many words are lent, and not on what they hold
same_answer : (l w u : List ℕ) → length w ≡ length u → (read_lines l w).0 ≡ (read_lines l u).0
unfolding read_lines
same_answer l w u e =
    rw e (first_part (not (eqb (length l % 89) 0)) (ltb (length u / 8) (length l / 89)) (ltb (good_lines (length l / 89) l) (length l / 89)) (length l / 89) (good_lines (length l / 89) l) w (words_of (length l / 89) l ++ drop (8 * (length l / 89)) w) u (words_of (length l / 89) l ++ drop (8 * (length l / 89)) u))

pub not_refused : (l w u v : List ℕ) (k : ℕ) → read_lines l w ≡ (accepted k, u) → length v ≡ length w → 0 < (read_lines l v).0.refusal → ⊥
not_refused l w u v k f e h =
    omega (arith, ap (λ (a : Answer). a.refusal) (same_answer l v w e), ap refusal_of f)

pub refused_so : (l w u v : List ℕ) (n p : ℕ) → read_lines l w ≡ (refused n p, u) → length v ≡ length w → ((read_lines l v).0.refusal ≡ n) × ((read_lines l v).0.place ≡ p)
refused_so l w u v n p f e =
    (ap (λ (a : Answer). a.refusal) (same_answer l v w e) ∙ ap refusal_of f, ap (λ (a : Answer). a.place) (same_answer l v w e) ∙ ap place_of f)

pub accepts_not : (l w u : List ℕ) (n p : ℕ) → read_lines l w ≡ (refused n p, u) → 0 < n → (read_lines l w).0.refusal ≡ 0 → ⊥
accepts_not l w u n p f s z = omega (arith, ap refusal_of f)

-- ---- writing

abbrev writing : Bool → Bool → ℕ → List ℕ → List ℕ → Answer × List ℕ
writing a b n w v = choose (a || b) (refused 14 0, w) (accepted n, v)

accepted_written : (a b : Bool) (n k : ℕ) (w v u : List ℕ) → writing a b n w v ≡ (accepted k, u) → (b ≡ false) × (n ≡ k)
accepted_written true b n k w v u e = absurd (omega (arith, ap refusal_of e))
accepted_written false true n k w v u e = absurd (omega (arith, ap refusal_of e))
accepted_written false false n k w v u e = (refl, ap count_of e)

-- the bytes that are written fit into the lent ones
pub bytes_fit : (w l u : List ℕ) (k : ℕ) → write_lines w l ≡ (accepted k, u) → k ≤ length l
unfolding write_lines
bytes_fit w l u k e =
    let p = accepted_written (not (eqb (length w % 8) 0)) (ltb (length l) (89 * (length w / 8))) (89 * (length w / 8)) k l (lines_of (length w / 8) w ++ drop (89 * (length w / 8)) l) u e in
    omega (arith, ltb-false, p.0, p.1)
