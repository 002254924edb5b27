-- Reading and writing are inverse to each other.
use mathlib.Core.Path.{◌≡◌, refl, sym, ap, ◌∙◌}
use mathlib.Core.Bool.{Bool, true, false, not, ◌||◌}
use mathlib.Core.List.{List, [], ◌++◌, append-nil}
use mathlib.Core.Logic.{◌↔◌}
use Prim.Native.Nat.{ℕ, suc, ◌*◌, ◌/◌, ◌%◌, ◌≤◌}
use native.Mathlib.Omega.{arith}
use borrow.Author.Tests.{eqb-true, ltb-false, not-false}
use lib.Dec.{ltb, eqb}
use lib.ListN.{length, take, drop}
use lib.Seq.{take_at, take_all}
use Rattle.ast.proofs.Basics.{neither}
use Rattle.ast.specs.Choice.{choose}
use Rattle.text_lines.specs.Answer.{Answer, accepted, refused}
use Rattle.text_lines.specs.Read.{good_line, numbers, good_lines, words_of, read_lines}
use Rattle.text_lines.specs.Write.{line, lines_of, write_lines}
use Rattle.text_decimal.proofs.StoreLaws.{sets_front}
use Rattle.text_lines.proofs.ReadLaws.{words_length, all_good}
use Rattle.text_lines.proofs.WriteLaws.{lines_length, all_fit}
use Rattle.text_lines.proofs.LineLaws.{Words, line_read, lines_read, line_shown, lines_shown}

-- ---- what an accepted answer says of the tests

-- an accepted answer is not a refusal
not_refused : (t : Bool) (r p c : ℕ) (l m : List ℕ) (y : Answer × List ℕ) → choose t (refused (suc r) p, l) y ≡ (accepted c, m) → (t ≡ false) × (y ≡ (accepted c, m))
not_refused true r p c l m y e = let z : suc r ≡ 0 = ap (λ (x : Answer × List ℕ). x.0.refusal) e in absurd (omega arith)
not_refused false r p c l m y e = (refl, e)

multiple : (n : ℕ) → not (eqb n 0) ≡ false → n ≡ 0
multiple n h = eqb-true n 0 (not-false (eqb n 0) h)

record Was-written (w l : List ℕ) (c : ℕ) (m : List ℕ) : Type 0 where
  pub even : length w % 8 ≡ 0
  pub room : 89 * (length w / 8) ≤ length l
  pub count : c ≡ 89 * (length w / 8)
  pub bytes : m ≡ lines_of (length w / 8) w ++ drop (89 * (length w / 8)) l

was_written : (w l : List ℕ) (c : ℕ) (m : List ℕ) → write_lines w l ≡ (accepted c, m) → Was-written w l c m
unfolding write_lines
was_written w l c m e =
    let n = length w / 8 in
    let a = not_refused (not (eqb (length w % 8) 0) || ltb (length l) (89 * n)) 13 0 c l m _ e in
    let b = neither (not (eqb (length w % 8) 0)) (ltb (length l) (89 * n)) a.0 in
    record { even = multiple (length w % 8) b.0; room = ltb-false (length l) (89 * n) b.1; count = sym (ap (λ (x : Answer × List ℕ). x.0.count) a.1); bytes = sym (ap (λ (x : Answer × List ℕ). x.1) a.1) }

record Was-read (l v : List ℕ) (n : ℕ) (w : List ℕ) : Type 0 where
  pub size : length l ≡ 89 * n
  pub room : 8 * n ≤ length v
  pub good : n ≤ good_lines n l
  pub words : w ≡ words_of n l ++ drop (8 * n) v

was_read : (l v : List ℕ) (n : ℕ) (w : List ℕ) → read_lines l v ≡ (accepted n, w) → Was-read l v n w
unfolding read_lines
was_read l v n w e =
    let k = length l / 89 in
    let a = not_refused (not (eqb (length l % 89) 0) || ltb (length v / 8) k) 11 0 n v w _ e in
    let b = neither (not (eqb (length l % 89) 0)) (ltb (length v / 8) k) a.0 in
    let d = not_refused (ltb (good_lines k l) k) 12 (good_lines k l) n v w _ a.1 in
    let c : k ≡ n = ap (λ (x : Answer × List ℕ). x.0.count) d.1 in
    let even = multiple (length l % 89) b.0 in
    let room = ltb-false (length v / 8) k b.1 in
    record { size = omega arith; room = omega arith; good = rw c at (ltb-false (good_lines k l) k d.0); words = rw c at (sym (ap (λ (x : Answer × List ℕ). x.1) d.1)) }

-- ---- the theorems

-- Reading the lines of n rows of words gives the words.
pub read_lines_lem : (n : ℕ) (w v : List ℕ) → Words w → length w ≡ 8 * n → 8 * n ≤ length v → read_lines (lines_of n w) v ≡ (accepted n, w ++ drop (8 * n) v)
read_lines_lem n w v i h r =
    let s = lines_length n w (omega arith) in
    let q : length (lines_of n w) / 89 ≡ n = omega arith in
    let g = lines_read n w h i in
    let a = rw q at (all_good (lines_of n w) v (omega arith) (omega arith)) in
    a (omega (arith, g.0)) (w ++ drop (8 * n) v) (sym (rw g.1 (sets_front v w (8 * n) h r)))

-- Reading what was written gives the words that it was written from.
pub read_written : (w l v : List ℕ) (c : ℕ) (m : List ℕ) → Words w → write_lines w l ≡ (accepted c, m) → length w ≤ length v → read_lines (take c m) v ≡ (accepted (length w / 8), w ++ drop (length w) v)
read_written w l v c m i e r =
    let a = was_written w l c m e in
    let n = length w / 8 in
    let h : length w ≡ 8 * n = omega (arith, a.even) in
    let b : take c m ≡ lines_of n w = rw (a.count, a.bytes) (take_at (lines_of n w) (drop (89 * n) l) (89 * n) (lines_length n w (omega arith))) in
    rw b (read_lines_lem n w v i h (omega arith) ∙ ap (λ (k : ℕ). (accepted n, w ++ drop k v)) (sym h))

-- Whenever reading accepts, what it read are words, and writing them gives exactly the bytes.
pub written_read : (l v b : List ℕ) (n : ℕ) (w : List ℕ) → read_lines l v ≡ (accepted n, w) → length l ≤ length b → Words (take (8 * n) w) × (write_lines (take (8 * n) w) b ≡ (accepted (length l), l ++ drop (length l) b))
written_read l v b n w e r =
    let a = was_read l v n w e in
    let k = words_length n l in
    let q : length (words_of n l) / 8 ≡ n = omega arith in
    let s = lines_shown n l (omega (arith, a.size)) a.good in
    let t : take (8 * n) w ≡ words_of n l = rw a.words (take_at (words_of n l) (drop (8 * n) v) (8 * n) k) in
    let z : lines_of n (words_of n l) ≡ l = s.1 ∙ take_all (89 * n) l (omega (arith, a.size)) in
    let f = rw q at (all_fit (words_of n l) b (omega arith) (omega (arith, a.size)) (l ++ drop (89 * n) b)) in
    rw t (s.0, rw a.size (f (sym (rw z (sets_front b l (89 * n) a.size (omega (arith, a.size)))))))

-- A line is good if and only if it is the line of eight words.
pub good_line_lem : (l : List ℕ) → length l ≡ 89 → (good_line l ≡ true) ↔ ((w : List ℕ) × (length w ≡ 8) × Words w × (line w ≡ l))
good_line_lem l h = (there, back)
  where
    there : good_line l ≡ true → (w : List ℕ) × (length w ≡ 8) × Words w × (line w ≡ l)
    there e = let s = line_shown l (omega arith) e in (numbers 8 l, refl, s.0, s.1 ∙ take_all 89 l (omega arith))

    back : ((w : List ℕ) × (length w ≡ 8) × Words w × (line w ≡ l)) → good_line l ≡ true
    back x = rw (← x.3, ← append-nil (line x.0)) (line_read x.0 [] x.1 x.2).0
