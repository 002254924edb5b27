-- Read lines and Write lines as C calls them: their cases.
use mathlib.Core.Path.{◌≡◌, refl}
use mathlib.Core.Bool.{Bool, true, false, not, ◌||◌}
use mathlib.Core.List.{List, ◌++◌}
use Prim.Native.Nat.{ℕ, ◌*◌, ◌/◌, ◌%◌, ◌≤◌, ◌<◌}
use native.Mathlib.Omega.{arith}
use lib.ListN.{length, drop}
use lib.Dec.{ltb, eqb}
use borrow.Author.Tests.{lt-ltb, le-ltb, ltb-true}
use Rattle.ast.specs.Choice.{choose}
use Rattle.text_lines.specs.Answer.{Answer, accepted, refused}
use Rattle.text_lines.specs.Read.{good_lines, words_of, read_lines}
use Rattle.text_lines.specs.Write.{lines_of, write_lines}
use Rattle.words_lent.specs.Words.{over}
use Rattle.text_export.specs.Exports.{line_words, unless_short, read_counted, write_counted}

module _ (n : ℕ) (lent answer : List ℕ) (r : Answer × List ℕ) where
  pub lines_short : length answer < 3 → record { result = n; lent = lent; answer = answer } ≡ unless_short n lent answer r
  unfolding unless_short
  lines_short h = rw (lt-ltb _ _ h)

  pub lines_told : 3 ≤ length answer → (a : Answer) {after lent' : List ℕ} {result : ℕ} → r ≡ (a, lent') → (result ≡ a.refusal) × (after ≡ over (line_words a) answer) → record { result = result; lent = lent'; answer = after } ≡ unless_short n lent answer r
  unfolding unless_short
  lines_told h a e p = rw (p.0, p.1, le-ltb _ _ h, e)

-- no place and no count is over n
pub record Low (n : ℕ) (r : Answer × List ℕ) : Type 0 where
  pub place : r.0.place ≤ n
  pub count : r.0.count ≤ n

read_cases : (n good : ℕ) (b d : Bool) (w v : List ℕ) → ltb good n ≡ d → Low n (choose b (refused 12 0, w) (choose d (refused 13 good, w) (accepted n, v)))
read_cases n good true d w v q = record { place = omega arith; count = omega arith }
read_cases n good false true w v q = record { place = omega (arith, ltb-true good n q); count = omega arith }
read_cases n good false false w v q = record { place = omega arith; count = omega arith }

write_cases : (n : ℕ) (b : Bool) (l m : List ℕ) → Low n (choose b (refused 14 0, l) (accepted n, m))
write_cases n true l m = record { place = omega arith; count = omega arith }
write_cases n false l m = record { place = omega arith; count = omega arith }

module _ (lines words : List ℕ) where
  pub read_many : 4294967295 < length lines / 89 → read_counted lines words ≡ (refused 12 0, words)
  unfolding read_counted
  read_many h = rw (lt-ltb _ _ h)

  pub read_counted_lem : length lines / 89 ≤ 4294967295 → read_counted lines words ≡ read_lines lines words
  unfolding read_counted
  read_counted_lem h = rw (le-ltb _ _ h)

  pub read_low : {r : Answer × List ℕ} → read_lines lines words ≡ r → Low (length lines / 89) r
  unfolding read_lines
  read_low e = rw e at (read_cases (length lines / 89) (good_lines (length lines / 89) lines) (not (eqb (length lines % 89) 0) || ltb (length words / 8) (length lines / 89)) _ words (words_of (length lines / 89) lines ++ drop (8 * (length lines / 89)) words) refl)

module _ (words lines : List ℕ) where
  pub write_many : 48258059 < length words / 8 → write_counted words lines ≡ (refused 14 0, lines)
  unfolding write_counted
  write_many h = rw (lt-ltb _ _ h)

  pub write_counted_lem : length words / 8 ≤ 48258059 → write_counted words lines ≡ write_lines words lines
  unfolding write_counted
  write_counted_lem h = rw (le-ltb _ _ h)

  pub write_low : {r : Answer × List ℕ} → write_lines words lines ≡ r → Low (89 * (length words / 8)) r
  unfolding write_lines
  write_low e = rw e at (write_cases (89 * (length words / 8)) (not (eqb (length words % 8) 0) || ltb (length lines) (89 * (length words / 8))) lines (lines_of (length words / 8) words ++ drop (89 * (length words / 8)) lines))
