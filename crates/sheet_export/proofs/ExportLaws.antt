-- The check of a sheet as C calls it: the cases of the answer.
use mathlib.Core.Path.{◌≡◌}
use mathlib.Core.List.{List}
use Prim.Native.Nat.{ℕ, ◌≤◌, ◌<◌}
use native.Mathlib.Omega.{arith}
use lib.ListN.{length, get_or}
use borrow.Author.Tests.{lt-ltb, le-ltb}
use Rattle.sheet_check.specs.Checked.{Checked}
use Rattle.sheet_check.specs.Grammar.{checked_numbered}
use Rattle.words_lent.specs.Words.{over}
use Rattle.sheet_export.specs.Exports.{check_words, check_c}

module _ (sheet : List ℕ) (form : ℕ) (answer : List ℕ) where
  pub check_short : length answer ≤ 1 → record { result = 0; answer = answer } ≡ check_c sheet form answer
  unfolding check_c
  check_short h = rw (lt-ltb (length answer) 2 (omega arith))

  pub check_told : 1 < length answer → (x : Checked) → x ≡ checked_numbered form sheet → {result : ℕ} {after : List ℕ} → (result ≡ get_or (check_words x) 0 0) × (after ≡ over (check_words x) answer) → record { result = result; answer = after } ≡ check_c sheet form answer
  unfolding check_c
  check_told h x e p = rw (p.0, p.1, le-ltb (length answer) 2 (omega arith), ← e)
