-- luhetami_check: the result, and every word of the answer after a call, from the words before it.
use Rattle.std.specs.Prelude.{Ok, Err, List, [], ◌∷◌, ℕ, length, get_or, ltb}
use Rattle.ast.specs.Choice.{choose}
use Rattle.sheet_check.specs.Checked.{Checked}
use Rattle.sheet_check.specs.Grammar.{checked_numbered}
use Rattle.words_lent.specs.Words.{over}

-- after a call
pub record AfterCheck : Type 0 where
  pub result : ℕ
  pub answer : List ℕ

-- "1 or 0, row"; "0 where it fits"
abbrev pub check_words : Checked → List ℕ
check_words (Ok _) = 1 ∷ 0 ∷ []
check_words (Err b) = 0 ∷ b.0 ∷ []

-- "The result is 1 where it fits, 0 where it doesn't, the form is none of these or the answer has fewer than two words (then none is written)"
unfoldable pub check_c : (sheet : List ℕ) → (form : ℕ) → (answer : List ℕ) → AfterCheck
check_c sheet form answer =
    let w = check_words (checked_numbered form sheet) in
    choose (ltb (length answer) 2) (record { result = 0; answer = answer }) (record { result = get_or w 0 0; answer = over w answer })
