-- Count sheet as C calls it: the cases of the answer.
use mathlib.Core.Path.{◌≡◌, refl}
use mathlib.Core.List.{List, [], ◌∷◌}
use Prim.Native.Nat.{ℕ, ◌≤◌}
use lib.ListN.{length}
use Rattle.std.specs.Prelude.{Result, Ok, Err}
use Rattle.words_lent.specs.Words.{over}
use Rattle.words_answer.specs.Answer.{refusal_of, words_of, answer_words, exported}
use Rattle.words_answer.proofs.AnswerLaws.{exported_said}
use Rattle.count_sheet.specs.declared.CountError.{CountError}
use Rattle.count_sheet.specs.declared.CountError.TheVariants.{WrongRequest, MalformedDocuments}
use Rattle.count_sheet.specs.Sheet.{number_of, answer_of, said_counted}
use Rattle.count_sheet.specs.Sheet as Sheet

-- what the code hands on
abbrev pub handed : Result ℕ CountError → Result (List ℕ) ℕ
handed (Ok n) = Ok (n ∷ [])
handed (Err e) = Err (number_of e)

refusal_lem : (r : Result ℕ CountError) → refusal_of (handed r) ≡ (answer_of r).refusal
refusal_lem (Ok n) = refl
refusal_lem (Err e) = refl

words_lem : (r : Result ℕ CountError) → words_of 1 (handed r) ≡ answer_words (answer_of r).refusal ((answer_of r).totals ∷ [])
words_lem (Ok n) = refl
words_lem (Err WrongRequest) = refl
words_lem (Err MalformedDocuments) = refl

pub count_told : (lent answer : List ℕ) → 2 ≤ length answer → (r : Result ℕ CountError) {after lent' : List ℕ} {result : ℕ} {m : Sheet.Answer × List ℕ} → (answer_of r, lent') ≡ m → (result ≡ refusal_of (handed r)) × (after ≡ over (words_of 1 (handed r)) answer) → record { result = result; lent = lent'; answer = after } ≡ exported 17 2 lent answer (said_counted m)
count_told lent answer h r e p = rw (← e) (exported_said 17 2 lent answer (said_counted (answer_of r, _)) h 1 (handed r) (refusal_lem r) (words_lem r) p)
