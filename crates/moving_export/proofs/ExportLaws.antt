-- Moving totals as C calls them: the cases of the answer.
use mathlib.Core.Path.{◌≡◌, refl}
use mathlib.Core.List.{List, [], ◌∷◌}
use Prim.Native.Nat.{ℕ, ◌≤◌}
use lib.ListN.{length}
use Rattle.std.specs.Prelude.{Result, Ok, Err}
use Rattle.words_lent.specs.Words.{over}
use Rattle.words_answer.specs.Answer.{refusal_of, words_of, answer_words, exported}
use Rattle.words_answer.proofs.AnswerLaws.{exported_said}
use Rattle.moving_definition.specs.declared.Totals.{Totals}
use Rattle.moving_definition.specs.declared.MovingError.{MovingError}
use Rattle.moving_definition.specs.declared.MovingError.TheVariants.{WidthOutside, CountOver, TooFew}
use Rattle.moving_definition.specs.Moving.{number_of, answer_of, said_of}
use Rattle.moving_definition.specs.Moving as Moving

-- what the code hands on
abbrev pub handed : Result Totals MovingError → Result (List ℕ) ℕ
handed (Ok t) = Ok (t.count ∷ t.largest ∷ t.place ∷ [])
handed (Err e) = Err (number_of e)

refusal_lem : (r : Result Totals MovingError) → refusal_of (handed r) ≡ (answer_of r).refusal
refusal_lem (Ok t) = refl
refusal_lem (Err e) = refl

words_lem : (r : Result Totals MovingError) → words_of 3 (handed r) ≡ answer_words (answer_of r).refusal ((answer_of r).count ∷ (answer_of r).largest ∷ (answer_of r).place ∷ [])
words_lem (Ok t) = refl
words_lem (Err WidthOutside) = refl
words_lem (Err CountOver) = refl
words_lem (Err TooFew) = refl

pub moving_told : (lent answer : List ℕ) → 4 ≤ length answer → (r : Result Totals MovingError) {after lent' : List ℕ} {result : ℕ} {m : Moving.Answer × List ℕ} → (answer_of r, lent') ≡ m → (result ≡ refusal_of (handed r)) × (after ≡ over (words_of 3 (handed r)) answer) → record { result = result; lent = lent'; answer = after } ≡ exported 27 4 lent answer (said_of m)
moving_told lent answer h r e p = rw (← e) (exported_said 27 4 lent answer (said_of (answer_of r, _)) h 3 (handed r) (refusal_lem r) (words_lem r) p)
