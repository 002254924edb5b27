use mathlib.Core.Path.{ap}
use Rattle.std.proofs.lemmas.Result.{err_from_is_err_and}
use Rattle.expansion_operation.specs.Operation.{After}
use Rattle.expand_text.proofs.AnswerLaws.{few, few_refused}
use Rattle.expand.proofs.scene.expand_rows.Goals as goal

pub returns : goal.returns
returns c = record { expands = record { answer = rw c.in_ok-expanded.was at (ap (λ (r : After). r.answer) c.expand.ensures.as_defined); words = ap (λ (r : After). r.out) c.expand.ensures.as_defined }; few = few _ _ _ _ _ c.in_ok-expanded.was c.expand.ensures.demand3 }

pub returns-in_err-expanded : goal.returns-in_err-expanded
returns-in_err-expanded c = let p = err_from_is_err_and c.from_residual.result c.from_residual.ensures.1 in rw (p.1, p.2) (record { expands = record { answer = rw c.in_err-expanded.was at (ap (λ (r : After). r.answer) c.expand.ensures.as_defined); words = ap (λ (r : After). r.out) c.expand.ensures.as_defined }; few = few_refused _ })
