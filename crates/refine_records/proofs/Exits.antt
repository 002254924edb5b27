-- What a `?` hands on: the refusal of the step before it.
use mathlib.Core.Path.{◌≡◌}
use Rattle.std.specs.Result.{IsErrAnd}
use Rattle.std.specs.declared.result.Result.{Result}
use Rattle.std.specs.declared.result.Result.TheVariants.{Err}
use Rattle.std.proofs.lemmas.Result.{err_from_is_err_and}
use Rattle.refine_records.specs.declared.Refusal.{Refusal}

pub exit : {T : Type 0} {x : Refusal} {r : Result T Refusal} → IsErrAnd r (λ y. y ≡ x) → r ≡ Err x
exit {r = r} k = let p = err_from_is_err_and r k in rw (p.1, p.2)
