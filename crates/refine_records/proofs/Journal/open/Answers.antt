use mathlib.Core.Path.{refl}
use Rattle.refine_records.proofs.Exits.{exit}
use Rattle.refine_records.proofs.Opening.{open_full, few_scopes, open_done}
use native.Mathlib.Omega.{arith}
use Rattle.refine_records.proofs.Journal.open.Goals as goal

pub returns-in_err-c-clause-opened : goal.returns-in_err-c-clause-opened
returns-in_err-c-clause-opened c = open_full _ _ _ _ _ _ _ _ c.in_err-c.ensures.1 _ (rw (exit c.from_residual.ensures.1, c.in_err-c.ensures.0) refl)

pub overflow_add-self : goal.overflow_add-self
overflow_add-self c = let e = c.in_ok-c.ensures in omega (arith, few_scopes c.requires.sound, e.0, e.1, c.requires.ready.rows)

pub returns-clause-opened : goal.returns-clause-opened
returns-clause-opened c =
    let e = c.in_ok-c.ensures in
    rw e.0 (open_done c.requires.sound _ _ _ _ _ (rw e.0 at e.1) c.push.auto.work (rw (e.0, c.scope.ensures) at c.push.ensures))
