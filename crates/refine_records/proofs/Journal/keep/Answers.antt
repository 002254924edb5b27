use mathlib.Core.Path.{refl}
use Rattle.refine_records.proofs.Exits.{exit}
use Rattle.refine_records.proofs.Keeping.{keep_full, keep_done}
use Rattle.refine_records.proofs.Journal.keep.Goals as goal

pub returns-in_err-c-clause-kept : goal.returns-in_err-c-clause-kept
returns-in_err-c-clause-kept c = keep_full _ _ _ _ c.in_err-c.ensures.1 _ (rw (exit c.from_residual.ensures.1, c.in_err-c.ensures.0) refl)

pub returns-clause-kept : goal.returns-clause-kept
returns-clause-kept c =
    let e = c.in_ok-c.ensures in
    rw e.0 (keep_done _ _ _ _ c.requires.standing c.requires.keepable (rw e.0 at e.1) _ c.push.auto.work (rw e.0 at c.push.ensures) _ refl)
