use mathlib.Core.Path.{refl}
use Rattle.refine_records.proofs.Exits.{exit}
use Rattle.refine_records.proofs.Owning.{own_full, own_done}
use Rattle.refine_records.proofs.Journal.own.Goals as goal

pub returns-in_err-c-clause-owned : goal.returns-in_err-c-clause-owned
returns-in_err-c-clause-owned c = own_full _ _ _ _ _ c.in_err-c.ensures.1 _ (rw (exit c.from_residual.ensures.1, c.in_err-c.ensures.0) refl)

pub returns-clause-owned : goal.returns-clause-owned
returns-clause-owned c =
    let e = c.in_ok-c.ensures in
    own_done _ _ _ _ _ c.requires.standing c.requires.ownership (rw e.0 at e.1) _ c.append.auto.work (rw e.0 at c.append.ensures) _ refl
