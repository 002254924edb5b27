use mathlib.Core.Path.{refl}
use Rattle.refine_records.proofs.Exits.{exit}
use Rattle.refine_values.proofs.Storing.{store_full, store_done}
use Rattle.refine_values.proofs.store.Goals as goal

pub returns-in_err-c-clause-stored : goal.returns-in_err-c-clause-stored
returns-in_err-c-clause-stored c = store_full _ _ _ _ _ _ _ _ c.in_err-c.ensures.1 _ (rw (exit c.from_residual.ensures.1, c.in_err-c.ensures.0) refl)

pub returns-clause-stored : goal.returns-clause-stored
returns-clause-stored c =
    let e = c.in_ok-c.ensures in
    rw e.0 (store_done _ _ _ _ _ _ _ _ c.requires.standing c.requires.storable (rw e.0 at e.1) _ c.join.auto.work (rw (e.0, c.heads.ensures.at, c.heads.ensures.slots, c.stored.ensures) at c.join.ensures) _ refl)
