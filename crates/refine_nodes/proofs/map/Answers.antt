use mathlib.Core.Path.{refl}
use Rattle.refine_records.proofs.Exits.{exit}
use Rattle.refine_nodes.proofs.Mapping.{map_full, map_done}
use Rattle.refine_nodes.proofs.map.Goals as goal

pub returns-in_err-at-clause-mapped : goal.returns-in_err-at-clause-mapped
returns-in_err-at-clause-mapped c = map_full _ _ _ _ _ _ _ c.in_err-at.ensures.1 _ (rw (exit c.from_residual.ensures.1, c.in_err-at.ensures.0) refl)

pub returns-clause-mapped : goal.returns-clause-mapped
returns-clause-mapped c =
    let e = c.in_ok-at.ensures in
    map_done c.requires.standing.sound _ c.requires.env_at _ _ _ c.requires.node_at (rw e.0 at e.1) c.enter.auto.work (rw (e.0, c.heads.ensures.at, c.heads.ensures.slots, c.map_entry.ensures) at c.enter.ensures) _ refl
