use mathlib.Core.Path.{refl}
use Rattle.expander_instances.proofs.Instances.{record_full, scope_place, node_place, new_place, record_done}
use native.Mathlib.Omega.{arith}
use Rattle.expander_instances.proofs.record_instance.Goals as goal

pub returns-then-lim-c-clause-recorded : goal.returns-then-lim-c-clause-recorded
returns-then-lim-c-clause-recorded c = record_full _ _ _ _ _ _ _ _ c.if-lim-c.true _ refl

pub word-roots-requires : goal.word-roots-requires
word-roots-requires c = (scope_place _ _ _ _ _ _ c.requires.standing c.requires.recordable c.remap_routes.ensures.remapped.0, omega arith)

pub word-routes-requires : goal.word-routes-requires
word-routes-requires c = (scope_place _ _ _ _ _ _ c.requires.standing c.requires.recordable c.remap_routes.ensures.remapped.0, omega arith)

pub word-associations-requires : goal.word-associations-requires
word-associations-requires c = (scope_place _ _ _ _ _ _ c.requires.standing c.requires.recordable c.remap_routes.ensures.remapped.0, omega arith)

pub word-old-requires : goal.word-old-requires
word-old-requires c = (node_place _ _ _ _ _ _ c.requires.standing c.requires.recordable c.remap_routes.ensures.remapped.0 _ refl, omega arith)

pub word-nested-requires : goal.word-nested-requires
word-nested-requires c = (node_place _ _ _ _ _ _ c.requires.standing c.requires.recordable c.remap_routes.ensures.remapped.0 _ refl, omega arith)

pub push-requires : goal.push-requires
push-requires c = new_place _ _ _ _ _ _ c.requires.standing c.requires.recordable c.remap_routes.ensures.remapped.0 c.if-lim-c.false

pub set-requires : goal.set-requires
set-requires c = (rw c.push.auto.work (node_place _ _ _ _ _ _ c.requires.standing c.requires.recordable c.remap_routes.ensures.remapped.0 _ refl), omega arith)

pub set-requires-2 : goal.set-requires-2
set-requires-2 c = (rw (c.set.auto.work, c.push.auto.work) (node_place _ _ _ _ _ _ c.requires.standing c.requires.recordable c.remap_routes.ensures.remapped.0 _ refl), omega arith)

pub returns-clause-recorded : goal.returns-clause-recorded
returns-clause-recorded c = record_done _ _ _ _ _ _ _ _ c.requires.standing c.requires.recordable c.if-lim-c.false c.remap_routes.ensures.remapped.0 _ _ _ _ _ _ _ c.word-roots.ensures c.word-routes.ensures c.word-associations.ensures refl c.word-old.ensures c.word-nested.ensures (rw c.instance.ensures at c.push.ensures) c.push.auto.work c.named.ensures c.set.ensures c.set.auto.work c.set-2.ensures c.set-2.auto.work _ (rw c.remap_routes.ensures.remapped.1 at c.charged-journal.ensures)
