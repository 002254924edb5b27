use mathlib.Core.Path.{refl}
use Rattle.refine_values.proofs.Cloning.{clone_payload, clone_walk, clone_full, clone_done}
use Rattle.refine_values.proofs.clone.Goals as goal

pub returns-then-class-ne-NODES-clause-cloned : goal.returns-then-class-ne-NODES-clause-cloned
returns-then-class-ne-NODES-clause-cloned c = clone_payload _ _ _ _ _ c.requires.standing c.if-class-ne-NODES.true

pub count-n-requires : goal.count-n-requires
count-n-requires c = clone_walk _ _ _ _ _ c.requires.standing c.if-class-ne-NODES.false (c.requires.handle_at c.if-class-ne-NODES.false)

pub returns-then-lim-c-clause-cloned : goal.returns-then-lim-c-clause-cloned
returns-then-lim-c-clause-cloned c = clone_full _ _ _ _ _ c.requires.standing c.if-class-ne-NODES.false (c.requires.handle_at c.if-class-ne-NODES.false) _ c.count-n.ensures c.if-lim-c.true _ refl

pub returns-clause-cloned : goal.returns-clause-cloned
returns-clause-cloned c = clone_done _ _ _ _ _ c.requires.standing c.if-class-ne-NODES.false (c.requires.handle_at c.if-class-ne-NODES.false) _ c.count-n.ensures c.if-lim-c.false _ c.paid.auto.work c.paid.ensures _ refl
