use mathlib.Core.Path.{◌∙◌}
use Rattle.writer_lists.specs.Lists.{list_rows}
use Rattle.writer_lists.proofs.Walks.{walk_begin}
use Rattle.writer_lists.proofs.Chains.{chain_room, chain_again, chain_stop}
use Rattle.writer_lists.proofs.list.Goals as goal

pub loop-r-init : goal.loop-r-init
unfolding list_rows
loop-r-init c =
    let e = c.records-r-items.ensures in
    let i = c.into_iter-r-iterator.ensures.into_iter_gives in
    (rw (i, e.work), rw (i, e.next) (walk_begin _ c.requires.rows_fit))

pub returns : goal.returns
unfolding list_rows
returns c = chain_stop _ _ c.loop-r.invariant.1 c.in-None.ensures.steps.0

pub loop-r-preserved : goal.loop-r-preserved
loop-r-preserved c =
    let s = c.in-Some.ensures.steps in
    let k = c.loop-r.invariant in
    (s.2 ∙ k.0, chain_again _ _ k.1 s.0 (rw k.0 at s.1) c.item-p.ensures)

pub item-p-requires-clause-rows_fit : goal.item-p-requires-clause-rows_fit
item-p-requires-clause-rows_fit c = chain_room _ _ c.loop-r.invariant.1 c.in-Some.ensures.steps.0
