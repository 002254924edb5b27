use Rattle.sheet_walks.proofs.OverLaws.{over_at, over_next}
use Rattle.source_names.proofs.NameLaws.{grown_none, grown_on}
use native.Mathlib.Omega.{arith}
use Rattle.source_names.proofs.build.Goals as goal

pub loop-node-init : goal.loop-node-init
loop-node-init c =
    let e = c.elements-node-items.ensures in
    let i = c.into_iter-node-iterator.ensures.into_iter_gives in
    (record { part = rw (i, e.part); sheet = rw (i, e.sheet, c.select-sheet.ensures) }, grown_none c.requires.tables_listed c.requires.root_len_bound.4)

pub returns : goal.returns
returns c = c.loop-node.invariant.1

pub add-next-requires : goal.add-next-requires
add-next-requires c = let s = over_at c.loop-node.invariant.0 c.in-Some.ensures.steps.0 in record { root_len_bound = (c.requires.root_len_bound.0, c.requires.root_len_bound.1, s.below, c.requires.root_len_bound.3, c.loop-node.invariant.1.upto, omega (arith, c.requires.root_len_bound.5, c.loop-node.invariant.1.stays.long), c.requires.root_len_bound.6); tables_listed = c.loop-node.invariant.1.listed }

pub loop-node-preserved : goal.loop-node-preserved
loop-node-preserved c = (over_next c.loop-node.invariant.0 c.in-Some.ensures.steps, grown_on c.loop-node.invariant.1 c.add-next.ensures)
