use lib.ListN.{length-set}
use Rattle.sheet_rows.specs.Rows.{rows}
use Rattle.sheet_rows.proofs.RowLaws.{rows_length}
use Rattle.sheet_walks.proofs.OverLaws.{over_none, over_at, over_next}
use mathlib.Core.Path.{refl}
use Rattle.pick_table.proofs.ListedLaws.{list_start, list_none, list_more}
use native.Mathlib.Omega.{arith}
use Rattle.pick_table.proofs.table.list.Goals as goal

pub loop-q-init : goal.loop-q-init
loop-q-init c =
    let e = c.elements-q-items.ensures in
    let i = c.into_iter-q-iterator.ensures.into_iter_gives in
    (record { part = rw (i, e.part); sheet = rw (i, e.sheet) }, refl, rw (i, e.next) (list_start (rows c.args.library.now) c.args.slots.now))

pub returns : goal.returns
returns c = (c.loop-q.invariant.2.within, list_none c.loop-q.invariant.2 (over_none c.loop-q.invariant.0 c.in-None.ensures.steps.0))

pub overflow_cast-slots : goal.overflow_cast-slots
overflow_cast-slots c = omega (arith, (over_at c.loop-q.invariant.0 c.in-Some.ensures.steps.0).below, rows_length c.args.library.now, c.requires)

pub loop-q-preserved : goal.loop-q-preserved
loop-q-preserved c =
    let s = c.in-Some.ensures.steps in
    (over_next c.loop-q.invariant.0 s, simp length-set c.loop-q.invariant.1, rw s.1 (list_more c.loop-q.invariant.2 (over_at c.loop-q.invariant.0 s.0) (omega (arith, c.loop-q.invariant.1))))
