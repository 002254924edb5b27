use Rattle.sheet_rows.specs.Rows.{rows}
use Rattle.sheet_rows.proofs.RowLaws.{rows_length}
use Rattle.sheet_walks.proofs.OverLaws.{over_none, over_at, over_next}
use Rattle.pick_table.proofs.SourceLaws.{seek_start, seek_none, seek_here, seek_next}
use native.Mathlib.Omega.{arith}
use Rattle.pick_table.proofs.table.walked.Goals as goal
use Rattle.pick_table.proofs.table.walked.Goals.{then-row_at-base, else-row_at-base}

pub loop-q-init : goal.loop-q-init
loop-q-init c =
    let e = c.elements-q-items.ensures in
    let i = c.into_iter-q-iterator.ensures.into_iter_gives in
    (record { part = rw (i, e.part); sheet = rw (i, e.sheet) }, rw (i, e.next) (seek_start (rows c.args.library.now) c.args.base))

pub returns : goal.returns
returns c = seek_none _ _ c.loop-q.invariant.1 (over_none c.loop-q.invariant.0 c.in-None.ensures.steps.0)

pub overflow_add-number : goal.overflow_add-number
overflow_add-number c = omega (arith, c.loop-q.invariant.1.ahead, c.loop-q.invariant.1.upto, rows_length c.args.library.now, c.requires)

pub loop-q-preserved : goal.loop-q-preserved
loop-q-preserved c =
    let s = c.in-Some.ensures.steps in
    let h = over_at c.loop-q.invariant.0 s.0 in (
      over_next c.loop-q.invariant.0 s,
      elim c.if-row_at-base.branch [
        | then-row_at-base w ↦ rw (s.1, w.best-is) (seek_here (rows c.args.library.now) c.args.base c.loop-q.invariant.1 h c.row_at.ensures w.if-row_at-base.true)
        | else-row_at-base w ↦ rw (s.1, w.best-is) (seek_next (rows c.args.library.now) c.args.base c.loop-q.invariant.1 h c.row_at.ensures w.if-row_at-base.false)
      ],
    )

pub overflow_add-best : goal.overflow_add-best
overflow_add-best c = omega (arith, (over_at c.loop-q.invariant.0 c.in-Some.ensures.steps.0).below, rows_length c.args.library.now)
