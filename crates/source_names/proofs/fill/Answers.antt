use Rattle.sheet_rows.proofs.RowLaws.{rows_length}
use Rattle.sheet_walks.proofs.OverLaws.{over_none, over_at, over_next}
use Rattle.source_names.proofs.NameLaws.{fill_start, fill_more, fill_full, fill_end}
use native.Mathlib.Omega.{arith}
use Rattle.source_names.proofs.fill.Goals as goal

pub overflow_add-node : goal.overflow_add-node
overflow_add-node c = omega (arith, c.requires.0, rows_length c.args.sheet.now)

pub loop-q-init : goal.loop-q-init
loop-q-init c =
    let e = c.elements-q-items.ensures in
    let i = c.into_iter-q-iterator.ensures.into_iter_gives in
    (record { part = rw (i, e.part); sheet = rw (i, e.sheet) }, rw (i, e.next) (fill_start c.requires.2))

pub returns : goal.returns
returns c = fill_end c.loop-q.invariant.1 (over_none c.loop-q.invariant.0 c.in-None.ensures.steps.0)

pub returns-then-end-to : goal.returns-then-end-to
returns-then-end-to c = fill_full c.loop-q.invariant.1

pub overflow_cast-work : goal.overflow_cast-work
overflow_cast-work c = omega (arith, c.requires.1, (over_at c.loop-q.invariant.0 c.in-Some.ensures.steps.0).below, rows_length c.args.sheet.now)

pub offset_bounds-work-to : goal.offset_bounds-work-to
offset_bounds-work-to c = omega (arith, c.requires.3, c.loop-q.invariant.1.stays.long, c.if-end-to.false)

pub bounds-work-to : goal.bounds-work-to
bounds-work-to c = omega (arith, c.requires.3, c.loop-q.invariant.1.stays.long, c.if-end-to.false)

pub overflow_add-to : goal.overflow_add-to
overflow_add-to c = omega (arith, c.requires.3, c.loop-q.invariant.1.stays.long, c.if-end-to.false)

pub loop-q-preserved : goal.loop-q-preserved
loop-q-preserved c =
    let s = c.in-Some.ensures.steps in
    (over_next c.loop-q.invariant.0 s, rw s.1 (fill_more c.loop-q.invariant.1 (over_at c.loop-q.invariant.0 s.0) c.if-end-to.false (omega (arith, c.requires.3, c.loop-q.invariant.1.stays.long))))
