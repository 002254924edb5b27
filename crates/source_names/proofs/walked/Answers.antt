use Rattle.sheet_rows.specs.Rows.{rows}
use Rattle.sheet_rows.proofs.RowLaws.{rows_length}
use Rattle.sheet_walks.proofs.OverLaws.{over_none, over_at, over_next}
use Rattle.source_names.proofs.NameLaws.{search_start, search_none, search_new, search_old}
use native.Mathlib.Omega.{arith}
use Rattle.source_names.proofs.walked.Goals as goal

pub overflow_add-node : goal.overflow_add-node
overflow_add-node c = omega (arith, c.requires, rows_length c.args.sheet.now)

pub loop-q-init : goal.loop-q-init
loop-q-init c =
    let e = c.elements-q-items.ensures in
    let i = c.into_iter-q-iterator.ensures.into_iter_gives in
    (record { part = rw (i, e.part); sheet = rw (i, e.sheet) }, rw (i, e.next) (search_start c.args.name (rows c.args.sheet.now) c.args.node))

pub returns : goal.returns
returns c = search_none c.args.name (rows c.args.sheet.now) c.args.node c.loop-q.invariant.1 (over_none c.loop-q.invariant.0 c.in-None.ensures.steps.0)

pub loop-q-preserved-then-row_at-name : goal.loop-q-preserved-then-row_at-name
loop-q-preserved-then-row_at-name c =
    let s = c.in-Some.ensures.steps in
    (over_next c.loop-q.invariant.0 s, rw s.1 (search_new c.args.name (rows c.args.sheet.now) c.args.node c.loop-q.invariant.1 (over_at c.loop-q.invariant.0 s.0) c.row_at.ensures c.if-row_at-name.true))

pub loop-q-preserved : goal.loop-q-preserved
loop-q-preserved c =
    let s = c.in-Some.ensures.steps in
    (over_next c.loop-q.invariant.0 s, rw s.1 (search_old c.args.name (rows c.args.sheet.now) c.args.node c.loop-q.invariant.1 (over_at c.loop-q.invariant.0 s.0) c.row_at.ensures c.if-row_at-name.false))
