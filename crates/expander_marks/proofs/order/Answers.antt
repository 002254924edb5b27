use Rattle.refine_records.specs.Does.{number_given}
use mathlib.Core.Path.{ap}
use Rattle.refine_records.proofs.Exits.{exit}
use Rattle.refine_records.proofs.Later.{lent_same, lent_more}
use Rattle.sheet_rows.proofs.RowLaws.{rows_length}
use Rattle.sheet_walks.proofs.OverLaws.{over_none, over_at, over_next}
use Rattle.expander_marks.proofs.Ordering.{order_start, order_end, order_positions, order_skip, order_stop, order_more}
use native.Mathlib.Omega.{arith}
use Rattle.expander_marks.proofs.order.Goals as goal

pub overflow_add-unread : goal.overflow_add-unread
overflow_add-unread c = omega (arith, c.requires.row_in_bounds, rows_length c.args.sheet.now)

pub loop-q-init : goal.loop-q-init
loop-q-init c =
    let e = c.elements-q-items.ensures in
    let i = c.into_iter-q-iterator.ensures.into_iter_gives in
    (record { part = rw (i, e.part); sheet = rw (i, e.sheet) }, rw (i, e.next) (order_start _ _ _ _ _ _ c.requires.standing c.requires.env_at), lent_same)

pub returns-clause-ordered : goal.returns-clause-ordered
returns-clause-ordered c = order_end _ _ _ _ _ _ c.loop-q.invariant.1 (over_none c.loop-q.invariant.0 c.in-None.ensures.steps.0)

pub take-requires-clause-at_mark : goal.take-requires-clause-at_mark
take-requires-clause-at_mark c = order_positions _ _ _ _ _ _ c.loop-q.invariant.1 (over_at c.loop-q.invariant.0 c.in-Some.ensures.steps.0)

pub returns-in_err-h-clause-ordered : goal.returns-in_err-h-clause-ordered
returns-in_err-h-clause-ordered c = rw (exit c.from_residual.ensures.1) (rw c.in_err-h.was at (order_stop _ _ _ _ _ _ c.loop-q.invariant.1 (over_at c.loop-q.invariant.0 c.in-Some.ensures.steps.0) c.take.ensures c.if-take.true c.row_at.ensures (rw c.order.ensures at c.keep.ensures.kept) (ap (number_given _) c.in_err-h.was)))

pub loop-q-preserved-then-take : goal.loop-q-preserved-then-take
loop-q-preserved-then-take c =
    let g = c.in-Some.ensures.steps in
    (over_next c.loop-q.invariant.0 g, rw g.1 (order_more _ _ _ _ _ _ c.loop-q.invariant.1 (over_at c.loop-q.invariant.0 g.0) c.take.ensures c.if-take.true c.row_at.ensures (rw c.order.ensures at c.keep.ensures.kept) (ap (number_given _) c.in_ok-h.was)), lent_more c.loop-q.invariant.2 c.keep.ensures.still_lent)

pub loop-q-preserved : goal.loop-q-preserved
loop-q-preserved c =
    let g = c.in-Some.ensures.steps in
    (over_next c.loop-q.invariant.0 g, rw g.1 (order_skip _ _ _ _ _ _ c.loop-q.invariant.1 (over_at c.loop-q.invariant.0 g.0) c.take.ensures c.if-take.false), c.loop-q.invariant.2)

pub overflow_add-row : goal.overflow_add-row
overflow_add-row c = omega (arith, c.requires.row_in_bounds, rows_length c.args.sheet.now)
