use Rattle.refine_records.specs.Does.{number_given}
use mathlib.Core.Path.{ap}
use Rattle.refine_records.proofs.Exits.{exit}
use Rattle.refine_records.proofs.Later.{lent_same, lent_more}
use Rattle.sheet_rows.proofs.RowLaws.{rows_length}
use Rattle.sheet_walks.proofs.OverLaws.{over_none, over_at, over_next}
use Rattle.expander_contracts.proofs.TopLaws.{tops_start, tops_end, tops_here, tops_again, tops_stop}
use native.Mathlib.Omega.{arith}
use Rattle.expander_tops.proofs.tops.Goals as goal

pub overflow_add-row : goal.overflow_add-row
overflow_add-row c = omega (arith, c.requires.row_in_bounds, rows_length c.args.sources.now.root.now, c.requires.here.lent.small)

pub loop-q-init : goal.loop-q-init
loop-q-init c =
    let e = c.elements-q-items.ensures in
    let i = c.into_iter-q-iterator.ensures.into_iter_gives in
    (record { part = rw (i, e.part); sheet = rw (i, e.sheet) }, rw (i, e.next) (tops_start _ _ _ _ _ _ _ c.args.row c.args.depth c.requires.here), lent_same)

pub top_statement-requires : goal.top_statement-requires
top_statement-requires c = record { here = tops_here _ _ _ _ _ _ _ c.args.row c.args.depth c.requires.here c.loop-q.invariant.1; slot_value = c.requires.slot_value; handle_at = c.loop-q.invariant.1.handle }

pub returns-in_err-h-clause-copied : goal.returns-in_err-h-clause-copied
returns-in_err-h-clause-copied c = rw (exit c.from_residual.ensures.1) (rw c.in_err-h.was at (tops_stop _ _ _ _ _ _ _ c.args.row c.args.depth c.requires.here c.loop-q.invariant.1 (over_at c.loop-q.invariant.0 c.in-Some.ensures.steps.0) c.top_statement.ensures.added (ap (number_given _) c.in_err-h.was)))

pub loop-q-preserved : goal.loop-q-preserved
loop-q-preserved c =
    let s = c.in-Some.ensures.steps in
    (over_next c.loop-q.invariant.0 s, rw s.1 (tops_again _ _ _ _ _ _ _ c.args.row c.args.depth c.requires.here c.loop-q.invariant.1 (over_at c.loop-q.invariant.0 s.0) c.top_statement.ensures.added (ap (number_given _) c.in_ok-h.was)), lent_more c.loop-q.invariant.2 c.top_statement.ensures.still_lent)

pub returns-clause-copied : goal.returns-clause-copied
returns-clause-copied c = tops_end _ _ _ _ _ _ _ c.args.row c.args.depth c.requires.here c.loop-q.invariant.1 (over_none c.loop-q.invariant.0 c.in-None.ensures.steps.0)
