use mathlib.Core.Path.{sym, ◌∙◌}
use Rattle.sheet_rows.specs.Rows.{rows}
use Rattle.sheet_rows.proofs.RowLaws.{rows_length, rows_count}
use Rattle.sheet_walks.proofs.OverLaws.{over_none, over_at, over_next}
use Rattle.expander_marks.proofs.Entries.{said_at, said_none, said_here, said_past}
use Rattle.expander_marks.proofs.Runs.{run_end, run_stop, run_more}
use native.Mathlib.Omega.{arith}
use Rattle.expander_marks.proofs.kept_statements.Goals as goal

pub returns : goal.returns
returns c = run_end _ _ _ c.loop-q.invariant.1 (said_none (rows c.args.sheet.now) c.loop-q.q-iterator.next (over_none c.loop-q.invariant.0 c.in-None.ensures.steps.0)) (said_past (rows c.args.sheet.now)) (sym (rows_count c.args.sheet.now))

pub returns-then-not-statement_kept : goal.returns-then-not-statement_kept
returns-then-not-statement_kept c = let s = over_at c.loop-q.invariant.0 c.in-Some.ensures.steps.0 in run_stop _ _ _ c.loop-q.invariant.1 s.below (said_at (rows c.args.sheet.now) s c.row_at.ensures) (sym c.statement_kept.ensures ∙ c.if-not-statement_kept.true) (said_here (rows c.args.sheet.now) s)

pub overflow_add-count : goal.overflow_add-count
overflow_add-count c = let s = over_at c.loop-q.invariant.0 c.in-Some.ensures.steps.0 in omega (arith, s.below, s.from, c.loop-q.invariant.1.few, rows_length c.args.sheet.now)

pub loop-q-preserved : goal.loop-q-preserved
loop-q-preserved c =
    let g = c.in-Some.ensures.steps in
    let s = over_at c.loop-q.invariant.0 g.0 in
    (over_next c.loop-q.invariant.0 g, rw g.1 (run_more _ _ _ c.loop-q.invariant.1 s.below s.from (said_at (rows c.args.sheet.now) s c.row_at.ensures) (sym c.statement_kept.ensures ∙ c.if-not-statement_kept.false)))
