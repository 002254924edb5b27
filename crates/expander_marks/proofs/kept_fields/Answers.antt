use mathlib.Core.Path.{sym, ◌∙◌}
use Rattle.sheet_rows.specs.Rows.{rows}
use Rattle.sheet_rows.proofs.RowLaws.{rows_length, rows_count}
use Rattle.sheet_walks.proofs.OverLaws.{over_none, over_at, over_next}
use Rattle.refine_records.specs.Sound.{env_of}
use Rattle.expander_marks.proofs.Entries.{fields_at, fields_none, fields_here, fields_end}
use Rattle.expander_marks.proofs.Runs.{run_end, run_stop, run_more}
use native.Mathlib.Omega.{arith}
use Rattle.expander_marks.proofs.kept_fields.Goals as goal

pub returns : goal.returns
returns c = run_end _ _ _ c.loop-q.invariant.1 (fields_none (env_of c.args.journal.now.work.now c.args.env).is_values (rows c.args.sheet.now) c.loop-q.q-iterator.next (over_none c.loop-q.invariant.0 c.in-None.ensures.steps.0)) (fields_end (env_of c.args.journal.now.work.now c.args.env).is_values (rows c.args.sheet.now)) (sym (rows_count c.args.sheet.now))

pub returns-then-not-field_kept : goal.returns-then-not-field_kept
returns-then-not-field_kept c = let s = over_at c.loop-q.invariant.0 c.in-Some.ensures.steps.0 in run_stop _ _ _ c.loop-q.invariant.1 s.below (fields_at (env_of c.args.journal.now.work.now c.args.env).is_values (rows c.args.sheet.now) s c.row_at.ensures) (sym c.field_kept.ensures ∙ c.if-not-field_kept.true) (fields_here (env_of c.args.journal.now.work.now c.args.env).is_values (rows c.args.sheet.now) s)

pub overflow_add-count : goal.overflow_add-count
overflow_add-count c = let s = over_at c.loop-q.invariant.0 c.in-Some.ensures.steps.0 in omega (arith, s.below, s.from, c.loop-q.invariant.1.few, rows_length c.args.sheet.now)

pub loop-q-preserved : goal.loop-q-preserved
loop-q-preserved c =
    let g = c.in-Some.ensures.steps in
    let s = over_at c.loop-q.invariant.0 g.0 in
    (over_next c.loop-q.invariant.0 g, rw g.1 (run_more _ _ _ c.loop-q.invariant.1 s.below s.from (fields_at (env_of c.args.journal.now.work.now c.args.env).is_values (rows c.args.sheet.now) s c.row_at.ensures) (sym c.field_kept.ensures ∙ c.if-not-field_kept.false)))
