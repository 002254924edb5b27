use Rattle.sheet_rows.specs.Rows.{rows}
use Rattle.refine_records.specs.Does.{number_given}
use Rattle.refine_records.proofs.Exits.{exit}
use Rattle.refine_records.proofs.Later.{lent_same, lent_more}
use mathlib.Core.Path.{ap, refl}
use Rattle.sheet_walks.proofs.OverLaws.{over_none, over_at, over_next}
use Rattle.source_directory.specs.Directory.{number_of}
use Rattle.expander_parts.proofs.Externs.{rows_few}
use Rattle.expander_parts.proofs.Said.{said_start, said_end, said_stop, said_more}
use native.Mathlib.Omega.{arith}
use Rattle.expander_parts.proofs.statements.Goals as goal

pub overflow_add-row : goal.overflow_add-row
overflow_add-row c = omega (arith, c.requires.row_in_bounds, rows_few c.requires.lent (number_of c.args.sources.now.dir.now c.args.env.slot) refl)

pub loop-q-init : goal.loop-q-init
loop-q-init c =
    let e = c.elements-q-items.ensures in
    let i = c.into_iter-q-iterator.ensures.into_iter_gives in
    (record { part = rw (i, e.part); sheet = rw (i, e.sheet) (ap rows c.sheet_of-sheet.ensures) }, rw (i, e.next) (said_start _ _ _ _ _ _ _ _ c.requires.standing c.requires.env_at c.requires.lent), lent_same)

pub returns-clause-copied : goal.returns-clause-copied
returns-clause-copied c = said_end _ _ _ _ _ _ _ _ c.loop-q.invariant.1 (over_none c.loop-q.invariant.0 c.in-None.ensures.steps.0)

pub returns-in_err-h-clause-copied : goal.returns-in_err-h-clause-copied
returns-in_err-h-clause-copied c = rw (exit c.from_residual.ensures.1) (rw c.in_err-h.was at (said_stop _ _ _ _ _ _ _ _ c.loop-q.invariant.1 (over_at c.loop-q.invariant.0 c.in-Some.ensures.steps.0) (rw (ap rows c.sheet_of-sheet.ensures) at c.row_at.ensures) c.statement.ensures.copied (ap (number_given _) c.in_err-h.was)))

pub loop-q-preserved : goal.loop-q-preserved
loop-q-preserved c =
    let s = c.in-Some.ensures.steps in
    (over_next c.loop-q.invariant.0 s, rw s.1 (said_more _ _ _ _ _ _ _ _ c.loop-q.invariant.1 (over_at c.loop-q.invariant.0 s.0) (rw (ap rows c.sheet_of-sheet.ensures) at c.row_at.ensures) c.statement.ensures.copied (ap (number_given _) c.in_ok-h.was)), lent_more c.loop-q.invariant.2 c.statement.ensures.still_lent)
