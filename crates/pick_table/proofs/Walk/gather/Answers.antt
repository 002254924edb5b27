use mathlib.Core.Path.{refl, ◌∙◌}
use Rattle.sheet_rows.specs.Rows.{rows}
use Rattle.sheet_rows.proofs.RowLaws.{rows_length}
use Rattle.sheet_walks.proofs.OverLaws.{over_none, over_at}
use Rattle.pick_table.proofs.PickLaws.{gather_start, gather_past, gather_none, gather_next}
use native.Mathlib.Omega.{arith}
use Rattle.pick_table.proofs.Walk.gather.Goals as goal

pub returns-then-sheet-document : goal.returns-then-sheet-document
returns-then-sheet-document c = (gather_past (rows c.args.sheet.now) c.args.document (rows c.args.self.now.library.now) _ c.requires.0 (omega (arith, c.if-sheet-document.true, rows_length c.args.sheet.now)), c.requires.1, refl)

pub loop-q-init : goal.loop-q-init
loop-q-init c =
    let e = c.elements-externs.ensures in
    (record { part = e.part; sheet = rw e.sheet }, rw e.next (gather_start (rows c.args.sheet.now) c.args.document (rows c.args.self.now.library.now) _ c.requires.0), c.requires.1, refl)

pub returns : goal.returns
returns c =
    let i = c.loop-q.invariant in
    (gather_none i.1 (over_none i.0 c.in_default.ensures.steps.0), i.2, i.3)

pub loop-q-preserved : goal.loop-q-preserved
loop-q-preserved c =
    let s = c.in-Some.ensures.steps in
    let i = c.loop-q.invariant in
    let e = c.try_urls.ensures in
    (record { part = s.2 ∙ i.0.part; sheet = s.3 ∙ i.0.sheet }, gather_next i.1 (over_at i.0 s.0) (rw i.3 at e.0) e.3, rw i.3 at e.1, e.2 ∙ i.3)

pub overflow_add-q : goal.overflow_add-q
overflow_add-q c = omega (arith, (over_at c.loop-q.invariant.0 c.in-Some.ensures.steps.0).below, rows_length c.args.sheet.now)
