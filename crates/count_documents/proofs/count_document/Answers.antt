use mathlib.Core.Path.{ap, ◌∙◌}
use Rattle.sheet_rows.specs.declared.row.Row.{Row}
use Rattle.sheet_rows.specs.Rows.{rows}
use Rattle.sheet_rows.proofs.RowLaws.{rows_length}
use Rattle.count_documents.proofs.TallyLaws.{tally_addable, tally_turn, tally_end}
use native.Mathlib.Omega.{arith}
use Rattle.count_documents.proofs.count_document.Goals as goal

pub add-requires : goal.add-requires
add-requires c =
    let a = c.args in
    let w = c.requires.ready in
    let known = rw c.loop-id.invariant.1 at c.find.ensures.place in
    tally_addable (rows a.sheet.now) a.from a.protocol a.names.now.names.now a.totals.now c.reach-walk.ensures c.loop-id-test.true w.document w.after w.here c.pair_at.ensures c.weight-by.ensures c.pair_at-place.ensures (ap (λ (x : Row). x.a) c.row_at-name.ensures) (omega (arith, c.well_formed, rows_length a.sheet.now)) c.requires c.loop-id.invariant.0 known

pub loop-id-preserved : goal.loop-id-preserved
loop-id-preserved c =
    let a = c.args in
    let known = rw c.loop-id.invariant.1 at c.find.ensures.place in
    (tally_turn (rows a.sheet.now) a.from a.protocol a.names.now.names.now a.totals.now c.reach-walk.ensures c.loop-id-test.true c.pair_at.ensures c.weight-by.ensures c.loop-id.invariant.0 c.requires c.pair_at-place.ensures (ap (λ (x : Row). x.a) c.row_at-name.ensures) _ known c.add.ensures, c.find.ensures.names ∙ c.loop-id.invariant.1)

pub returns-clause-document_counted : goal.returns-clause-document_counted
returns-clause-document_counted c =
    let a = c.args in
    tally_end (rows a.sheet.now) a.from a.protocol a.names.now.names.now a.totals.now c.reach-walk.ensures c.loop-id.invariant.0 (omega arith)
