use mathlib.Core.Path.{◌≡◌}
use Rattle.sheet_rows.specs.Rows.{rows}
use Rattle.count_documents.proofs.TallyLaws.{Tallying}
use Rattle.count_documents.proofs.count_document.Given as goal

abbrev pub invariant-loop-id : goal.invariant-loop-id
invariant-loop-id l =
    Tallying (rows l.sheet) l.from l.protocol l.initial.names.names.now l.initial.totals l.id l.totals × (l.names.names ≡ l.initial.names.names)
