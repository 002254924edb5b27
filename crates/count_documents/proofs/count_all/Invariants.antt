use mathlib.Core.Path.{◌≡◌}
use lib.ListN.{length}
use Rattle.sheet_rows.specs.Rows.{rows}
use Rattle.count_documents.proofs.TallyLaws.{Summing}
use Rattle.count_documents.proofs.count_all.Given as goal

abbrev pub invariant-loop-protocol : goal.invariant-loop-protocol
invariant-loop-protocol l = Summing (rows l.sheet) l.protocols l.names l.initial.totals l.protocol-index l.from l.totals × (length l.work ≡ length l.initial.work) × (l.counted.names.now ≡ l.names)
