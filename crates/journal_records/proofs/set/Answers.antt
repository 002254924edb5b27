use Rattle.journal_records.proofs.Cells.{set_law}
use Rattle.journal_records.proofs.set.Goals as goal

pub returns : goal.returns
returns c = set_law _ _ _ _ c.requires.0 c.requires.1
