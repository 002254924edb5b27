use mathlib.Core.Path.{refl}
use Rattle.journal_index.proofs.Keys.{slot_law}
use Rattle.journal_index.proofs.Heads.slot.Goals as goal

pub returns : goal.returns
returns c = slot_law _ _ _ _ _ refl refl c.requires
