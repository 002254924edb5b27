use mathlib.Core.Path.{refl}
use Rattle.journal_records.specs.Records.{cell}
use Rattle.journal_records.proofs.word.Goals as goal

pub returns : goal.returns
unfolding cell
returns c = refl
