use mathlib.Core.Path.{refl}
use Rattle.journal_index.proofs.Keys.{number_law}
use Rattle.journal_index.proofs.Key.number.Goals as goal

pub returns : goal.returns
returns c = number_law _ _ _ _ _ _ refl refl refl
