use mathlib.Core.Path.{◌∙◌}
use Rattle.journal_index.proofs.Keys.{number_at_lem}
use Rattle.journal_index.proofs.number_at.Goals as goal

pub returns : goal.returns
returns c = c.number.ensures ∙ number_at_lem _ _ _ _ _ c.key_at.ensures.tag c.key_at.ensures.x c.key_at.ensures.y
