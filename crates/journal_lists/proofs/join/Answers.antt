use Rattle.journal_lists.proofs.Families.{join_law}
use Rattle.journal_lists.proofs.join.Goals as goal

pub returns : goal.returns
returns c = join_law _ _ _ _ _ c.requires _ c.family-f.ensures _ _ c.enter.ensures c.set.ensures
