use Rattle.journal_index.proofs.Links.{link_law}
use Rattle.journal_index.proofs.set_links.Goals as goal

pub returns : goal.returns
returns c = link_law _ _ _ _ _ _ c.set.ensures c.set-2.ensures
