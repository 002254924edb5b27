use Rattle.source_names.proofs.NameLaws.{named_is}
use Rattle.source_names.proofs.named.Goals as goal

pub returns : goal.returns
returns c = named_is c.requires c.last.ensures
