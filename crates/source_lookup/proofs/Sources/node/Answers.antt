use Rattle.source_directory.proofs.GroupLaws.{node_at_lem}
use Rattle.source_lookup.proofs.Sources.node.Goals as goal

pub locate-requires : goal.locate-requires
locate-requires c = c.requires

pub returns : goal.returns
returns c = node_at_lem c.args.self.now.root.now c.args.self.now.library.now _ _ (c.requires.0.directory.begins c.args.slot c.requires.1) c.locate.ensures
