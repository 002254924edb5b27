use Rattle.source_directory.proofs.GroupLaws.{extern_at}
use Rattle.source_lookup.proofs.Sources.extern_proto.Goals as goal

pub locate-requires : goal.locate-requires
locate-requires c = c.requires

pub returns : goal.returns
returns c = extern_at c.args.self.now.root.now c.args.self.now.library.now _ _ (c.requires.0.directory.begins c.args.slot c.requires.1) c.locate.ensures
