use Rattle.source_names.proofs.NameLaws.{place_root, place_library}
use Rattle.source_names.proofs.place_of.Goals as goal

pub returns-then-number-eq0 : goal.returns-then-number-eq0
returns-then-number-eq0 c = λ library h. place_root c.args.root.now library c.args.node c.args.number c.if-number-eq0.true h

pub returns : goal.returns
returns c = λ library h. place_library c.args.root.now library c.args.node c.args.number c.if-number-eq0.false
