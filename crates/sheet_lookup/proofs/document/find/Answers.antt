use Rattle.sheet_lookup.proofs.DocLaws.{located, unlocated}
use Rattle.sheet_lookup.proofs.document.find.Goals as goal

pub returns-in_default : goal.returns-in_default
returns-in_default g c = let t = g.I.Numbered in unlocated t.read t.all c.args.root.now c.args.library.now c.args.doc (t.index c.args.id) c.document.ensures c.in_default.is

pub returns : goal.returns
returns g c = let t = g.I.Numbered in located t.read t.all c.args.root.now c.args.library.now c.args.doc (t.index c.args.id) _ c.document.ensures c.in-At.is (rw c.select.ensures at c.row_of.ensures)
