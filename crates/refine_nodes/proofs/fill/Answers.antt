use mathlib.Core.Path.{refl}
use Rattle.refine_nodes.proofs.Filling.{fill_law}
use Rattle.refine_nodes.proofs.fill.Goals as goal

pub returns : goal.returns
returns c = fill_law _ _ c.args.place _ _ _ _ _ _ _ _ _ _ _ refl c.word-scope.ensures c.word-source.ensures (rw c.node.ensures at c.push.ensures)
