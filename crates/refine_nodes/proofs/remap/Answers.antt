use Rattle.refine_nodes.proofs.Ends.{end_here}
use Rattle.refine_nodes.proofs.remap.Goals as goal

pub returns : goal.returns
returns c = end_here _ _ _ _ _ c.requires.standing c.if-id-eq-NONE.false _ c.look.ensures _ c.in-Some.is _ c.word.ensures
