use Rattle.refine_nodes.proofs.Looking.{look_law}
use Rattle.refine_nodes.proofs.look.Goals as goal

pub returns : goal.returns
returns c = look_law c.requires.standing.sound _ c.requires.env_at _ _ c.find.ensures
