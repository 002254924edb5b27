use Rattle.sheet_shape.proofs.ShapeLaws.{shape_at}
use Rattle.sheet_shape.proofs.shape_fits.Goals as goal

pub returns-in-2 : goal.returns-in-2
returns-in-2 c = shape_at _ _ 2 c.in-2.is c.node_fits.ensures
