use mathlib.Core.Path.{refl}
use Rattle.pick_table.proofs.PickLaws.{file_none, file_tried}
use Rattle.pick_table.proofs.Walk.fetch.Goals as goal

pub returns-in_default : goal.returns-in_default
returns-in_default c = (file_none c.requires.1 c.requires.0 c.in_default.is, c.requires.2, refl)

pub returns : goal.returns
returns c = (file_tried c.requires.1 c.requires.0 c.in-Some.is c.gather.ensures.0, c.gather.ensures.1, c.gather.ensures.2)
