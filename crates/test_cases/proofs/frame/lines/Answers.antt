use Rattle.std.proofs.Common.{◌∙◌, arith, length-take}
use Rattle.test_cases.proofs.FrameLaws.{some_lines}
use Rattle.test_cases.proofs.frame.lines.Goals as goal

pub slice_bounds-read-end : goal.slice_bounds-read-end
slice_bounds-read-end g c = simp length-take (omega arith)

pub returns : goal.returns
returns g c = some_lines c.read.result c.args.count c.read.new.text c.args.words.now c.read.new.words (c.read.auto.text ∙ simp length-take (omega arith)) c.read.ensures
