use Rattle.std.proofs.Common.{arith}
use Rattle.expand_text.proofs.input.read.Goals as goal

pub returns-then-branch-eq0 : goal.returns-then-branch-eq0
returns-then-branch-eq0 g c = omega (arith, c.loop-n.invariant, c.loop-n.auto.bytes)
