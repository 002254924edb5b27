use mathlib.Core.Path.{◌∙◌}
use Rattle.pick_file.proofs.FileLaws.{first_none, first_here, first_pass}
use Rattle.pick_file.proofs.ProtoIndex.first_named.Goals as goal

pub returns : goal.returns
returns c = first_none c.loop-top.invariant.1 (rw c.loop-top.invariant.0 at c.in-None.ensures.steps.0)

pub returns-then-is_named : goal.returns-then-is_named
returns-then-is_named c = first_here c.loop-top.invariant.1 (rw c.loop-top.invariant.0 at c.in-Some.ensures.steps.0) c.is_named.ensures c.if-is_named.true

pub loop-top-preserved : goal.loop-top-preserved
loop-top-preserved c = (c.in-Some.ensures.steps.2 ∙ c.loop-top.invariant.0, rw c.in-Some.ensures.steps.1 (first_pass c.loop-top.invariant.1 (rw c.loop-top.invariant.0 at c.in-Some.ensures.steps.0) c.is_named.ensures c.if-is_named.false))
