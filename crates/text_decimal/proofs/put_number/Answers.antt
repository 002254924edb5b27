use mathlib.Core.Path.{sym, ◌∙◌}
use lib.ListN.{length-set}
use Rattle.text_decimal.proofs.DecimalLaws.{justified_put, before_put, before_end}
use native.Mathlib.Omega.{arith}
use Rattle.text_decimal.proofs.put_number.Goals as goal

pub loop-i-preserved : goal.loop-i-preserved
loop-i-preserved c = (simp length-set (c.loop-i.invariant.0 ∙ length-set _ _ _), rw c.digit_left.ensures (before_put _ c.loop-i.i c.loop-i.rest (omega arith)) ∙ c.loop-i.invariant.1)

pub returns : goal.returns
returns c = sym (before_end _ c.loop-i.i c.loop-i.rest (omega arith)) ∙ c.loop-i.invariant.1 ∙ rw c.digit.ensures (justified_put c.args.bytes.now c.args.n c.requires)
