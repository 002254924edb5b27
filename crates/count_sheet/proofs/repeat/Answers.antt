use mathlib.Core.Path.{refl, sym, ◌∙◌}
use Rattle.count_sheet.proofs.ListLaws.{among_after, repeats_end, repeats_here, repeats_next}
use native.Mathlib.Omega.{arith}
use Rattle.count_sheet.proofs.repeat.Goals as goal

pub returns-then-contains : goal.returns-then-contains
returns-then-contains c = repeats_here c.args.names.now c.loop-i.i (omega arith) (among_after c.args.names.now c.loop-i.i c.contains.ensures.value) c.if-contains.true ∙ sym c.loop-i.invariant

pub loop-i-preserved : goal.loop-i-preserved
loop-i-preserved c = c.loop-i.invariant ∙ repeats_next c.args.names.now c.loop-i.i (omega arith) (among_after c.args.names.now c.loop-i.i c.contains.ensures.value) c.if-contains.false

pub returns : goal.returns
returns c = sym (c.loop-i.invariant ∙ repeats_end c.args.names.now c.loop-i.i (omega arith))
