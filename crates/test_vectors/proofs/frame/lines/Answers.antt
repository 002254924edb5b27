use mathlib.Core.Path.{sym, ◌∙◌}
use Rattle.test_vectors.proofs.FrameLaws.{too_far, too_few, some_read, none_read}
use Rattle.test_vectors.proofs.frame.lines.Goals as goal

pub returns-then-input-at : goal.returns-then-input-at
returns-then-input-at c = too_far c.args.input.now _ _ c.args.words.now c.if-input-at.true

pub returns-then-input-at-2 : goal.returns-then-input-at-2
returns-then-input-at-2 c = too_few c.args.input.now _ _ c.args.words.now c.if-input-at.false c.if-input-at-2.true

pub returns : goal.returns
returns c = some_read c.args.input.now _ _ c.args.words.now _ _ c.if-input-at.false c.if-input-at-2.false c.read_lines.ensures _ (sym c.ok.ensures.value ∙ c.in_ok-ok.was)

pub returns-in_err-ok : goal.returns-in_err-ok
returns-in_err-ok c = rw c.from_residual.ensures (none_read c.args.input.now _ _ c.args.words.now _ _ c.if-input-at.false c.if-input-at-2.false c.read_lines.ensures (sym c.ok.ensures.value ∙ c.in_err-ok.was))
