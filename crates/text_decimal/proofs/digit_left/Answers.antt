use borrow.Author.Tests.{eq-eqb, ne_eqb}
use Rattle.text_decimal.specs.Decimal.{digit_left}
use Rattle.text_decimal.proofs.digit_left.Goals as goal

pub returns-then-n-eq0 : goal.returns-then-n-eq0
unfolding digit_left
returns-then-n-eq0 c = rw (eq-eqb _ _ c.if-n-eq0.true)

pub returns-else-n-eq0 : goal.returns-else-n-eq0
unfolding digit_left
returns-else-n-eq0 c = rw (ne_eqb _ _ c.if-n-eq0.false) c.digit.ensures
