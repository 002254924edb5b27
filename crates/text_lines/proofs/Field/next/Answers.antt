use Rattle.std.proofs.Common.{rules}
use borrow.Author.Tests.{eq-eqb, ne_eqb}
use Rattle.text_lines.specs.Read.{next}
use Rattle.text_lines.proofs.Field.next.Goals as goal

pub returns-then-b-eq32 : goal.returns-then-b-eq32
unfolding next
returns-then-b-eq32 c = rw (c.in-Spaces.is, eq-eqb _ _ c.if-b-eq32.true)

pub returns-else-b-eq32 : goal.returns-else-b-eq32
unfolding next
returns-else-b-eq32 c = rw (c.in-Spaces.is, ne_eqb _ _ c.if-b-eq32.false) c.with_digit.ensures

pub returns-then-n-eq0 : goal.returns-then-n-eq0
unfolding next
returns-then-n-eq0 c = rw (c.in-Number.is, eq-eqb _ _ c.if-n-eq0.true)

pub returns-else-n-eq0 : goal.returns-else-n-eq0
unfolding next
returns-else-n-eq0 c = rw (c.in-Number.is, ne_eqb _ _ c.if-n-eq0.false) c.with_digit-else-n-eq0.ensures

pub returns-in-Bad : goal.returns-in-Bad
unfolding next
returns-in-Bad c = search rules
