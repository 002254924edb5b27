use borrow.Author.Tests.{eq-eqb, ne_eqb}
use Rattle.expander_call.proofs.wrong_length.Goals as goal

pub returns-then-sheet-ne0 : goal.returns-then-sheet-ne0
returns-then-sheet-ne0 c = rw (ne_eqb _ _ c.if-sheet-ne0.true)

pub returns : goal.returns
returns c = rw (eq-eqb _ _ c.if-sheet-ne0.false)
