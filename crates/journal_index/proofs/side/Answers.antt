use mathlib.Core.Path.{sym}
use Rattle.journal_index.proofs.Keys.{side_deep, side_bit}
use Rattle.journal_index.proofs.side.Goals as goal

pub returns-then-d-ge-BITS : goal.returns-then-d-ge-BITS
returns-then-d-ge-BITS c = sym (side_deep _ _ c.if-d-ge-BITS.true)

pub returns : goal.returns
returns c = side_bit _ _ c.if-d-ge-BITS.false
