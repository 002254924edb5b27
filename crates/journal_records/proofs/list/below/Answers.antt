use native.Mathlib.Omega.{arith}
use Rattle.journal_records.proofs.Handles.{below_in, below_out}
use Rattle.journal_records.proofs.list.below.Goals as goal
use mathlib.Core.Path.{refl}

pub returns-then-x-top : goal.returns-then-x-top
returns-then-x-top c = below_in _ _ _ refl c.if-x-top.true

pub returns-else-x-top : goal.returns-else-x-top
returns-else-x-top c = below_out _ _ (omega arith)
