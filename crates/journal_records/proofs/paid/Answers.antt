use Rattle.journal_records.proofs.Cells.{paid_again}
use native.Mathlib.Omega.{arith}
use Rattle.journal_records.proofs.paid.Goals as goal

pub loop-i-preserved : goal.loop-i-preserved
loop-i-preserved c = paid_again _ _ _ _ (omega (arith, c.loop-i.auto.work, c.requires)) c.loop-i.invariant
