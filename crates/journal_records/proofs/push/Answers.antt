use native.Mathlib.Omega.{arith}
use Rattle.journal_records.proofs.Cells.{push_law}
use Rattle.journal_records.proofs.push.Goals as goal

pub returns : goal.returns
returns c = rw c.copy_from_slice.ensures.after (push_law c.args.work.now c.args.n _ c.args.r c.requires (omega arith))
