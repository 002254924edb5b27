use native.Mathlib.Omega.{arith}
use Rattle.writer_lists.proofs.Writing.{put_law}
use Rattle.writer_lists.proofs.rows.put.Goals as goal

pub returns : goal.returns
returns c = rw c.copy_from_slice.ensures.after (put_law c.args.out.now c.args.at _ c.args.r c.requires (omega arith))
