use lib.ListN.{length-take}
use Rattle.expand.proofs.LinesLaws.{bytes_fit}
use native.Mathlib.Omega.{arith}
use Rattle.expand.proofs.print.Goals as goal

pub slice_bounds-text-end : goal.slice_bounds-text-end
slice_bounds-text-end g c = let h = bytes_fit _ _ _ _ (rw c.in-Ok.is at c.write_lines.ensures) in omega (arith, h)

pub slice_bounds-write_all-end : goal.slice_bounds-write_all-end
slice_bounds-write_all-end g c = let h = bytes_fit _ _ _ _ (rw c.in-Ok.is at c.write_lines.ensures) in simp length-take (omega (arith, h))
