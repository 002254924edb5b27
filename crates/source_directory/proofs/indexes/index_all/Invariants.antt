use Prim.Native.Nat.{◌*◌}
use Rattle.source_directory.proofs.GroupLaws.{SoFar}
use Rattle.source_directory.proofs.indexes.index_all.Given as goal

abbrev pub invariant-loop-slot : goal.invariant-loop-slot
invariant-loop-slot l = SoFar l.root l.library l.initial.dir l.dir l.initial.work l.work l.at l.place l.end (3 * l.slot)
