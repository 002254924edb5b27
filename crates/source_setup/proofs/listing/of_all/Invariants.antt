use Prim.Native.Nat.{◌+◌}
use Rattle.source_names.specs.Names.{TablesGrown}
use Rattle.source_setup.proofs.listing.of_all.Given as goal

abbrev pub invariant-loop-slot : goal.invariant-loop-slot
invariant-loop-slot l = TablesGrown l.root l.library l.room.free l.room.at l.room.many (l.room.at + l.room.many) l.room.end l.place l.initial.work l.work
