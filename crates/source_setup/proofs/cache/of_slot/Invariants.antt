use Prim.Native.Nat.{◌+◌, ◌*◌}
use Rattle.source_directory.specs.Directory.{Slot}
use Rattle.source_setup.specs.Prepared.{SlotAdded}
use Rattle.source_setup.proofs.cache.of_slot.Given as goal

abbrev pub invariant-loop-i : goal.invariant-loop-i
invariant-loop-i l = Slot l.sources.dir.now l.slot × SlotAdded l.sources.root.now l.sources.library.now l.sources.dir.now l.initial.work l.work l.memo l.slot l.place (l.place + 2 * l.i)
