use mathlib.Core.Path.{◌≡◌}
use Prim.Native.Nat.{◌-◌}
use Rattle.sheet_rows.specs.Rows.{rows}
use Rattle.pick_table.specs.Chosen.{Scratch}
use Rattle.pick_table.proofs.PickLaws.{Walking}
use Rattle.pick_table.proofs.bases_of.Given as goal

abbrev pub invariant-loop-k : goal.invariant-loop-k
invariant-loop-k l = Walking (rows l.root) (rows l.library) l.walk.table l.k × Scratch l.library l.walk.files.now l.walk.slots.now l.walk.memo × (l.walk.library.now ≡ l.library)

abbrev pub decreases-loop-k : goal.decreases-loop-k
decreases-loop-k l = 64 - l.k
