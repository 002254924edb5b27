use mathlib.Core.Path.{◌≡◌}
use Prim.Native.Nat.{◌-◌}
use lib.ListN.{length}
use Rattle.sheet_rows.specs.declared.part.Part.TheVariants.{Externs}
use Rattle.sheet_rows.specs.Rows.{rows}
use Rattle.sheet_walks.proofs.OverLaws.{Over}
use Rattle.pick_table.specs.Chosen.{Scratch}
use Rattle.pick_table.proofs.PickLaws.{Gathering}
use Rattle.pick_table.proofs.Walk.gather.Given as goal

abbrev pub invariant-loop-q : goal.invariant-loop-q
invariant-loop-q l =
    let library = l.initial.self.library.now in
    Over Externs (rows l.sheet) l.externs × Gathering (rows l.sheet) l.document (rows library) l.initial.self.table l.self.table l.externs.next × Scratch library l.self.files.now l.self.slots.now l.self.memo × (l.self.library.now ≡ library)

abbrev pub decreases-loop-q : goal.decreases-loop-q
decreases-loop-q l = length (rows l.sheet) - l.externs.next
