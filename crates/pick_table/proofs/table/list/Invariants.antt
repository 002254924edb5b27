use mathlib.Core.Path.{◌≡◌}
use lib.ListN.{length}
use Rattle.sheet_rows.specs.declared.part.Part.TheVariants.{Files}
use Rattle.sheet_rows.specs.Rows.{rows}
use Rattle.sheet_walks.proofs.OverLaws.{Over}
use Rattle.pick_table.proofs.ListedLaws.{Listing}
use Rattle.pick_table.proofs.table.list.Given as goal

abbrev pub invariant-loop-q : goal.invariant-loop-q
invariant-loop-q l = Over Files (rows l.library) l.q-iterator × (length l.slots ≡ length l.initial.slots) × Listing (rows l.library) l.slots l.n l.q-iterator.next
