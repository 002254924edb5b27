use mathlib.Core.Path.{◌≡◌}
use Prim.Native.Nat.{◌≤◌}
use lib.ListN.{length}
use Rattle.sheet_rows.specs.Rows.{rows}
use Rattle.source_directory.specs.Directory.{size, TableStored}
use Rattle.source_directory.proofs.store.Given as goal

abbrev pub invariant-loop-j : goal.invariant-loop-j
invariant-loop-j l = (size ≤ length l.dir) × (length l.dir ≡ length l.initial.dir) × TableStored (rows l.library) l.table l.dir l.j
