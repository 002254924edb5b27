use lib.ListN.{length}
use Rattle.sheet_rows.specs.Rows.{rows}
use Rattle.pick_table.proofs.ListedLaws.{Searching}
use Rattle.pick_table.proofs.table.library_file.Given as goal

abbrev pub invariant-loop-j : goal.invariant-loop-j
invariant-loop-j l = Searching (rows l.library) l.base (length l.files) l.j

abbrev pub decreases-loop-j : goal.decreases-loop-j
decreases-loop-j l = l.j
