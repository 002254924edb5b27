use mathlib.Core.Path.{◌≡◌}
use lib.ListN.{drop}
use Rattle.sheet_rows.specs.Rows.{rows}
use Rattle.sheet_rows.specs.Parse.{elements}
use Rattle.sheet_walks.proofs.walk.seek.Given as goal

abbrev pub invariant-loop-at : goal.invariant-loop-at
invariant-loop-at l =
    elements l.part (drop l.from (rows l.sheet)) ≡ elements l.part (drop l.at (rows l.sheet))
