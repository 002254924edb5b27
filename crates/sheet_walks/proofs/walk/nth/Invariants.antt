use mathlib.Core.Path.{◌≡◌}
use lib.ListN.{drop}
use Rattle.sheet_rows.specs.Rows.{rows}
use Rattle.sheet_rows.specs.Parse.{elements}
use Rattle.sheet_walks.proofs.walk.nth.Given as goal

abbrev pub invariant-loop-skipped : goal.invariant-loop-skipped
invariant-loop-skipped l =
    elements l.part (drop l.at (rows l.sheet)) ≡ drop l.skipped (elements l.part (drop l.from (rows l.sheet)))
