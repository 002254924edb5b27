use mathlib.Core.Path.{◌≡◌}
use lib.ListN.{length, drop}
use Rattle.sheet_rows.specs.Rows.{rows}
use Rattle.sheet_check.specs.Grammar.{run, checked}
use Rattle.sheet_check.proofs.check.Given as goal

abbrev pub invariant-loop-at : goal.invariant-loop-at
invariant-loop-at l =
    (l.count ≡ length (rows l.sheet)) × (run l.form l.s l.at (drop l.at (rows l.sheet)) ≡ checked l.form (rows l.sheet))
