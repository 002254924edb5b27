use mathlib.Core.Path.{◌≡◌}
use lib.ListN.{drop}
use Rattle.count_sheet.specs.Sheet.{repeats}
use Rattle.count_sheet.proofs.repeat.Given as goal

abbrev pub invariant-loop-i : goal.invariant-loop-i
invariant-loop-i l = repeats l.names ≡ repeats (drop l.i l.names)
