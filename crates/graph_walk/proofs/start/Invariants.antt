use mathlib.Core.Path.{◌≡◌}
use Prim.Native.Nat.{◌≤◌, max}
use lib.ListN.{length, drop}
use Rattle.sheet_rows.specs.Rows.{rows}
use Rattle.graph_walk.specs.Scan.{starts_from, end_from}
use Rattle.graph_walk.proofs.LoopLaws.{Scanning}
use Rattle.graph_walk.proofs.start.Given as goal

abbrev pub invariant-loop-at : goal.invariant-loop-at
invariant-loop-at l = (l.at ≤ max (length (rows l.sheet)) l.from) × Scanning l.nodes 0 l.initial.work (starts_from (drop l.from (rows l.sheet))) (starts_from (drop l.at (rows l.sheet))) l.tail l.work × (end_from l.from (drop l.from (rows l.sheet)) ≡ end_from l.at (drop l.at (rows l.sheet)))
