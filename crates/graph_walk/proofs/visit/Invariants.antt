use lib.ListN.{drop}
use Rattle.sheet_rows.specs.Rows.{rows}
use Rattle.graph_walk.specs.Scan.{ids_from}
use Rattle.graph_walk.proofs.LoopLaws.{Scanning}
use Rattle.graph_walk.proofs.visit.Given as goal

abbrev pub invariant-loop-at : goal.invariant-loop-at
invariant-loop-at l = Scanning l.nodes l.tail l.initial.work (ids_from (drop l.from (rows l.sheet))) (ids_from (drop l.at (rows l.sheet))) l.end l.work
