use Rattle.sheet_rows.specs.Rows.{rows}
use Rattle.graph_walk.proofs.LoopLaws.{Indexing}
use Rattle.graph_walk.proofs.index.Given as goal

abbrev pub invariant-loop-at : goal.invariant-loop-at
invariant-loop-at l = Indexing (rows l.sheet) l.from l.initial.work l.nodes l.at l.work
