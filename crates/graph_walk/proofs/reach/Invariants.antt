use Prim.Native.Nat.{◌-◌}
use lib.ListN.{length}
use Rattle.sheet_rows.specs.Rows.{rows}
use Rattle.graph_walk.proofs.WalkLaws.{Going}
use Rattle.graph_walk.proofs.reach.Given as goal

abbrev pub invariant-loop-k : goal.invariant-loop-k
invariant-loop-k l = Going (rows l.sheet) l.from l.nodes l.k l.tail l.started.next l.initial.work l.work

abbrev pub decreases-loop-k : goal.decreases-loop-k
decreases-loop-k l = length l.initial.work - l.k
