use Rattle.sheet_rows.specs.Rows.{rows}
use Rattle.sheet_walks.proofs.BareLaws.{Walking}
use Rattle.sheet_walks.proofs.walk.bare.Given as goal

abbrev pub invariant-loop-at : goal.invariant-loop-at
invariant-loop-at l = Walking (rows l.sheet) l.from l.at
