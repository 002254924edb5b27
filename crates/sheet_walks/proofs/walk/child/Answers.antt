use native.Mathlib.Omega.{arith}
use Rattle.sheet_rows.specs.Rows.{rows}
use Rattle.sheet_rows.proofs.RowLaws.{rows_count}
use Rattle.sheet_walks.proofs.WalkLaws.{child_of, child_none}
use Rattle.sheet_walks.proofs.walk.child.Goals as goal

pub returns-then-sheet-of : goal.returns-then-sheet-of
returns-then-sheet-of c = let a = c.args in child_none a.part (rows a.sheet.now) a.of a.n (omega (arith, rows_count a.sheet.now))

pub returns : goal.returns
returns c = let a = c.args in child_of a.part (rows a.sheet.now) a.of a.n c.nth.result c.nth.ensures
