use native.Mathlib.Omega.{arith}
use Rattle.sheet_rows.specs.Rows.{rows}
use Rattle.sheet_rows.proofs.RowLaws.{rows_length}
use Rattle.sheet_walks.proofs.WalkLaws.{stands}
use Rattle.sheet_walks.proofs.walk.PartElementsIterator.next.Goals as goal

pub overflow_add-self : goal.overflow_add-self
overflow_add-self c =
    let s = c.args.self.now in
    omega (arith, (stands s.part (rows s.sheet.now) s.next c.seek.ensures c.in-At.is).below, rows_length s.sheet.now)
