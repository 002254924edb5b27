use native.Mathlib.Omega.{arith}
use Rattle.sheet_rows.specs.Rows.{rows}
use Rattle.sheet_rows.proofs.RowLaws.{rows_length}
use Rattle.pick_file.proofs.FileLaws.{next_at}
use Rattle.pick_file.proofs.TopProtosIterator.next.Goals as goal

pub overflow_add-self : goal.overflow_add-self
overflow_add-self c =
    let s = c.args.self.now in
    omega (arith, (next_at (rows s.sheet.now) s.next c.next_proto.ensures c.in_ok-top.was).below, rows_length s.sheet.now)
