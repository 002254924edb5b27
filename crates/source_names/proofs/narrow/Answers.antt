use Rattle.sheet_rows.proofs.RowLaws.{rows_length}
use native.Mathlib.Omega.{arith}
use Rattle.source_names.proofs.narrow.Goals as goal

pub overflow_add-node : goal.overflow_add-node
overflow_add-node c = omega (arith, c.requires, rows_length c.args.sheet.now)
