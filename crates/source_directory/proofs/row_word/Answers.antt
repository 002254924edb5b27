use mathlib.Core.Path.{sym, ◌∙◌}
use Prim.Native.Nat.{◌/◌}
use lib.ListN.{length, drop_of_length-le}
use Rattle.sheet_rows.specs.Rows.{rows}
use Rattle.sheet_rows.proofs.RowLaws.{rows_count}
use native.Mathlib.Omega.{arith}
use Rattle.source_directory.proofs.row_word.Goals as goal

pub returns : goal.returns
returns c = let R = rows c.args.library.now in drop_of_length-le R {i = length c.args.library.now / 8} (omega (arith, rows_count c.args.library.now)) ∙ sym (drop_of_length-le R {i = c.args.row} (omega (arith, rows_count c.args.library.now)))
