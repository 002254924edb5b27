use mathlib.Core.Path.{sym}
use native.Mathlib.Omega.{arith}
use lib.ListN.{get_or-eq_default}
use Rattle.sheet_rows.specs.Rows.{rows, blank}
use Rattle.sheet_rows.proofs.RowLaws.{rows_count, row_is}
use borrow.Author.Rules.{rules}
use Rattle.sheet_rows.proofs.row.row_at.Goals as goal

pub returns-then-at-sheet : goal.returns-then-at-sheet
returns-then-at-sheet c = row_is _ _ (search rules)

pub returns-else-at-sheet : goal.returns-else-at-sheet
returns-else-at-sheet c =
    let w = c.args.sheet.now in let h = rows_count w in sym (get_or-eq_default (rows w) blank (omega arith))
