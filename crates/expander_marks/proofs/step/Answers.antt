use Rattle.sheet_rows.proofs.RowLaws.{rows_length}
use Rattle.expander_marks.proofs.Runs.{at_most_one}
use Rattle.expander_marks.proofs.Steps.{stepped, field_few, statement_few}
use native.Mathlib.Omega.{arith}
use Rattle.expander_marks.proofs.step.Goals as goal

pub overflow_add-result : goal.overflow_add-result
overflow_add-result c = omega (arith, field_few c.requires.at_mark, rows_length c.args.sheet.now, at_most_one _ c.from.ensures)

pub overflow_add-result-2 : goal.overflow_add-result-2
overflow_add-result-2 c = omega (arith, statement_few c.requires.at_mark, rows_length c.args.sheet.now, at_most_one _ c.from-2.ensures)

pub returns : goal.returns
returns c = stepped c.requires.at_mark c.requires.mark_at c.row_at-mark.ensures c.from.ensures c.from-2.ensures
