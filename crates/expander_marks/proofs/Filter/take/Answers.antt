use Rattle.sheet_rows.proofs.RowLaws.{rows_length}
use Rattle.expander_marks.proofs.Steps.{field_few, statement_few}
use Rattle.expander_marks.proofs.Taking.{takes_known, takes_field, takes_statement}
use native.Mathlib.Omega.{arith}
use Rattle.expander_marks.proofs.Filter.take.Goals as goal

pub returns-then-field_known-statement_known : goal.returns-then-field_known-statement_known
returns-then-field_known-statement_known c = takes_known c.requires.knows c.args.at c.step-self.ensures c.row_at-mark.ensures c.if-field_known-statement_known.true

pub reached-self-requires : goal.reached-self-requires
reached-self-requires c = record { position = omega (arith, field_few c.requires.at_mark, rows_length c.args.sheet.now); count = omega (arith, c.kept_fields-run.ensures.few, rows_length c.args.sheet.now); row = omega (arith, c.kept_fields-run.ensures.low, rows_length c.args.sheet.now) }

pub returns-then-mark-eq-FIELD : goal.returns-then-mark-eq-FIELD
returns-then-mark-eq-FIELD c = takes_field c.requires.knows c.args.at c.step-self.ensures c.row_at-mark.ensures c.if-field_known-statement_known.false c.if-mark-eq-FIELD.true c.kept_fields-run.ensures c.reached-self.ensures

pub reached-self-requires-2 : goal.reached-self-requires-2
reached-self-requires-2 c = record { position = omega (arith, statement_few c.requires.at_mark, rows_length c.args.sheet.now); count = omega (arith, c.kept_statements-run.ensures.few, rows_length c.args.sheet.now); row = omega (arith, c.kept_statements-run.ensures.low, rows_length c.args.sheet.now) }

pub returns : goal.returns
returns c = takes_statement c.requires.knows c.args.at c.step-self.ensures c.row_at-mark.ensures c.if-field_known-statement_known.false c.if-mark-eq-FIELD.false c.kept_statements-run.ensures c.reached-self-2.ensures
