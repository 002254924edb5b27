use mathlib.Core.Path.{◌∙◌}
use Rattle.text_lines.specs.Answer.{refused}
use Rattle.text_lines.specs.Write.{write_answer}
use Rattle.text_export.specs.Exports.{write_counted}
use Rattle.text_export.proofs.ExportLaws.{lines_short, lines_told, write_many, write_counted_lem, write_low}
use native.Mathlib.Omega.{arith}
use Rattle.text_export.proofs.write_lines.Goals as goal

pub returns-then-answer-lt3 : goal.returns-then-answer-lt3
returns-then-answer-lt3 c = rw c.from-uncounted.ensures (lines_short 14 c.args.lines.now c.args.answer.now (write_counted c.args.words.now c.args.lines.now) c.if-answer-lt3.true)

pub returns-then-words-gt-MOST_ROWS : goal.returns-then-words-gt-MOST_ROWS
returns-then-words-gt-MOST_ROWS c = lines_told 14 c.args.lines.now c.args.answer.now (write_counted c.args.words.now c.args.lines.now) c.if-answer-lt3.false (refused 14 0) (write_many c.args.words.now c.args.lines.now c.if-words-gt-MOST_ROWS.true) (rw c.from-uncounted.ensures at c.put_words.ensures)

pub overflow_cast-bytes : goal.overflow_cast-bytes
overflow_cast-bytes c = omega (arith, rw c.in-Ok.is at (write_low c.args.words.now c.args.lines.now c.write_lines.ensures).count, c.if-words-gt-MOST_ROWS.false)

pub returns-in-Ok : goal.returns-in-Ok
returns-in-Ok c = lines_told 14 c.args.lines.now c.args.answer.now (write_counted c.args.words.now c.args.lines.now) c.if-answer-lt3.false (write_answer c.write_lines.result) (write_counted_lem c.args.words.now c.args.lines.now c.if-words-gt-MOST_ROWS.false ∙ c.write_lines.ensures) (rw c.in-Ok.is c.put_words-in-Ok.ensures)

pub returns-in-Err : goal.returns-in-Err
returns-in-Err c = lines_told 14 c.args.lines.now c.args.answer.now (write_counted c.args.words.now c.args.lines.now) c.if-answer-lt3.false (write_answer c.write_lines.result) (write_counted_lem c.args.words.now c.args.lines.now c.if-words-gt-MOST_ROWS.false ∙ c.write_lines.ensures) (rw c.in-Err.is (rw c.from.ensures at c.put_words-in-Err.ensures))
