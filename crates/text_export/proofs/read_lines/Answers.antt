use mathlib.Core.Path.{◌∙◌}
use Rattle.text_lines.specs.Answer.{refused}
use Rattle.text_lines.specs.Read.{read_answer}
use Rattle.text_export.specs.Exports.{read_counted}
use Rattle.text_export.proofs.ExportLaws.{lines_short, lines_told, read_many, read_counted_lem, read_low}
use native.Mathlib.Omega.{arith}
use Rattle.text_export.proofs.read_lines.Goals as goal

pub returns-then-answer-lt3 : goal.returns-then-answer-lt3
returns-then-answer-lt3 c = rw c.from-uncounted.ensures (lines_short 12 c.args.words.now c.args.answer.now (read_counted c.args.lines.now c.args.words.now) c.if-answer-lt3.true)

pub returns-then-lines-gt-MOST_LINES : goal.returns-then-lines-gt-MOST_LINES
returns-then-lines-gt-MOST_LINES c = lines_told 12 c.args.words.now c.args.answer.now (read_counted c.args.lines.now c.args.words.now) c.if-answer-lt3.false (refused 12 0) (read_many c.args.lines.now c.args.words.now c.if-lines-gt-MOST_LINES.true) (rw c.from-uncounted.ensures at c.put_words.ensures)

pub overflow_cast-rows : goal.overflow_cast-rows
overflow_cast-rows c = omega (arith, rw c.in-Ok.is at (read_low c.args.lines.now c.args.words.now c.read_lines.ensures).count, c.if-lines-gt-MOST_LINES.false)

pub overflow_cast-place : goal.overflow_cast-place
overflow_cast-place c = omega (arith, c.place.ensures, rw c.in-Err.is at (read_low c.args.lines.now c.args.words.now c.read_lines.ensures).place, c.if-lines-gt-MOST_LINES.false)

pub returns-in-Ok : goal.returns-in-Ok
returns-in-Ok c = lines_told 12 c.args.words.now c.args.answer.now (read_counted c.args.lines.now c.args.words.now) c.if-answer-lt3.false (read_answer c.read_lines.result) (read_counted_lem c.args.lines.now c.args.words.now c.if-lines-gt-MOST_LINES.false ∙ c.read_lines.ensures) (rw c.in-Ok.is c.put_words-in-Ok.ensures)

pub returns-in-Err : goal.returns-in-Err
returns-in-Err c = lines_told 12 c.args.words.now c.args.answer.now (read_counted c.args.lines.now c.args.words.now) c.if-answer-lt3.false (read_answer c.read_lines.result) (read_counted_lem c.args.lines.now c.args.words.now c.if-lines-gt-MOST_LINES.false ∙ c.read_lines.ensures) (rw c.in-Err.is (rw (c.from.ensures, c.place.ensures) at c.put_words-in-Err.ensures))
