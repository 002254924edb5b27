use Rattle.std.proofs.Common.{Ok, Err}
use Rattle.moving_definition.specs.Moving.{moved, said_of}
use Rattle.words_answer.proofs.AnswerLaws.{exported_short}
use Rattle.moving_export.proofs.ExportLaws.{moving_told}
use Rattle.moving_export.proofs.export.Goals as goal

pub returns-then-answer-lt4 : goal.returns-then-answer-lt4
returns-then-answer-lt4 c = rw c.from.ensures (exported_short 27 4 c.args.totals.now c.args.answer.now (said_of (moved c.args.counts.now c.args.width c.args.totals.now)) c.if-answer-lt4.true)

pub returns-in-Ok : goal.returns-in-Ok
returns-in-Ok c = moving_told c.args.totals.now c.args.answer.now c.if-answer-lt4.false (Ok c.in-Ok.t) (rw c.in-Ok.is at c.moving.ensures.totals_after) c.put.ensures

pub returns-in-Err : goal.returns-in-Err
returns-in-Err c = moving_told c.args.totals.now c.args.answer.now c.if-answer-lt4.false (Err c.in-Err.error) (rw c.in-Err.is at c.moving.ensures.totals_after) (rw c.from-in-Err.ensures at c.put-in-Err.ensures)
