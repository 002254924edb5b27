use lib.ListN.{length}
use Rattle.std.specs.Prelude.{Ok, Err}
use Rattle.count_sheet.specs.Sheet.{counted_sheet, said_counted}
use Rattle.words_answer.proofs.AnswerLaws.{exported_short}
use Rattle.count_export.proofs.ExportLaws.{count_told}
use Rattle.count_export.proofs.export.Goals as goal

pub returns-then-answer-lt2 : goal.returns-then-answer-lt2
returns-then-answer-lt2 c = rw c.from.ensures (exported_short 17 2 c.args.totals.now c.args.answer.now (said_counted (counted_sheet c.args.documents.now c.args.protocols.now c.args.names.now (length c.args.work.now) c.args.totals.now)) c.if-answer-lt2.true)

pub returns-in-Ok : goal.returns-in-Ok
returns-in-Ok c = count_told c.args.totals.now c.args.answer.now c.if-answer-lt2.false (Ok c.in-Ok.n) (rw c.in-Ok.is at c.count.ensures.totals_after) c.put.ensures

pub returns-in-Err : goal.returns-in-Err
returns-in-Err c = count_told c.args.totals.now c.args.answer.now c.if-answer-lt2.false (Err c.in-Err.error) (rw c.in-Err.is at c.count.ensures.totals_after) (rw c.from-in-Err.ensures at c.put-in-Err.ensures)
