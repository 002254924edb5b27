use lib.ListN.{length}
use Rattle.std.specs.Prelude.{Ok, Err}
use Rattle.pages_definition.specs.Pages.{paged, said_paged}
use Rattle.words_answer.proofs.AnswerLaws.{exported_short}
use Rattle.pages_export.proofs.ExportLaws.{pages_told}
use Rattle.pages_export.proofs.export.Goals as goal

pub returns-then-answer-lt2 : goal.returns-then-answer-lt2
returns-then-answer-lt2 c = rw c.from.ensures (exported_short 29 2 c.args.text.now c.args.answer.now (said_paged (paged c.args.document.now c.args.ledger.now (length c.args.work.now) c.args.text.now)) c.if-answer-lt2.true)

pub returns-in-Ok : goal.returns-in-Ok
returns-in-Ok c = pages_told c.args.text.now c.args.answer.now c.if-answer-lt2.false (Ok c.in-Ok.bytes) (rw c.in-Ok.is at c.pages.ensures.text_after) c.put.ensures

pub returns-in-Err : goal.returns-in-Err
returns-in-Err c = pages_told c.args.text.now c.args.answer.now c.if-answer-lt2.false (Err c.in-Err.error) (rw c.in-Err.is at c.pages.ensures.text_after) (rw c.from-in-Err.ensures at c.put-in-Err.ensures)
