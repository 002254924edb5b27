use mathlib.Core.Path.{sym, ◌∙◌, refl}
use Rattle.std.proofs.Common.{rules}
use Rattle.sheet_export.proofs.ExportLaws.{check_short, check_told}
use Rattle.sheet_export.proofs.export.Goals as goal

pub returns-then-answer-le1 : goal.returns-then-answer-le1
returns-then-answer-le1 c = check_short c.args.words.now c.args.form c.args.answer.now c.if-answer-le1.true

pub returns-in-Ok : goal.returns-in-Ok
returns-in-Ok c = check_told c.args.words.now c.args.form c.args.answer.now c.if-answer-le1.false _ (sym c.in-Ok.is ∙ c.check_numbered.ensures) (refl, search rules)

pub returns-in-Err : goal.returns-in-Err
returns-in-Err c = check_told c.args.words.now c.args.form c.args.answer.now c.if-answer-le1.false _ (sym c.in-Err.is ∙ c.check_numbered.ensures) (refl, search rules)
