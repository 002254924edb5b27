use Rattle.test_cases.proofs.FrameLaws.{some_sheet}
use Rattle.test_cases.proofs.frame.sheet.Goals as goal

pub returns : goal.returns
returns g c = some_sheet _ _ c.args.words.now c.lines.new.words c.if-rows-from.false c.if-words-from.false c.lines.result c.lines.ensures
