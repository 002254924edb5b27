use Rattle.std.proofs.Common.{arith}
use Rattle.test_cases.proofs.FillLaws.{next_word, one_more, none_yet, first_word}
use Rattle.test_cases.proofs.fill.fill.Goals as goal

pub loop-word-init : goal.loop-word-init
loop-word-init c = (first_word _ _, none_yet _ _ c.args.words.now)

pub loop-word-preserved : goal.loop-word-preserved
loop-word-preserved c =
    (next_word _ _ _ _ c.loop-word.invariant.0, one_more _ _ c.loop-word.words _ _ (omega arith) c.loop-word.invariant.0 c.loop-word.invariant.1)
