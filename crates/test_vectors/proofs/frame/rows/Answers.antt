use Rattle.test_vectors.proofs.FrameLaws.{more_kept, no_room, behind}
use Rattle.test_vectors.proofs.frame.rows.Goals as goal

pub returns-then-count-n : goal.returns-then-count-n
returns-then-count-n c = more_kept c.args.input.now _ _ _ c.args.words.now c.if-count-n.true

pub returns-then-words-from : goal.returns-then-words-from
returns-then-words-from c = no_room c.args.input.now _ _ _ c.args.words.now c.if-count-n.false c.if-words-from.true

pub returns : goal.returns
returns c = behind c.args.input.now _ _ _ c.args.words.now c.if-count-n.false c.if-words-from.false _ _ c.lines.ensures
