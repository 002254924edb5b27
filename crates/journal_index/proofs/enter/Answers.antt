use Rattle.journal_index.proofs.Index.{enter_raise, enter_law}
use Rattle.journal_index.proofs.enter.Goals as goal

pub raise-requires : goal.raise-requires
raise-requires c = enter_raise _ _ _ _ c.args.r c.requires.room c.requires.index c.requires.key _ c.slot-b.ensures _ c.head-q.ensures.same _ c.push.auto.work c.push.ensures

pub returns : goal.returns
returns c = enter_law _ _ _ _ _ c.requires.room c.requires.index c.requires.key _ c.slot-b.ensures _ c.head-q.ensures.same _ c.push.auto.work c.push.ensures _ c.raise.auto.work c.raise.ensures
