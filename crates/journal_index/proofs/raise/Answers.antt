use Rattle.journal_index.proofs.Links.{raising_next, raising_none, raising_deep}
use Rattle.journal_index.proofs.raise.Goals as goal

pub returns-then-n-eq0 : goal.returns-then-n-eq0
returns-then-n-eq0 c = raising_none c.loop-d.invariant c.if-n-eq0.true c.set_links.ensures

pub loop-d-preserved : goal.loop-d-preserved
loop-d-preserved c = raising_next c.loop-d.invariant c.if-n-eq0.false c.loop-d-test.true c.displace-n.ensures c.displace-n.auto.work

pub returns : goal.returns
returns c = raising_deep c.loop-d.invariant c.loop-d-test.false c.set_links-2.ensures
