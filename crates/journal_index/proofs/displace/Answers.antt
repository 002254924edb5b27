use mathlib.Core.Path.{refl}
use Rattle.journal_index.proofs.Links.{displace_zero, displace_one}
use Rattle.journal_index.proofs.displace.Goals as goal

pub returns-then-side-eq0 : goal.returns-then-side-eq0
returns-then-side-eq0 c = displace_zero _ _ _ _ _ c.number_at.ensures c.side.ensures _ _ c.word-zero.ensures c.word-one.ensures c.if-side-eq0.true c.set_links.ensures _ refl

pub returns : goal.returns
returns c = displace_one _ _ _ _ _ c.number_at.ensures c.side.ensures _ _ c.word-zero.ensures c.word-one.ensures c.if-side-eq0.false c.set_links-2.ensures _ refl
