use mathlib.Core.Path.{sym, ◌∙◌}
use borrow.Author.Tests.{le-ltb}
use Rattle.journal_records.proofs.Lists.{under_far, under_near}
use Rattle.journal_index.proofs.Keys.{hit_words}
use Rattle.journal_index.proofs.Key.hits.Goals as goal

pub returns-then-n-top : goal.returns-then-n-top
returns-then-n-top c =
    let k = c.key_at.ensures in
    c.eq.ensures ∙ hit_words _ _ _ _ _ _ _ _ k.tag k.x k.y ∙ sym (under_near _ _ _ c.if-n-top.true)

pub returns-else-n-top : goal.returns-else-n-top
returns-else-n-top c = le-ltb _ _ c.if-n-top.false ∙ sym (under_far _ _ _ c.if-n-top.false)
