use mathlib.Core.Path.{refl}
use Rattle.journal_lists.proofs.Owned.{append_law}
use Rattle.journal_lists.proofs.append.Goals as goal

pub returns : goal.returns
returns c = append_law _ _ _ _ c.requires _ _ _ _ _ refl refl c.word-q.ensures c.push.ensures c.set.ensures
