use mathlib.Core.Path.{◌≡◌}
use Rattle.refine_values.proofs.Walking.{Searching}
use Rattle.refine_values.proofs.value_of.Given as goal

abbrev pub invariant-loop-looked : goal.invariant-loop-looked
invariant-loop-looked l = (l.list.work.now ≡ l.work) × Searching l.work l.counts.charges l.values l.name l.list.next

abbrev pub invariant-loop-cur : goal.invariant-loop-cur
invariant-loop-cur l = Searching l.work l.counts.charges l.values l.name l.cur

abbrev pub decreases-loop-cur : goal.decreases-loop-cur
decreases-loop-cur l = l.cur
