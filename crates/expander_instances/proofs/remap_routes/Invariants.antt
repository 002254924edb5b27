use mathlib.Core.Path.{◌≡◌}
use Rattle.refine_records.specs.Sound.{StillLent}
use Rattle.expander_instances.proofs.Routes.{Remapping}
use Rattle.expander_instances.proofs.remap_routes.Given as goal

abbrev pub invariant-loop-cur : goal.invariant-loop-cur
invariant-loop-cur l = (l.journal.counts ≡ l.initial.journal.counts) × Remapping l.lim l.initial.journal.work.now l.initial.journal.counts l.env.scope l.journal.work.now l.cur × StillLent l.initial.journal l.journal

abbrev pub decreases-loop-cur : goal.decreases-loop-cur
decreases-loop-cur l = l.cur
