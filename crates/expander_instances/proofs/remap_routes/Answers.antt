use mathlib.Core.Path.{refl, ◌∙◌}
use Rattle.refine_records.proofs.Later.{lent_same, lent_more}
use Rattle.expander_instances.proofs.Routes.{remapping_start, remapping_next, remapping_less}
use Rattle.expander_instances.proofs.remap_routes.Goals as goal

pub loop-cur-init : goal.loop-cur-init
loop-cur-init c = (refl, remapping_start _ _ _ c.requires.standing _ c.requires.remappable _ _ c.word-cur.ensures refl, lent_same)

pub loop-cur-smaller : goal.loop-cur-smaller
loop-cur-smaller c = remapping_less _ _ _ c.requires.standing c.loop-cur.invariant.1 c.loop-cur-test.true _ _ _ _ c.word.ensures c.word-in-loop-cur.ensures (rw (c.lent.ensures, c.loop-cur.invariant.0) at c.remap-from.ensures) (rw (c.lent-in-loop-cur.ensures, c.loop-cur.invariant.0) at c.remap-to.ensures) c.set.ensures c.set.auto.work c.set-in-loop-cur.ensures c.set-in-loop-cur.auto.work _ _ c.word-cur-in-loop-cur.ensures refl

pub loop-cur-preserved : goal.loop-cur-preserved
loop-cur-preserved c = (c.loop-cur.invariant.0, remapping_next _ _ _ c.requires.standing c.loop-cur.invariant.1 c.loop-cur-test.true _ _ _ _ c.word.ensures c.word-in-loop-cur.ensures (rw (c.lent.ensures, c.loop-cur.invariant.0) at c.remap-from.ensures) (rw (c.lent-in-loop-cur.ensures, c.loop-cur.invariant.0) at c.remap-to.ensures) c.set.ensures c.set.auto.work c.set-in-loop-cur.ensures c.set-in-loop-cur.auto.work _ _ c.word-cur-in-loop-cur.ensures refl, lent_more c.loop-cur.invariant.2 (record { same_reference = refl; long = c.set-in-loop-cur.auto.work ∙ c.set.auto.work }))
