use Rattle.moving_definition.proofs.SlideLaws.{slide_start, slide_fits, slide_holds, slide_up, slide_on, slide_end}
use native.Mathlib.Omega.{arith}
use Rattle.moving_totals.proofs.slide.Goals as goal
use Rattle.moving_totals.proofs.slide.Goals.{then-peak-total, else-peak-total}

pub sum_first-rest-requires : goal.sum_first-rest-requires
sum_first-rest-requires c = record { few = c.requires.few; upto = omega (arith, c.requires.all); small = c.requires.small }

pub loop-p-init : goal.loop-p-init
loop-p-init c = slide_start c.args.counts.now c.args.before c.args.n c.args.totals.now c.sum_first-rest.ensures

pub overflow_add-total : goal.overflow_add-total
overflow_add-total c = omega (arith, c.requires.all)

pub offset_bounds-counts-p : goal.offset_bounds-counts-p
offset_bounds-counts-p c = omega (arith, c.requires.all)

pub bounds-counts-p : goal.bounds-counts-p
bounds-counts-p c = omega (arith, c.requires.all)

pub overflow_add-total-in-loop-p : goal.overflow_add-total-in-loop-p
overflow_add-total-in-loop-p c = omega (arith, slide_fits c.loop-p.invariant c.requires.few c.requires.small)

pub offset_bounds-totals-p : goal.offset_bounds-totals-p
offset_bounds-totals-p c = omega (arith, c.loop-p.invariant.long, c.requires.fits)

pub bounds-totals-p : goal.bounds-totals-p
bounds-totals-p c = omega (arith, c.loop-p.invariant.long, c.requires.fits)

pub offset_bounds-counts-p-in-loop-p : goal.offset_bounds-counts-p-in-loop-p
offset_bounds-counts-p-in-loop-p c = omega (arith, c.requires.all)

pub bounds-counts-p-in-loop-p : goal.bounds-counts-p-in-loop-p
bounds-counts-p-in-loop-p c = omega (arith, c.requires.all)

pub overflow_sub-rest : goal.overflow_sub-rest
overflow_sub-rest c = omega (arith, slide_holds c.loop-p.invariant)

pub returns : goal.returns
returns c = slide_end c.loop-p.invariant c.loop-p-test.false

pub loop-p-preserved : goal.loop-p-preserved
loop-p-preserved c =
    elim c.if-peak-total.branch [
      | then-peak-total w ↦ rw w.peak-is (slide_up c.loop-p.invariant c.loop-p-test.true c.requires.fits w.if-peak-total.true)
      | else-peak-total w ↦ rw w.peak-is (slide_on c.loop-p.invariant c.loop-p-test.true c.requires.fits w.if-peak-total.false)
    ]
