use Rattle.moving_definition.proofs.SlideLaws.{Sliding}
use Rattle.moving_totals.proofs.slide.Given as goal

abbrev pub invariant-loop-p : goal.invariant-loop-p
invariant-loop-p l = Sliding l.counts l.before l.n l.initial.totals l.totals l.rest l.peak.largest l.peak.place l.p
