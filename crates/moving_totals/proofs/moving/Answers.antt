use mathlib.Core.Path.{sym, ◌∙◌}
use Rattle.moving_definition.proofs.Answers.{width_low, width_high, count_over_lem, short_run, too_few, all_told}
use native.Mathlib.Omega.{arith}
use Rattle.moving_totals.proofs.moving.Goals as goal

pub returns-then-width-lt1 : goal.returns-then-width-lt1
returns-then-width-lt1 c = record { totals_after = (width_low c.args.counts.now c.args.width c.args.totals.now c.if-width-lt1.true).0; promises = (width_low c.args.counts.now c.args.width c.args.totals.now c.if-width-lt1.true).1 }

pub returns-then-width-gt64 : goal.returns-then-width-gt64
returns-then-width-gt64 c = record { totals_after = (width_high c.args.counts.now c.args.width c.args.totals.now c.if-width-gt64.true).0; promises = (width_high c.args.counts.now c.args.width c.args.totals.now c.if-width-gt64.true).1 }

pub returns-then-any_over : goal.returns-then-any_over
returns-then-any_over c = record { totals_after = (count_over_lem c.args.counts.now c.args.width c.args.totals.now c.if-width-lt1.false c.if-width-gt64.false (sym c.if-any_over.true ∙ c.any_over.ensures)).0; promises = (count_over_lem c.args.counts.now c.args.width c.args.totals.now c.if-width-lt1.false c.if-width-gt64.false (sym c.if-any_over.true ∙ c.any_over.ensures)).1 }

pub returns-then-counts-before : goal.returns-then-counts-before
returns-then-counts-before c = record { totals_after = (short_run c.args.counts.now c.args.width c.args.totals.now c.if-width-lt1.false c.if-width-gt64.false (sym c.if-any_over.false ∙ c.any_over.ensures) c.if-counts-before.true).0; promises = (short_run c.args.counts.now c.args.width c.args.totals.now c.if-width-lt1.false c.if-width-gt64.false (sym c.if-any_over.false ∙ c.any_over.ensures) c.if-counts-before.true).1 }

pub returns-then-totals-n : goal.returns-then-totals-n
returns-then-totals-n c = record { totals_after = (too_few c.args.counts.now c.args.width c.args.totals.now c.if-width-lt1.false c.if-width-gt64.false (sym c.if-any_over.false ∙ c.any_over.ensures) c.if-totals-n.true).0; promises = (too_few c.args.counts.now c.args.width c.args.totals.now c.if-width-lt1.false c.if-width-gt64.false (sym c.if-any_over.false ∙ c.any_over.ensures) c.if-totals-n.true).1 }

pub slide-peak-requires : goal.slide-peak-requires
slide-peak-requires c = record { few = omega (arith, c.if-width-gt64.false); all = omega (arith, c.if-counts-before.false); fits = omega (arith, c.if-totals-n.false); small = sym c.any_over.ensures ∙ c.if-any_over.false }

pub returns : goal.returns
returns c = record { totals_after = (all_told c.args.counts.now c.args.width c.args.totals.now c.if-width-lt1.false c.if-width-gt64.false (sym c.if-any_over.false ∙ c.any_over.ensures) c.if-totals-n.false c.slide-peak.ensures).0; promises = (all_told c.args.counts.now c.args.width c.args.totals.now c.if-width-lt1.false c.if-width-gt64.false (sym c.if-any_over.false ∙ c.any_over.ensures) c.if-totals-n.false c.slide-peak.ensures).1 }
