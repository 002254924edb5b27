use Rattle.std.proofs.Common.{rules, ◌≡◌, ◌∙◌, ◌<◌, sym, arith, take, sum}
use Rattle.std.proofs.iter.runs.Made.{chains}
use lib.Seq.{length-take-le}
use Rattle.moving_definition.proofs.SumLaws.{sum_all}
use Rattle.moving_definition.proofs.SlideLaws.{first_fits}
use Rattle.moving_totals.proofs.sum_first.Goals as goal

pub slice_bounds-iter-end : goal.slice_bounds-iter-end
slice_bounds-iter-end c = sym (length-take-le c.args.n c.args.counts.now c.requires.upto)

pub sum-requires-clause-fits : goal.sum-requires-clause-fits
sum-requires-clause-fits c =
    let fits : sum (take c.args.n c.args.counts.now) < 18446744073709551616 = omega (arith, sum_all (take c.args.n c.args.counts.now), first_fits c.requires) in
    search (rules, chains)

pub returns : goal.returns
returns c = let e : c.sum.result ≡ sum (take c.args.n c.args.counts.now) = search (rules, chains) in e ∙ sum_all (take c.args.n c.args.counts.now)
