use mathlib.Core.Path.{◌∙◌}
use native.Mathlib.Omega.{arith}
use Rattle.writer_lists.specs.Lists.{list_rows}
use Rattle.writer_lists.proofs.Chains.{count_room, count_again, count_stop}
use Rattle.writer_lists.proofs.Records.{record_count, record_few}
use Rattle.writer_lists.proofs.count_list.Goals as goal

pub returns : goal.returns
unfolding list_rows
returns c = count_stop _ _ c.loop-r.invariant.1 c.in-None.ensures.steps.0

pub overflow_add-n : goal.overflow_add-n
unfolding list_rows
overflow_add-n c = omega (arith, record_count _ _ c.args.kind c.ids_of.ensures c.count_ids.ensures, count_room _ _ c.loop-r.invariant.1 _ c.in-Some.ensures.steps.0, c.requires.h_len_bound)

pub overflow_add-n-in-loop-r : goal.overflow_add-n-in-loop-r
unfolding list_rows
overflow_add-n-in-loop-r c = omega (arith, record_count _ _ c.args.kind c.ids_of.ensures c.count_ids.ensures, count_room _ _ c.loop-r.invariant.1 _ c.in-Some.ensures.steps.0, c.requires.h_len_bound)

pub loop-r-preserved : goal.loop-r-preserved
loop-r-preserved c =
    let s = c.in-Some.ensures.steps in
    let k = c.loop-r.invariant in
    (s.2 ∙ k.0, count_again _ _ k.1 s.0 (rw k.0 at s.1) (record_count _ _ c.args.kind c.ids_of.ensures c.count_ids.ensures))

pub count_ids-requires-clause-h_len_bound : goal.count_ids-requires-clause-h_len_bound
unfolding list_rows
count_ids-requires-clause-h_len_bound c = record_few _ _ c.args.kind c.ids_of.ensures (omega (arith, count_room _ _ c.loop-r.invariant.1 _ c.in-Some.ensures.steps.0, c.requires.h_len_bound))
