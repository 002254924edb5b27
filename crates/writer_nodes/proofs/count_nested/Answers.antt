use mathlib.Core.Path.{◌∙◌}
use native.Mathlib.Omega.{arith}
use Rattle.writer_lists.proofs.Walks.{sum_stop}
use Rattle.writer_nodes.proofs.Instances.{own_here, instance_on, nested_end, nested_room, nested_again}
use Rattle.writer_nodes.proofs.count_nested.Goals as goal

pub returns : goal.returns
returns c = sum_stop _ c.loop-r.invariant.2 (nested_end _ _ (omega (arith, c.in-None.ensures.steps.0)))

pub count_at-n-requires : goal.count_at-n-requires
count_at-n-requires c =
    let s = c.in-Some.ensures.steps in
    let k = c.loop-r.invariant in
    rw c.own_word-j.ensures (record { list_at = own_here c.requires.legible k.1 s.0 c.args.kind; j_len_bound = omega (arith, nested_room _ _ _ k.2 s.0, c.requires.h_len_bound) })

pub overflow_add-n : goal.overflow_add-n
overflow_add-n c = omega (arith, rw c.own_word-j.ensures at c.count_at-n.ensures, nested_room _ _ _ c.loop-r.invariant.2 c.in-Some.ensures.steps.0, c.requires.h_len_bound)

pub loop-r-preserved : goal.loop-r-preserved
loop-r-preserved c =
    let s = c.in-Some.ensures.steps in
    let k = c.loop-r.invariant in
    let b = rw k.0 at s.1 in
    (s.2 ∙ k.0, instance_on c.requires.legible k.1 s.0 b, nested_again _ _ _ k.2 s.0 b (rw c.own_word-j.ensures at c.count_at-n.ensures))
