use mathlib.Core.Path.{sym, ap}
use native.Mathlib.Omega.{arith}
use lib.ListN.{length}
use Rattle.writer_nodes.proofs.Instances.{map_list, instance_length, instance_none}
use Rattle.writer_nodes.proofs.count_instance.Goals as goal

pub returns-then-h-eq0 : goal.returns-then-h-eq0
returns-then-h-eq0 c = sym (ap length (instance_none _ (omega (arith, c.if-h-eq0.true))))

pub count_at-a-requires : goal.count_at-a-requires
count_at-a-requires c = record { list_at = map_list c.requires.legible c.requires.handle_at (omega (arith, c.if-h-eq0.false)); j_len_bound = omega (arith, instance_length c.requires.legible c.requires.handle_at (omega (arith, c.if-h-eq0.false)), c.requires.h_len_bound) }

pub count_nested-b-requires : goal.count_nested-b-requires
count_nested-b-requires c = record { legible = c.requires.legible; handle_at = c.requires.handle_at; h_len_bound = omega (arith, instance_length c.requires.legible c.requires.handle_at (omega (arith, c.if-h-eq0.false)), c.requires.h_len_bound) }

pub count_nested-requires : goal.count_nested-requires
count_nested-requires c = record { legible = c.requires.legible; handle_at = c.requires.handle_at; h_len_bound = omega (arith, instance_length c.requires.legible c.requires.handle_at (omega (arith, c.if-h-eq0.false)), c.requires.h_len_bound) }

pub overflow_add-result : goal.overflow_add-result
overflow_add-result c = omega (arith, instance_length c.requires.legible c.requires.handle_at (omega (arith, c.if-h-eq0.false)), c.requires.h_len_bound, c.count_nested.ensures, c.count_nested-b.ensures, c.count_at-a.ensures)

pub overflow_add-result-2 : goal.overflow_add-result-2
overflow_add-result-2 c = omega (arith, instance_length c.requires.legible c.requires.handle_at (omega (arith, c.if-h-eq0.false)), c.requires.h_len_bound, c.count_nested.ensures, c.count_nested-b.ensures, c.count_at-a.ensures)

pub overflow_add-result-3 : goal.overflow_add-result-3
overflow_add-result-3 c = omega (arith, instance_length c.requires.legible c.requires.handle_at (omega (arith, c.if-h-eq0.false)), c.requires.h_len_bound, c.count_nested.ensures, c.count_nested-b.ensures, c.count_at-a.ensures)

pub returns : goal.returns
returns c = omega (arith, instance_length c.requires.legible c.requires.handle_at (omega (arith, c.if-h-eq0.false)), c.requires.h_len_bound, c.count_nested.ensures, c.count_nested-b.ensures, c.count_at-a.ensures)
