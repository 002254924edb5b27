use native.Mathlib.Omega.{arith}
use Rattle.writer_nodes.proofs.Instances.{list_of}
use Rattle.writer_nodes.proofs.NodeRows.{node_closed, node_length}
use Rattle.writer_nodes.proofs.count_node.Goals as goal

pub count_instance-a-requires : goal.count_instance-a-requires
count_instance-a-requires c = rw c.handle.ensures (record { legible = c.requires.node_in.legible; handle_at = (node_closed c.requires.node_in).instance; h_len_bound = omega (arith, node_length c.requires.node_in, c.requires.r_len_bound) })

pub count_at-b-requires : goal.count_at-b-requires
count_at-b-requires c = record { list_at = list_of c.requires.node_in.legible c.requires.node_in.below 10 (omega arith) (node_closed c.requires.node_in).body_order.low; j_len_bound = omega (arith, node_length c.requires.node_in, c.requires.r_len_bound) }

pub count_at-d-requires : goal.count_at-d-requires
count_at-d-requires c = record { list_at = list_of c.requires.node_in.legible c.requires.node_in.below 9 (omega arith) (node_closed c.requires.node_in).statements.low; j_len_bound = omega (arith, node_length c.requires.node_in, c.requires.r_len_bound) }

pub count_at-e-requires : goal.count_at-e-requires
count_at-e-requires c = record { list_at = list_of c.requires.node_in.legible c.requires.node_in.below 8 (omega arith) (node_closed c.requires.node_in).interface.low; j_len_bound = omega (arith, node_length c.requires.node_in, c.requires.r_len_bound) }

pub count_at-requires : goal.count_at-requires
count_at-requires c = record { list_at = list_of c.requires.node_in.legible c.requires.node_in.below 7 (omega arith) (node_closed c.requires.node_in).fields.low; j_len_bound = omega (arith, node_length c.requires.node_in, c.requires.r_len_bound) }

pub overflow_add-result : goal.overflow_add-result
overflow_add-result c = omega (arith, node_length c.requires.node_in, c.requires.r_len_bound, rw c.handle.ensures at c.count_instance-a.ensures, c.count_at-b.ensures, c.count_at-d.ensures, c.count_at-e.ensures, c.count_at.ensures)

pub overflow_add-result-2 : goal.overflow_add-result-2
overflow_add-result-2 c = omega (arith, node_length c.requires.node_in, c.requires.r_len_bound, rw c.handle.ensures at c.count_instance-a.ensures, c.count_at-b.ensures, c.count_at-d.ensures, c.count_at-e.ensures, c.count_at.ensures)

pub overflow_add-result-3 : goal.overflow_add-result-3
overflow_add-result-3 c = omega (arith, node_length c.requires.node_in, c.requires.r_len_bound, rw c.handle.ensures at c.count_instance-a.ensures, c.count_at-b.ensures, c.count_at-d.ensures, c.count_at-e.ensures, c.count_at.ensures)

pub overflow_add-result-4 : goal.overflow_add-result-4
overflow_add-result-4 c = omega (arith, node_length c.requires.node_in, c.requires.r_len_bound, rw c.handle.ensures at c.count_instance-a.ensures, c.count_at-b.ensures, c.count_at-d.ensures, c.count_at-e.ensures, c.count_at.ensures)

pub overflow_add-result-5 : goal.overflow_add-result-5
overflow_add-result-5 c = omega (arith, node_length c.requires.node_in, c.requires.r_len_bound, rw c.handle.ensures at c.count_instance-a.ensures, c.count_at-b.ensures, c.count_at-d.ensures, c.count_at-e.ensures, c.count_at.ensures)

pub returns : goal.returns
returns c = omega (arith, node_length c.requires.node_in, c.requires.r_len_bound, rw c.handle.ensures at c.count_instance-a.ensures, c.count_at-b.ensures, c.count_at-d.ensures, c.count_at-e.ensures, c.count_at.ensures)
