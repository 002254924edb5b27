use native.Mathlib.Omega.{arith}
use Rattle.writer_lists.proofs.Writing.{room_of, next, finish}
use Rattle.writer_nodes.proofs.Instances.{list_of}
use Rattle.writer_nodes.proofs.NodeRows.{node_closed, node_stage}
use Rattle.writer_nodes.proofs.node.Goals as goal

pub instance-a-requires : goal.instance-a-requires
instance-a-requires c = rw c.handle.ensures (record { legible = c.requires.node_in.legible; handle_at = (node_closed c.requires.node_in).instance; rows_fit = room_of (node_stage c.requires.node_in c.requires.rows_fit) })

pub list_at-b-requires : goal.list_at-b-requires
list_at-b-requires c = record { list_at = list_of c.requires.node_in.legible c.requires.node_in.below 10 (omega arith) (node_closed c.requires.node_in).body_order.low; rows_fit = room_of (next (node_stage c.requires.node_in c.requires.rows_fit) (rw c.handle.ensures at c.instance-a.ensures)) }

pub list_at-d-requires : goal.list_at-d-requires
list_at-d-requires c = record { list_at = list_of c.requires.node_in.legible c.requires.node_in.below 9 (omega arith) (node_closed c.requires.node_in).statements.low; rows_fit = room_of (next (next (node_stage c.requires.node_in c.requires.rows_fit) (rw c.handle.ensures at c.instance-a.ensures)) c.list_at-b.ensures) }

pub list_at-e-requires : goal.list_at-e-requires
list_at-e-requires c = record { list_at = list_of c.requires.node_in.legible c.requires.node_in.below 8 (omega arith) (node_closed c.requires.node_in).interface.low; rows_fit = room_of (next (next (next (node_stage c.requires.node_in c.requires.rows_fit) (rw c.handle.ensures at c.instance-a.ensures)) c.list_at-b.ensures) c.list_at-d.ensures) }

pub list_at-f-requires : goal.list_at-f-requires
list_at-f-requires c = record { list_at = list_of c.requires.node_in.legible c.requires.node_in.below 7 (omega arith) (node_closed c.requires.node_in).fields.low; rows_fit = room_of (next (next (next (next (node_stage c.requires.node_in c.requires.rows_fit) (rw c.handle.ensures at c.instance-a.ensures)) c.list_at-b.ensures) c.list_at-d.ensures) c.list_at-e.ensures) }

pub back-requires : goal.back-requires
back-requires c = rw c.first.ensures (room_of (next (next (next (next (next (node_stage c.requires.node_in c.requires.rows_fit) (rw c.handle.ensures at c.instance-a.ensures)) c.list_at-b.ensures) c.list_at-d.ensures) c.list_at-e.ensures) c.list_at-f.ensures))

pub returns : goal.returns
returns c = finish (next (next (next (next (next (next (node_stage c.requires.node_in c.requires.rows_fit) (rw c.handle.ensures at c.instance-a.ensures)) c.list_at-b.ensures) c.list_at-d.ensures) c.list_at-e.ensures) c.list_at-f.ensures) (rw c.first.ensures at c.back.ensures))
