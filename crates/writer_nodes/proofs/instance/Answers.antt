use native.Mathlib.Omega.{arith}
use Rattle.writer_lists.proofs.Writing.{wrote_none, room_of, next, finish}
use Rattle.writer_nodes.proofs.Instances.{map_list, instance_stage, instance_first, instance_none}
use Rattle.writer_nodes.proofs.instance.Goals as goal

pub returns-then-h-eq0 : goal.returns-then-h-eq0
returns-then-h-eq0 c = wrote_none (instance_none _ (omega (arith, c.if-h-eq0.true)))

pub list_at-a-requires : goal.list_at-a-requires
list_at-a-requires c = record { list_at = map_list c.requires.legible c.requires.handle_at (omega (arith, c.if-h-eq0.false)); rows_fit = room_of (instance_stage c.requires.legible c.requires.handle_at (omega (arith, c.if-h-eq0.false)) c.requires.rows_fit) }

pub nested-b-requires : goal.nested-b-requires
nested-b-requires c = record { legible = c.requires.legible; handle_at = c.requires.handle_at; rows_fit = room_of (next (instance_stage c.requires.legible c.requires.handle_at (omega (arith, c.if-h-eq0.false)) c.requires.rows_fit) c.list_at-a.ensures) }

pub nested-d-requires : goal.nested-d-requires
nested-d-requires c = record { legible = c.requires.legible; handle_at = c.requires.handle_at; rows_fit = room_of (next (next (instance_stage c.requires.legible c.requires.handle_at (omega (arith, c.if-h-eq0.false)) c.requires.rows_fit) c.list_at-a.ensures) c.nested-b.ensures) }

pub back-requires : goal.back-requires
back-requires c = rw (instance_first _ c.args.h c.list_at-a.ensures c.nested-b.ensures c.nested-d.ensures c.word-name.ensures c.line-first.ensures) (room_of (next (next (next (instance_stage c.requires.legible c.requires.handle_at (omega (arith, c.if-h-eq0.false)) c.requires.rows_fit) c.list_at-a.ensures) c.nested-b.ensures) c.nested-d.ensures))

pub returns : goal.returns
returns c = finish (next (next (next (next (instance_stage c.requires.legible c.requires.handle_at (omega (arith, c.if-h-eq0.false)) c.requires.rows_fit) c.list_at-a.ensures) c.nested-b.ensures) c.nested-d.ensures) (rw (instance_first _ c.args.h c.list_at-a.ensures c.nested-b.ensures c.nested-d.ensures c.word-name.ensures c.line-first.ensures) at c.back.ensures))
