use native.Mathlib.Omega.{arith}
use Rattle.writer_lists.proofs.Writing.{wrote_none, room_of, next, finish}
use Rattle.writer_nodes.proofs.Instances.{own_list, instance_next, nested_end, nested_stage}
use Rattle.writer_nodes.proofs.+nested.Goals as goal

pub returns-then-h-eq0 : goal.returns-then-h-eq0
returns-then-h-eq0 t c = wrote_none (nested_end _ _ (omega (arith, c.if-h-eq0.true)))

pub nested-p-requires : goal.nested-p-requires
nested-p-requires t c = (omega (arith, c.decreases, c.if-h-eq0.false, c.before-2.ensures.low), (c.requires.legible, (instance_next c.requires.legible c.requires.handle_at (omega (arith, c.if-h-eq0.false)) c.before-2.ensures, room_of (nested_stage c.args.kind _ (omega (arith, c.if-h-eq0.false)) c.before-2.ensures c.requires.rows_fit))))

pub list_at-requires : goal.list_at-requires
list_at-requires t c = rw c.own_word.ensures (record { list_at = own_list c.requires.legible c.requires.handle_at (omega (arith, c.if-h-eq0.false)) c.args.kind; rows_fit = room_of (next (nested_stage c.args.kind _ (omega (arith, c.if-h-eq0.false)) c.before-2.ensures c.requires.rows_fit) c.nested-p.ensures) })

pub returns : goal.returns
returns t c = finish (next (next (nested_stage c.args.kind _ (omega (arith, c.if-h-eq0.false)) c.before-2.ensures c.requires.rows_fit) c.nested-p.ensures) (rw c.own_word.ensures at c.list_at.ensures))
