use Rattle.writer_lists.proofs.Writing.{room_of, next, finish}
use Rattle.writer_lists.proofs.Records.{record_stage}
use Rattle.writer_lists.proofs.item.Goals as goal

pub back-requires : goal.back-requires
back-requires c = rw c.head.ensures (room_of (next (record_stage _ _ c.args.kind c.ids_of.ensures c.requires.rows_fit) c.ids-q.ensures))

pub returns : goal.returns
returns c = finish (next (next (record_stage _ _ c.args.kind c.ids_of.ensures c.requires.rows_fit) c.ids-q.ensures) (rw c.head.ensures at c.back.ensures))

pub ids-q-requires-clause-rows_fit : goal.ids-q-requires-clause-rows_fit
ids-q-requires-clause-rows_fit c = room_of (record_stage _ _ c.args.kind c.ids_of.ensures c.requires.rows_fit)
