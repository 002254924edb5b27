use native.Mathlib.Omega.{arith}
use mathlib.Core.Path.{refl}
use Rattle.writer_lists.proofs.Writing.{wrote_from, room_on, go_on, arrive}
use Rattle.writer_pass.proofs.DocumentRows.{out_coming}
use Rattle.writer_pass.proofs.document.write.Goals as goal

pub put-requires : goal.put-requires
put-requires c = omega (arith, (room_on (out_coming c.args.root.now c.args.library.now c.args.work.now c.args.c c.args.tops c.requires.printable c.requires.rows_fit)).inside)

pub pass-a-requires : goal.pass-a-requires
pass-a-requires c = record { legible = c.requires.printable.legible; rows_fit = room_on (go_on (out_coming c.args.root.now c.args.library.now c.args.work.now c.args.c c.args.tops c.requires.printable c.requires.rows_fit) (rw (c.line.ensures, c.row_at.ensures) at c.put.ensures)); tables_room = c.requires.tables_room }

pub externs-b-requires : goal.externs-b-requires
externs-b-requires c = record { c_in_bounds = c.requires.printable.legible.records; some_value = c.requires.printable.externs; rows_fit = room_on (go_on (go_on (out_coming c.args.root.now c.args.library.now c.args.work.now c.args.c c.args.tops c.requires.printable c.requires.rows_fit) (rw (c.line.ensures, c.row_at.ensures) at c.put.ensures)) c.pass-a.ensures.wrote) }

pub put-requires-2 : goal.put-requires-2
put-requires-2 c = omega (arith, (room_on (go_on (go_on (go_on (out_coming c.args.root.now c.args.library.now c.args.work.now c.args.c c.args.tops c.requires.printable c.requires.rows_fit) (rw (c.line.ensures, c.row_at.ensures) at c.put.ensures)) c.pass-a.ensures.wrote) c.externs-b.ensures)).inside)

pub overflow_add-end : goal.overflow_add-end
overflow_add-end c = omega (arith, (room_on (go_on (go_on (go_on (go_on (out_coming c.args.root.now c.args.library.now c.args.work.now c.args.c c.args.tops c.requires.printable c.requires.rows_fit) (rw (c.line.ensures, c.row_at.ensures) at c.put.ensures)) c.pass-a.ensures.wrote) c.externs-b.ensures) (rw c.line-2.ensures at c.put-2.ensures))).few)

pub count_list-requires : goal.count_list-requires
count_list-requires c = (record { h_in_bounds = omega (arith, c.requires.printable.legible.records, c.requires.printable.ends.low); h_len_bound = omega (arith, (room_on (go_on (go_on (go_on (go_on (out_coming c.args.root.now c.args.library.now c.args.work.now c.args.c c.args.tops c.requires.printable c.requires.rows_fit) (rw (c.line.ensures, c.row_at.ensures) at c.put.ensures)) c.pass-a.ensures.wrote) c.externs-b.ensures) (rw c.line-2.ensures at c.put-2.ensures))).few) })

pub overflow_add-end-2 : goal.overflow_add-end-2
overflow_add-end-2 c = omega (arith, c.count_list.ensures, (room_on (go_on (go_on (go_on (go_on (out_coming c.args.root.now c.args.library.now c.args.work.now c.args.c c.args.tops c.requires.printable c.requires.rows_fit) (rw (c.line.ensures, c.row_at.ensures) at c.put.ensures)) c.pass-a.ensures.wrote) c.externs-b.ensures) (rw c.line-2.ensures at c.put-2.ensures))).few)

pub list-requires : goal.list-requires
list-requires c = (record { h_in_bounds = omega (arith, c.requires.printable.legible.records, c.requires.printable.ends.low); rows_fit = rw (c.count_list.ensures) (room_on (go_on (go_on (go_on (go_on (out_coming c.args.root.now c.args.library.now c.args.work.now c.args.c c.args.tops c.requires.printable c.requires.rows_fit) (rw (c.line.ensures, c.row_at.ensures) at c.put.ensures)) c.pass-a.ensures.wrote) c.externs-b.ensures) (rw c.line-2.ensures at c.put-2.ensures))) })

pub returns : goal.returns
returns c = record { rows = arrive (go_on (go_on (go_on (go_on (go_on (out_coming c.args.root.now c.args.library.now c.args.work.now c.args.c c.args.tops c.requires.printable c.requires.rows_fit) (rw (c.line.ensures, c.row_at.ensures) at c.put.ensures)) c.pass-a.ensures.wrote) c.externs-b.ensures) (rw c.line-2.ensures at c.put-2.ensures)) (wrote_from (c.count_list.ensures) refl (c.list.ensures))); ledger = c.pass-a.ensures.pasted; scopes = c.pass-a.ensures.pasted_2 }
