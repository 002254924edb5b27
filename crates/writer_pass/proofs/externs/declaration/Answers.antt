use Rattle.sheet_rows.specs.Rows.{rows}
use Rattle.writer_lists.proofs.Writing.{room_on, go_on, arrive}
use Rattle.writer_pass.proofs.ExternRows.{extern_coming}
use Rattle.writer_pass.proofs.externs.declaration.Goals as goal

pub copy_part-a-requires : goal.copy_part-a-requires
copy_part-a-requires c = room_on (go_on (extern_coming (rows c.args.sheet.now) c.args.at c.args.taken c.requires.rows_fit) (rw (c.line.ensures, c.row_at.ensures) at c.put.ensures))

pub copy_part-requires : goal.copy_part-requires
copy_part-requires c = room_on (go_on (go_on (extern_coming (rows c.args.sheet.now) c.args.at c.args.taken c.requires.rows_fit) (rw (c.line.ensures, c.row_at.ensures) at c.put.ensures)) c.copy_part-a.ensures)

pub returns : goal.returns
returns c = arrive (go_on (go_on (go_on (extern_coming (rows c.args.sheet.now) c.args.at c.args.taken c.requires.rows_fit) (rw (c.line.ensures, c.row_at.ensures) at c.put.ensures)) c.copy_part-a.ensures) c.copy_part.ensures)
