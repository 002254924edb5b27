use mathlib.Core.Path.{refl}
use Rattle.sheet_rows.specs.Rows.{rows}
use Rattle.expander_parts.proofs.Lending.{found_low}
use Rattle.expander_parts.proofs.Counts.{counted}
use Rattle.expander_parts.proofs.Externs.{externs_few, rows_few, extern_row, extern_found, extern_missing, extern_full, extern_done}
use native.Mathlib.Omega.{arith}
use Rattle.expander_parts.proofs.extern_proto.Goals as goal

pub word-requires : goal.word-requires
word-requires c = (omega (arith, found_low _ _ _ _ _ c.find.ensures c.in-Some.is, c.requires.standing.ready.room, c.requires.standing.sound.charges), omega arith)

pub returns-in-Some-clause-declared : goal.returns-in-Some-clause-declared
returns-in-Some-clause-declared c = extern_found _ c.args.sources.now.root.now c.args.sources.now.library.now _ _ _ _ _ _ c.number-document.ensures c.requires.standing.sound c.find.ensures c.in-Some.is _ c.word.ensures

pub returns-in_default-extern_proto-clause-declared : goal.returns-in_default-extern_proto-clause-declared
returns-in_default-extern_proto-clause-declared c = extern_missing _ _ _ _ _ _ _ _ _ c.number-document.ensures c.requires.standing.sound c.find.ensures c.in_default.is c.extern_proto.ensures c.in_default-extern_proto.is

pub overflow_add-at : goal.overflow_add-at
overflow_add-at c = omega (arith, rows_few c.requires.lent c.number-document.result c.select-sheet.ensures, extern_row c.requires.lent c.number-document.result c.select-sheet.ensures c.args.slot c.number-document.ensures c.extern_proto.ensures c.in-At.is)

pub overflow_add-at-2 : goal.overflow_add-at-2
overflow_add-at-2 c = omega (arith, rows_few c.requires.lent c.number-document.result c.select-sheet.ensures, extern_row c.requires.lent c.number-document.result c.select-sheet.ensures c.args.slot c.number-document.ensures c.extern_proto.ensures c.in-At.is)

pub overflow_add-n : goal.overflow_add-n
overflow_add-n c = omega (arith, rows_few c.requires.lent c.number-document.result c.select-sheet.ensures, (counted {R = rows c.select-sheet.result.now} c.count.ensures).few, (counted {R = rows c.select-sheet.result.now} c.count-2.ensures).few)

pub returns-then-lim-c-clause-declared : goal.returns-then-lim-c-clause-declared
returns-then-lim-c-clause-declared c = extern_full _ _ _ _ _ _ _ _ _ c.number-document.ensures c.requires.standing.sound c.find.ensures c.in_default.is c.extern_proto.ensures c.in-At.is c.select-sheet.ensures (counted c.count.ensures) (counted c.count-2.ensures) c.if-lim-c.true refl

pub overflow_cast-out : goal.overflow_cast-out
overflow_cast-out c = omega (arith, externs_few c.requires.standing.sound, c.requires.standing.sound.charges, c.requires.standing.ready.rows)

pub overflow_cast-row : goal.overflow_cast-row
overflow_cast-row c = omega (arith, rows_few c.requires.lent c.number-document.result c.select-sheet.ensures, extern_row c.requires.lent c.number-document.result c.select-sheet.ensures c.args.slot c.number-document.ensures c.extern_proto.ensures c.in-At.is)

pub returns-clause-declared : goal.returns-clause-declared
returns-clause-declared c = extern_done _ _ _ _ _ _ _ _ _ c.number-document.ensures c.requires.standing.sound c.find.ensures c.in_default.is c.extern_proto.ensures c.in-At.is c.select-sheet.ensures (counted c.count.ensures) (counted c.count-2.ensures) c.mark-mark.ensures c.if-lim-c.false c.enter.auto.work c.paid.auto.work (rw (c.heads.ensures.at, c.heads.ensures.slots, c.extern_entry.ensures) at c.enter.ensures) c.paid.ensures
