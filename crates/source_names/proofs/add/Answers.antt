use borrow.Author.Rules.{rules}
use mathlib.Core.Path.{sym, ◌∙◌}
use lib.ListN.{length-set}
use lib.Seq.{length-take-le}
use Rattle.sheet_rows.proofs.RowLaws.{rows_length}
use Rattle.source_names.proofs.NameLaws.{sheet_below, sheet_small, fill_at, grown_none, grown_vain, grown_one, long₂}
use native.Mathlib.Omega.{arith}
use Rattle.source_names.proofs.add.Goals as goal

pub returns-then-row_at-eq-BUILTIN : goal.returns-then-row_at-eq-BUILTIN
returns-then-row_at-eq-BUILTIN c = grown_none c.requires.tables_listed c.requires.root_len_bound.4

pub place_of-i-requires : goal.place_of-i-requires
place_of-i-requires c = let h = sheet_below c.args.root.now c.args.library.now c.args.number c.select-sheet.ensures c.requires.root_len_bound.2 in (c.requires.root_len_bound.0, omega (arith, h, rows_length c.select-sheet.result.now, sheet_small c.args.root.now c.args.library.now c.args.number c.select-sheet.ensures c.requires.root_len_bound.0 c.requires.root_len_bound.1))

pub returns-then-room-i : goal.returns-then-room-i
returns-then-room-i c = grown_none c.requires.tables_listed c.requires.root_len_bound.4

pub narrow-requires : goal.narrow-requires
narrow-requires c = sheet_below c.args.root.now c.args.library.now c.args.number c.select-sheet.ensures c.requires.root_len_bound.2

pub returns-then-narrow : goal.returns-then-narrow
returns-then-narrow c = grown_none c.requires.tables_listed c.requires.root_len_bound.4

pub returns-then-room-place-lt2 : goal.returns-then-room-place-lt2
returns-then-room-place-lt2 c = grown_none c.requires.tables_listed c.requires.root_len_bound.4

pub fill-requires : goal.fill-requires
fill-requires c = (sheet_below c.args.root.now c.args.library.now c.args.number c.select-sheet.ensures c.requires.root_len_bound.2, sheet_small c.args.root.now c.args.library.now c.args.number c.select-sheet.ensures c.requires.root_len_bound.0 c.requires.root_len_bound.1, omega (arith, c.requires.root_len_bound.4, c.if-room-place-lt2.false), c.requires.root_len_bound.5)

pub returns-in_default : goal.returns-in_default
returns-in_default c = grown_vain c.requires.tables_listed (omega (arith, c.requires.root_len_bound.4, c.if-room-place-lt2.false)) c.fill.ensures

pub overflow_sub-count : goal.overflow_sub-count
overflow_sub-count c = let f = fill_at c.in-Some.is c.fill.ensures in omega (arith, f.is.0)

pub returns-then-room-count : goal.returns-then-room-count
returns-then-room-count c = grown_vain c.requires.tables_listed (omega (arith, c.requires.root_len_bound.4, c.if-room-place-lt2.false)) c.fill.ensures

pub slice_bounds-sort-end : goal.slice_bounds-sort-end
slice_bounds-sort-end c = let f = fill_at c.in-Some.is c.fill.ensures in omega (arith, f.is.1, f.stays.long, c.requires.root_len_bound.5)

pub slice_bounds-sort-end-2 : goal.slice_bounds-sort-end-2
slice_bounds-sort-end-2 c = let f = fill_at c.in-Some.is c.fill.ensures in let e = length-take-le c.in-Some.next c.fill.new.work (omega (arith, f.is.1, f.stays.long, c.requires.root_len_bound.5)) in search rules

pub sort-requires : goal.sort-requires
sort-requires c = let f = fill_at c.in-Some.is c.fill.ensures in let e = length-take-le c.in-Some.next c.fill.new.work (omega (arith, f.is.1, f.stays.long, c.requires.root_len_bound.5)) in (omega (arith, e, f.is.0), omega (arith, e, c.if-room-count.false, c.requires.root_len_bound.3, c.requires.tables_listed.upto))

pub overflow_cast-work : goal.overflow_cast-work
overflow_cast-work c = omega (arith, sheet_below c.args.root.now c.args.library.now c.args.number c.select-sheet.ensures c.requires.root_len_bound.2, rows_length c.select-sheet.result.now, sheet_small c.args.root.now c.args.library.now c.args.number c.select-sheet.ensures c.requires.root_len_bound.0 c.requires.root_len_bound.1)

pub offset_bounds-work-place : goal.offset_bounds-work-place
offset_bounds-work-place c = omega (arith, c.requires.root_len_bound.4, c.requires.root_len_bound.6, c.if-room-place-lt2.false)

pub bounds-work-place : goal.bounds-work-place
bounds-work-place c = let f = fill_at c.in-Some.is c.fill.ensures in let g = long₂ c.requires.tables_listed c.requires.root_len_bound.3 c.if-room-i.false (c.place_of-i.ensures c.args.library.now c.requires.root_len_bound.2 ∙ sym c.select-sheet.ensures) c.requires.root_len_bound.5 f c.sort.ensures c.if-room-count.false in omega (arith, g, f.is.0, f.is.1, c.requires.root_len_bound.5)

pub overflow_cast-work-2 : goal.overflow_cast-work-2
overflow_cast-work-2 c = let f = fill_at c.in-Some.is c.fill.ensures in omega (arith, f.is.0, f.is.1, c.requires.root_len_bound.6)

pub overflow_add-work : goal.overflow_add-work
overflow_add-work c = omega (arith, c.requires.root_len_bound.4, c.requires.root_len_bound.6, c.if-room-place-lt2.false)

pub offset_bounds-work-place-2 : goal.offset_bounds-work-place-2
offset_bounds-work-place-2 c = omega (arith, c.requires.root_len_bound.4, c.requires.root_len_bound.6, c.if-room-place-lt2.false)

pub bounds-work-place-2 : goal.bounds-work-place-2
bounds-work-place-2 c = let f = fill_at c.in-Some.is c.fill.ensures in let g = long₂ c.requires.tables_listed c.requires.root_len_bound.3 c.if-room-i.false (c.place_of-i.ensures c.args.library.now c.requires.root_len_bound.2 ∙ sym c.select-sheet.ensures) c.requires.root_len_bound.5 f c.sort.ensures c.if-room-count.false in simp length-set (omega (arith, g, f.is.0, f.is.1, c.requires.root_len_bound.5))

pub overflow_cast-work-3 : goal.overflow_cast-work-3
overflow_cast-work-3 c = omega (arith, c.requires.root_len_bound.4, c.requires.root_len_bound.6)

pub overflow_add-work-2 : goal.overflow_add-work-2
overflow_add-work-2 c = omega (arith, c.requires.root_len_bound.4, c.requires.root_len_bound.6, c.requires.tables_listed.upto, c.if-room-i.false)

pub offset_bounds-work-room : goal.offset_bounds-work-room
offset_bounds-work-room c = omega (arith, c.requires.root_len_bound.4, c.requires.root_len_bound.6, c.requires.tables_listed.upto, c.if-room-i.false)

pub bounds-work-room : goal.bounds-work-room
bounds-work-room c = let f = fill_at c.in-Some.is c.fill.ensures in let g = long₂ c.requires.tables_listed c.requires.root_len_bound.3 c.if-room-i.false (c.place_of-i.ensures c.args.library.now c.requires.root_len_bound.2 ∙ sym c.select-sheet.ensures) c.requires.root_len_bound.5 f c.sort.ensures c.if-room-count.false in simp length-set (omega (arith, g, f.is.0, f.is.1, c.requires.root_len_bound.5, c.requires.tables_listed.upto, c.if-room-i.false))

pub returns : goal.returns
returns c = let f = fill_at c.in-Some.is c.fill.ensures in grown_one c.requires.tables_listed c.requires.root_len_bound.3 c.if-room-i.false (c.place_of-i.ensures c.args.library.now c.requires.root_len_bound.2 ∙ sym c.select-sheet.ensures) c.requires.root_len_bound.5 f c.sort.ensures c.if-room-count.false
