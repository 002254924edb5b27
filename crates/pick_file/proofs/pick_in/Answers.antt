use Prim.Native.Nat.{◌+◌}
use Rattle.sheet_rows.specs.declared.part.Part.TheVariants.{Protos, Tops}
use Rattle.sheet_rows.specs.Rows.{rows}
use Rattle.pick_file.specs.File.{option_of}
use Rattle.sheet_rows.proofs.RowLaws.{rows_count, rows_length}
use Rattle.sheet_walks.proofs.WalkLaws.{stands, missing}
use Rattle.pick_file.proofs.FileLaws.{few, top_none, top_at, pick_none, pick_past, pick_first, pick_named}
use native.Mathlib.Omega.{arith}
use Rattle.pick_file.proofs.pick_in.Goals as goal

pub returns-then-sheet-document : goal.returns-then-sheet-document
returns-then-sheet-document c = pick_past (rows c.args.sheet.now) c.args.document (option_of c.args.fragment) (omega (arith, rows_count c.args.sheet.now))

pub returns-in_default : goal.returns-in_default
returns-in_default c = let R = rows c.args.sheet.now in pick_none R c.args.document (option_of c.args.fragment) (top_none R c.args.document (missing Tops R (c.args.document + 1) c.seek.ensures c.in_default.is))

pub overflow_add-top : goal.overflow_add-top
overflow_add-top c = omega (arith, (stands Tops (rows c.args.sheet.now) _ c.seek.ensures c.in-At.is).below, rows_length c.args.sheet.now)

pub returns-in_default-fragment : goal.returns-in_default-fragment
returns-in_default-fragment c = let R = rows c.args.sheet.now in pick_first R c.args.document (c.in-At.top + 1) (top_at R c.args.document (stands Tops R (c.args.document + 1) c.seek.ensures c.in-At.is)) c.args.fragment c.next_proto.result c.in_default-fragment.is c.next_proto.ensures

pub overflow_add-top-2 : goal.overflow_add-top-2
overflow_add-top-2 c = omega (arith, (stands Tops (rows c.args.sheet.now) _ c.seek.ensures c.in-At.is).below, rows_length c.args.sheet.now)

pub stride-stride-requires : goal.stride-stride-requires
stride-stride-requires c = omega (arith, c.count-count.ensures, few Protos (rows c.args.sheet.now) (c.args.document + 1), rows_length c.args.sheet.now, c.requires)

pub returns : goal.returns
returns c = let R = rows c.args.sheet.now in pick_named R c.args.document (c.in-At.top + 1) (top_at R c.args.document (stands Tops R (c.args.document + 1) c.seek.ensures c.in-At.is)) c.args.fragment c.first_named.result c.in-Some.is c.first_named.ensures
