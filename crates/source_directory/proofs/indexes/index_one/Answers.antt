use mathlib.Core.Path.{subst, ◌∙◌}
use Prim.Native.Nat.{◌+◌, ◌-◌}
use lib.ListN.{take, drop, length-drop}
use lib.Seq.{length-take-le}
use Rattle.sheet_rows.specs.Rows.{rows}
use Rattle.sheet_index.specs.Index.{Indexed}
use Rattle.sheet_lookup.specs.Lookup.{sheet_of}
use Rattle.source_directory.specs.Directory.{DocumentOf, group_number, group_part, number_of, row_of, stride_of}
use Rattle.source_directory.proofs.GroupLaws.{group_low, grouped_none, grouped}
use native.Mathlib.Omega.{arith}
use Rattle.source_directory.proofs.indexes.index_one.Goals as goal

pub returns-in_default : goal.returns-in_default
returns-in_default c =
    let k = subst (DocumentOf c.args.dir.now c.args.slot) c.in_default.is c.document.ensures in
    grouped_none c.args.work.now c.args.slot (group_number c.args.group) c.args.place c.args.end c.requires.0 c.requires.1 (group_low c.args.group) c.requires.2 k.0 k.1

pub returns : goal.returns
returns c =
    let n = c.args.end - c.args.place in
    let t = drop c.args.place c.args.work.now in
    let k = subst (DocumentOf c.args.dir.now c.args.slot) c.in-Some.is c.document.ensures in
    let x : Indexed (group_part (group_number c.args.group)) (rows (sheet_of c.args.root.now c.args.library.now (number_of c.args.dir.now c.args.slot))) (row_of c.args.dir.now c.args.slot + 1) (stride_of c.args.dir.now) (take n t) c.index-n.new.slots c.index-n.result = rw (c.part.ensures, c.select-sheet.ensures, k.0) at c.index-n.ensures in
    rw c.entry-at.ensures (grouped c.args.work.now c.args.slot (group_number c.args.group) c.args.place c.args.end c.requires.0 c.requires.1 (group_low c.args.group) c.requires.2 c.index-n.new.slots c.index-n.result (omega arith) (c.index-n.auto.slots ∙ length-take-le n t (omega (arith, length-drop c.args.place c.args.work.now))) x)
