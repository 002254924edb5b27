use mathlib.Core.Logic.{inl}
use mathlib.Core.Path.{◌∙◌}
use native.Mathlib.Omega.{arith}
use lib.ListN.{drop, length-drop}
use Rattle.std.proofs.lemmas.Iterator.Consumers.{count_from_yields_List}
use Rattle.sheet_rows.specs.Rows.{rows}
use Rattle.sheet_rows.proofs.RowLaws.{rows_length}
use Rattle.sheet_walks.proofs.ElementsLaws.{elements_few, yields, many}
use Rattle.sheet_walks.proofs.walk.count.Goals as goal

pub count-requires-clause-fits : goal.count-requires-clause-fits
count-requires-clause-fits c =
    let R = rows c.args.sheet.now in
    let e = c.elements.ensures in
    inl (rw (e.sheet, e.part, e.next) (omega (arith, elements_few c.args.part (drop c.args.from R), length-drop c.args.from R, rows_length c.args.sheet.now)))

pub returns : goal.returns
returns c =
    let e = c.elements.ensures in
    let s = c.elements.result in
    count_from_yields_List _ c.count.result c.count.ensures.ran (yields s) ∙ many s ∙ rw (e.sheet, e.part, e.next)
