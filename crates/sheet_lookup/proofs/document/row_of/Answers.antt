use Rattle.sheet_rows.specs.Rows.{rows}
use Rattle.sheet_lookup.proofs.DocLaws.{looked}
use Rattle.sheet_lookup.proofs.document.row_of.Goals as goal

pub returns : goal.returns
returns g c =
    let t = g.I.Numbered in
    let a = c.args in
    let s = c.child.ensures in
    looked t.read t.PART (rows a.sheet.now) a.document (t.index a.id) (g.met.I.Numbered.by_rows (rows a.sheet.now) a.document) (rw (c.PART.ensures, c.number.ensures) at s)
