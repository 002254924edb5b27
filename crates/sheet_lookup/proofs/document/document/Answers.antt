use mathlib.Core.Path.{sym, ap, subst}
use Rattle.sheet_rows.specs.Rows.{rows}
use Rattle.sheet_rows.proofs.RowLaws.{rows_length}
use Rattle.sheet_walks.specs.Walk.{Below}
use Rattle.sheet_lookup.proofs.DocLaws.{begins_root, begins_file, after_file}
use native.Mathlib.Omega.{arith}
use Rattle.sheet_lookup.proofs.document.document.Goals as goal

pub returns-then-doc-eq0 : goal.returns-then-doc-eq0
returns-then-doc-eq0 c = rw c.if-doc-eq0.true (begins_root c.args.library.now)

pub returns-in_default : goal.returns-in_default
returns-in_default c = begins_file c.args.library.now c.args.doc c.nth.result _ (omega arith) c.nth.ensures (ap after_file (sym c.in_default.is))

pub overflow_add-result : goal.overflow_add-result
overflow_add-result c = omega (arith, rows_length c.args.library.now, subst (Below (rows c.args.library.now)) c.in-At.is c.nth.ensures.below)

pub returns : goal.returns
returns c = begins_file c.args.library.now c.args.doc c.nth.result _ (omega arith) c.nth.ensures (ap after_file (sym c.in-At.is))
