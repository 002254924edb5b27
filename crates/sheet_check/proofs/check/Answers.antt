use mathlib.Core.Path.{sym, ap, ◌∙◌}
use mathlib.Core.Bool.{Bool}
use native.Mathlib.Omega.{arith}
use Rattle.std.proofs.lemmas.Result.{err_from_is_err_and}
use Rattle.ast.specs.Choice.{choose}
use Rattle.sheet_rows.proofs.RowLaws.{rows_count}
use Rattle.sheet_check.specs.Checked.{Fits, Bad}
use Rattle.sheet_check.proofs.RunLaws.{run_go, run_no, run_end, bad_row}
use Rattle.sheet_check.proofs.check.Goals as goal

pub loop-at-init : goal.loop-at-init
loop-at-init c = (sym (rows_count c.args.sheet.now), rw c.start-s.ensures)

pub returns-in_err-s : goal.returns-in_err-s
returns-in_err-s c =
    let l = c.loop-at in
    let p = err_from_is_err_and c.from_residual.result c.from_residual.ensures.1 in
    let e = rw c.row_at.ensures at c.step.ensures in
    let none = c.in_err-s.ensures.ok_part in
    rw (p.1, p.2) (bad_row none c.in_err-s.ensures.value ∙ run_no _ l.s _ l.at (omega arith) (sym e ∙ none) ∙ l.invariant.1)

pub loop-at-preserved : goal.loop-at-preserved
loop-at-preserved c =
    let l = c.loop-at in
    let e = rw c.row_at.ensures at c.step.ensures in
    (l.invariant.0, run_go _ l.s _ l.at _ (omega arith) (sym e ∙ c.in_ok-s.ensures.ok_part) ∙ l.invariant.1)

pub returns-then-has_ended : goal.returns-then-has_ended
returns-then-has_ended c =
    let l = c.loop-at in
    let e = sym c.has_ended.ensures ∙ c.if-has_ended.true in
    ap (λ (b : Bool). choose b Fits (Bad l.at)) (sym e) ∙ run_end _ l.s _ l.at (omega arith) ∙ l.invariant.1

pub returns-else-has_ended : goal.returns-else-has_ended
returns-else-has_ended c =
    let l = c.loop-at in
    let e = sym c.has_ended.ensures ∙ c.if-has_ended.false in
    ap Bad (omega arith) ∙ ap (λ (b : Bool). choose b Fits (Bad l.at)) (sym e) ∙ run_end _ l.s _ l.at (omega arith) ∙ l.invariant.1
