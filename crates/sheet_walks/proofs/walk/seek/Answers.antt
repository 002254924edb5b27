use mathlib.Core.Path.{sym, ap, ◌∙◌}
use native.Mathlib.Omega.{arith}
use Rattle.sheet_rows.specs.declared.row.Row.{Row}
use Rattle.sheet_rows.proofs.RowLaws.{rows_count}
use Rattle.sheet_walks.proofs.WalkLaws.{walk_take, walk_pass, walk_stop, elements_end}
use Rattle.sheet_walks.proofs.walk.seek.Goals as goal

pub returns-then-r-kind : goal.returns-then-r-kind
returns-then-r-kind c =
    let l = c.loop-at in
    let h = rows_count c.args.sheet.now in
    let k = c.if-r-kind.true ∙ c.kind-kind.ensures in
    record { from = omega arith; below = omega arith; kind = sym (ap (λ (x : Row). x.kind) c.row_at-r.ensures) ∙ k; here = l.invariant ∙ walk_take _ _ l.at (omega arith) c.row_at-r.ensures k }

pub returns-then-not-passes : goal.returns-then-not-passes
returns-then-not-passes c =
    let l = c.loop-at in
    let h = rows_count c.args.sheet.now in
    l.invariant ∙
    walk_stop _ _ l.at (omega arith) c.row_at-r.ensures (λ h. c.if-r-kind.false (h ∙ sym c.kind-kind.ensures)) (sym c.passes.ensures ∙ c.if-not-passes.true)

pub loop-at-preserved : goal.loop-at-preserved
loop-at-preserved c =
    let l = c.loop-at in
    let h = rows_count c.args.sheet.now in
    l.invariant ∙
    walk_pass _ _ l.at (omega arith) c.row_at-r.ensures (λ h. c.if-r-kind.false (h ∙ sym c.kind-kind.ensures)) (sym c.passes.ensures ∙ c.if-not-passes.false)

pub returns : goal.returns
returns c =
    let h = rows_count c.args.sheet.now in
    c.loop-at.invariant ∙ elements_end _ _ c.loop-at.at (omega arith)
