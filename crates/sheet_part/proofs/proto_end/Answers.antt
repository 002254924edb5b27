use mathlib.Core.Path.{sym, ◌∙◌}
use native.Mathlib.Omega.{arith}
use Rattle.sheet_rows.specs.Rows.{rows}
use Rattle.sheet_rows.proofs.RowLaws.{rows_count}
use Rattle.sheet_part.proofs.PartLaws.{cut_at, cut_end}
use Rattle.sheet_part.proofs.proto_end.Goals as goal

pub returns-then-not-passes : goal.returns-then-not-passes
returns-then-not-passes c =
    let s = c.args.sheet.now in
    let n = rows_count s in
    record { after = c.loop-at.auto.at; within = λ h. omega arith; cut = cut_at (rows s) c.loop-at.at (omega arith) c.row_at-kind.ensures (λ e. c.if-kind.true (e ∙ sym c.kind.ensures)) (sym c.passes.ensures ∙ c.if-not-passes.true) }

pub returns : goal.returns
returns c =
    let s = c.args.sheet.now in
    let n = rows_count s in
    record { after = omega arith; within = λ h. omega arith; cut = cut_end (rows s) _ (omega arith) }
