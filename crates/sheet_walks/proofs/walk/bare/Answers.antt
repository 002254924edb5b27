use mathlib.Core.Path.{sym, ◌∙◌}
use native.Mathlib.Omega.{arith}
use Rattle.sheet_rows.proofs.RowLaws.{rows_length}
use Rattle.sheet_walks.proofs.BareLaws.{walking_on, bared_end, bared_low, bared_at}
use Rattle.sheet_walks.proofs.walk.bare.Goals as goal

pub returns-then-k-lt-INTERFACE : goal.returns-then-k-lt-INTERFACE
returns-then-k-lt-INTERFACE c = bared_low c.loop-at.invariant (omega (arith, c.loop-at-test.true, rows_length c.args.sheet.now)) c.row_at-k.ensures (sym c.passes.ensures ∙ c.if-not-passes.true) c.if-k-lt-INTERFACE.true

pub returns-then-not-passes : goal.returns-then-not-passes
returns-then-not-passes c = bared_at c.loop-at.invariant (omega (arith, c.loop-at-test.true, rows_length c.args.sheet.now)) c.row_at-k.ensures (sym c.passes.ensures ∙ c.if-not-passes.true) (λ z. omega (arith, c.if-k-lt-INTERFACE.false))

pub loop-at-preserved : goal.loop-at-preserved
loop-at-preserved c = walking_on c.loop-at.invariant (omega (arith, c.loop-at-test.true, rows_length c.args.sheet.now)) c.row_at-k.ensures (sym c.passes.ensures ∙ c.if-not-passes.false)

pub returns : goal.returns
returns c = bared_end c.loop-at.invariant (omega (arith, c.loop-at-test.false, rows_length c.args.sheet.now))
