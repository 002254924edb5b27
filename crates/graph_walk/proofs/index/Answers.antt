use mathlib.Core.Path.{◌≡◌}
use Rattle.sheet_rows.specs.Rows.{rows}
use Rattle.sheet_rows.proofs.RowLaws.{rows_count}
use Rattle.graph_walk.proofs.LoopLaws.{indexing_start, indexed_stop, indexed_end, indexing_pass, indexing_node}
use native.Mathlib.Omega.{arith}
use Rattle.graph_walk.proofs.index.Goals as goal

pub loop-at-init : goal.loop-at-init
loop-at-init c = indexing_start (rows c.args.sheet.now) c.args.from c.args.work.now

pub returns-then-kind-eq-TOP : goal.returns-then-kind-eq-TOP
returns-then-kind-eq-TOP c = indexed_stop c.loop-at.invariant c.requires (omega (arith, rows_count c.args.sheet.now)) c.row_at-kind.ensures c.if-kind-eq-TOP.true

pub loop-at-preserved-then-kind-ne-NODE : goal.loop-at-preserved-then-kind-ne-NODE
loop-at-preserved-then-kind-ne-NODE c = indexing_pass c.loop-at.invariant c.requires (omega (arith, rows_count c.args.sheet.now)) c.row_at-kind.ensures c.if-kind-eq-TOP.false c.if-kind-ne-NODE.true

pub loop-at-preserved : goal.loop-at-preserved
loop-at-preserved c = indexing_node c.loop-at.invariant c.requires (omega (arith, rows_count c.args.sheet.now)) c.row_at-kind.ensures c.if-kind-eq-TOP.false c.if-kind-ne-NODE.false c.put_pair.ensures c.put_pair-in-loop-at.ensures

pub returns : goal.returns
returns c =
    let n : c.max.result ≡ c.loop-at.at = omega (arith, c.loop-at.invariant.within, rows_count c.args.sheet.now) in
    rw n (indexed_end c.loop-at.invariant (omega (arith, rows_count c.args.sheet.now)))
