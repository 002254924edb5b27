use mathlib.Core.Path.{◌≡◌, refl, sym, ◌∙◌}
use Prim.Native.Nat.{◌≤◌, ◌<◌}
use lib.ListN.{length, drop}
use Rattle.sheet_rows.specs.Rows.{rows}
use Rattle.sheet_rows.proofs.RowLaws.{rows_count}
use Rattle.graph_walk.specs.Scan.{starts_from}
use Rattle.graph_walk.proofs.ScanLaws.{starts_end, starts_stop, starts_node, starts_pass, end_end, end_stop, end_pass}
use Rattle.graph_walk.proofs.LoopLaws.{scan_start, scan_same, scan_end, scan_ready, scan_more}
use native.Mathlib.Omega.{arith}
use Rattle.graph_walk.proofs.start.Goals.{then-r-eq-NODE, else-r-eq-NODE}
use Rattle.graph_walk.proofs.start.Goals as goal

pub returns-then-r-ne-STATEMENT : goal.returns-then-r-ne-STATEMENT
returns-then-r-ne-STATEMENT c = record { mentioned = scan_end c.loop-at.invariant.1 (starts_stop (rows c.args.sheet.now) c.loop-at.at (omega (arith, rows_count c.args.sheet.now)) c.row_at-r.ensures c.if-r-ne-STATEMENT.true); next = sym (c.loop-at.invariant.2 ∙ end_stop (rows c.args.sheet.now) c.loop-at.at (omega (arith, rows_count c.args.sheet.now)) c.row_at-r.ensures c.if-r-ne-STATEMENT.true) }

pub mention-tail-requires : goal.mention-tail-requires
mention-tail-requires c = scan_ready c.loop-at.invariant.1 (starts_node (rows c.args.sheet.now) c.loop-at.at (omega (arith, rows_count c.args.sheet.now)) c.row_at-r.ensures c.if-r-ne-STATEMENT.false c.if-r-eq-NODE.true) c.requires

pub loop-at-preserved : goal.loop-at-preserved
loop-at-preserved c =
    let R = rows c.args.sheet.now in
    let l = c.loop-at in
    let h : l.at < length R = omega (arith, rows_count c.args.sheet.now) in
    let next = l.invariant.2 ∙ end_pass R l.at h c.row_at-r.ensures c.if-r-ne-STATEMENT.false in
    elim c.if-r-eq-NODE.branch [
      | then-r-eq-NODE w ↦ (omega (arith, h), rw (w.tail-is, w.work-is) (scan_more l.invariant.1 (starts_node R l.at h c.row_at-r.ensures c.if-r-ne-STATEMENT.false w.if-r-eq-NODE.true) w.mention-tail.ensures w.mention-tail.auto.work), next)
      | else-r-eq-NODE w ↦ (omega (arith, h), rw (w.tail-is, w.work-is) (scan_same l.invariant.1 (starts_pass R l.at h c.row_at-r.ensures c.if-r-ne-STATEMENT.false w.if-r-eq-NODE.false)), next)
    ]

pub returns : goal.returns
returns c =
    let R = rows c.args.sheet.now in
    let l = c.loop-at in
    let n : c.max.result ≡ l.at = omega (arith, l.invariant.0, rows_count c.args.sheet.now) in
    let h : length R ≤ l.at = omega (arith, rows_count c.args.sheet.now) in
    record { mentioned = scan_end l.invariant.1 (starts_end R l.at h); next = n ∙ sym (l.invariant.2 ∙ end_end R l.at h) }
