use lib.ListN.{drop}
use Rattle.sheet_rows.specs.Rows.{rows}
use Rattle.sheet_rows.proofs.RowLaws.{rows_count}
use Rattle.graph_walk.specs.Scan.{ids_from}
use Rattle.graph_walk.proofs.ScanLaws.{ids_end, ids_id, ids_pass, ids_low, ids_high}
use Rattle.graph_walk.proofs.LoopLaws.{scan_start, scan_same, scan_end, scan_ready, scan_more}
use native.Mathlib.Omega.{arith}
use Rattle.graph_walk.proofs.visit.Goals as goal

pub mention-end-requires : goal.mention-end-requires
mention-end-requires c = scan_ready c.loop-at.invariant (ids_id (rows c.args.sheet.now) c.loop-at.at (omega (arith, rows_count c.args.sheet.now)) c.row_at-r.ensures c.if-r-eq-ID.true) c.requires

pub loop-at-preserved-then-r-eq-ID : goal.loop-at-preserved-then-r-eq-ID
loop-at-preserved-then-r-eq-ID c = (scan_more c.loop-at.invariant (ids_id (rows c.args.sheet.now) c.loop-at.at (omega (arith, rows_count c.args.sheet.now)) c.row_at-r.ensures c.if-r-eq-ID.true) c.mention-end.ensures c.mention-end.auto.work)

pub returns-then-r-lt-FIELD : goal.returns-then-r-lt-FIELD
returns-then-r-lt-FIELD c = scan_end c.loop-at.invariant (ids_low (rows c.args.sheet.now) c.loop-at.at (omega (arith, rows_count c.args.sheet.now)) c.row_at-r.ensures c.if-r-eq-ID.false c.if-r-lt-FIELD.true)

pub returns-then-r-gt-INTERFACE : goal.returns-then-r-gt-INTERFACE
returns-then-r-gt-INTERFACE c = scan_end c.loop-at.invariant (ids_high (rows c.args.sheet.now) c.loop-at.at (omega (arith, rows_count c.args.sheet.now)) c.row_at-r.ensures c.if-r-eq-ID.false c.if-r-gt-INTERFACE.true)

pub loop-at-preserved : goal.loop-at-preserved
loop-at-preserved c = (scan_same c.loop-at.invariant (ids_pass (rows c.args.sheet.now) c.loop-at.at (omega (arith, rows_count c.args.sheet.now)) c.row_at-r.ensures c.if-r-eq-ID.false (omega (arith, c.if-r-lt-FIELD.false)) (omega (arith, c.if-r-gt-INTERFACE.false))))

pub returns : goal.returns
returns c = scan_end c.loop-at.invariant (ids_end (rows c.args.sheet.now) c.loop-at.at (omega (arith, rows_count c.args.sheet.now)))
