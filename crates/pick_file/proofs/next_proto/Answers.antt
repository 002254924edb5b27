use mathlib.Core.Path.{◌∙◌}
use Rattle.sheet_rows.specs.Rows.{rows}
use Rattle.sheet_walks.proofs.OverLaws.{over_none, over_at, over_next}
use Rattle.pick_file.proofs.FileLaws.{proto_none, proto_here, proto_from, proto_pass}
use native.Mathlib.Omega.{arith}
use Rattle.pick_file.proofs.next_proto.Goals as goal

pub returns-then-r-eq-PROTO : goal.returns-then-r-eq-PROTO
returns-then-r-eq-PROTO c =
    let R = rows c.args.sheet.now in
    let s = over_at c.loop-q.invariant.0 c.in-Some.ensures.steps.0 in
    record {
      from = omega (arith, s.from, c.loop-q.invariant.1);
      below = s.below;
      here = c.loop-q.invariant.2 ∙ proto_from R s c.row_at-r.ensures;
      is = c.loop-q.invariant.2 ∙ proto_here R s c.row_at-r.ensures c.if-r-eq-PROTO.true;
    }

pub loop-q-preserved : goal.loop-q-preserved
loop-q-preserved c =
    let s = over_at c.loop-q.invariant.0 c.in-Some.ensures.steps.0 in
    let n = c.in-Some.ensures.steps.1 in
    (over_next c.loop-q.invariant.0 c.in-Some.ensures.steps, omega (arith, s.from, n, c.loop-q.invariant.1), rw n (c.loop-q.invariant.2 ∙ proto_pass (rows c.args.sheet.now) s c.row_at-r.ensures c.if-r-eq-PROTO.false))

pub returns : goal.returns
returns c = c.loop-q.invariant.2 ∙ proto_none (rows c.args.sheet.now) _ (over_none c.loop-q.invariant.0 c.in-None.ensures.steps.0)
