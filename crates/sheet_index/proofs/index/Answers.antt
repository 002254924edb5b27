use Rattle.std.proofs.Common.{refl, arith}
use Rattle.sheet_rows.specs.Rows.{rows}
use Rattle.sheet_walks.proofs.WalkLaws.{stands}
use Rattle.sheet_index.proofs.IndexLaws.{fill_none, fill_more, ready_first, ready_next}
use Rattle.sheet_index.proofs.index.Goals as goal

pub loop-n-init : goal.loop-n-init
loop-n-init c = record {
  filled = fill_none c.args.part (rows c.args.sheet.now) c.args.from c.args.stride c.args.slots.now c.args.slots.now 0;
  ready = λ q e. ready_first c.args.part (rows c.args.sheet.now) c.args.from c.args.stride c.args.slots.now c.args.slots.now 0 refl (stands c.args.part (rows c.args.sheet.now) c.args.from c.seek-next.ensures e);
}

pub returns-in_default-checked_sub : goal.returns-in_default-checked_sub
returns-in_default-checked_sub c =
    rw c.in-Ok.ensures.1
    (fill_more c.args.part (rows c.args.sheet.now) c.args.from c.args.stride c.args.slots.now c.loop-n.slots c.loop-n.n _ (omega (arith, c.loop-n-test.true, c.loop-n.auto.slots)) (c.loop-n.invariant.ready c.in-At.q c.in-At.is) c.loop-n.invariant.filled)

pub loop-n-preserved : goal.loop-n-preserved
loop-n-preserved c =
    let ready = c.loop-n.invariant.ready c.in-At.q c.in-At.is in
    record {
      filled =
          rw c.in-Ok.ensures.1
          (fill_more c.args.part (rows c.args.sheet.now) c.args.from c.args.stride c.args.slots.now c.loop-n.slots c.loop-n.n _ (omega (arith, c.loop-n-test.true, c.loop-n.auto.slots)) ready c.loop-n.invariant.filled);
      ready = λ q e.
          ready_next c.args.part (rows c.args.sheet.now) c.args.from c.args.stride c.args.slots.now c.loop-n.slots c.loop-n.n ready (omega (arith, c.in-Some.ensures)) (rw c.in-Some.ensures.1 at c.nth-next.ensures) q e;
    }
