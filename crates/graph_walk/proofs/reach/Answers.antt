use mathlib.Core.Path.{refl}
use Rattle.sheet_rows.specs.Rows.{rows}
use Rattle.sheet_rows.proofs.RowLaws.{rows_length}
use Rattle.graph_walk.proofs.Printed.{top_below, document_within}
use Rattle.graph_walk.proofs.WalkLaws.{start_ready, going_start, turn_room, turn_id, turn_place, turn_ready, going_on, going_end}
use native.Mathlib.Omega.{arith}
use Rattle.graph_walk.proofs.reach.Goals as goal

pub overflow_add-from : goal.overflow_add-from
overflow_add-from c = omega (arith, document_within (rows c.args.sheet.now) c.args.from c.requires.document c.requires.after c.requires.here, rows_length c.args.sheet.now)

pub overflow_add-found : goal.overflow_add-found
overflow_add-found c = omega (arith, top_below (rows c.args.sheet.now) c.args.from c.requires.document c.requires.after c.requires.here c.index-found.result.top c.index-found.ensures.top, rows_length c.args.sheet.now)

pub start-started-requires : goal.start-started-requires
start-started-requires c = start_ready (omega (arith, rows_length c.args.sheet.now)) c.index-found.ensures c.requires

pub loop-k-init : goal.loop-k-init
loop-k-init c = going_start (omega (arith, rows_length c.args.sheet.now)) c.index-found.ensures c.start-started.ensures refl

pub overflow_mul-id : goal.overflow_mul-id
overflow_mul-id c = omega (arith, turn_room (omega (arith, rows_length c.args.sheet.now)) c.loop-k.invariant c.loop-k-test.true c.requires.document c.requires.after c.requires.here)

pub overflow_add-id : goal.overflow_add-id
overflow_add-id c = omega (arith, turn_room (omega (arith, rows_length c.args.sheet.now)) c.loop-k.invariant c.loop-k-test.true c.requires.document c.requires.after c.requires.here)

pub offset_bounds-work-k : goal.offset_bounds-work-k
offset_bounds-work-k c = omega (arith, turn_room (omega (arith, rows_length c.args.sheet.now)) c.loop-k.invariant c.loop-k-test.true c.requires.document c.requires.after c.requires.here)

pub bounds-work-k : goal.bounds-work-k
bounds-work-k c = omega (arith, turn_room (omega (arith, rows_length c.args.sheet.now)) c.loop-k.invariant c.loop-k-test.true c.requires.document c.requires.after c.requires.here)

pub overflow_mul-id-in-loop-k : goal.overflow_mul-id-in-loop-k
overflow_mul-id-in-loop-k c = omega (arith, turn_id (omega (arith, rows_length c.args.sheet.now)) c.loop-k.invariant c.loop-k-test.true c.requires.document c.requires.after c.requires.here _ refl)

pub pair_at-place-requires : goal.pair_at-place-requires
pair_at-place-requires c = omega (arith, turn_id (omega (arith, rows_length c.args.sheet.now)) c.loop-k.invariant c.loop-k-test.true c.requires.document c.requires.after c.requires.here _ refl)

pub overflow_add-place : goal.overflow_add-place
overflow_add-place c = omega (arith, turn_place (omega (arith, rows_length c.args.sheet.now)) c.loop-k.invariant c.loop-k-test.true c.requires.document c.requires.after c.requires.here _ c.pair_at-place.result refl c.pair_at-place.ensures, rows_length c.args.sheet.now)

pub visit-tail-requires : goal.visit-tail-requires
visit-tail-requires c = turn_ready (omega (arith, rows_length c.args.sheet.now)) c.loop-k.invariant c.loop-k-test.true c.requires.document c.requires.after c.requires.here _ c.pair_at-place.result refl c.pair_at-place.ensures

pub overflow_add-k : goal.overflow_add-k
overflow_add-k c = omega (arith, turn_room (omega (arith, rows_length c.args.sheet.now)) c.loop-k.invariant c.loop-k-test.true c.requires.document c.requires.after c.requires.here)

pub loop-k-smaller : goal.loop-k-smaller
loop-k-smaller c = omega (arith, turn_room (omega (arith, rows_length c.args.sheet.now)) c.loop-k.invariant c.loop-k-test.true c.requires.document c.requires.after c.requires.here, c.loop-k.invariant.long)

pub loop-k-preserved : goal.loop-k-preserved
loop-k-preserved c = going_on (omega (arith, rows_length c.args.sheet.now)) c.loop-k.invariant c.loop-k-test.true _ c.pair_at-place.result refl c.pair_at-place.ensures c.visit-tail.ensures c.visit-tail.auto.work

pub returns : goal.returns
returns c = going_end (omega (arith, rows_length c.args.sheet.now)) c.loop-k.invariant (omega arith)
