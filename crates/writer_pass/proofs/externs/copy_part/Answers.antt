use mathlib.Core.Path.{refl}
use Rattle.sheet_rows.specs.Rows.{rows}
use Rattle.sheet_walks.proofs.OverLaws.{over_none, over_at, over_next}
use Rattle.writer_pass.proofs.ExternRows.{copy_begin, copy_room, copy_again, copy_stop}
use Rattle.writer_pass.proofs.externs.copy_part.Goals as goal

pub loop-q-init : goal.loop-q-init
loop-q-init c =
    let e = c.elements-q-items.ensures in
    let i = c.into_iter-q-iterator.ensures.into_iter_gives in
    (record { part = rw (i, e.part); sheet = rw (i, e.sheet) }, rw (i, e.next) (copy_begin c.args.of c.args.taken (rows c.args.sheet.now)))

pub returns : goal.returns
returns c = copy_stop c.args.of c.args.taken (rows c.args.sheet.now) c.requires c.loop-q.invariant.1 (over_none c.loop-q.invariant.0 c.in-None.ensures.steps.0)

pub put-requires : goal.put-requires
put-requires c = (copy_room c.args.of c.args.taken (rows c.args.sheet.now) c.requires c.loop-q.invariant.1 (over_at c.loop-q.invariant.0 c.in-Some.ensures.steps.0)).0

pub loop-q-preserved : goal.loop-q-preserved
loop-q-preserved c =
    let s = c.in-Some.ensures.steps in
    (over_next c.loop-q.invariant.0 s, rw s.1 (copy_again c.args.of c.args.taken (rows c.args.sheet.now) c.requires c.loop-q.invariant.1 (over_at c.loop-q.invariant.0 s.0) refl (rw c.row_at.ensures at c.declared.ensures) c.put.ensures))
