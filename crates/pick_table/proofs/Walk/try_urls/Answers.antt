use mathlib.Core.Path.{◌∙◌}
use Rattle.sheet_rows.proofs.RowLaws.{rows_length}
use Rattle.sheet_walks.proofs.OverLaws.{over_none, over_at, over_next}
use Rattle.pick_table.proofs.PickLaws.{try_none, try_led, try_next, behind_next}
use native.Mathlib.Omega.{arith}
use Rattle.pick_table.proofs.Walk.try_urls.Goals as goal

pub overflow_add-behind : goal.overflow_add-behind
overflow_add-behind c = omega (arith, (over_at c.loop-q.invariant.0 c.in-Some.ensures.steps.0).below, rows_length c.args.sheet.now)

pub returns-in-None : goal.returns-in-None
returns-in-None c =
    let i = c.loop-q.invariant in
    (try_none i.1 (over_none i.0 c.in-None.ensures.steps.0), i.2, i.3, i.4)

pub returns-then-try_url : goal.returns-then-try_url
returns-then-try_url c =
    let i = c.loop-q.invariant in
    let h = over_at i.0 c.in-Some.ensures.steps.0 in
    let e = c.try_url.ensures in
    (try_led i.1 h c.row_at-r.ensures (rw (i.3, c.optional.ensures) at e.0) c.if-try_url.true, rw i.3 at e.1, e.2 ∙ i.3, behind_next (rw i.5 i.4) h)

pub loop-q-preserved : goal.loop-q-preserved
loop-q-preserved c =
    let s = c.in-Some.ensures.steps in
    let i = c.loop-q.invariant in
    let h = over_at i.0 s.0 in
    let e = c.try_url.ensures in
    (over_next i.0 s, rw s.1 (try_next i.1 h c.row_at-r.ensures (rw (i.3, c.optional.ensures) at e.0) c.if-try_url.false), rw i.3 at e.1, e.2 ∙ i.3, behind_next (rw i.5 i.4) h, s.1)
