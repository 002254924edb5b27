use mathlib.Core.Path.{◌∙◌}
use Rattle.sheet_rows.specs.Rows.{rows}
use Rattle.pick_table.proofs.PickLaws.{walk_start, walk_next, walk_end}
use native.Mathlib.Omega.{arith}
use Rattle.pick_table.proofs.bases_of.Goals as goal

pub gather-requires : goal.gather-requires
gather-requires c = (c.new.ensures.sound (rows c.args.library.now), record { capped = c.requires; listed = c.list-many.ensures.1; memo = c.fresh-memo.ensures (rows c.args.library.now) })

pub loop-k-init : goal.loop-k-init
loop-k-init c = (walk_start (rows c.args.root.now) (rows c.args.library.now) c.new.ensures c.gather.ensures.0, c.gather.ensures.1, c.gather.ensures.2)

pub loop-k-preserved : goal.loop-k-preserved
loop-k-preserved c =
    let i = c.loop-k.invariant in
    let e = c.fetch.ensures in
    (walk_next i.0 c.loop-k-test.true (rw i.2 at e.0), rw i.2 at e.1, e.2 ∙ i.2)

pub returns : goal.returns
returns c = walk_end c.loop-k.invariant.0 (omega (arith, c.loop-k-test.false))
