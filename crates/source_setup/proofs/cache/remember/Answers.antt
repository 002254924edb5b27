use Rattle.std.specs.Prelude.{get_or}
use mathlib.Core.Path.{refl, ◌∙◌}
use Prim.Native.Nat.{◌≤◌}
use lib.ListN.{length}
use lib.Seq.{length-take-le}
use Rattle.sheet_rows.specs.Rows.{rows}
use Rattle.words_lent.proofs.WordLaws.{stays, stays_front}
use Rattle.source_setup.proofs.CacheLaws.{before_first, slot_upto, remember_more, remembered}
use native.Mathlib.Omega.{arith}
use borrow.Author.Rules.{rules}
use Rattle.source_setup.proofs.cache.remember.Goals as goal

pub bounds-dir-198 : goal.bounds-dir-198
bounds-dir-198 c = omega (arith, c.requires.sourced.directory.long)

pub bounds-dir-194 : goal.bounds-dir-194
bounds-dir-194 c = omega (arith, c.requires.sourced.directory.long)

pub slice_bounds-fresh-end : goal.slice_bounds-fresh-end
slice_bounds-fresh-end c = omega (arith, c.requires.sourced.cache.from, c.requires.sourced.cache.upto, c.requires.sourced.within)

pub slice_bounds-fresh-end-2 : goal.slice_bounds-fresh-end-2
slice_bounds-fresh-end-2 c =
    let w = c.args.work.now in
    let h : (get_or c.args.dir.now 198 0) ≤ length w = omega (arith, c.requires.sourced.cache.from, c.requires.sourced.cache.upto, c.requires.sourced.within) in
    let z = length-take-le (get_or c.args.dir.now 198 0) w h in search rules

pub bounds-dir-590 : goal.bounds-dir-590
bounds-dir-590 c = omega (arith, c.requires.sourced.directory.long)

pub loop-slot-init : goal.loop-slot-init
loop-slot-init c =
    let w = c.args.work.now in
    let h : (get_or c.args.dir.now 198 0) ≤ length w = omega (arith, c.requires.sourced.cache.from, c.requires.sourced.cache.upto, c.requires.sourced.within) in
    let e = c.fresh-memo.auto.slots ∙ length-take-le (get_or c.args.dir.now 198 0) w h in
    record { before = before_first c.fresh-memo.new.slots c.requires (c.fresh-memo.ensures (rows c.args.library.now)) e refl refl; dir_stays = stays _; work_stays = stays _ }

pub of_slot-at-requires : goal.of_slot-at-requires
of_slot-at-requires c = (c.loop-slot.invariant.before, slot_upto c.loop-slot.invariant c.loop-slot-test.true)

pub overflow_add-dir : goal.overflow_add-dir
overflow_add-dir c = omega (arith, c.loop-slot-test.true, c.requires.sourced.directory.few, c.requires.sourced.directory.long, c.loop-slot.invariant.dir_stays.long)

pub offset_bounds-dir-slot : goal.offset_bounds-dir-slot
offset_bounds-dir-slot c = omega (arith, c.loop-slot-test.true, c.requires.sourced.directory.few, c.requires.sourced.directory.long, c.loop-slot.invariant.dir_stays.long)

pub bounds-dir-slot : goal.bounds-dir-slot
bounds-dir-slot c = omega (arith, c.loop-slot-test.true, c.requires.sourced.directory.few, c.requires.sourced.directory.long, c.loop-slot.invariant.dir_stays.long)

pub loop-slot-preserved : goal.loop-slot-preserved
loop-slot-preserved c = (remember_more c.loop-slot.invariant c.of_slot-at.ensures c.loop-slot-test.true)

pub returns : goal.returns
returns c =
    let w = c.args.work.now in
    let h : (get_or c.args.dir.now 198 0) ≤ length w = omega (arith, c.requires.sourced.cache.from, c.requires.sourced.cache.upto, c.requires.sourced.within) in
    let e = c.fresh-memo.auto.slots ∙ length-take-le (get_or c.args.dir.now 198 0) w h in
    remembered c.loop-slot.invariant (stays_front w c.fresh-memo.new.slots (get_or c.args.dir.now 198 0) h e) refl

pub returns-2 : goal.returns-2
returns-2 c =
    let w = c.args.work.now in
    let h : (get_or c.args.dir.now 198 0) ≤ length w = omega (arith, c.requires.sourced.cache.from, c.requires.sourced.cache.upto, c.requires.sourced.within) in
    let e = c.fresh-memo.auto.slots ∙ length-take-le (get_or c.args.dir.now 198 0) w h in
    (remembered (remember_more c.loop-slot.invariant c.of_slot-at.ensures c.loop-slot-test.true) (stays_front w c.fresh-memo.new.slots (get_or c.args.dir.now 198 0) h e) refl)
