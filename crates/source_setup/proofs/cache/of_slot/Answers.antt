use Rattle.std.specs.Prelude.{get_or}
use mathlib.Core.Path.{◌≡◌, refl, subst, sym, ◌∙◌}
use Prim.Native.Nat.{◌+◌, ◌*◌}
use lib.Seq.{length-take-le}
use Rattle.sheet_rows.specs.Rows.{rows}
use Rattle.sheet_lookup.specs.Lookup.{sheet_of}
use Rattle.sheet_walks.specs.Walk.{Below}
use Rattle.words_lent.proofs.WordLaws.{stays_front}
use Rattle.source_directory.specs.Directory.{number_of}
use Rattle.source_lookup.proofs.PickedLaws.{row_settled, row_picked}
use Rattle.source_setup.proofs.CacheLaws.{packs, add_start, sourced_now, lent_within, add_more}
use Rattle.source_lookup.specs.Instance.{target_in}
use native.Mathlib.Omega.{arith}
use Rattle.source_setup.proofs.cache.of_slot.Goals as goal

pub document-requires : goal.document-requires
document-requires c = omega (arith, c.requires.1, c.requires.0.sourced.directory.few, c.requires.0.sourced.directory.long)

pub returns-then-is_none : goal.returns-then-is_none
returns-then-is_none c = add_start c.requires.0

pub bounds-sources-198 : goal.bounds-sources-198
bounds-sources-198 c = omega (arith, c.requires.1, c.requires.0.sourced.directory.few, c.requires.0.sourced.directory.long)

pub bounds-sources-199 : goal.bounds-sources-199
bounds-sources-199 c = omega (arith, c.requires.1, c.requires.0.sourced.directory.few, c.requires.0.sourced.directory.long)

pub overflow_sub-room : goal.overflow_sub-room
overflow_sub-room c = omega (arith, c.requires.0.upto)

pub overflow_cast-i : goal.overflow_cast-i
overflow_cast-i c = omega arith

pub extern_proto-requires : goal.extern_proto-requires
extern_proto-requires c = (sourced_now c.requires.0 c.loop-i.invariant.1, c.loop-i.invariant.0)

pub returns-in_default : goal.returns-in_default
returns-in_default c = c.loop-i.invariant.1

pub slice_bounds-pick_row-end : goal.slice_bounds-pick_row-end
slice_bounds-pick_row-end c = omega (arith, lent_within c.requires.0 c.loop-i.invariant.1 refl)

pub pick_row-pick-requires : goal.pick_row-pick-requires
pick_row-pick-requires c = record { directory = (c.requires.0.sourced.directory, c.loop-i.invariant.0, subst (Below (rows (sheet_of c.args.sources.now.root.now c.args.sources.now.library.now (number_of c.args.sources.now.dir.now c.args.slot)))) c.in-At.is c.extern_proto.ensures.below); row_value = (row_settled c.requires.0.sourced.directory c.loop-i.invariant.0 c.loop-i.i c.extern_proto.ensures c.in-At.is, c.loop-i.invariant.1.memo) }

pub keep-requires : goal.keep-requires
keep-requires c =
    let e = c.pick_row-pick.auto.slots ∙ length-take-le (get_or c.args.sources.now.dir.now 198 0) c.loop-i.work (lent_within c.requires.0 c.loop-i.invariant.1 refl) in
    (omega (arith, c.loop-i-test.true, (sourced_now c.requires.0 c.loop-i.invariant.1).within, (stays_front c.loop-i.work c.pick_row-pick.new.slots (get_or c.args.sources.now.dir.now 198 0) (lent_within c.requires.0 c.loop-i.invariant.1 refl) e).long), packs (target_in c.pick_row-pick.result) c.requires.0.sourced.directory c.pick_row-pick.ensures.1 c.pick_row-pick.ensures.0)

pub loop-i-preserved : goal.loop-i-preserved
loop-i-preserved c =
    let e = c.pick_row-pick.auto.slots ∙ length-take-le (get_or c.args.sources.now.dir.now 198 0) c.loop-i.work (lent_within c.requires.0 c.loop-i.invariant.1 refl) in
    let z : c.args.place + 2 * c.loop-i.i + 2 ≡ c.args.place + 2 * (c.loop-i.i + 1) = omega arith in
    (c.loop-i.invariant.0, rw z at (add_more c.requires.0 c.loop-i.invariant.1 c.loop-i.i c.pick_row-pick.new.slots c.keep.new.work refl (omega (arith, c.loop-i-test.true)) refl refl e c.pick_row-pick.ensures.2 (rw (sym (row_picked c.requires.0.sourced.directory c.loop-i.invariant.0 c.loop-i.i c.extern_proto.ensures c.in-At.is)) c.pick_row-pick.ensures.0) c.keep.ensures))
