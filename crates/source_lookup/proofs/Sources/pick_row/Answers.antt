use Rattle.std.specs.Prelude.{get_or}
use mathlib.Core.Path.{refl, ◌∙◌}
use Rattle.sheet_walks.proofs.OverLaws.{over_none, over_at, over_next}
use Rattle.sheet_lookup.specs.Lookup.{sheet_of}
use Rattle.source_directory.specs.Directory.{number_of}
use Rattle.source_lookup.proofs.PickedLaws.{try_start, sheet_small, lent, try_none, try_proto, try_next, try_skip}
use Rattle.std.proofs.Common.{◌≡◌, ◌+◌, ◌-◌}
use Rattle.pick_table.proofs.TableLaws.{positioned}
use Rattle.pick_table.proofs.PickLaws.{stood, missed}
use Rattle.source_directory.specs.Directory.{base_count}
use native.Mathlib.Omega.{arith}
use Rattle.source_lookup.proofs.Sources.pick_row.Goals as goal

pub bounds-self-194 : goal.bounds-self-194
bounds-self-194 c = omega (arith, c.requires.directory.0.long)

pub number-requires : goal.number-requires
number-requires c = omega (arith, c.requires.directory.1.upto, c.requires.directory.0.few, c.requires.directory.0.long)

pub overflow_add-row : goal.overflow_add-row
overflow_add-row c = omega (arith, c.requires.directory.2, sheet_small c.requires.directory.0 (number_of c.args.self.now.dir.now c.args.slot) {sheet = sheet_of c.args.self.now.root.now c.args.self.now.library.now (number_of c.args.self.now.dir.now c.args.slot)} refl)

pub loop-q-init : goal.loop-q-init
loop-q-init c =
    let e = c.elements-q-items.ensures in
    let i = c.into_iter-q-iterator.ensures.into_iter_gives in
    (record { part = rw (i, e.part); sheet = rw (i, e.sheet) }, refl, rw (i, e.next) (try_start c.args.self.now.root.now c.args.self.now.library.now _ c.args.row), c.requires.row_value.1)

pub returns : goal.returns
returns c =
    let i = c.loop-q.invariant in
    (rw (c.select-sheet.ensures, c.number.ensures) at (try_none c.requires.directory.0 i.2 (over_none i.0 c.in-None.ensures.steps.0)), omega arith, i.3)

pub overflow_add-mark : goal.overflow_add-mark
overflow_add-mark c =
    let i = c.loop-q.invariant in
    let h = over_at i.0 c.in-Some.ensures.steps.0 in
    omega (arith, i.2.few, h.from, h.below, sheet_small c.requires.directory.0 c.number.result c.select-sheet.ensures)

pub pick_from-led-requires : goal.pick_from-led-requires
pick_from-led-requires c = (c.requires.directory.0.small, c.loop-q.invariant.3)

pub returns-in-Some-led : goal.returns-in-Some-led
returns-in-Some-led c =
    let d = c.requires.directory.0 in
    let n = 130 + get_or c.args.self.now.dir.now 194 0 - 130 in
    let size : n ≡ base_count c.args.self.now.dir.now = omega arith in
    let i = c.loop-q.invariant in
    let h = over_at i.0 c.in-Some.ensures.steps.0 in
    let p = stood (lent d n) c.in-Some-position.is (positioned (lent d n) c.row_at-r.result.a c.position.result c.position.ensures) in
    (rw (c.select-sheet.ensures, c.number.ensures) at (try_proto d i.2 h c.row_at-r.ensures size p c.pick_from-led.result (rw (c.file-file.ensures, c.optional-fragment.ensures) at c.pick_from-led.ensures.0) _ c.in-Some-led.is refl), omega (arith, i.2.few, h.from, h.below, sheet_small d c.number.result c.select-sheet.ensures), c.pick_from-led.ensures.1)

pub loop-q-preserved-in_default-led : goal.loop-q-preserved-in_default-led
loop-q-preserved-in_default-led c =
    let d = c.requires.directory.0 in
    let n = 130 + get_or c.args.self.now.dir.now 194 0 - 130 in
    let size : n ≡ base_count c.args.self.now.dir.now = omega arith in
    let i = c.loop-q.invariant in
    let s = c.in-Some.ensures.steps in
    let h = over_at i.0 s.0 in
    let p = stood (lent d n) c.in-Some-position.is (positioned (lent d n) c.row_at-r.result.a c.position.result c.position.ensures) in
    (over_next i.0 s, c.pick_from-led.auto.slots ∙ i.1, rw s.1 (try_next d i.2 h c.row_at-r.ensures size p c.pick_from-led.result (rw (c.file-file.ensures, c.optional-fragment.ensures) at c.pick_from-led.ensures.0) c.in_default-led.is), c.pick_from-led.ensures.1)

pub loop-q-preserved : goal.loop-q-preserved
loop-q-preserved c =
    let d = c.requires.directory.0 in
    let n = 130 + get_or c.args.self.now.dir.now 194 0 - 130 in
    let size : n ≡ base_count c.args.self.now.dir.now = omega arith in
    let i = c.loop-q.invariant in
    let s = c.in-Some.ensures.steps in
    let h = over_at i.0 s.0 in
    let p = missed (lent d n) c.in_default.is (positioned (lent d n) c.row_at-r.result.a c.position.result c.position.ensures) in
    (over_next i.0 s, i.1, rw s.1 (try_skip d i.2 h c.row_at-r.ensures size p (rw (c.select-sheet.ensures, c.number.ensures) c.requires.row_value.0)), i.3)
