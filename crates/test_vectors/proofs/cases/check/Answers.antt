use mathlib.Core.Path.{◌≡◌, refl, sym, ◌∙◌}
use Prim.Native.Nat.{◌+◌, ◌/◌}
use lib.ListN.{length-take}
use Rattle.test_vectors.proofs.CasesLaws.{formless, no_form, check_bad, check_few, check_all}
use native.Mathlib.Omega.{arith}
use Rattle.test_vectors.proofs.cases.check.Goals as goal

pub slice_bounds-check-end-2 : goal.slice_bounds-check-end-2
slice_bounds-check-end-2 g c = simp length-take (omega arith)

pub returns : goal.returns
returns g c =
    let up : c.div_ceil.result ≡ (c.args.h.b + 7) / 8 = omega (arith, c.div_ceil.ensures) in
    check_all c.args.input.now _ c.args.h c.args.words.now c.if-h-gt2.false _ _ (rw (up, c.in_ok-next.was) at c.rows.ensures) c.rows.auto.words c.if-words-n.false

pub returns-then-h-gt2 : goal.returns-then-h-gt2
returns-then-h-gt2 g c = no_form c.args.input.now _ c.args.h c.args.words.now c.if-h-gt2.true

pub returns-in_default : goal.returns-in_default
returns-in_default g c = no_form c.args.input.now _ c.args.h c.args.words.now (formless c.args.h.a (sym c.in_default.is ∙ c.try_from.ensures))

pub returns-in_err-next : goal.returns-in_err-next
returns-in_err-next g c =
    let up : c.div_ceil.result ≡ (c.args.h.b + 7) / 8 = omega (arith, c.div_ceil.ensures) in
    rw c.from_residual.ensures (check_bad c.args.input.now _ c.args.h c.args.words.now c.if-h-gt2.false _ _ (rw (up, c.in_err-next.was) at c.rows.ensures) refl)

pub returns-then-words-n : goal.returns-then-words-n
returns-then-words-n g c =
    let up : c.div_ceil.result ≡ (c.args.h.b + 7) / 8 = omega (arith, c.div_ceil.ensures) in
    check_few c.args.input.now _ c.args.h c.args.words.now c.if-h-gt2.false _ _ (rw (up, c.in_ok-next.was) at c.rows.ensures) c.rows.auto.words c.if-words-n.true
