use mathlib.Core.Path.{◌≡◌, refl}
use Prim.Native.Nat.{◌+◌, ◌/◌}
use lib.ListN.{length-take}
use Rattle.test_vectors.proofs.CasesLaws.{write_bad, write_few, write_short, write_all}
use native.Mathlib.Omega.{arith}
use Rattle.test_vectors.proofs.cases.write.Goals as goal

pub slice_bounds-print_write-end-2 : goal.slice_bounds-print_write-end-2
slice_bounds-print_write-end-2 g c = simp length-take (omega arith)

pub slice_bounds-print_write-end-3 : goal.slice_bounds-print_write-end-3
slice_bounds-print_write-end-3 g c = simp length-take (omega arith)

pub returns : goal.returns
returns g c =
    let up : c.div_ceil.result ≡ (c.args.h.a + 7) / 8 = omega (arith, c.div_ceil.ensures) in
    write_all c.args.input.now _ c.args.h c.args.words.now _ _ (rw (up, c.in_ok-next.was) at c.rows.ensures) c.rows.auto.words c.if-words-n.false c.if-lent-gt4096.false

pub returns-then-lent-gt4096 : goal.returns-then-lent-gt4096
returns-then-lent-gt4096 g c =
    let up : c.div_ceil.result ≡ (c.args.h.a + 7) / 8 = omega (arith, c.div_ceil.ensures) in
    write_short c.args.input.now _ c.args.h c.args.words.now _ _ (rw (up, c.in_ok-next.was) at c.rows.ensures) c.rows.auto.words c.if-words-n.false c.if-lent-gt4096.true

pub returns-in_err-next : goal.returns-in_err-next
returns-in_err-next g c =
    let up : c.div_ceil.result ≡ (c.args.h.a + 7) / 8 = omega (arith, c.div_ceil.ensures) in
    rw c.from_residual.ensures (write_bad c.args.input.now _ c.args.h c.args.words.now _ _ (rw (up, c.in_err-next.was) at c.rows.ensures) refl)

pub returns-then-words-n : goal.returns-then-words-n
returns-then-words-n g c =
    let up : c.div_ceil.result ≡ (c.args.h.a + 7) / 8 = omega (arith, c.div_ceil.ensures) in
    write_few c.args.input.now _ c.args.h c.args.words.now _ _ (rw (up, c.in_ok-next.was) at c.rows.ensures) c.rows.auto.words c.if-words-n.true
