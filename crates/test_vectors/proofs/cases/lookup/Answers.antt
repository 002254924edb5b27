use mathlib.Core.Path.{refl}
use lib.ListN.{length-take}
use Rattle.test_vectors.proofs.CasesLaws.{no_kind, root_bad, library_bad, root_few, library_few, lookup_all}
use native.Mathlib.Omega.{arith}
use Rattle.test_vectors.proofs.cases.lookup.Goals as goal

pub slice_bounds-print_lookup-end-2 : goal.slice_bounds-print_lookup-end-2
slice_bounds-print_lookup-end-2 g c = simp length-take (omega arith)

pub slice_bounds-print_lookup-end-4 : goal.slice_bounds-print_lookup-end-4
slice_bounds-print_lookup-end-4 g c = simp length-take (omega arith)

pub returns : goal.returns
returns g c = lookup_all c.args.input.now _ c.args.h c.args.root.now c.args.library.now c.if-h-gt-PROTO_ROWS.false _ _ c.rows.ensures _ c.in_ok-after_root.was _ _ (rw c.in_ok-next.was at c.rows-2.ensures) c.rows.auto.words c.if-root-n.false c.rows-2.auto.words c.if-library-m.false

pub returns-in_err-after_root : goal.returns-in_err-after_root
returns-in_err-after_root g c = rw c.from_residual.ensures (root_bad c.args.input.now _ c.args.h c.args.root.now c.args.library.now c.if-h-gt-PROTO_ROWS.false _ _ (rw c.in_err-after_root.was at c.rows.ensures) refl)

pub returns-then-h-gt-PROTO_ROWS : goal.returns-then-h-gt-PROTO_ROWS
returns-then-h-gt-PROTO_ROWS g c = no_kind c.args.input.now _ c.args.h c.args.root.now c.args.library.now c.if-h-gt-PROTO_ROWS.true

pub returns-then-library-m : goal.returns-then-library-m
returns-then-library-m g c = library_few c.args.input.now _ c.args.h c.args.root.now c.args.library.now c.if-h-gt-PROTO_ROWS.false _ _ c.rows.ensures _ c.in_ok-after_root.was _ _ (rw c.in_ok-next.was at c.rows-2.ensures) c.rows.auto.words c.if-root-n.false c.rows-2.auto.words c.if-library-m.true

pub returns-in_err-next : goal.returns-in_err-next
returns-in_err-next g c = rw c.from_residual-in_err-next.ensures (library_bad c.args.input.now _ c.args.h c.args.root.now c.args.library.now c.if-h-gt-PROTO_ROWS.false _ _ c.rows.ensures _ c.in_ok-after_root.was _ _ (rw c.in_err-next.was at c.rows-2.ensures) refl)

pub returns-then-root-n : goal.returns-then-root-n
returns-then-root-n g c = root_few c.args.input.now _ c.args.h c.args.root.now c.args.library.now c.if-h-gt-PROTO_ROWS.false _ _ c.rows.ensures _ c.in_ok-after_root.was _ _ (rw c.in_ok-next.was at c.rows-2.ensures) c.rows.auto.words c.if-root-n.true
