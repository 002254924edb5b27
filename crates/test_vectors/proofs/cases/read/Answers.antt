use lib.ListN.{length-take}
use Rattle.test_vectors.proofs.CasesLaws.{read_far, read_few, read_short, read_all}
use native.Mathlib.Omega.{arith}
use Rattle.test_vectors.proofs.cases.read.Goals as goal

pub slice_bounds-print_read-end-2 : goal.slice_bounds-print_read-end-2
slice_bounds-print_read-end-2 g c = simp length-take (omega arith)

pub returns : goal.returns
returns g c = read_all c.args.input.now _ c.args.h c.if-input-at.false c.if-input-at-2.false c.if-lent-gt1024.false

pub returns-then-input-at : goal.returns-then-input-at
returns-then-input-at g c = read_far c.args.input.now _ c.args.h c.if-input-at.true

pub returns-then-input-at-2 : goal.returns-then-input-at-2
returns-then-input-at-2 g c = read_few c.args.input.now _ c.args.h c.if-input-at.false c.if-input-at-2.true

pub returns-then-lent-gt1024 : goal.returns-then-lent-gt1024
returns-then-lent-gt1024 g c = read_short c.args.input.now _ c.args.h c.if-input-at.false c.if-input-at-2.false c.if-lent-gt1024.true
