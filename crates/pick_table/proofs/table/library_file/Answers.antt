use mathlib.Core.Path.{refl}
use Rattle.std.proofs.Common.{◌≡◌, ◌+◌, ◌-◌, rules}
use Rattle.sheet_rows.specs.Rows.{rows}
use Rattle.sheet_rows.proofs.RowLaws.{rows_length}
use Rattle.pick_table.proofs.ListedLaws.{search_none, search_here, search_next}
use native.Mathlib.Omega.{arith}
use Rattle.pick_table.proofs.table.library_file.Goals as goal

pub overflow_cast-result : goal.overflow_cast-result
overflow_cast-result c = omega (arith, c.requires.0, c.requires.1.few, c.loop-j.invariant.upto, rows_length c.args.library.now)

pub returns-then-row_at-base : goal.returns-then-row_at-base
returns-then-row_at-base c = let z : c.loop-j.j - 1 + 1 ≡ c.loop-j.j = omega arith in rw z (search_here (rows c.args.library.now) c.args.files.now c.args.base c.requires.1 (omega arith) c.loop-j.invariant c.loop-j-test.true refl c.row_at.ensures c.if-row_at-base.true)

pub loop-j-preserved : goal.loop-j-preserved
loop-j-preserved c = search_next (rows c.args.library.now) c.args.files.now c.args.base c.requires.1 (omega arith) c.loop-j.invariant c.loop-j-test.true refl c.row_at.ensures c.if-row_at-base.false

pub returns : goal.returns
returns c = search_none (rows c.args.library.now) c.args.files.now c.args.base c.requires.1 (search rules) c.loop-j.invariant (omega (arith, c.loop-j-test.false))
