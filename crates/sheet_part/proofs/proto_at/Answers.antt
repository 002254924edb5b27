use mathlib.Core.List.{List}
use Prim.Native.Nat.{ℕ, ◌<◌}
use lib.ListN.{length}
use Rattle.sheet_rows.proofs.RowLaws.{rows_length}
use Rattle.sheet_lookup.specs.Lookup.{sheet_of}
use Rattle.sheet_part.proofs.PartLaws.{of_both}
use native.Mathlib.Omega.{arith}
use Rattle.sheet_part.proofs.proto_at.Goals as goal

pub overflow_add-from : goal.overflow_add-from
overflow_add-from c = omega (arith, of_both (λ (l : List ℕ). length l < 18446744073709551616) c.args.root.now c.args.library.now c.args.doc (omega arith) (omega arith), rows_length (sheet_of c.args.root.now c.args.library.now c.args.doc), c.requires)

pub returns : goal.returns
returns c = record { to = c.proto_end-to.result; part = c.rows_of.ensures; end = rw c.select.ensures at c.proto_end-to.ensures }
