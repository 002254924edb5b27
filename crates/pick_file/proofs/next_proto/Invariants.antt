use mathlib.Core.Path.{◌≡◌}
use Prim.Native.Nat.{◌≤◌}
use Rattle.sheet_rows.specs.declared.part.Part.TheVariants.{Statements}
use Rattle.sheet_rows.specs.Rows.{rows}
use Rattle.sheet_walks.proofs.OverLaws.{Over}
use Rattle.pick_file.specs.File.{protos_from}
use Rattle.pick_file.proofs.next_proto.Given as goal

abbrev pub invariant-loop-q : goal.invariant-loop-q
invariant-loop-q l = Over Statements (rows l.sheet) l.q-iterator × (l.from ≤ l.q-iterator.next) × (protos_from (rows l.sheet) l.from ≡ protos_from (rows l.sheet) l.q-iterator.next)
