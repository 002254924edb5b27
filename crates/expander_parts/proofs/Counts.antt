-- How many elements a part has: no more than there are rows.
use mathlib.Core.Path.{◌≡◌}
use mathlib.Core.List.{List}
use Prim.Native.Nat.{ℕ}
use native.Mathlib.Omega.{arith}
use lib.ListN.{length, drop, length-drop}
use Rattle.sheet_rows.specs.declared.row.Row.{Row}
use Rattle.sheet_rows.specs.declared.part.Part.{Part}
use Rattle.sheet_rows.specs.Parse.{elements}
use Rattle.sheet_walks.proofs.ElementsLaws.{elements_few}
use Rattle.expander_parts.specs.Contract.{Counted}

pub counted : {t : Part} {R : List Row} {p n : ℕ} → n ≡ length (elements t (drop p R)) → Counted t R p n
counted {t} {R} {p} e = record { is = e; few = omega (arith, e, elements_few t (drop p R), length-drop p R) }
