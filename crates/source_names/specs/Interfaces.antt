-- The interfaces of a PROTO whose name no field of a node has.
use Rattle.std.specs.Prelude.{◌≡◌, List, ◌∷◌, ◌++◌, ℕ, ◌+◌, ◌≤◌, ◌<◌, length, get_or, drop}
use Rattle.std.proofs.Math.Option.{none}
use Rattle.sheet_rows.specs.declared.row.Row.{Row}
use Rattle.sheet_rows.specs.declared.part.Part.TheVariants.{Interfaces}
use Rattle.sheet_rows.specs.Rows.{blank}
use Rattle.sheet_rows.specs.Parse.{elements, node_of}
use Rattle.expansion_definition.specs.Input.{last_field}

-- an interface of the PROTO at row decl stands at row i
pub record InterfaceAt (R : List Row) (decl i : ℕ) : Type 0 where
  pub before : List (List Row)
  pub after : List (List Row)
  pub is : elements Interfaces (drop (decl + 1) R) ≡ before ++ (drop i R ∷ after)
  pub below : i < length R

-- of the PROTO's interfaces from row p up to row q none has a name that a field of the node at row n of N has
pub record NoneNamed (N : List Row) (n : ℕ) (R : List Row) (decl p q : ℕ) : Type 0 where
  pub from : p ≤ q
  pub none_of : (i : ℕ) → p ≤ i → i < q → InterfaceAt R decl i → last_field (get_or R i blank).c (node_of (drop n N)).fields ≡ none
