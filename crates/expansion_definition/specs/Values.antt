-- Values (document 01, Copy: `value`).
use Rattle.std.specs.Prelude.{List, [], ◌∷◌, ℕ, eqb}
use Rattle.std.proofs.Math.Option.{Option, none, some}
use Rattle.ast.specs.Ast.{FieldData, FieldValue}
use Rattle.ast.specs.Choice.{choose}
use Rattle.expansion_definition.specs.Input.{Input}
use Rattle.expansion_definition.specs.Scopes.{Scope, scope_document}
use Rattle.ast.specs.Ids.{data_ids}
use Rattle.expansion_definition.specs.State.{Comp, ◌>>=◌, ◌>>◌, ret, map_m}
use Rattle.expansion_definition.specs.Charges.{charge_each, paid}

-- the values of an instance's interfaces by name, newest first
abbrev pub Values : Type 0
Values = List (ℕ × FieldValue)

unfoldable pub value_named : ℕ → Values → Option FieldValue
value_named name [] = none
value_named name (x ∷ l) = choose (eqb x.0 name) (some x.1) (value_named name l)

-- Env: the scope in which a node is copied, its number and entry; in a body scope the instance's values
pub record Env : Type 0 where
  pub scope : ℕ
  pub entry : Scope
  pub is_values : Option Values

-- the document that the nodes of the scope live in
abbrev pub src : Env → ℕ
src env = scope_document env.entry

-- what copies a node id into the output
abbrev pub Copier : Type 0
Copier = ℕ → Comp ℕ

-- charged: "an id of a class 2 value copied"
unfoldable pub copy_data : Input → Copier → FieldData → Comp FieldData
copy_data I f (FieldData.Payload p) = ret (FieldData.Payload p)
copy_data I f (FieldData.Nodes ids) = do
  out ← map_m (λ i. paid I (f i)) ids
  ret (FieldData.Nodes out)

unfoldable pub value : Input → Copier → FieldValue → Comp FieldValue
value I f v = do
  d ← copy_data I f v.«data»
  ret (record { ty = v.ty; «data» = d })

-- charged: an id of a class 2 value "cloned"
unfoldable pub clone : Input → FieldValue → Comp FieldValue
clone I v = do
  charge_each I (data_ids v.«data»)
  ret v
