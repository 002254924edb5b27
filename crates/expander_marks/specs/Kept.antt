-- Which fields and statements of a node are kept, and so their marks (document 01, Copy).
use Rattle.std.specs.Prelude.{Bool, true, false, List, [], ◌∷◌, map, ℕ, drop}
use Rattle.std.proofs.Math.Option.{Option, none, some}
use Rattle.ast.specs.Ast.{FieldValue, FieldBinding, Field, Statement}
use Rattle.ast.specs.Choice.{map_o}
use Rattle.sheet_rows.specs.declared.row.Row.{Row}
use Rattle.sheet_rows.specs.Parse.{field_of, fields_of, statements_of}
use Rattle.expansion_definition.specs.Values.{Values, value_named}
use Rattle.refine_records.specs.declared.Env as code
use Rattle.refine_records.specs.Sound.{env_of}
use Rattle.expander_marks.specs.Positions.{is_some}

-- "Node statements keep Route and ExternProto only."
abbrev pub kept_statement : Statement → Bool
kept_statement (Statement.Node i) = false
kept_statement (Statement.Proto p) = false
kept_statement (Statement.ExternProto x) = true
kept_statement (Statement.Route r) = true
kept_statement (Statement.Other p) = false

-- what an IS target has in the scope: nothing outside a body, or a value, or none
abbrev pub kept_target : Option (Option FieldValue) → Bool
kept_target none = true
kept_target (some v) = is_some v

abbrev pub kept_binding : Option Values → FieldBinding → Bool
kept_binding vs (FieldBinding.Value v) = true
kept_binding vs (FieldBinding.Is target) = kept_target (map_o (value_named target) vs)

abbrev pub kept_field : Option Values → Field → Bool
kept_field vs f = kept_binding vs f.binding

-- the same, of a field's row
abbrev pub field_kept : List ℕ → code.Env → Row → Bool
field_kept w e r = kept_field (env_of w e).is_values (field_of (r ∷ []))

-- of each field, and of each statement, from a row on
unfoldable pub kept_fields : Option Values → List Row → ℕ → List Bool
kept_fields vs R p = map (kept_field vs) (fields_of (drop p R))

unfoldable pub kept_statements : List Row → ℕ → List Bool
kept_statements R p = map kept_statement (statements_of (drop p R))
