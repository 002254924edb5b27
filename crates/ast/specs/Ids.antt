-- The node ids that stand in a value, a binding, a statement.
use Rattle.std.specs.Prelude.{List, [], ◌∷◌, ℕ}
use Rattle.std.proofs.Math.Option.{Option, none, some}
use Rattle.ast.specs.Ast.{FieldData, FieldValue, FieldBinding, Statement}

abbrev pub data_ids : FieldData → List ℕ
data_ids (FieldData.Payload p) = []
data_ids (FieldData.Nodes ids) = ids

abbrev pub option_ids : Option FieldValue → List ℕ
option_ids none = []
option_ids (some v) = data_ids v.«data»

abbrev pub binding_ids : FieldBinding → List ℕ
binding_ids (FieldBinding.Value v) = data_ids v.«data»
binding_ids (FieldBinding.Is t) = []

-- of a Node statement
abbrev pub statement_ids : Statement → List ℕ
statement_ids (Statement.Node i) = i ∷ []
statement_ids (Statement.Proto p) = []
statement_ids (Statement.ExternProto x) = []
statement_ids (Statement.Route r) = []
statement_ids (Statement.Other p) = []
