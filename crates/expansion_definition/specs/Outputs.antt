-- The node ids and the rows of an output.
use Rattle.std.specs.Prelude.{List, [], ◌∷◌, ◌++◌, map, ℕ, suc, ◌+◌, length}
use Rattle.std.proofs.Math.Option.{Option, none, some}
use Rattle.ast.specs.Ast.{Field, InterfaceDecl, Route, Statement, ProtoInstance, Node, ExternProtoDecl, Document}
use Rattle.ast.specs.Lists.{flat}
use Rattle.ast.specs.Ids.{option_ids, binding_ids}

-- ---- node ids (document 01, Modules: Reached): "The node ids of an output stand in its Node statements, id rows, associations and route ends."

-- a route end that is not none
abbrev pub end_ids : Option ℕ → List ℕ
end_ids none = []
end_ids (some i) = i ∷ []

abbrev pub route_ids : Route → List ℕ
route_ids r = end_ids r.from_id ++ end_ids r.to_id

abbrev pub ids_of_statement : Statement → List ℕ
ids_of_statement (Statement.Node i) = i ∷ []
ids_of_statement (Statement.Proto p) = []
ids_of_statement (Statement.ExternProto x) = []
ids_of_statement (Statement.Route r) = route_ids r
ids_of_statement (Statement.Other p) = []

-- extra roots, routes, associations
abbrev pub ids_of_instance : Option ProtoInstance → List ℕ
ids_of_instance none = []
ids_of_instance (some x) = x.extra_roots ++ (flat route_ids x.routes ++ map (λ a. a.node) x.is_map)

abbrev pub ids_of_interface : List InterfaceDecl → List ℕ
ids_of_interface l = flat (λ d. option_ids d.value) l

abbrev pub ids_of_node : Node → List ℕ
ids_of_node x = flat (λ f. binding_ids f.binding) x.fields ++ (ids_of_interface x.interface ++ (flat ids_of_statement x.statements ++ ids_of_instance x.instance))

abbrev pub output_ids : Document → List ℕ
output_ids d = flat ids_of_node d.nodes ++ (flat (λ x. ids_of_interface x.interface) d.extern_protos ++ flat ids_of_statement d.statements)

-- ---- rows (document 01, Sheets), of a document without protos

abbrev pub sum_of : {A : Type 0} → (A → ℕ) → List A → ℕ
sum_of g [] = 0
sum_of g (x ∷ l) = g x + sum_of g l

abbrev pub field_row_count : Field → ℕ
field_row_count f = suc (length (binding_ids f.binding))

abbrev pub interface_row_count : InterfaceDecl → ℕ
interface_row_count d = suc (length (option_ids d.value))

abbrev pub instance_row_count : Option ProtoInstance → ℕ
instance_row_count none = 0
instance_row_count (some x) = suc (length x.extra_roots + length x.routes + length x.is_map)

-- the rows of a node below its own
unfoldable pub content_rows : Node → ℕ
content_rows x = sum_of field_row_count x.fields + sum_of interface_row_count x.interface + length x.statements + length x.body_order + instance_row_count x.instance

abbrev pub node_row_count : Node → ℕ
node_row_count x = suc (content_rows x)

abbrev pub extern_row_count : ExternProtoDecl → ℕ
extern_row_count x = suc (sum_of interface_row_count x.interface + length x.urls)

-- the rows of an output: "A document is row 1; nodes; protos; externs; row 11; top statements."
abbrev pub row_count : Document → ℕ
row_count d = 1 + sum_of node_row_count d.nodes + sum_of extern_row_count d.extern_protos + 1 + length d.statements
