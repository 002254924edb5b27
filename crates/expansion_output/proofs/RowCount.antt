-- The printed rows of a document are as many as its row count says.
use mathlib.Core.Path.{◌≡◌, refl, ap}
use mathlib.Core.List.{List, [], ◌∷◌, ◌++◌, map}
use mathlib.Core.Option.{Option, none, some}
use Prim.Native.Nat.{ℕ, suc}
use native.Mathlib.Omega.{arith}
use lib.ListN.{length, length-append, length-map}
use Rattle.ast.specs.Ast.{FieldData, FieldBinding, FieldValue, Field, InterfaceDecl, ProtoInstance, Node, ProtoDecl, ExternProtoDecl, Document}
use Rattle.sheet_rows.specs.declared.row.Row.{Row}
use Rattle.ast.specs.Lists.{flat}
use Rattle.sheet_rows.specs.Print.{id_row, data_rows, binding_rows, default_rows, route_row, association_row, any_instance_rows, proto_rows, document_rows}
use Rattle.sheet_rows.specs.Print
use Rattle.ast.specs.Ids.{data_ids, option_ids, binding_ids}
use Rattle.expansion_definition.specs.Outputs.{sum_of, field_row_count, interface_row_count, instance_row_count, content_rows, node_row_count, extern_row_count, row_count}

-- the rows of each of a list
each_count : {A : Type 0} (f : A → List Row) (g : A → ℕ) → ((x : A) → length (f x) ≡ g x) → (l : List A) → length (flat f l) ≡ sum_of g l
each_count f g h [] = refl
each_count f g h (x ∷ l) = omega (arith, length-append (f x) (flat f l), h x, each_count f g h l)

-- The rows below a field's or an interface's own, of its ids; a field, an interface, a record, a node, an extern.
data_count : (d : FieldData) → length (data_rows d) ≡ length (data_ids d)
data_count (FieldData.Payload p) = refl
data_count (FieldData.Nodes l) = length-map l id_row

field_count : (x : Field) → length (Print.field_rows x) ≡ field_row_count x
field_count x = go x.binding
  where
    go : (b : FieldBinding) → length (binding_rows x b) ≡ suc (length (binding_ids b))
    go (FieldBinding.Value v) = omega (arith, data_count v.«data»)
    go (FieldBinding.Is t) = refl

interface_count : (x : InterfaceDecl) → length (Print.interface_rows x) ≡ interface_row_count x
interface_count x = go x.value
  where
    go : (v : Option FieldValue) → length (default_rows x v) ≡ suc (length (option_ids v))
    go none = refl
    go (some v) = omega (arith, data_count v.«data»)

instance_count : (o : Option ProtoInstance) → length (any_instance_rows o) ≡ instance_row_count o
instance_count none = refl
instance_count (some x) =
    omega (arith, length-append (map id_row x.extra_roots ++ map route_row x.routes) (map association_row x.is_map), length-append (map id_row x.extra_roots) (map route_row x.routes), length-map x.extra_roots id_row, length-map x.routes route_row, length-map x.is_map association_row)

node_count_lem : (x : Node) → length (Print.node_rows x) ≡ node_row_count x
unfolding content_rows
node_count_lem x =
    simp (length-append, length-map) (omega (arith, each_count Print.field_rows field_row_count field_count x.fields, each_count Print.interface_rows interface_row_count interface_count x.interface, instance_count x.instance))

extern_count : (x : ExternProtoDecl) → length (Print.extern_proto_rows x) ≡ extern_row_count x
extern_count x = simp (length-append, length-map) (omega (arith, each_count Print.interface_rows interface_row_count interface_count x.interface))

-- The rows of a document without PROTO.
pub rows_count : (D : Document) → D.protos ≡ [] → length (document_rows D) ≡ row_count D
unfolding document_rows
rows_count D e =
    simp (length-append, length-map) (omega (arith, ap (λ (p : List ProtoDecl). length (flat proto_rows p)) e, each_count Print.node_rows node_row_count node_count_lem D.nodes, each_count Print.extern_proto_rows extern_row_count extern_count D.extern_protos))
