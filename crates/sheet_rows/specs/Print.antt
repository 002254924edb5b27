-- The rows that a document is written in: the grammar of sheets, read the other way (document 01, Sheets).
use Rattle.std.specs.Prelude.{Bool, true, false, List, [], ◌∷◌, ◌++◌, map, ℕ, length}
use Rattle.std.proofs.Math.Option.{Option, none, some}
use Rattle.ast.specs.Ast.{FieldData, FieldValue, FieldBinding, Field, InterfaceDecl, Route, Statement, NodeOrigin, BodyElement, Association, ProtoInstance, Node, ProtoDecl, Url, ExternProtoDecl, Document, File}
use Rattle.sheet_rows.specs.declared.row.Row.{Row}
use Rattle.sheet_rows.specs.Rows.{none#}
use Rattle.ast.specs.Lists.{flat}

abbrev pub row : ℕ → ℕ → ℕ → ℕ → ℕ → ℕ → ℕ → ℕ → Row
row k a b c d e f g = record { kind = k; a = a; b = b; c = c; d = d; e = e; f = f; g = g }

abbrev pub or_none : Option ℕ → ℕ
or_none none = none#
or_none (some n) = n

abbrev pub id_row : ℕ → Row
id_row i = row 9 i 0 0 0 0 0 0

-- class: 1 payload, 2 nodes; then the payload number, or the count of id rows that follow
abbrev pub class : FieldData → ℕ
class (FieldData.Payload p) = 1
class (FieldData.Nodes l) = 2

abbrev pub amount : FieldData → ℕ
amount (FieldData.Payload p) = p
amount (FieldData.Nodes l) = length l

abbrev pub data_rows : FieldData → List Row
data_rows (FieldData.Payload p) = []
data_rows (FieldData.Nodes l) = map id_row l

abbrev pub binding_rows : Field → FieldBinding → List Row
binding_rows x (FieldBinding.Value v) =
    row 3 x.name 0 0 x.inferred v.ty (class v.«data») (amount v.«data») ∷ data_rows v.«data»
binding_rows x (FieldBinding.Is t) = row 3 x.name 1 t x.inferred 0 0 0 ∷ []

abbrev pub field_rows : Field → List Row
field_rows x = binding_rows x x.binding

abbrev pub default_rows : InterfaceDecl → Option FieldValue → List Row
default_rows x none = row 4 x.access x.field_type x.name (or_none x.is) 0 0 0 ∷ []
default_rows x (some v) =
    row 4 x.access x.field_type x.name (or_none x.is) v.ty (class v.«data») (amount v.«data») ∷ data_rows v.«data»

abbrev pub interface_rows : InterfaceDecl → List Row
interface_rows x = default_rows x x.value

abbrev pub route_row : Route → Row
route_row x = row 5 3 x.from_node x.from_field x.to_node x.to_field (or_none x.from_id) (or_none x.to_id)

abbrev pub statement_row : Statement → Row
statement_row (Statement.Node i) = row 5 0 i 0 0 0 0 0
statement_row (Statement.Proto i) = row 5 1 i 0 0 0 0 0
statement_row (Statement.ExternProto i) = row 5 2 i 0 0 0 0 0
statement_row (Statement.Route x) = route_row x
statement_row (Statement.Other p) = row 5 4 p 0 0 0 0 0

abbrev pub body_element_row : BodyElement → Row
body_element_row BodyElement.Field = row 6 0 0 0 0 0 0 0
body_element_row BodyElement.Interface = row 6 1 0 0 0 0 0 0
body_element_row BodyElement.Statement = row 6 2 0 0 0 0 0 0

abbrev pub association_row : Association → Row
association_row x = row 14 x.interface x.node x.field 0 0 0 0

abbrev pub instance_rows : ProtoInstance → List Row
instance_rows x =
    row 13 x.proto_name (length x.extra_roots) (length x.routes) (length x.is_map) 0 0 0 ∷
    map id_row x.extra_roots ++ map route_row x.routes ++ map association_row x.is_map

abbrev pub any_instance_rows : Option ProtoInstance → List Row
any_instance_rows none = []
any_instance_rows (some x) = instance_rows x

abbrev pub node_row : ℕ → Option ℕ → NodeOrigin → Row
node_row t n NodeOrigin.Builtin = row 2 t (or_none n) 0 0 0 0 0
node_row t n (NodeOrigin.Proto i) = row 2 t (or_none n) 1 i 0 0 0
node_row t n (NodeOrigin.ExternProto i) = row 2 t (or_none n) 2 i 0 0 0
node_row t n NodeOrigin.Unknown = row 2 t (or_none n) 3 0 0 0 0

abbrev pub node_rows : Node → List Row
node_rows x =
    node_row x.type_name x.def_name x.origin ∷
    flat field_rows x.fields ++ (flat interface_rows x.interface ++ (map statement_row x.statements ++ (map body_element_row x.body_order ++ any_instance_rows x.instance)))

abbrev pub proto_rows : ProtoDecl → List Row
proto_rows x = row 7 x.name 0 0 0 0 0 0 ∷ flat interface_rows x.interface ++ map statement_row x.body

-- "In the output, that url row has c = 1 and every other url row c = 0." (document 02, wish 1)
abbrev pub mark : Bool → ℕ
mark true = 1
mark false = 0

abbrev pub url_row : Url → Row
url_row x = row 10 x.base (or_none x.fragment) (mark x.used) 0 0 0 0

abbrev pub extern_proto_rows : ExternProtoDecl → List Row
extern_proto_rows x = row 8 x.name 0 0 0 0 0 0 ∷ flat interface_rows x.interface ++ map url_row x.urls

abbrev pub top_row : Row
top_row = row 11 0 0 0 0 0 0 0

unfoldable pub document_rows : Document → List Row
document_rows x =
    row 1 x.header 0 0 0 0 0 0 ∷
    flat node_rows x.nodes ++ (flat proto_rows x.protos ++ (flat extern_proto_rows x.extern_protos ++ (top_row ∷ map statement_row x.statements)))

abbrev pub file_rows : File → List Row
file_rows x = row 12 x.base 0 0 0 0 0 0 ∷ document_rows x.document

unfoldable pub library_rows : List File → List Row
library_rows l = flat file_rows l

unfoldable pub documents_rows : List Document → List Row
documents_rows l = flat document_rows l

unfoldable pub protos_rows : List ProtoDecl → List Row
protos_rows l = flat proto_rows l
