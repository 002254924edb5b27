-- The document that the rows of a sheet say (document 01, Sheets).
-- Each list of the document is what one scan finds; the scan is total, and whether the sheet fits is the grammar's matter.
use Rattle.std.specs.Prelude.{List, [], ◌∷◌, map, Bool, false, ◌&&◌, ◌||◌, ℕ, get_or, leb, eqb}
use Rattle.std.proofs.Math.Option.{Option, none, some}
use Rattle.ast.specs.Ast.{FieldData, FieldValue, FieldBinding, Field, InterfaceDecl, Route, Statement, NodeOrigin, BodyElement, Association, ProtoInstance, Node, ProtoDecl, Url, ExternProtoDecl, Document, File}
use Rattle.ast.specs.Choice.{choose, first}
use Rattle.sheet_rows.specs.declared.row.Row.{Row}
use Rattle.sheet_rows.specs.declared.part.Part.{Part}
use Rattle.sheet_rows.specs.declared.part.Part.TheVariants.{Files, Documents, Nodes, Protos, Externs, Tops, Fields, Interfaces, Statements, BodyOrder, Instances, Ids, Routes, Associations, Urls}
use Rattle.sheet_rows.specs.Rows.{none#, front, rest}

-- ---- the elements of a part: the rows of its kind, from a place on, up to the first row that can neither begin one nor stand before or inside one

abbrev pub kind_of : Part → ℕ
kind_of Files = 12
kind_of Documents = 1
kind_of Nodes = 2
kind_of Protos = 7
kind_of Externs = 8
kind_of Tops = 11
kind_of Fields = 3
kind_of Interfaces = 4
kind_of Statements = 5
kind_of BodyOrder = 6
kind_of Instances = 13
kind_of Ids = 9
kind_of Routes = 5
kind_of Associations = 14
kind_of Urls = 10

-- the kinds of the rows inside a node
abbrev pub in_node : ℕ → Bool
in_node k = leb 3 k && leb k 6 || eqb k 9 || leb 13 k && leb k 14

abbrev pub passes : Part → ℕ → Bool
passes Files k = leb 1 k && leb k 14
passes Documents k = leb 1 k && leb k 14
passes Nodes k = in_node k
passes Protos k = eqb k 2 || in_node k
passes Externs k = eqb k 2 || eqb k 7 || eqb k 10 || in_node k
passes Tops k = leb 2 k && leb k 10 || leb 13 k && leb k 14
passes Fields k = eqb k 9
passes Interfaces k = eqb k 3 || eqb k 9
passes Statements k = leb 3 k && leb k 4 || eqb k 9
passes BodyOrder k = leb 3 k && leb k 5 || eqb k 9
passes Instances k = leb 3 k && leb k 6 || eqb k 9
passes Ids k = false
passes Routes k = eqb k 9
passes Associations k = eqb k 5 || eqb k 9
passes Urls k = eqb k 4 || eqb k 9

-- the places where the elements of a part begin, each with the rows from there on
unfoldable pub elements : Part → List Row → List (List Row)
elements t [] = []
elements t (r ∷ l) = choose (eqb r.kind (kind_of t)) ((r ∷ l) ∷ elements t l) (choose (passes t r.kind) (elements t l) [])

-- ---- what stands at a place: the table's columns

abbrev pub optional : ℕ → Option ℕ
optional n = choose (eqb n none#) none (some n)

unfoldable pub ids_of : List Row → List ℕ
ids_of l = map (λ x. (front x).a) (elements Ids l)

abbrev pub value_of : List Row → FieldValue
value_of l =
    record { ty = (front l).e; «data» = choose (eqb (front l).f 2) (FieldData.Nodes (ids_of (rest l))) (FieldData.Payload (front l).g) }

unfoldable pub field_of : List Row → Field
field_of l =
    record { name = (front l).a; binding = choose (eqb (front l).b 1) (FieldBinding.Is (front l).c) (FieldBinding.Value (value_of l)); inferred = (front l).d }

unfoldable pub interface_of : List Row → InterfaceDecl
interface_of l =
    record { access = (front l).a; field_type = (front l).b; name = (front l).c; value = choose (eqb (front l).f 0) none (some (value_of l)); is = optional (front l).d }

unfoldable pub route_of : List Row → Route
route_of l =
    record { from_node = (front l).b; from_field = (front l).c; to_node = (front l).d; to_field = (front l).e; from_id = optional (front l).f; to_id = optional (front l).g }

unfoldable pub statement_of : List Row → Statement
statement_of l =
    get_or
    (Statement.Node (front l).b ∷ Statement.Proto (front l).b ∷ Statement.ExternProto (front l).b ∷ Statement.Route (route_of l) ∷ [])
    (front l).a (Statement.Other (front l).b)

unfoldable pub body_element_of : List Row → BodyElement
body_element_of l = get_or (BodyElement.Field ∷ BodyElement.Interface ∷ []) (front l).a BodyElement.Statement

unfoldable pub origin_of : List Row → NodeOrigin
origin_of l =
    get_or (NodeOrigin.Builtin ∷ NodeOrigin.Proto (front l).d ∷ NodeOrigin.ExternProto (front l).d ∷ []) (front l).c NodeOrigin.Unknown

unfoldable pub association_of : List Row → Association
association_of l = record { interface = (front l).a; node = (front l).b; field = (front l).c }

unfoldable pub instance_of : List Row → ProtoInstance
instance_of l =
    record { proto_name = (front l).a; extra_roots = ids_of (rest l); routes = map route_of (elements Routes (rest l)); is_map = map association_of (elements Associations (rest l)) }

unfoldable pub fields_of : List Row → List Field
fields_of l = map field_of (elements Fields l)

unfoldable pub interfaces_of : List Row → List InterfaceDecl
interfaces_of l = map interface_of (elements Interfaces l)

unfoldable pub statements_of : List Row → List Statement
statements_of l = map statement_of (elements Statements l)

unfoldable pub node_of : List Row → Node
node_of l =
    record { type_name = (front l).a; def_name = optional (front l).b; origin = origin_of l; fields = fields_of (rest l); interface = interfaces_of (rest l); statements = statements_of (rest l); body_order = map body_element_of (elements BodyOrder (rest l)); instance = first (map instance_of (elements Instances (rest l))) }

unfoldable pub proto_of : List Row → ProtoDecl
proto_of l = record { name = (front l).a; interface = interfaces_of (rest l); body = statements_of (rest l) }

unfoldable pub url_of : List Row → Url
url_of l = record { base = (front l).a; fragment = optional (front l).b; used = eqb (front l).c 1 }

unfoldable pub extern_proto_of : List Row → ExternProtoDecl
extern_proto_of l = record { name = (front l).a; interface = interfaces_of (rest l); urls = map url_of (elements Urls (rest l)) }

-- the rows after the row of kind 11
abbrev pub after_top : List (List Row) → List Row
after_top [] = []
after_top (x ∷ l) = rest x

-- a document, from its row on
unfoldable pub document_of : List Row → Document
document_of l =
    record { header = (front l).a; nodes = map node_of (elements Nodes (rest l)); protos = map proto_of (elements Protos (rest l)); extern_protos = map extern_proto_of (elements Externs (rest l)); statements = statements_of (after_top (elements Tops (rest l))) }

-- a file, from its row on
abbrev pub file_of : List Row → File
file_of l = record { base = (front l).a; document = document_of (rest l) }

-- a library
unfoldable pub files_of : List Row → List File
files_of l = map file_of (elements Files l)

-- ---- "Documents stand one after another in one sheet" (document 02, wish 5): each begins at a row of kind 1

unfoldable pub documents_of : List Row → List Document
documents_of l = map document_of (elements Documents l)

-- the rows of each: from its row up to the next document's
unfoldable pub up_to_next : List Row → List Row
up_to_next [] = []
up_to_next (r ∷ l) = choose (eqb r.kind 1) [] (r ∷ up_to_next l)

abbrev pub own_rows : List Row → List Row
own_rows [] = []
own_rows (r ∷ l) = r ∷ up_to_next l

unfoldable pub sheets_of : List Row → List (List Row)
sheets_of l = map own_rows (elements Documents l)

-- ---- "sheets of protos as in 01, without body statements" (document 02, wish 14)

unfoldable pub protos_of : List Row → List ProtoDecl
protos_of l = map proto_of (elements Protos l)
