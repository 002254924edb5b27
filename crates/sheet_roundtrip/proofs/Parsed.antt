-- What is printed is parsed back: each element, and each list of elements.
use mathlib.Core.Path.{◌≡◌, refl, ap, ◌∙◌}
use mathlib.Core.List.{List, [], ◌∷◌, ◌++◌, map, append_assoc, append-nil}
use mathlib.Core.Option.{Option, none, some}
use mathlib.Core.Bool.{Bool, true, false}
use Prim.Native.Nat.{ℕ}
use lib.ListN.{length}
use lib.Dec.{eqb}
use borrow.Author.Tests.{ne_eqb}
use Rattle.sheet_rows.specs.declared.row.Row.{Row}
use Rattle.sheet_rows.specs.declared.part.Part.{Part}
use Rattle.sheet_rows.specs.declared.part.Part.TheVariants.{Files, Documents, Nodes, Protos, Externs, Tops, Fields, Interfaces, Statements, BodyOrder, Instances, Ids, Routes, Associations, Urls}
use Rattle.ast.specs.Ast.{FieldData, FieldValue, FieldBinding, Field, InterfaceDecl, Route, Statement, NodeOrigin, BodyElement, ProtoInstance, Node, ProtoDecl, ExternProtoDecl, Document, File}
use Rattle.ast.specs.Choice.{choose, first}
use Rattle.sheet_rows.specs.Rows.{none#, front, rest}
use Rattle.sheet_rows.specs.Parse.{elements, optional, ids_of, value_of, field_of, interface_of, route_of, statement_of, body_element_of, origin_of, association_of, instance_of, fields_of, interfaces_of, statements_of, node_of, proto_of, url_of, extern_proto_of, after_top, document_of, file_of, files_of, documents_of, protos_of}
use Rattle.ast.specs.Lists.{flat}
use Rattle.sheet_rows.specs.Print.{row, or_none, id_row, class, amount, data_rows, binding_rows, field_rows, default_rows, interface_rows, route_row, statement_row, body_element_row, association_row, instance_rows, any_instance_rows, node_row, node_rows, proto_rows, mark, url_row, extern_proto_rows, top_row, document_rows, file_rows, library_rows, documents_rows, protos_rows}
use Rattle.ast.specs.Each.{Each}
use Rattle.sheet_roundtrip.specs.Ranges.{IsPresent, InterfaceInRange, RouteInRange, StatementInRange, InstanceInRange, AnyInstanceInRange, NodeInRange, ProtoInRange, UrlInRange, ExternInterfaceInRange, ExternProtoInRange, InRange, FileInRange}
use Rattle.sheet_roundtrip.proofs.Tests.{or_i}
use Rattle.sheet_roundtrip.proofs.Steps.{Sure, all}
use Rattle.sheet_roundtrip.proofs.Scan.{Among, Follows, Heads, among_in, ended, Listed, kinds, Run, run_of, chain, chain_passed, alone_among, found_in, one, rows_map}

-- a number that may be none is read back
optional_parsed : (n : Option ℕ) → IsPresent n → optional (or_none n) ≡ n
optional_parsed none h = refl
optional_parsed (some n) h = rw (ne_eqb n none# h)

-- what follows a node: a node, a proto, an extern or row 11
abbrev after_node : List ℕ
after_node = 2 ∷ 7 ∷ 8 ∷ 11 ∷ []

-- what follows a field or an interface with its ids: any row but an id
abbrev after_value : List ℕ
after_value = 3 ∷ 4 ∷ 5 ∷ 6 ∷ 10 ∷ 13 ∷ after_node

-- what follows a single row: any row
abbrev any_kind : List ℕ
any_kind = 1 ∷ 9 ∷ 12 ∷ 14 ∷ after_value

-- ---- single rows

-- ids are parsed back
ids_listed : Listed Ids [] any_kind (one id_row) (λ x. (front x).a) (λ i. Sure)
ids_listed = record { heads = λ x. (refl, tt); others = refl; again = refl; back = λ x l f h. refl }

-- the ids in front are found, as many as there are
pub ids_parsed : (xs : List ℕ) (l : List Row) → Follows after_value l → ids_of (map id_row xs ++ l) ≡ xs
unfolding ids_of
ids_parsed xs l h = rw (rows_map id_row xs) (found_in [] ids_listed xs [] after_value l refl refl refl (all (λ i. tt) xs) h)

-- a route is parsed back
route_parsed : (x : Route) (l : List Row) → RouteInRange x → route_of (route_row x ∷ l) ≡ x
unfolding route_of
route_parsed x l f i = record { from_node = x.from_node; from_field = x.from_field; to_node = x.to_node; to_field = x.to_field; from_id = optional_parsed x.from_id f.from_id i; to_id = optional_parsed x.to_id f.to_id i }

-- and so an instance's routes
routes_listed : Listed Routes [] any_kind (one route_row) route_of RouteInRange
routes_listed = record { heads = λ x. (refl, tt); others = refl; again = refl; back = λ x l f h. route_parsed x l f }

-- an instance's associations are parsed back
associations_listed : Listed Associations [] any_kind (one association_row) association_of (λ x. Sure)
unfolding association_of
associations_listed = record { heads = λ x. (refl, tt); others = refl; again = refl; back = λ x l f h. refl }

-- a statement is parsed back
statement_parsed : (x : Statement) (l : List Row) → StatementInRange x → statement_of (statement_row x ∷ l) ≡ x
unfolding statement_of
statement_parsed (Statement.Node i) l f = refl
statement_parsed (Statement.Proto i) l f = refl
statement_parsed (Statement.ExternProto i) l f = refl
statement_parsed (Statement.Route x) l f = ap Statement.Route (route_parsed x l f)
statement_parsed (Statement.Other p) l f = refl

-- its row is of kind 5
statement_heads : (x : Statement) → Heads 5 [] (statement_row x ∷ [])
statement_heads (Statement.Node i) = (refl, tt)
statement_heads (Statement.Proto i) = (refl, tt)
statement_heads (Statement.ExternProto i) = (refl, tt)
statement_heads (Statement.Route x) = (refl, tt)
statement_heads (Statement.Other n) = (refl, tt)

-- and so statements
statements_listed : Listed Statements [] any_kind (one statement_row) statement_of StatementInRange
statements_listed = record { heads = statement_heads; others = refl; again = refl; back = λ x l f h. statement_parsed x l f }

-- a mark of body order is parsed back
order_parsed : (x : BodyElement) (l : List Row) → body_element_of (body_element_row x ∷ l) ≡ x
unfolding body_element_of
order_parsed BodyElement.Field l = refl
order_parsed BodyElement.Interface l = refl
order_parsed BodyElement.Statement l = refl

-- its row is of kind 6
order_heads : (x : BodyElement) → Heads 6 [] (body_element_row x ∷ [])
order_heads BodyElement.Field = (refl, tt)
order_heads BodyElement.Interface = (refl, tt)
order_heads BodyElement.Statement = (refl, tt)

-- and so body order
order_listed : Listed BodyOrder [] any_kind (one body_element_row) body_element_of (λ x. Sure)
order_listed = record { heads = order_heads; others = refl; again = refl; back = λ x l f h. order_parsed x l }

-- urls are parsed back
mark_parsed : (u : Bool) → eqb (mark u) 1 ≡ u
mark_parsed true = refl
mark_parsed false = refl

urls_listed : (m : Bool) → Listed Urls [] any_kind (one url_row) url_of (UrlInRange m)
unfolding url_of
urls_listed m = record { heads = λ x. (refl, tt); others = refl; again = refl; back = λ x l f h i. record { base = x.base; fragment = optional_parsed x.fragment f.fragment i; used = mark_parsed x.used i } }

-- ---- fields, interfaces: a row, and the ids of its value

-- what a value holds is parsed back
data_parsed : (d : FieldData) (l : List Row) → Follows after_value l → choose (eqb (class d) 2) (FieldData.Nodes (ids_of (data_rows d ++ l))) (FieldData.Payload (amount d)) ≡ d
data_parsed (FieldData.Payload p) l h = refl
data_parsed (FieldData.Nodes xs) l h = ap FieldData.Nodes (ids_parsed xs l h)

-- its rows are ids
data_kinds : (d : FieldData) → Among (9 ∷ []) (data_rows d)
data_kinds (FieldData.Payload p) = tt
data_kinds (FieldData.Nodes xs) = rw (rows_map id_row xs) (kinds ids_listed xs)

-- a field is parsed back
field_parsed : (x : Field) (l : List Row) → Follows after_value l → field_of (field_rows x ++ l) ≡ x
unfolding field_of
field_parsed x l h = go x.binding
  where
    go : (b : FieldBinding) → field_of (binding_rows x b ++ l) ≡ record { name = x.name; binding = b; inferred = x.inferred }
    go (FieldBinding.Value v) = λ i. record { name = x.name; binding = FieldBinding.Value (record { ty = v.ty; «data» = data_parsed v.«data» l h i }); inferred = x.inferred }
    go (FieldBinding.Is t) = refl

-- its row is of kind 3, the others are ids
field_heads : (x : Field) → Heads 3 (9 ∷ []) (field_rows x)
field_heads x = go x.binding
  where
    go : (b : FieldBinding) → Heads 3 (9 ∷ []) (binding_rows x b)
    go (FieldBinding.Value v) = (refl, data_kinds v.«data»)
    go (FieldBinding.Is t) = (refl, tt)

-- and so fields
fields_listed : Listed Fields (9 ∷ []) after_value field_rows field_of (λ x. Sure)
fields_listed = record { heads = field_heads; others = refl; again = refl; back = λ x l f h. field_parsed x l h }

-- an interface is parsed back
interface_parsed : (x : InterfaceDecl) (l : List Row) → IsPresent x.is → Follows after_value l → interface_of (interface_rows x ++ l) ≡ x
unfolding interface_of
interface_parsed x l f h = go x.value
  where
    class_back : (d : FieldData) (w : FieldValue) → choose (eqb (class d) 0) none (some w) ≡ some w
    class_back (FieldData.Payload p) w = refl
    class_back (FieldData.Nodes p) w = refl

    go : (w : Option FieldValue) → interface_of (default_rows x w ++ l) ≡ record { access = x.access; field_type = x.field_type; name = x.name; value = w; is = x.is }
    go none = λ i. record { access = x.access; field_type = x.field_type; name = x.name; value = none; is = optional_parsed x.is f i }
    go (some v) = λ i.
        record {
          access = x.access;
          field_type = x.field_type;
          name = x.name;
          value = (class_back v.«data» (value_of (default_rows x (some v) ++ l)) ∙ ap (λ (d : FieldData). some (record { ty = v.ty; «data» = d })) (data_parsed v.«data» l h)) i;
          is = optional_parsed x.is f i;
        }

-- its row is of kind 4, the others are ids
interface_heads : (x : InterfaceDecl) → Heads 4 (9 ∷ []) (interface_rows x)
interface_heads x = go x.value
  where
    go : (w : Option FieldValue) → Heads 4 (9 ∷ []) (default_rows x w)
    go none = (refl, tt)
    go (some v) = (refl, data_kinds v.«data»)

-- and so interfaces
interfaces_listed : Listed Interfaces (9 ∷ []) after_value interface_rows interface_of (λ x. IsPresent x.is)
interfaces_listed = record { heads = interface_heads; others = refl; again = refl; back = interface_parsed }

-- what holds of each, in other words
each_as : {A : Type 0} (P Q : A → Type 0) → ((x : A) → P x → Q x) → (l : List A) → Each P l → Each Q l
each_as P Q f [] h = tt
each_as P Q f (x ∷ l) h = (f x h.0, each_as P Q f l h.1)

-- the IS of an interface in range is not none
interfaces_fine : (xs : List InterfaceDecl) → Each InterfaceInRange xs → Each (λ y. IsPresent y.is) xs
interfaces_fine = each_as InterfaceInRange (λ y. IsPresent y.is) (λ y r. r.is)

-- ---- an instance: its row, then ids, routes and associations

module _ (x : ProtoInstance) where
  -- its lists
  abbrev ids_run : Run
  ids_run = run_of ids_listed x.extra_roots

  abbrev routes_run : Run
  routes_run = run_of routes_listed x.routes

  abbrev associations_run : Run
  associations_run = run_of associations_listed x.is_map

  -- its rows after the first, list after list
  abbrev owed_rows : List Row → List Row
  owed_rows l = chain (ids_run ∷ routes_run ∷ associations_run ∷ []) l

  -- its print is these rows
  instance_rows_lem : (l : List Row) → ((map id_row x.extra_roots ++ map route_row x.routes) ++ map association_row x.is_map) ++ l ≡ owed_rows l
  instance_rows_lem l = rw (rows_map id_row x.extra_roots, rows_map route_row x.routes, rows_map association_row x.is_map) (simp append_assoc)

  -- each of its lists is found, so it is parsed back
  instance_parsed : (l : List Row) → InstanceInRange x → Follows after_node l → instance_of (instance_rows x ++ l) ≡ x
  unfolding instance_of ids_of
  instance_parsed l f h = ap (λ (R : List Row). instance_of (row 13 x.proto_name (length x.extra_roots) (length x.routes) (length x.is_map) 0 0 0 ∷ R)) (instance_rows_lem l) ∙ parts
    where
      ids : map (λ y. (front y).a) (elements Ids (owed_rows l)) ≡ x.extra_roots
      ids = found_in [] ids_listed x.extra_roots (routes_run ∷ associations_run ∷ []) after_node l refl refl refl (all (λ i. tt) x.extra_roots) h

      routes : map route_of (elements Routes (owed_rows l)) ≡ x.routes
      routes = found_in (ids_run ∷ []) routes_listed x.routes (associations_run ∷ []) after_node l refl refl refl f.routes h

      associations : map association_of (elements Associations (owed_rows l)) ≡ x.is_map
      associations = found_in (ids_run ∷ routes_run ∷ []) associations_listed x.is_map [] after_node l refl refl refl (all (λ i. tt) x.is_map) h

      parts : instance_of (row 13 x.proto_name (length x.extra_roots) (length x.routes) (length x.is_map) 0 0 0 ∷ owed_rows l) ≡ x
      parts i = record { proto_name = x.proto_name; extra_roots = ids i; routes = routes i; is_map = associations i }

  -- its first row is of its kind, the others are of these
  instance_heads : Heads 13 (5 ∷ 9 ∷ 14 ∷ []) (instance_rows x)
  instance_heads = (refl, alone_among (5 ∷ 9 ∷ 14 ∷ []) (ids_run ∷ routes_run ∷ associations_run ∷ []) (rest (instance_rows x)) [] refl tt (instance_rows_lem []))

-- an instance, if there is one, by its kinds
instance_begins : (x : Option ProtoInstance) (M : List ℕ) (l : List Row) → Follows M l → Follows (13 ∷ M) (any_instance_rows x ++ l)
instance_begins none M [] h = tt
instance_begins none M (r ∷ l) h = or_i (eqb r.kind 13) h
instance_begins (some x) M l h = refl

-- the kinds of its rows
instance_kinds : (x : Option ProtoInstance) → Among (13 ∷ 5 ∷ 9 ∷ 14 ∷ []) (any_instance_rows x)
instance_kinds none = tt
instance_kinds (some x) = (refl, among_in (5 ∷ 9 ∷ 14 ∷ []) (13 ∷ 5 ∷ 9 ∷ 14 ∷ []) (rest (instance_rows x)) refl (instance_heads x).1)

-- it is parsed back
instance_found : (x : Option ProtoInstance) (l : List Row) → AnyInstanceInRange x → Follows after_node l → first (map instance_of (elements Instances (any_instance_rows x ++ l))) ≡ x
unfolding elements
instance_found none l f h = ap (λ (R : List (List Row)). first (map instance_of R)) (ended Instances after_node refl l h)
instance_found (some x) l f h = ap some (instance_parsed x l f h)

-- ---- a node: its row, then five lists

-- a node's origin is parsed back
origin_parsed : (t : ℕ) (n : Option ℕ) (o : NodeOrigin) (l : List Row) → origin_of (node_row t n o ∷ l) ≡ o
unfolding origin_of
origin_parsed t n NodeOrigin.Builtin l = refl
origin_parsed t n (NodeOrigin.Proto i) l = refl
origin_parsed t n (NodeOrigin.ExternProto i) l = refl
origin_parsed t n NodeOrigin.Unknown l = refl

-- the columns of its row that do not depend on it
node_columns : (t : ℕ) (n : Option ℕ) (o : NodeOrigin) → ((node_row t n o).kind ≡ 2) × ((node_row t n o).a ≡ t) × ((node_row t n o).b ≡ or_none n)
node_columns t n NodeOrigin.Builtin = (refl, refl, refl)
node_columns t n (NodeOrigin.Proto i) = (refl, refl, refl)
node_columns t n (NodeOrigin.ExternProto i) = (refl, refl, refl)
node_columns t n NodeOrigin.Unknown = (refl, refl, refl)

-- the kinds of a node's rows after the first
abbrev node_kinds : List ℕ
node_kinds = 3 ∷ 4 ∷ 5 ∷ 6 ∷ 9 ∷ 13 ∷ 14 ∷ []

module _ (x : Node) where
  -- its lists
  abbrev F : Run
  F = run_of fields_listed x.fields

  abbrev I : Run
  I = run_of interfaces_listed x.interface

  abbrev S : Run
  S = run_of statements_listed x.statements

  abbrev O : Run
  O = run_of order_listed x.body_order

  abbrev N : Run
  N = record { rows = any_instance_rows x.instance; kind = 13; others = 5 ∷ 9 ∷ 14 ∷ []; begins = instance_begins x.instance; kinds = instance_kinds x.instance }

  -- its rows after the first, list after list
  abbrev inner_rows : List Row → List Row
  inner_rows l = chain (F ∷ I ∷ S ∷ O ∷ N ∷ []) l

  -- its print is these rows
  node_rows_lem : (l : List Row) → (flat field_rows x.fields ++ (flat interface_rows x.interface ++ (map statement_row x.statements ++ (map body_element_row x.body_order ++ any_instance_rows x.instance)))) ++ l ≡ inner_rows l
  node_rows_lem l = rw (rows_map statement_row x.statements, rows_map body_element_row x.body_order) (simp append_assoc)

  -- its first row
  abbrev head_row : Row
  head_row = node_row x.type_name x.def_name x.origin

  -- each of its lists is found, so it is parsed back
  node_parsed : (l : List Row) → NodeInRange x → Follows after_node l → node_of (node_rows x ++ l) ≡ x
  unfolding node_of fields_of interfaces_of statements_of
  node_parsed l f h = ap (λ (R : List Row). node_of (head_row ∷ R)) (node_rows_lem l) ∙ parts
    where
      columns : (head_row.kind ≡ 2) × (head_row.a ≡ x.type_name) × (head_row.b ≡ or_none x.def_name)
      columns = node_columns x.type_name x.def_name x.origin

      fields : map field_of (elements Fields (inner_rows l)) ≡ x.fields
      fields = found_in [] fields_listed x.fields (I ∷ S ∷ O ∷ N ∷ []) after_node l refl refl refl (all (λ y. tt) x.fields) h

      interfaces : map interface_of (elements Interfaces (inner_rows l)) ≡ x.interface
      interfaces = found_in (F ∷ []) interfaces_listed x.interface (S ∷ O ∷ N ∷ []) after_node l refl refl refl (interfaces_fine x.interface f.interface) h

      statements : map statement_of (elements Statements (inner_rows l)) ≡ x.statements
      statements = found_in (F ∷ I ∷ []) statements_listed x.statements (O ∷ N ∷ []) after_node l refl refl refl f.statements h

      order : map body_element_of (elements BodyOrder (inner_rows l)) ≡ x.body_order
      order = found_in (F ∷ I ∷ S ∷ []) order_listed x.body_order (N ∷ []) after_node l refl refl refl (all (λ y. tt) x.body_order) h

      instance : first (map instance_of (elements Instances (inner_rows l))) ≡ x.instance
      instance = ap (λ (R : List (List Row)). first (map instance_of R)) (chain_passed Instances (F ∷ I ∷ S ∷ O ∷ []) (any_instance_rows x.instance ++ l) refl) ∙ instance_found x.instance l f.instance h

      parts : node_of (head_row ∷ inner_rows l) ≡ x
      parts i =
          record {
            type_name = columns.1 i;
            def_name = (ap optional columns.2 ∙ optional_parsed x.def_name f.def_name) i;
            origin = origin_parsed x.type_name x.def_name x.origin (inner_rows l) i;
            fields = fields i;
            interface = interfaces i;
            statements = statements i;
            body_order = order i;
            instance = instance i;
          }

  -- its first row is of its kind, the others are of these
  node_heads : Heads 2 node_kinds (node_rows x)
  node_heads = ((node_columns x.type_name x.def_name x.origin).0, alone_among node_kinds (F ∷ I ∷ S ∷ O ∷ N ∷ []) (rest (node_rows x)) [] refl tt (node_rows_lem []))

-- and so nodes
nodes_listed : Listed Nodes node_kinds after_node node_rows node_of NodeInRange
nodes_listed = record { heads = node_heads; others = refl; again = refl; back = node_parsed }

-- ---- protos, externs: a row, interfaces, and a list of single rows

-- their rows after the first, list after list
two_rows : {A : Type 0} {u : Part} {print : A → Row} {parse : List Row → A} {Fine : A → Type 0} (L : Listed u [] any_kind (one print) parse Fine) (is : List InterfaceDecl) (xs : List A) (l : List Row) → (flat interface_rows is ++ map print xs) ++ l ≡ chain (run_of interfaces_listed is ∷ run_of L xs ∷ []) l
two_rows {print} L is xs l = rw (rows_map print xs) (simp append_assoc)

-- what follows a proto
abbrev after_proto : List ℕ
after_proto = 7 ∷ 8 ∷ 11 ∷ []

-- a proto is parsed back
proto_parsed : (x : ProtoDecl) (l : List Row) → ProtoInRange x → Follows after_proto l → proto_of (proto_rows x ++ l) ≡ x
unfolding proto_of interfaces_of statements_of
proto_parsed x l f h =
    let is = found_in [] interfaces_listed x.interface (run_of statements_listed x.body ∷ []) after_proto l refl refl refl (interfaces_fine x.interface f.interface) h in
    let body = found_in (run_of interfaces_listed x.interface ∷ []) statements_listed x.body [] after_proto l refl refl refl f.body h in
    ap (λ (R : List Row). proto_of (row 7 x.name 0 0 0 0 0 0 ∷ R)) (two_rows statements_listed x.interface x.body l) ∙ (λ i. record { name = x.name; interface = is i; body = body i })

-- and so protos
protos_listed : Listed Protos (4 ∷ 5 ∷ 9 ∷ []) after_proto proto_rows proto_of ProtoInRange
protos_listed =
    record {
      heads = λ x. (refl, alone_among (4 ∷ 5 ∷ 9 ∷ []) (run_of interfaces_listed x.interface ∷ run_of statements_listed x.body ∷ []) (rest (proto_rows x)) [] refl tt (two_rows statements_listed x.interface x.body []));
      others = refl;
      again = refl;
      back = proto_parsed;
    }

-- what follows an extern
abbrev after_extern : List ℕ
after_extern = 8 ∷ 11 ∷ []

-- an extern is parsed back
extern_parsed : (m : Bool) (x : ExternProtoDecl) (l : List Row) → ExternProtoInRange m x → Follows after_extern l → extern_proto_of (extern_proto_rows x ++ l) ≡ x
unfolding extern_proto_of interfaces_of
extern_parsed m x l f h =
    let is = found_in [] interfaces_listed x.interface (run_of (urls_listed m) x.urls ∷ []) after_extern l refl refl refl (each_as ExternInterfaceInRange (λ y. IsPresent y.is) (λ y r. r.0.is) x.interface f.interface) h in
    let urls = found_in (run_of interfaces_listed x.interface ∷ []) (urls_listed m) x.urls [] after_extern l refl refl refl f.urls h in
    ap (λ (R : List Row). extern_proto_of (row 8 x.name 0 0 0 0 0 0 ∷ R)) (two_rows (urls_listed m) x.interface x.urls l) ∙ (λ i. record { name = x.name; interface = is i; urls = urls i })

-- and so externs
externs_listed : (m : Bool) → Listed Externs (4 ∷ 9 ∷ 10 ∷ []) after_extern extern_proto_rows extern_proto_of (ExternProtoInRange m)
externs_listed m =
    record {
      heads = λ x. (refl, alone_among (4 ∷ 9 ∷ 10 ∷ []) (run_of interfaces_listed x.interface ∷ run_of (urls_listed m) x.urls ∷ []) (rest (extern_proto_rows x)) [] refl tt (two_rows (urls_listed m) x.interface x.urls []));
      others = refl;
      again = refl;
      back = extern_parsed m;
    }

-- ---- a document: its row, three lists, row 11 and its statements

-- the kinds of its rows after the first, and of all
abbrev pub part_kinds : List ℕ
part_kinds = 2 ∷ 7 ∷ 8 ∷ 10 ∷ 11 ∷ node_kinds

abbrev document_kinds : List ℕ
document_kinds = 1 ∷ part_kinds

-- what follows a document, and a file
abbrev after_file : List ℕ
after_file = 12 ∷ 1 ∷ []

module _ (m : Bool) (x : Document) where
  -- its lists
  abbrev Ns : Run
  Ns = run_of nodes_listed x.nodes

  abbrev Ps : Run
  Ps = run_of protos_listed x.protos

  abbrev Es : Run
  Es = run_of (externs_listed m) x.extern_protos

  abbrev Ts : Run
  Ts = run_of statements_listed x.statements

  -- from row 11 on
  abbrev top_rows : List Row → List Row
  top_rows l = top_row ∷ chain (Ts ∷ []) l

  -- its rows after the first, list after list
  abbrev part_rows : List Row → List Row
  part_rows l = chain (Ns ∷ Ps ∷ Es ∷ []) (top_rows l)

  -- its print is these rows
  document_rows_lem : (l : List Row) → (flat node_rows x.nodes ++ (flat proto_rows x.protos ++ (flat extern_proto_rows x.extern_protos ++ (top_row ∷ map statement_row x.statements)))) ++ l ≡ part_rows l
  document_rows_lem l = rw (rows_map statement_row x.statements) (simp append_assoc)

  -- each of its lists is found, so it is parsed back
  pub document_parsed : (l : List Row) → InRange m x → Follows after_file l → document_of (document_rows x ++ l) ≡ x
  unfolding document_of document_rows statements_of elements
  document_parsed l f h = ap (λ (R : List Row). document_of (row 1 x.header 0 0 0 0 0 0 ∷ R)) (document_rows_lem l) ∙ parts
    where
      nodes : map node_of (elements Nodes (part_rows l)) ≡ x.nodes
      nodes = found_in [] nodes_listed x.nodes (Ps ∷ Es ∷ []) (11 ∷ []) (top_rows l) refl refl refl f.nodes refl

      protos : map proto_of (elements Protos (part_rows l)) ≡ x.protos
      protos = found_in (Ns ∷ []) protos_listed x.protos (Es ∷ []) (11 ∷ []) (top_rows l) refl refl refl f.protos refl

      externs : map extern_proto_of (elements Externs (part_rows l)) ≡ x.extern_protos
      externs = found_in (Ns ∷ Ps ∷ []) (externs_listed m) x.extern_protos [] (11 ∷ []) (top_rows l) refl refl refl f.extern_protos refl

      tops : map statement_of (elements Statements (after_top (elements Tops (part_rows l)))) ≡ x.statements
      tops =
          ap (λ (R : List (List Row)). map statement_of (elements Statements (after_top R))) (chain_passed Tops (Ns ∷ Ps ∷ Es ∷ []) (top_rows l) refl) ∙
          found_in [] statements_listed x.statements [] after_file l refl refl refl f.statements h

      parts : document_of (row 1 x.header 0 0 0 0 0 0 ∷ part_rows l) ≡ x
      parts i = record { header = x.header; nodes = nodes i; protos = protos i; extern_protos = externs i; statements = tops i }

  -- its first row is of its kind, the others are of these
  pub document_heads : Heads 1 part_kinds (document_rows x)
  unfolding document_rows
  document_heads = (refl, alone_among part_kinds (Ns ∷ Ps ∷ Es ∷ []) (rest (document_rows x)) (top_rows []) refl (refl, alone_among part_kinds (Ts ∷ []) (chain (Ts ∷ []) []) [] refl tt (append-nil (chain (Ts ∷ []) []))) (document_rows_lem []))

  -- the kinds of its rows
  document_kinds_lem : Among document_kinds (document_rows x)
  unfolding document_rows
  document_kinds_lem = (refl, among_in part_kinds document_kinds (rest (document_rows x)) refl document_heads.1)

-- ---- a library

-- files are parsed back
files_listed : Listed Files document_kinds after_file file_rows file_of FileInRange
files_listed =
    record {
      heads = λ x. (refl, document_kinds_lem false x.document);
      others = refl;
      again = refl;
      back = λ x l f h i. record { base = x.base; document = document_parsed false x.document l f.document h i };
    }

-- and so a library
pub library_parsed : (L : List File) → Each FileInRange L → files_of (library_rows L) ≡ L
unfolding files_of library_rows
library_parsed L f = rw append-nil at (found_in [] files_listed L [] [] [] refl refl refl f tt)

-- ---- documents one after another, protos alone

-- documents are parsed back
documents_listed : Listed Documents part_kinds after_file document_rows document_of (InRange true)
documents_listed = record { heads = document_heads true; others = refl; again = refl; back = document_parsed true }

-- and so a sheet of them
pub documents_parsed : (L : List Document) → Each (InRange true) L → documents_of (documents_rows L) ≡ L
unfolding documents_of documents_rows
documents_parsed L f = rw append-nil at (found_in [] documents_listed L [] [] [] refl refl refl f tt)

-- and a sheet of protos
pub protos_parsed : (L : List ProtoDecl) → Each ProtoInRange L → protos_of (protos_rows L) ≡ L
unfolding protos_of protos_rows
protos_parsed L f = rw append-nil at (found_in [] protos_listed L [] [] [] refl refl refl f tt)
