-- How the records of the journal are read as parts of the expansion's state.
-- A handle is the place of a list's last record with one added, 0 for an empty list; word 8 of a record is the one before it.
-- What is read by `fixed_word` never changes; what is read by `cell` may: a node's contents, and a route's remapped ends.
use Rattle.std.specs.Prelude.{List, [], ◌∷◌, ◌++◌, ℕ, drop, eqb, ltb}
use Rattle.std.proofs.Math.Option.{Option, none, some}
use Rattle.ast.specs.Ast.{FieldData, FieldValue, FieldBinding, Field, InterfaceDecl, Route, Statement, BodyElement, Association, ProtoInstance, Node, ExternProtoDecl}
use Rattle.ast.specs.Choice.{choose}
use Rattle.sheet_rows.specs.Rows.{rows}
use Rattle.sheet_rows.specs.Parse.{optional, statement_of, body_element_of, origin_of, extern_proto_of}
use Rattle.sheet_rows.specs.Print.{row}
use Rattle.sheet_lookup.specs.Lookup.{sheet_of}
use Rattle.pick_definition.specs.Picks.{Prototype}
use Rattle.pick_definition.specs.Mark.{url_by}
use Rattle.expansion_definition.specs.Scopes.{Scope}
use Rattle.expansion_definition.specs.State.{Entry, ExternEntry, State}
use Rattle.expansion_definition.specs.Values.{Values}
use Rattle.expansion_definition.specs.Externs.{declared}
use Rattle.expansion_definition.specs.Instances.{Body}
use Rattle.journal_records.specs.declared.Record.{Record}
use Rattle.journal_records.specs.Records.{tag_map, tag_extern, tag_node, tag_scope, tag_root, tag_route, tag_association, cell, stays}
use Rattle.journal_records.specs.Logs.{scan, rev_onto, log_up, log_down, only, count_below}
use Rattle.journal_lists.specs.Owned.{tagged, owned_log}

-- ---- words and lists

-- Below, `word` is what reads a record's words: `fixed_word w r` for the state, `cell w r` for a record as it stands.

-- word j of record r where it never changes; 0 where it may
unfoldable pub fixed_word : List ℕ → ℕ → ℕ → ℕ
fixed_word w r j = choose (ltb j (stays (cell w r 0))) (cell w r j) 0

-- the list whose last record is h, newest first; only records below top are looked at
abbrev pub back : {A : Type 0} → (ℕ → A) → List ℕ → ℕ → ℕ → List A
back d w top h = scan d (λ r. fixed_word w r 8) top h

-- and oldest first
abbrev pub chain : {A : Type 0} → (ℕ → A) → List ℕ → ℕ → ℕ → List A
chain d w top h = rev_onto (back d w top h) []

-- ---- values: word 1 of an id is the id

abbrev pub ids_in : List ℕ → ℕ → ℕ → List ℕ
ids_in w top h = chain (λ r. fixed_word w r 1) w top h

unfoldable pub ids_at : List ℕ → ℕ → List ℕ
ids_at w h = ids_in w h h

abbrev pub value_by : ℕ → ℕ → ℕ → List ℕ → FieldValue
value_by ty class g ids = record { ty = ty; «data» = choose (eqb class 2) (FieldData.Nodes ids) (FieldData.Payload g) }

-- a type tag, a class, and a payload or the handle of ids
abbrev pub value_at : List ℕ → ℕ → ℕ → ℕ → FieldValue
value_at w ty class g = value_by ty class g (ids_at w g)

-- the value of a field, an interface or a stored value: words 5 to 7
abbrev pub value_from : (ℕ → ℕ) → List ℕ → FieldValue
value_from word ids = value_by (word 5) (word 6) (word 7) ids

abbrev pub value_rec : List ℕ → ℕ → FieldValue
value_rec w r = value_from (fixed_word w r) (ids_in w r (fixed_word w r 7))

-- and of a record that is not written yet
abbrev pub value_new : List ℕ → Record → FieldValue
value_new w r = value_at w r.e r.f r.g

-- ---- the contents of a node

-- a field: name, IS or not, IS target, inferred, value
abbrev pub field_by : ℕ → ℕ → ℕ → ℕ → FieldValue → Field
field_by name bound target inferred v = record { name = name; binding = choose (eqb bound 1) (FieldBinding.Is target) (FieldBinding.Value v); inferred = inferred }

abbrev pub field_from : (ℕ → ℕ) → FieldValue → Field
field_from word v = field_by (word 1) (word 2) (word 3) (word 4) v

abbrev pub field_rec : List ℕ → ℕ → Field
field_rec w r = field_from (fixed_word w r) (value_rec w r)

abbrev pub field_new : List ℕ → Record → Field
field_new w r = field_by r.a r.b r.c r.d (value_new w r)

-- an interface: access, type tag, name, IS target or none, value
abbrev pub interface_by : ℕ → ℕ → ℕ → ℕ → ℕ → FieldValue → InterfaceDecl
interface_by access ty name target class v = record { access = access; field_type = ty; name = name; value = choose (eqb class 0) none (some v); is = optional target }

abbrev pub interface_from : (ℕ → ℕ) → FieldValue → InterfaceDecl
interface_from word v = interface_by (word 1) (word 2) (word 3) (word 4) (word 6) v

abbrev pub interface_rec : List ℕ → ℕ → InterfaceDecl
interface_rec w r = interface_from (fixed_word w r) (value_rec w r)

abbrev pub interface_new : List ℕ → Record → InterfaceDecl
interface_new w r = interface_by r.a r.b r.c r.d r.f (value_new w r)

-- a statement: the columns of its row
abbrev pub statement_from : (ℕ → ℕ) → Statement
statement_from word = statement_of (row 5 (word 1) (word 2) (word 3) (word 4) (word 5) (word 6) (word 7) ∷ [])

abbrev pub statement_rec : List ℕ → ℕ → Statement
statement_rec w r = statement_from (fixed_word w r)

abbrev pub statement_new : Record → Statement
statement_new r = statement_of (row 5 r.a r.b r.c r.d r.e r.f r.g ∷ [])

abbrev pub order_from : (ℕ → ℕ) → BodyElement
order_from word = body_element_of (row 6 (word 1) 0 0 0 0 0 0 ∷ [])

abbrev pub order_rec : List ℕ → ℕ → BodyElement
order_rec w r = order_from (fixed_word w r)

abbrev pub order_new : Record → BodyElement
order_new r = body_element_of (row 6 r.a 0 0 0 0 0 0 ∷ [])

unfoldable pub fields_at : List ℕ → ℕ → List Field
fields_at w h = chain (field_rec w) w h h

unfoldable pub interfaces_at : List ℕ → ℕ → List InterfaceDecl
interfaces_at w h = chain (interface_rec w) w h h

unfoldable pub statements_at : List ℕ → ℕ → List Statement
statements_at w h = chain (statement_rec w) w h h

unfoldable pub order_at : List ℕ → ℕ → List BodyElement
order_at w h = chain (order_rec w) w h h

-- ---- the values of an instance's interfaces, newest first: name, value

abbrev pub stored_rec : List ℕ → ℕ → ℕ × FieldValue
stored_rec w r = (fixed_word w r 2, value_rec w r)

abbrev pub stored_new : List ℕ → Record → ℕ × FieldValue
stored_new w r = (r.b, value_new w r)

unfoldable pub values_at : List ℕ → ℕ → Values
values_at w h = back (stored_rec w) w h h

-- ---- a scope's own lists: word 1 is the scope

-- an extra root: word 2
abbrev pub root_rec : List ℕ → ℕ → ℕ
root_rec w r = fixed_word w r 2

-- a route: names in words 2 to 5; its ends as they stand in the body in words 6 and 7, remapped in words 10 and 11
abbrev pub route_from : (ℕ → ℕ) → ℕ → ℕ → Route
route_from word from to = record { from_node = word 2; from_field = word 3; to_node = word 4; to_field = word 5; from_id = optional from; to_id = optional to }

abbrev pub route_by : List ℕ → ℕ → ℕ → ℕ → Route
route_by w r from to = route_from (fixed_word w r) from to

abbrev pub body_route_rec : List ℕ → ℕ → Route
body_route_rec w r = route_by w r (fixed_word w r 6) (fixed_word w r 7)

abbrev pub route_rec : List ℕ → ℕ → Route
route_rec w r = route_by w r (cell w r 10) (cell w r 11)

abbrev pub route_new : Record → Route
route_new r = record { from_node = r.b; from_field = r.c; to_node = r.d; to_field = r.e; from_id = optional r.f; to_id = optional r.g }

abbrev pub association_from : (ℕ → ℕ) → Association
association_from word = record { interface = word 2; node = word 3; field = word 4 }

abbrev pub association_rec : List ℕ → ℕ → Association
association_rec w r = association_from (fixed_word w r)

-- ---- instances: scope, name; word 8 the one nested in it. Its lists are its scope's, below it

pub record InstanceRead : Type 0 where
  pub name : ℕ
  pub extra_roots : List ℕ
  pub routes : List Route
  pub is_map : List Association

abbrev pub instance_rec : List ℕ → ℕ → InstanceRead
instance_rec w r =
    record { name = fixed_word w r 2; extra_roots = owned_log (root_rec w) w tag_root (fixed_word w r 1) r; routes = owned_log (route_rec w) w tag_route (fixed_word w r 1) r; is_map = owned_log (association_rec w) w tag_association (fixed_word w r 1) r }

-- "Name and associations are the outer's; a nested instance's roots and routes follow the outer's.": outermost first
unfoldable pub merged_roots : List InstanceRead → List ℕ
merged_roots [] = []
merged_roots (x ∷ l) = x.extra_roots ++ merged_roots l

unfoldable pub merged_routes : List InstanceRead → List Route
merged_routes [] = []
merged_routes (x ∷ l) = x.routes ++ merged_routes l

unfoldable pub merged : List InstanceRead → Option ProtoInstance
merged [] = none
merged (x ∷ l) = some (record { proto_name = x.name; extra_roots = x.extra_roots ++ merged_roots l; routes = x.routes ++ merged_routes l; is_map = x.is_map })

unfoldable pub instances_at : List ℕ → ℕ → List InstanceRead
instances_at w h = back (instance_rec w) w h h

abbrev pub instance_at : List ℕ → ℕ → Option ProtoInstance
instance_at w h = merged (instances_at w h)

-- ---- nodes: type name, DEF name or none, origin, its id; handles of fields, interfaces, statements, body order, instance

unfoldable pub node_by : List ℕ → ℕ → ℕ → ℕ → ℕ → ℕ → ℕ → ℕ → ℕ → ℕ → Node
node_by w ty def kind id fields interface statements order instance =
    record {
      type_name = ty;
      def_name = optional def;
      origin = origin_of (row 2 0 0 kind id 0 0 0 ∷ []);
      fields = fields_at w fields;
      interface = interfaces_at w interface;
      statements = statements_at w statements;
      body_order = order_at w order;
      instance = instance_at w instance;
    }

abbrev pub node_rec : List ℕ → ℕ → Node
node_rec w r = node_by w (cell w r 3) (cell w r 4) (cell w r 5) (cell w r 6) (cell w r 7) (cell w r 8) (cell w r 9) (cell w r 10) (cell w r 11)

-- ---- scopes: kind, document, PROTO id, interface index, opening scope

abbrev pub scope_by : ℕ → ℕ → ℕ → ℕ → ℕ → Scope
scope_by kind document proto index opener =
    let p : Prototype = record { document = document; proto = proto } in
    choose (eqb kind 0) Scope.Root (choose (eqb kind 1) (Scope.Body p opener) (Scope.Default p index opener))

abbrev pub scope_rec : List ℕ → ℕ → Scope
scope_rec w r = scope_by (fixed_word w r 1) (fixed_word w r 2) (fixed_word w r 3) (fixed_word w r 4) (fixed_word w r 5)

-- ---- externs: document, id, its id in the output, the row that declares it, its slot, the mark of the url that was taken

abbrev pub extern_by : List ℕ → List ℕ → ℕ → ℕ → ℕ → ExternProtoDecl
extern_by root library document at mark = declared (url_by mark) (extern_proto_of (drop at (rows (sheet_of root library document))))

abbrev pub extern_rec : List ℕ → List ℕ → List ℕ → ℕ → ExternProtoDecl
extern_rec root library w r = extern_by root library (fixed_word w r 1) (fixed_word w r 4) (fixed_word w r 6)

-- ---- the state that the first c records stand for

abbrev pub entry_rec : List ℕ → ℕ → Entry
entry_rec w r = record { scope = fixed_word w r 5; id = fixed_word w r 2; out = fixed_word w r 3 }

abbrev pub ledger_rec : List ℕ → ℕ → ℕ × ℕ
ledger_rec w r = (fixed_word w r 1, fixed_word w r 2)

abbrev pub extern_entry_rec : List ℕ → ℕ → ExternEntry
extern_entry_rec w r = record { document = fixed_word w r 1; id = fixed_word w r 2; out = fixed_word w r 3 }

abbrev pub is_rec : List ℕ → ℕ → ℕ × Association
is_rec w r = (fixed_word w r 1, association_rec w r)

unfoldable pub map_of : List ℕ → ℕ → List Entry
map_of w c = log_down (only (tagged w tag_map) (entry_rec w)) c

unfoldable pub ledger_of : List ℕ → ℕ → List (ℕ × ℕ)
ledger_of w c = log_up (only (tagged w tag_node) (ledger_rec w)) c

unfoldable pub scopes_of : List ℕ → ℕ → List Scope
scopes_of w c = log_up (only (tagged w tag_scope) (scope_rec w)) c

unfoldable pub nodes_of : List ℕ → ℕ → List Node
nodes_of w c = log_up (only (tagged w tag_node) (node_rec w)) c

unfoldable pub externs_of : List ℕ → List ℕ → List ℕ → ℕ → List ExternProtoDecl
externs_of root library w c = log_up (only (tagged w tag_extern) (extern_rec root library w)) c

unfoldable pub extern_map_of : List ℕ → ℕ → List ExternEntry
extern_map_of w c = log_down (only (tagged w tag_extern) (extern_entry_rec w)) c

unfoldable pub is_map_of : List ℕ → ℕ → List (ℕ × Association)
is_map_of w c = log_up (only (tagged w tag_association) (is_rec w)) c

abbrev pub state_of : List ℕ → List ℕ → List ℕ → ℕ → State
state_of root library w c =
    record {
      world = record { map = map_of w c; ledger = ledger_of w c; scopes = scopes_of w c };
      nodes = nodes_of w c;
      extern_protos = externs_of root library w c;
      extern_map = extern_map_of w c;
      is_map = is_map_of w c;
      charges = c;
    }

-- how many there are of a tag
abbrev pub below : List ℕ → ℕ → ℕ → ℕ
below w t c = count_below (tagged w t) c

-- what the body of scope n has given so far: its root, if any, and its own lists; place 0 is no root
abbrev pub body_of : List ℕ → ℕ → ℕ → ℕ → ℕ → Body
body_of w c n out place =
    record { root = choose (eqb place 0) none (some out); extra_roots = owned_log (root_rec w) w tag_root n c; routes = owned_log (body_route_rec w) w tag_route n c }
