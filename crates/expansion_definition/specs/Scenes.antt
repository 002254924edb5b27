-- Small scenes for worked examples, and an answer in numbers.
use Rattle.std.specs.Prelude.{false, List, [], ◌∷◌, ℕ}
use Rattle.std.proofs.Math.Option.{Option, none, some}
use Rattle.ast.specs.Ast.{NodeOrigin, BodyElement, FieldData, FieldValue, FieldBinding, Field, InterfaceDecl, Route, Statement, Node, ProtoDecl, ExternProtoDecl, Url, Document}
use Rattle.ast.specs.Lookups.{node_at, proto_at, extern_proto_at}
use Rattle.pick_definition.specs.PickIn.{top_protos, first_named, pick_in}
use Rattle.pick_definition.specs.Picks.{library_file, pick_url, member, remember, pick_urls, picks_from, bases_from, walk_files, walk, picks_under, picks, pick_of, prototype_in}
use Rattle.expansion_steps.specs.Lists.{count_if}
use Rattle.expansion_definition.specs.Input.{Limits, Input, last_field}
use Rattle.expansion_definition.specs.Scopes.{is_body}
use Rattle.expansion_definition.specs.State.{bind_r, map_m, fold_m, lookup}
use Rattle.expansion_definition.specs.Charges.{charge_if, charge, charge_each, paid}
use Rattle.expansion_definition.specs.Values.{value_named, copy_data, value, clone}
use Rattle.expansion_definition.specs.Externs.{lookup_extern, marked, declare, extern_proto}
use Rattle.expansion_definition.specs.PlainCopy.{reserve_if, reserve, copy_origin, associate, is_field, copy_binding, copy_field, is_interface, copy_target, copy_interface, copy_route, copy_extern, copy_statement, somes, kept_order, contents, copy_plain}
use Rattle.expansion_definition.specs.Instances.{push_scope, open_scope, take_default, clone_or, interface_value, store, values, place, body_statement, root_of, associations_of, record_instance, instantiate}
use Rattle.expansion_definition.specs.Copy.{copy_node, mapped_or, copy}
use Rattle.expansion_definition.specs.Expand.{statement, statements, Expansion, Answer, answer, expand}

-- ---- parts of a scene; 14 is MFNode, 4 SFInt32

abbrev pub ids : List ℕ → FieldValue
ids l = record { ty = 14; «data» = FieldData.Nodes l }

abbrev pub number_value : ℕ → FieldValue
number_value p = record { ty = 4; «data» = FieldData.Payload p }

abbrev pub field_with : ℕ → FieldValue → Field
field_with n v = record { name = n; binding = FieldBinding.Value v; inferred = 0 }

abbrev pub field_is : ℕ → ℕ → Field
field_is n target = record { name = n; binding = FieldBinding.Is target; inferred = 0 }

abbrev pub interface : ℕ → Option FieldValue → InterfaceDecl
interface n v = record { access = 2; field_type = 14; name = n; value = v; is = none }

abbrev pub interface_is : ℕ → ℕ → Option FieldValue → InterfaceDecl
interface_is n target v = record { access = 2; field_type = 14; name = n; value = v; is = some target }

abbrev pub route : Option ℕ → Option ℕ → Statement
route a b = Statement.Route (record { from_node = 1; from_field = 2; to_node = 3; to_field = 4; from_id = a; to_id = b })

abbrev pub node : NodeOrigin → List Field → Node
node o fs = record { type_name = 7; def_name = none; origin = o; fields = fs; interface = []; statements = []; body_order = []; instance = none }

-- a plain node with nothing, and one whose field 1 holds children
abbrev pub leaf : Node
leaf = node NodeOrigin.Builtin []

abbrev pub group : List ℕ → Node
group l = node NodeOrigin.Builtin (field_with 1 (ids l) ∷ [])

-- a plain node with all that a node may hold
abbrev pub plain : List Field → List InterfaceDecl → List Statement → List BodyElement → Node
plain fs is ss order = record { type_name = 7; def_name = none; origin = NodeOrigin.Builtin; fields = fs; interface = is; statements = ss; body_order = order; instance = none }

-- an instance of PROTO p
abbrev pub instance_of_proto : ℕ → List Field → Node
instance_of_proto p fs = node (NodeOrigin.Proto p) fs

abbrev pub proto : List InterfaceDecl → List Statement → ProtoDecl
proto is body = record { name = 3; interface = is; body = body }

abbrev pub extern : List Url → ExternProtoDecl
extern urls = record { name = 6; interface = []; urls = urls }

abbrev pub document : List Node → List ProtoDecl → List ExternProtoDecl → List Statement → Document
document ns ps xs l = record { header = 5; nodes = ns; protos = ps; extern_protos = xs; statements = l }

abbrev pub limits : ℕ → ℕ → ℕ → Limits
limits n d k = record { max_nodes = n; max_depth = d; max_rows = k }

-- one file, of base 20, and a root whose node 0 is of its extern 0, picked from that file if it can be
abbrev pub scattered : Limits → Option ℕ → List Field → Document → List Statement → Input
scattered l fragment fs file s = record { root = document (node (NodeOrigin.ExternProto 0) fs ∷ []) [] (extern (record { base = 20; fragment = fragment; used = false } ∷ []) ∷ []) s; library = record { base = 20; document = file } ∷ []; limits = l }

-- the program's limits
abbrev pub usual : Limits
usual = limits 400 64 400

-- a scene with no library
abbrev pub scene : Limits → List Node → List ProtoDecl → List Statement → Input
scene l ns ps s = record { root = document ns ps [] s; library = []; limits = l }

-- ---- an answer in numbers

-- refused: the number and the two places; accepted: 0, nodes, scopes, body scopes, charges
abbrev pub counts : Answer → List ℕ
counts (Answer.Refused c d i) = c ∷ d ∷ i ∷ []
counts (Answer.Expanded e) = 0 ∷ e.node_count ∷ e.scope_count ∷ count_if is_body e.scopes ∷ e.charges ∷ []

-- what is seen of an accepted expansion
abbrev pub seen : {A : Type 0} → (Expansion → A) → Answer → Option A
seen g (Answer.Refused c d i) = none
seen g (Answer.Expanded e) = some (g e)

-- a proof that unfolds this computes the definition
unfoldable pub computed : Input → Answer
unfolding node_at proto_at extern_proto_at library_file top_protos first_named pick_in pick_url member remember pick_urls picks_from bases_from walk_files walk picks_under picks pick_of prototype_in last_field bind_r map_m fold_m lookup charge_if charge charge_each paid value_named copy_data value clone lookup_extern marked declare extern_proto reserve_if reserve copy_origin associate is_field copy_binding copy_field is_interface copy_target copy_interface copy_route copy_extern copy_statement somes kept_order contents copy_plain push_scope open_scope take_default clone_or interface_value store values place body_statement root_of associations_of record_instance instantiate copy_node mapped_or copy statement statements answer expand
computed I = expand I
