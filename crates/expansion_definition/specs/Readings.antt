-- How open points of documents 01 and 02 are read: a computed example for each reading that an answer shows.
-- A list of numbers is a refusal with its places, or 0, nodes, scopes, body scopes, charges.
use Rattle.std.specs.Prelude.{◌≡◌, refl, Bool, true, false, List, [], ◌∷◌, map, ℕ}
use Rattle.std.proofs.Math.Option.{Option, none, some}
use Rattle.ast.specs.Ast.{NodeOrigin, BodyElement, FieldValue, FieldBinding, Field, InterfaceDecl, Statement, ProtoInstance, Node, ProtoDecl, Url, File}
use Rattle.expansion_steps.specs.Lists.{count_if}
use Rattle.expansion_definition.specs.Input.{Limits, Input}
use Rattle.expansion_definition.specs.Scopes.{Scope, is_default, scope_entry}
use Rattle.expansion_definition.specs.State.{State, refusal}
use Rattle.expansion_definition.specs.Expand.{expand}
use Rattle.expansion_definition.specs.Room.{push_if, push_in, open_in, take_default_in, interface_value_in, values_in, instantiate_in, copy_node_in, copy_in, statements_in, expand_in}
use Rattle.expansion_definition.specs.Scenes.{ids, number_value, field_with, field_is, interface, interface_is, route, node, leaf, group, plain, instance_of_proto, proto, extern, document, limits, usual, scene, scattered, counts, seen, computed}

abbrev output_nodes : Input → Option (List Node)
output_nodes I = seen (λ e. e.document.nodes) (expand I)

-- the records of the output's nodes
abbrev records : Input → Option (List (Option ProtoInstance))
records I = seen (λ e. map (λ x. x.instance) e.document.nodes) (expand I)

abbrev top_statements : Input → Option (List Statement)
top_statements I = seen (λ e. e.document.statements) (expand I)

-- ---- 7: accepted though dangling, in nodes that are not reached, a Proto statement, a Node statement inside a node, a field that the PROTO doesn't declare, an overwritten equal field, the value of an interface that has an IS, a route end

dangling :
    counts (expand (scene usual
    (plain [] (interface_is 1 5 (some (ids (9 ∷ []))) ∷ []) (Statement.Node 9 ∷ Statement.Proto 9 ∷ route (some 9) none ∷ []) []
    ∷ group (9 ∷ [])
    ∷ instance_of_proto 0 (field_with 8 (ids (9 ∷ [])) ∷ field_with 1 (ids (9 ∷ [])) ∷ field_with 1 (number_value 0) ∷ [])
    ∷ leaf ∷ [])
    (proto (interface 1 none ∷ []) (Statement.Node 3 ∷ []) ∷ [])
    (Statement.Proto 9 ∷ Statement.Node 0 ∷ Statement.Node 2 ∷ route (some 9) none ∷ []))) ≡ (0 ∷ 2 ∷ 2 ∷ 1 ∷ 17 ∷ [])
unfolding computed
dangling = refl

-- ---- 8: mapped, then 5, then 9; then for an instance 6, for a plain node 8, 10 (row), 10 (map entry), 4

-- a node that holds itself is mapped where no depth is left
abbrev ring : Input
ring = scene (limits 400 1 400) (group (0 ∷ []) ∷ []) [] (Statement.Node 0 ∷ [])

mapped_before_depth : counts (expand ring) ≡ (0 ∷ 1 ∷ 1 ∷ 0 ∷ 8 ∷ [])
unfolding computed
mapped_before_depth = refl

dangling_before_depth : counts (expand (scene (limits 0 0 400) [] [] (Statement.Node 3 ∷ []))) ≡ (5 ∷ 0 ∷ 3 ∷ [])
unfolding computed
dangling_before_depth = refl

-- an instance of a PROTO that is not there, by N and D
abbrev protoless : ℕ → ℕ → Input
protoless n d = scene (limits n d 400) (instance_of_proto 4 [] ∷ []) [] (Statement.Node 0 ∷ [])

depth_before_proto : (counts (expand (protoless 0 0)) ≡ (9 ∷ 0 ∷ 0 ∷ [])) × (counts (expand (protoless 0 1)) ≡ (6 ∷ 0 ∷ 4 ∷ []))
unfolding computed
depth_before_proto = (refl, refl)

-- a plain node of an extern that is not there, by N and K; 11: "An extern is looked up (4) before it is charged"
abbrev externless : ℕ → ℕ → Input
externless n k = scene (limits n 1 k) (node (NodeOrigin.ExternProto 2) [] ∷ []) [] (Statement.Node 0 ∷ [])

plain_in_order :
    (counts (expand (externless 0 3)) ≡ (8 ∷ 0 ∷ 0 ∷ []))
    × (counts (expand (externless 1 3)) ≡ (10 ∷ 0 ∷ 0 ∷ []))
    × (counts (expand (externless 1 4)) ≡ (10 ∷ 0 ∷ 0 ∷ []))
    × (counts (expand (externless 1 5)) ≡ (4 ∷ 0 ∷ 2 ∷ []))
unfolding computed
plain_in_order = (refl, refl, refl, refl)

-- an instance's body is one deeper than the instance
body_depth : (counts (expand (scene (limits 400 1 400) (instance_of_proto 0 [] ∷ leaf ∷ []) (proto [] (Statement.Node 1 ∷ []) ∷ []) (Statement.Node 0 ∷ []))) ≡ (9 ∷ 0 ∷ 0 ∷ []))
    × (counts (expand (scene (limits 400 2 400) (instance_of_proto 0 [] ∷ leaf ∷ []) (proto [] (Statement.Node 1 ∷ []) ∷ []) (Statement.Node 0 ∷ []))) ≡ (0 ∷ 1 ∷ 2 ∷ 1 ∷ 9 ∷ []))
unfolding computed
body_depth = (refl, refl)

-- ---- 9: 7 comes after the whole body and before the record's charge

-- one instance, a body of these statements, by K
abbrev body_of : List Statement → ℕ → Input
body_of body k = scene (limits 0 1 k) (instance_of_proto 0 [] ∷ []) (proto [] body ∷ []) (Statement.Node 0 ∷ [])

seven_before_record : (counts (expand (body_of [] 3)) ≡ (10 ∷ 0 ∷ 0 ∷ [])) × (counts (expand (body_of [] 4)) ≡ (7 ∷ 0 ∷ 0 ∷ []))
unfolding computed
seven_before_record = (refl, refl)

-- "A body with only a dangling ExternProto gives 4."
seven_after_body : counts (expand (body_of (Statement.ExternProto 3 ∷ []) 400)) ≡ (4 ∷ 0 ∷ 3 ∷ [])
unfolding computed
seven_after_body = refl

-- "A body route is charged where it stands, not when it is remapped."
route_charged_where_it_stands : (counts (expand (body_of (route none none ∷ []) 4)) ≡ (10 ∷ 0 ∷ 0 ∷ [])) × (counts (expand (body_of (route none none ∷ []) 5)) ≡ (7 ∷ 0 ∷ 0 ∷ []))
unfolding computed
route_charged_where_it_stands = (refl, refl)

-- ---- 10: an id is charged after its copy; a field, interface, statement and stored value after their value

-- the node's two charges are the last that fit
charged_after :
    (counts (expand (scene (limits 400 64 5) (group (9 ∷ []) ∷ []) [] (Statement.Node 0 ∷ []))) ≡ (5 ∷ 0 ∷ 9 ∷ []))
    × (counts (expand (scene (limits 400 64 5) (plain [] (interface 1 (some (ids (9 ∷ []))) ∷ []) [] [] ∷ []) [] (Statement.Node 0 ∷ []))) ≡ (5 ∷ 0 ∷ 9 ∷ []))
    × (counts (expand (scene (limits 400 64 5) (plain [] [] (Statement.ExternProto 3 ∷ []) [] ∷ []) [] (Statement.Node 0 ∷ []))) ≡ (4 ∷ 0 ∷ 3 ∷ []))
    × (counts (expand (scene (limits 400 64 3) [] [] (Statement.Node 9 ∷ []))) ≡ (5 ∷ 0 ∷ 9 ∷ []))
    × (counts (expand (scene (limits 400 64 3) (instance_of_proto 0 (field_with 1 (ids (9 ∷ [])) ∷ []) ∷ []) (proto (interface 1 none ∷ []) [] ∷ []) (Statement.Node 0 ∷ []))) ≡ (5 ∷ 0 ∷ 9 ∷ []))
unfolding computed
charged_after = (refl, refl, refl, refl, refl)

-- ---- 12: a repeated interface name: each store is charged; each default opens its own scope; only a value overwrites

-- one instance with these fields, of a PROTO with these interfaces, whose body is one node whose field 2 is IS 1
abbrev instance_with : List Field → List InterfaceDecl → Input
instance_with fs is = scene usual (instance_of_proto 0 fs ∷ plain (field_is 2 1 ∷ []) [] [] [] ∷ leaf ∷ []) (proto is (Statement.Node 1 ∷ []) ∷ []) (Statement.Node 0 ∷ [])

abbrev output_fields : Input → Option (List (List Field))
output_fields I = seen (λ e. map (λ x. x.fields) e.document.nodes) (expand I)

-- 3, two ids and two stores, the body's scope, node 2 once, node 1, its association, the cloned id and its field, map entry, record, statement
given_twice : counts (expand (instance_with (field_with 1 (ids (2 ∷ [])) ∷ []) (interface 1 none ∷ interface 1 none ∷ []))) ≡ (0 ∷ 2 ∷ 2 ∷ 1 ∷ 18 ∷ [])
unfolding computed
given_twice = refl

default_twice :
    (counts (expand (instance_with [] (interface 1 (some (number_value 5)) ∷ interface 1 (some (number_value 6)) ∷ []))) ≡ (0 ∷ 1 ∷ 4 ∷ 1 ∷ 15 ∷ []))
    × (output_fields (instance_with [] (interface 1 (some (number_value 5)) ∷ interface 1 (some (number_value 6)) ∷ [])) ≡ some ((field_with 2 (number_value 6) ∷ []) ∷ []))
    × (output_fields (instance_with [] (interface 1 (some (number_value 5)) ∷ interface 1 none ∷ [])) ≡ some ((field_with 2 (number_value 5) ∷ []) ∷ []))
unfolding computed
default_twice = (refl, refl, refl)

-- ---- 13: a payload default and an empty id list open a default scope too, and so does the value of a PROTO's interface that has an IS target

all_defaults : counts (expand (instance_with [] (interface 1 (some (number_value 5)) ∷ interface 2 (some (ids [])) ∷ interface_is 3 9 (some (number_value 6)) ∷ []))) ≡ (0 ∷ 1 ∷ 5 ∷ 1 ∷ 17 ∷ [])
unfolding computed
all_defaults = refl

-- ---- 14: a default scope is charged before its ids; the body scope comes after all values; the opener is the instance's scope; the index is the place in the whole list

default_charged_first :
    (counts (expand (scene (limits 400 64 3) (instance_of_proto 0 [] ∷ []) (proto (interface 1 (some (ids (9 ∷ []))) ∷ []) [] ∷ []) (Statement.Node 0 ∷ []))) ≡ (10 ∷ 0 ∷ 0 ∷ []))
    × (counts (expand (scene (limits 400 64 4) (instance_of_proto 0 [] ∷ []) (proto (interface 1 (some (ids (9 ∷ []))) ∷ []) [] ∷ []) (Statement.Node 0 ∷ []))) ≡ (5 ∷ 0 ∷ 9 ∷ []))
unfolding computed
default_charged_first = (refl, refl)

-- node 0's field 4 holds an instance of PROTO 1, its interface 5 takes the default, and its body's root is an instance of PROTO 1
abbrev nest : Input
nest = scene usual (instance_of_proto 0 (field_with 4 (ids (1 ∷ [])) ∷ []) ∷ instance_of_proto 1 [] ∷ leaf ∷ instance_of_proto 1 [] ∷ []) (proto (interface 4 none ∷ interface 5 (some (ids (2 ∷ []))) ∷ []) (Statement.Node 3 ∷ []) ∷ proto [] (Statement.Node 2 ∷ []) ∷ []) (Statement.Node 0 ∷ [])

scope_entries :
    seen (λ e. map scope_entry e.scopes) (expand nest)
    ≡ some ((0 ∷ 0 ∷ 0 ∷ 0 ∷ 0 ∷ []) ∷ (1 ∷ 0 ∷ 1 ∷ 0 ∷ 0 ∷ []) ∷ (2 ∷ 0 ∷ 0 ∷ 1 ∷ 0 ∷ []) ∷ (1 ∷ 0 ∷ 0 ∷ 0 ∷ 0 ∷ []) ∷ (1 ∷ 0 ∷ 1 ∷ 0 ∷ 3 ∷ []) ∷ [])
unfolding computed
scope_entries = refl

-- scope, document, source id of each output node
ledger_entries : seen (λ e. map (λ x. x.scope ∷ x.document ∷ x.source ∷ []) e.ledger) (expand nest) ≡ some ((1 ∷ 0 ∷ 2 ∷ []) ∷ (2 ∷ 0 ∷ 2 ∷ []) ∷ (4 ∷ 0 ∷ 2 ∷ []) ∷ [])
unfolding computed
ledger_entries = refl

-- ---- 15: associations at the top and in defaults are charged though unwritten; a nested root's stay charged though replaced

top_association : (counts (expand (scene usual (plain (field_is 2 1 ∷ []) [] [] [] ∷ []) [] (Statement.Node 0 ∷ []))) ≡ (0 ∷ 1 ∷ 1 ∷ 0 ∷ 8 ∷ []))
    × (output_nodes (scene usual (plain (field_is 2 1 ∷ []) [] [] [] ∷ []) [] (Statement.Node 0 ∷ [])) ≡ some (plain (field_is 2 1 ∷ []) [] [] [] ∷ []))
unfolding computed
top_association = (refl, refl)

-- the default's node has an IS, which stays; the body's node is a leaf
abbrev is_in_default : Input
is_in_default = scene usual (instance_of_proto 0 [] ∷ plain (field_is 2 1 ∷ []) [] [] [] ∷ leaf ∷ []) (proto (interface 1 (some (ids (1 ∷ []))) ∷ []) (Statement.Node 2 ∷ []) ∷ []) (Statement.Node 0 ∷ [])

default_association : (counts (expand is_in_default) ≡ (0 ∷ 2 ∷ 3 ∷ 1 ∷ 16 ∷ []))
    × (output_fields is_in_default ≡ some ((field_is 2 1 ∷ []) ∷ [] ∷ []))
    × (records is_in_default ≡ some (none ∷ some (record { proto_name = 3; extra_roots = []; routes = []; is_map = [] }) ∷ []))
unfolding computed
default_association = (refl, refl, refl)

-- PROTO 0's root is an instance of PROTO 1, whose root has an IS; both bodies have an extra root and a route
abbrev nested : Input
nested = scene usual (instance_of_proto 0 [] ∷ instance_of_proto 1 [] ∷ plain (field_is 2 1 ∷ []) [] [] [] ∷ leaf ∷ []) (proto [] (Statement.Node 1 ∷ Statement.Node 3 ∷ route (some 1) (some 3) ∷ []) ∷ record { name = 4; interface = []; body = Statement.Node 2 ∷ Statement.Node 3 ∷ route (some 2) (some 3) ∷ [] } ∷ []) (Statement.Node 0 ∷ [])

-- "Name and associations are the outer's; a nested instance's roots and routes follow the outer's."
nested_record : (counts (expand nested) ≡ (0 ∷ 3 ∷ 3 ∷ 2 ∷ 21 ∷ []))
    × (records nested ≡ some (some (record { proto_name = 3; extra_roots = 2 ∷ 1 ∷ []; routes = record { from_node = 1; from_field = 2; to_node = 3; to_field = 4; from_id = some 0; to_id = some 2 } ∷ record { from_node = 1; from_field = 2; to_node = 3; to_field = 4; from_id = some 0; to_id = some 1 } ∷ []; is_map = [] }) ∷ none ∷ none ∷ []))
unfolding computed
nested_record = (refl, refl)

-- ---- 16: a body's ExternProto statement declares the extern, keyed by the PROTO's document; no statement is kept and none is charged

abbrev declaring : Input
declaring = scattered usual none [] (record { header = 5; nodes = leaf ∷ []; protos = proto [] (Statement.ExternProto 0 ∷ Statement.Node 0 ∷ []) ∷ []; extern_protos = record { name = 9; interface = []; urls = [] } ∷ []; statements = Statement.Proto 0 ∷ [] }) (Statement.ExternProto 0 ∷ Statement.Node 0 ∷ Statement.ExternProto 0 ∷ [])

body_extern : (counts (expand declaring) ≡ (0 ∷ 1 ∷ 2 ∷ 1 ∷ 14 ∷ []))
    × (seen (λ e. map (λ x. x.name) e.document.extern_protos) (expand declaring) ≡ some (6 ∷ 9 ∷ []))
    × (top_statements declaring ≡ some (Statement.ExternProto 0 ∷ Statement.Node 0 ∷ Statement.ExternProto 0 ∷ []))
unfolding computed
body_extern = (refl, refl, refl)

-- ---- 17: the place's document is the scope's for 4 and 5, the PROTO's for 6 and 7

-- the file's PROTO 0 has this body
abbrev far_body : List Statement → Input
far_body body = scattered usual none [] (document [] (proto [] body ∷ []) [] (Statement.Proto 0 ∷ [])) (Statement.Node 0 ∷ [])

places :
    (counts (expand (far_body (Statement.ExternProto 3 ∷ []))) ≡ (4 ∷ 1 ∷ 3 ∷ []))
    × (counts (expand (far_body (Statement.Node 7 ∷ []))) ≡ (5 ∷ 1 ∷ 7 ∷ []))
    × (counts (expand (far_body [])) ≡ (7 ∷ 1 ∷ 0 ∷ []))
unfolding computed
places = (refl, refl, refl)

-- ---- 18: a pick without a fragment may dangle, and gives 6; with a fragment dangling ids are passed over

abbrev dangling_pick : Option ℕ → Input
dangling_pick fragment = scattered usual fragment [] (document [] [] [] (Statement.Proto 4 ∷ [])) (Statement.Node 0 ∷ [])

dangling_pick_lem : (counts (expand (dangling_pick none)) ≡ (6 ∷ 1 ∷ 4 ∷ [])) × (counts (expand (dangling_pick (some 3))) ≡ (0 ∷ 1 ∷ 1 ∷ 0 ∷ 8 ∷ []))
unfolding computed
dangling_pick_lem = (refl, refl)

-- ---- 19: the record's name is the file's PROTO's; the picked PROTO's interfaces rule: field 1, which it doesn't declare, is not met

abbrev picked : Input
picked = scattered usual (some 3) (field_with 1 (ids (9 ∷ [])) ∷ []) (document (leaf ∷ []) (proto [] (Statement.Node 0 ∷ []) ∷ []) [] (Statement.Proto 0 ∷ [])) (Statement.Node 0 ∷ [])

picked_proto : records picked ≡ some (some (record { proto_name = 3; extra_roots = []; routes = []; is_map = [] }) ∷ [])
unfolding computed
picked_proto = refl

-- ---- 20: where an IS gives way, inferred and an interface's own type tag stay, the value's type tag comes from the value

abbrev giving_way : Input
giving_way = scene usual (instance_of_proto 0 (field_with 1 (number_value 5) ∷ []) ∷ plain (record { name = 2; binding = FieldBinding.Is 1; inferred = 1 } ∷ []) (record { access = 3; field_type = 9; name = 4; value = none; is = some 1 } ∷ interface_is 6 8 (some (number_value 7)) ∷ []) [] [] ∷ []) (proto (interface 1 none ∷ []) (Statement.Node 1 ∷ []) ∷ []) (Statement.Node 0 ∷ [])

gives_way :
    (seen (λ e. map (λ x. x.fields) e.document.nodes) (expand giving_way) ≡ some ((record { name = 2; binding = FieldBinding.Value (number_value 5); inferred = 1 } ∷ []) ∷ []))
    × (seen (λ e. map (λ x. x.interface) e.document.nodes) (expand giving_way) ≡ some ((record { access = 3; field_type = 9; name = 4; value = some (number_value 5); is = none } ∷ interface 6 none ∷ []) ∷ []))
unfolding computed
gives_way = (refl, refl)

-- outside a body the IS of an interface stays, with class 0
stays_outside : output_nodes (scene usual (plain [] (interface_is 6 8 (some (number_value 7)) ∷ []) [] [] ∷ []) [] (Statement.Node 0 ∷ [])) ≡ some (plain [] (interface_is 6 8 none ∷ []) [] [] ∷ [])
unfolding computed
stays_outside = refl

-- ---- 21: associations stand in the order met, depth first

abbrev deep : Input
deep = scene usual (instance_of_proto 0 [] ∷ plain (field_is 2 1 ∷ field_with 3 (ids (2 ∷ [])) ∷ []) (interface_is 5 1 none ∷ []) [] [] ∷ plain (field_is 4 1 ∷ []) [] [] [] ∷ []) (proto [] (Statement.Node 1 ∷ []) ∷ []) (Statement.Node 0 ∷ [])

depth_first : records deep
    ≡ some (some (record { proto_name = 3; extra_roots = []; routes = []; is_map = record { interface = 1; node = 0; field = 2 } ∷ record { interface = 1; node = 1; field = 4 } ∷ record { interface = 1; node = 0; field = 5 } ∷ [] }) ∷ none ∷ [])
unfolding computed
depth_first = refl

-- a route inside a node sees the node's own id mapped
own_id : seen (λ e. map (λ x. x.statements) e.document.nodes) (expand (scene usual (leaf ∷ plain [] [] (route (some 1) (some 0) ∷ []) [] ∷ []) [] (Statement.Node 1 ∷ []))) ≡ some ((route (some 0) none ∷ []) ∷ [])
unfolding computed
own_id = refl

-- an instance's id is mapped once its root is copied; in a loop the later map entry, the outer copy's, wins
abbrev looped : Input
looped = scene usual (instance_of_proto 0 (field_with 1 (ids (1 ∷ [])) ∷ []) ∷ group (0 ∷ []) ∷ leaf ∷ []) (proto (interface 1 none ∷ []) (Statement.Node 2 ∷ []) ∷ []) (route (some 0) none ∷ Statement.Node 0 ∷ route (some 0) none ∷ [])

outer_wins : top_statements looped ≡ some (route none none ∷ Statement.Node 2 ∷ route (some 2) none ∷ [])
unfolding computed
outer_wins = refl

-- ---- 22: marks past the last entry of the source lists; an extra root may be the root itself

abbrev marked : Input
marked = scene usual
    (instance_of_proto 0 []
    ∷ plain (field_is 2 1 ∷ field_with 3 (number_value 0) ∷ []) [] (Statement.Node 9 ∷ route none none ∷ []) (BodyElement.Field ∷ BodyElement.Interface ∷ BodyElement.Field ∷ BodyElement.Field ∷ BodyElement.Statement ∷ BodyElement.Statement ∷ BodyElement.Statement ∷ [])
    ∷ [])
    (proto [] (Statement.Node 1 ∷ []) ∷ []) (Statement.Node 0 ∷ [])

marks : seen (λ e. map (λ x. x.body_order) e.document.nodes) (expand marked) ≡ some ((BodyElement.Interface ∷ BodyElement.Field ∷ BodyElement.Statement ∷ []) ∷ [])
unfolding computed
marks = refl

abbrev twice_root : Input
twice_root = scene usual (instance_of_proto 0 [] ∷ leaf ∷ []) (proto [] (Statement.Node 1 ∷ Statement.Node 1 ∷ []) ∷ []) (Statement.Node 0 ∷ [])

extra_root : (counts (expand twice_root) ≡ (0 ∷ 1 ∷ 2 ∷ 1 ∷ 10 ∷ [])) × (records twice_root ≡ some (some (record { proto_name = 3; extra_roots = 0 ∷ []; routes = []; is_map = [] }) ∷ []))
unfolding computed
extra_root = (refl, refl)

-- ---- "Tempting here"

-- two equal fields: the last is given
last_of_two : output_fields (instance_with (field_with 1 (number_value 4) ∷ field_with 1 (number_value 5) ∷ []) (interface 1 none ∷ [])) ≡ some ((field_with 2 (number_value 5) ∷ []) ∷ [])
unfolding computed
last_of_two = refl

-- a node of a default that the body holds too is copied in each of the two scopes
own_maps : counts (expand (scene usual (instance_of_proto 0 [] ∷ leaf ∷ []) (proto (interface 1 (some (ids (1 ∷ []))) ∷ []) (Statement.Node 1 ∷ []) ∷ []) (Statement.Node 0 ∷ []))) ≡ (0 ∷ 2 ∷ 3 ∷ 1 ∷ 14 ∷ [])
unfolding computed
own_maps = refl

-- "The instance's DEF name, if any, replaces the root's."
def_name_lem : seen (λ e. map (λ x. x.def_name) e.document.nodes) (expand (scene usual
    (record { type_name = 7; def_name = some 31; origin = NodeOrigin.Proto 0; fields = []; interface = []; statements = []; body_order = []; instance = none } ∷ instance_of_proto 0 [] ∷ record { type_name = 7; def_name = some 32; origin = NodeOrigin.Builtin; fields = []; interface = []; statements = []; body_order = []; instance = none } ∷ [])
    (proto [] (Statement.Node 2 ∷ []) ∷ []) (Statement.Node 0 ∷ Statement.Node 1 ∷ [])))
    ≡ some (some 31 ∷ some 32 ∷ [])
unfolding computed
def_name_lem = refl

-- ---- document 02, wish 6: "an instance's field bound by IS to something without a value now takes the inner prototype's default, in a default scope, as if no field of that name were there"

-- PROTO 0's interface 7 is an eventIn, here also with a value; its root is an instance of PROTO 1 whose field 1 is IS 7. PROTO 1's interface 1 is an exposedField with the number 3; its root's field 2 is IS 1.
abbrev counter : List Field → Option FieldValue → Input
counter fs v = scene usual (instance_of_proto 0 fs ∷ instance_of_proto 1 (field_is 1 7 ∷ []) ∷ plain (field_is 2 1 ∷ []) [] [] [] ∷ [])
    (proto (record { access = 0; field_type = 4; name = 7; value = v; is = none } ∷ []) (Statement.Node 1 ∷ []) ∷ proto (record { access = 3; field_type = 4; name = 1; value = some (number_value 3); is = none } ∷ []) (Statement.Node 2 ∷ []) ∷ []) (Statement.Node 0 ∷ [])

-- "A counter driven by an event keeps its start.": its default scope is opened by the outer body's scope, 1
is_to_nothing : (counts (expand (counter [] none)) ≡ (0 ∷ 1 ∷ 4 ∷ 2 ∷ 16 ∷ []))
    × (output_fields (counter [] none) ≡ some ((field_with 2 (number_value 3) ∷ []) ∷ []))
    × (seen (λ e. map scope_entry e.scopes) (expand (counter [] none)) ≡ some ((0 ∷ 0 ∷ 0 ∷ 0 ∷ 0 ∷ []) ∷ (1 ∷ 0 ∷ 0 ∷ 0 ∷ 0 ∷ []) ∷ (2 ∷ 0 ∷ 1 ∷ 0 ∷ 1 ∷ []) ∷ (1 ∷ 0 ∷ 1 ∷ 0 ∷ 1 ∷ []) ∷ []))
unfolding computed
is_to_nothing = (refl, refl, refl)

-- where the target has a value, by a field or by a default, the inner default is not taken
is_to_value : (counts (expand (counter (field_with 7 (number_value 5) ∷ []) none)) ≡ (0 ∷ 1 ∷ 3 ∷ 2 ∷ 16 ∷ []))
    × (output_fields (counter (field_with 7 (number_value 5) ∷ []) none) ≡ some ((field_with 2 (number_value 5) ∷ []) ∷ []))
    × (counts (expand (counter [] (some (number_value 5)))) ≡ (0 ∷ 1 ∷ 4 ∷ 2 ∷ 17 ∷ []))
    × (output_fields (counter [] (some (number_value 5))) ≡ some ((field_with 2 (number_value 5) ∷ []) ∷ []))
unfolding computed
is_to_value = (refl, refl, refl, refl)

-- "The double-count guarantee covers the new default scopes as well."
abbrev default_scopes : Input → Option ℕ
default_scopes I = seen (λ e. count_if is_default e.scopes) (expand I)

-- one for each default taken: the counter's; none, as a field gives its target a value; the outer PROTO's; both of a repeated name
default_scopes_lem : (default_scopes (counter [] none) ≡ some 1)
    × (default_scopes (counter (field_with 7 (number_value 5) ∷ []) none) ≡ some 0)
    × (default_scopes (counter [] (some (number_value 5))) ≡ some 1)
    × (default_scopes (instance_with (field_is 1 9 ∷ []) (interface 1 (some (number_value 5)) ∷ interface 1 (some (number_value 6)) ∷ [])) ≡ some 2)
unfolding computed
default_scopes_lem = (refl, refl, refl, refl)

-- one instance whose field 1 holds node 1, that takes the default of interface 2
abbrev one_default : Node → Input
one_default held = scene usual (instance_of_proto 0 (field_with 1 (ids (1 ∷ [])) ∷ []) ∷ held ∷ leaf ∷ []) (proto (interface 1 none ∷ interface 2 (some (number_value 3)) ∷ []) (Statement.Node 2 ∷ []) ∷ []) (Statement.Node 0 ∷ Statement.Node 0 ∷ [])

-- mentioned twice, it opens one default scope; two, where it reaches itself
only_a_loop_doubles : (default_scopes (one_default leaf) ≡ some 1) × (default_scopes (one_default (group (0 ∷ []))) ≡ some 2)
unfolding computed
only_a_loop_doubles = (refl, refl)

-- at the top nothing has a value; of a repeated interface name each entry's own default counts
abbrev thrice : List InterfaceDecl
thrice = interface 1 (some (number_value 5)) ∷ interface 1 (some (number_value 6)) ∷ interface 1 none ∷ []

is_at_top : (expand (instance_with (field_is 1 9 ∷ []) thrice) ≡ expand (instance_with [] thrice)) × (counts (expand (instance_with (field_is 1 9 ∷ []) thrice)) ≡ (0 ∷ 1 ∷ 4 ∷ 1 ∷ 15 ∷ []))
unfolding computed
is_at_top = (refl, refl)

-- nor in a default scope: PROTO 0's default for 7 is an instance of PROTO 1 whose field 1 is IS 7
is_in_default_lem : counts (expand (scene usual (instance_of_proto 0 [] ∷ instance_of_proto 1 (field_is 1 7 ∷ []) ∷ plain (field_is 2 1 ∷ []) [] [] [] ∷ leaf ∷ []) (proto (interface 7 (some (ids (1 ∷ []))) ∷ []) (Statement.Node 3 ∷ []) ∷ proto (interface 1 (some (number_value 3)) ∷ []) (Statement.Node 2 ∷ []) ∷ []) (Statement.Node 0 ∷ [])))
    ≡ (0 ∷ 2 ∷ 5 ∷ 2 ∷ 21 ∷ [])
unfolding computed
is_in_default_lem = refl

-- ---- document 02, wish 1: the mark is on the pick's url of every extern that the output declares; no pick, no mark

-- the marks of the urls of each extern of the output
abbrev marks_of : Input → Option (List (List Bool))
marks_of I = seen (λ e. map (λ x. map (λ u. u.used) x.urls) e.document.extern_protos) (expand I)

abbrev url_to : ℕ → Option ℕ → Url
url_to base fragment = record { base = base; fragment = fragment; used = false }

-- of the four urls of extern 0 the third is taken: the file of base 20 has no Proto, that of base 21 one of name 3; extern 1 has no pick.
-- The Proto's body declares an extern of the file.
abbrev supplying : List Node → List ProtoDecl → List Statement → Input
supplying ns ps l = record {
  root = document ns ps (extern (url_to 20 none ∷ url_to 21 (some 9) ∷ url_to 21 (some 3) ∷ url_to 21 (some 3) ∷ []) ∷ extern (url_to 20 none ∷ []) ∷ []) l;
  library = record { base = 20; document = document [] [] [] [] } ∷ record { base = 21; document = document (leaf ∷ []) (proto [] (Statement.ExternProto 0 ∷ Statement.Node 0 ∷ []) ∷ []) (extern (url_to 21 (some 3) ∷ []) ∷ []) (Statement.Proto 0 ∷ []) } ∷ [];
  limits = usual;
}

-- declared by a top statement, by a statement in a node, by a body's statement; a file's extern, declared by the picked PROTO's body
url_marks :
    (marks_of (supplying [] [] (Statement.ExternProto 0 ∷ Statement.ExternProto 1 ∷ [])) ≡ some ((false ∷ false ∷ true ∷ false ∷ []) ∷ (false ∷ []) ∷ []))
    × (marks_of (supplying (plain [] [] (Statement.ExternProto 0 ∷ []) [] ∷ []) [] (Statement.Node 0 ∷ [])) ≡ some ((false ∷ false ∷ true ∷ false ∷ []) ∷ []))
    × (marks_of (supplying (instance_of_proto 0 [] ∷ leaf ∷ []) (proto [] (Statement.ExternProto 0 ∷ Statement.Node 1 ∷ []) ∷ []) (Statement.Node 0 ∷ [])) ≡ some ((false ∷ false ∷ true ∷ false ∷ []) ∷ []))
    × (marks_of (supplying (node (NodeOrigin.ExternProto 0) [] ∷ []) [] (Statement.Node 0 ∷ [])) ≡ some ((true ∷ []) ∷ []))
unfolding computed
url_marks = (refl, refl, refl, refl)

-- ---- document 02, wish 9: limits that are just enough give what bigger ones give; less gives 8, 9, 10

abbrev single : ℕ → ℕ → ℕ → Input
single n d k = scene (limits n d k) (leaf ∷ []) [] (Statement.Node 0 ∷ [])

just_enough : (expand (single 1 1 6) ≡ expand (single 400 64 400))
    × (counts (expand (single 1 1 6)) ≡ (0 ∷ 1 ∷ 1 ∷ 0 ∷ 6 ∷ []))
    × (counts (expand (single 0 1 6)) ≡ (8 ∷ 0 ∷ 0 ∷ []))
    × (counts (expand (single 1 0 6)) ≡ (9 ∷ 0 ∷ 0 ∷ []))
    × (counts (expand (single 1 1 5)) ≡ (10 ∷ 0 ∷ 0 ∷ []))
unfolding computed
just_enough = (refl, refl, refl, refl, refl)

-- ---- document 02, wish 7: the expansion that looks for room; nest has five scopes

-- a slice of 24 words holds four entries, and gives 11; one of 25 holds all
looks : (counts (expand_in 24 nest) ≡ (11 ∷ 0 ∷ 0 ∷ [])) × (expand_in 25 nest ≡ expand nest)
unfolding computed push_if push_in open_in take_default_in interface_value_in values_in instantiate_in copy_node_in copy_in statements_in expand_in
looks = (refl, refl)

-- the default of PROTO 0 is an instance of it: with K = 20 each charge but two is a scope's, and no fewer than 5 × 18 words hold their entries
abbrev endless : Input
endless = scene (limits 400 64 20) (instance_of_proto 0 [] ∷ []) (proto (interface 1 (some (ids (0 ∷ []))) ∷ []) [] ∷ []) (Statement.Node 0 ∷ [])

fills : (counts (expand endless) ≡ (10 ∷ 0 ∷ 0 ∷ [])) × (counts (expand_in 89 endless) ≡ (11 ∷ 0 ∷ 0 ∷ [])) × (expand_in 90 endless ≡ expand endless)
unfolding computed push_if push_in open_in take_default_in interface_value_in values_in instantiate_in copy_node_in copy_in statements_in expand_in
fills = (refl, refl, refl)

-- K = 1, one scope and its charge: a further scope is refused for its charge, before room is looked for
abbrev full : State
full = record { world = record { map = []; ledger = []; scopes = Scope.Root ∷ [] }; nodes = []; extern_protos = []; extern_map = []; is_map = []; charges = 1 }

charged_first : open_in 5 (single 1 1 1) Scope.Root full ≡ refusal 10 0 0
unfolding computed push_if push_in open_in
charged_first = refl

-- ---- document 02, wish 12: "an instance is now also ExternProto with a pick in any document"

-- a file of a base, whose PROTO 0 has this body, and whose extern 0 names another base
abbrev whales : ℕ → ℕ → List Node → List Statement → File
whales base other nodes body = record { base = base; document = document nodes (proto [] body ∷ []) (extern (url_to other none ∷ []) ∷ []) (Statement.Proto 0 ∷ []) }

-- a root whose node 0 is of its extern 0, which names base 20
abbrev surveyed : Limits → List File → Input
surveyed l library = record { root = document (node (NodeOrigin.ExternProto 0) [] ∷ []) [] (extern (url_to 20 none ∷ []) ∷ []) (Statement.Node 0 ∷ []); library = library; limits = l }

-- the body of the first file's PROTO is a node of that file's extern, which names the second file: two bodies, and a node of document 2
abbrev calves : List File
calves = whales 20 21 (node (NodeOrigin.ExternProto 0) [] ∷ []) (Statement.Node 0 ∷ []) ∷ whales 21 22 (leaf ∷ []) (Statement.Node 0 ∷ []) ∷ []

extern_in_a_file :
    (counts (expand (surveyed usual calves)) ≡ (0 ∷ 1 ∷ 3 ∷ 2 ∷ 12 ∷ []))
    × (seen (λ e. map (λ x. x.document) e.ledger) (expand (surveyed usual calves)) ≡ some (2 ∷ []))
unfolding computed
extern_in_a_file = (refl, refl)

-- its file is not there: the node is plain, and of document 1
extern_without_pick :
    (seen (λ e. e.scope_count) (expand (surveyed usual (whales 20 21 (node (NodeOrigin.ExternProto 0) [] ∷ []) (Statement.Node 0 ∷ []) ∷ []))) ≡ some 2)
    × (seen (λ e. map (λ x. x.document) e.ledger) (expand (surveyed usual (whales 20 21 (node (NodeOrigin.ExternProto 0) [] ∷ []) (Statement.Node 0 ∷ []) ∷ []))) ≡ some (1 ∷ []))
unfolding computed
extern_without_pick = (refl, refl)

-- wish 1's mark, by an ExternProto statement of a file's body: the extern of that file has a pick, or none
mark_in_a_file :
    (marks_of (surveyed usual (whales 20 21 (leaf ∷ []) (Statement.ExternProto 0 ∷ Statement.Node 0 ∷ []) ∷ whales 21 22 [] [] ∷ [])) ≡ some ((true ∷ []) ∷ []))
    × (marks_of (surveyed usual (whales 20 21 (leaf ∷ []) (Statement.ExternProto 0 ∷ Statement.Node 0 ∷ []) ∷ [])) ≡ some ((false ∷ []) ∷ []))
unfolding computed
mark_in_a_file = (refl, refl)

-- "Instances without end round a circle of files are refused, at a limit or before it.": two files whose PROTOs hold each other, by D and by K
abbrev round : List File
round = whales 20 21 (node (NodeOrigin.ExternProto 0) [] ∷ []) (Statement.Node 0 ∷ []) ∷ whales 21 20 (node (NodeOrigin.ExternProto 0) [] ∷ []) (Statement.Node 0 ∷ []) ∷ []

circle_of_files : (counts (expand (surveyed (limits 400 5 400) round)) ≡ (9 ∷ 0 ∷ 0 ∷ [])) × (counts (expand (surveyed (limits 400 64 7) round)) ≡ (10 ∷ 0 ∷ 0 ∷ []))
unfolding computed
circle_of_files = (refl, refl)
