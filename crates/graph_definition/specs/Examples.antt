-- Computed examples of what is reached and mentioned.
use Rattle.std.specs.Prelude.{◌≡◌, refl, List, [], ◌∷◌, ℕ}
use Rattle.std.proofs.Math.Option.{none, some}
use Rattle.ast.specs.Ast.{FieldData, FieldBinding, Field, InterfaceDecl, Route, Statement, NodeOrigin, Association, ProtoInstance, Node, Document}
use Rattle.graph_definition.specs.Graph.{node_ids, nexts, top_node_ids, among, noted, noted_all, walked, reached, mentions}

-- a field with a value of ids
field : List ℕ → Field
field l = record { name = 1; binding = FieldBinding.Value (record { ty = 11; «data» = FieldData.Nodes l }); inferred = 0 }

interface : List ℕ → InterfaceDecl
interface l = record { access = 2; field_type = 11; name = 2; value = some (record { ty = 11; «data» = FieldData.Nodes l }); is = none }

node : List Field → List InterfaceDecl → Node
node f i =
    record { type_name = 7; def_name = none; origin = NodeOrigin.Builtin; fields = f; interface = i; statements = []; body_order = []; instance = none }

group : List ℕ → Node
group l = node (field l ∷ []) []

leaf : Node
leaf = node [] []

document : List Node → List Statement → Document
document n s = record { header = 0; nodes = n; protos = []; extern_protos = []; statements = s }

top : ℕ → Statement
top i = Statement.Node i

-- "each top Node statement": one node mentioned twice there is reached once
twice : ◌≡◌ {A = List (List ℕ)} (mentions (document (leaf ∷ []) (top 0 ∷ top 0 ∷ [])) ∷ reached (document (leaf ∷ []) (top 0 ∷ top 0 ∷ [])) ∷ []) ((0 ∷ 0 ∷ []) ∷ (0 ∷ []) ∷ [])
unfolding mentions reached walked noted_all noted among top_node_ids nexts node_ids document leaf node top
twice = refl

-- both windows, ids 0 and 1, hold the pod 2: mentioned twice, reached once
windows : Document
windows = document (group (2 ∷ []) ∷ group (2 ∷ []) ∷ leaf ∷ []) (top 0 ∷ top 1 ∷ [])

both_windows : ◌≡◌ {A = List (List ℕ)} (mentions windows ∷ reached windows ∷ []) ((0 ∷ 1 ∷ 2 ∷ 2 ∷ []) ∷ (0 ∷ 1 ∷ 2 ∷ []) ∷ [])
unfolding mentions reached walked noted_all noted among top_node_ids nexts node_ids windows document group leaf field node top
both_windows = refl

-- "however the scene loops": a node whose own value leads back to it
loop : ◌≡◌ {A = List (List ℕ)} (mentions (document (group (0 ∷ 0 ∷ []) ∷ []) (top 0 ∷ [])) ∷ reached (document (group (0 ∷ 0 ∷ []) ∷ []) (top 0 ∷ [])) ∷ []) ((0 ∷ 0 ∷ 0 ∷ []) ∷ (0 ∷ []) ∷ [])
unfolding mentions reached walked noted_all noted among top_node_ids nexts node_ids document group field node top
loop = refl

-- "follows field and interface values": fields first, as the rows stand; an IS has no value
values : node_ids (node (field (5 ∷ 6 ∷ []) ∷ record { name = 3; binding = FieldBinding.Is 4; inferred = 0 } ∷ []) (interface (7 ∷ []) ∷ [])) ≡ (5 ∷ 6 ∷ 7 ∷ [])
unfolding node_ids node field interface
values = refl

-- a node that is mentioned in one that is not reached is not reached, and that mention is none
apart : ◌≡◌ {A = List (List ℕ)} (mentions (document (leaf ∷ group (2 ∷ 0 ∷ []) ∷ leaf ∷ []) (top 0 ∷ [])) ∷ reached (document (leaf ∷ group (2 ∷ 0 ∷ []) ∷ leaf ∷ []) (top 0 ∷ [])) ∷ []) ((0 ∷ []) ∷ (0 ∷ []) ∷ [])
unfolding mentions reached walked noted_all noted among top_node_ids nexts node_ids document group leaf field node top
apart = refl

-- an id that leads nowhere is mentioned and is no node
nowhere : ◌≡◌ {A = List (List ℕ)} (mentions (document (group (9 ∷ []) ∷ []) (top 0 ∷ top 4 ∷ [])) ∷ reached (document (group (9 ∷ []) ∷ []) (top 0 ∷ top 4 ∷ [])) ∷ []) ((0 ∷ 4 ∷ 9 ∷ []) ∷ (0 ∷ []) ∷ [])
unfolding mentions reached walked noted_all noted among top_node_ids nexts node_ids document group field node top
nowhere = refl

-- extra roots, associations and the ends of routes are not followed, and are no mentions
recorded : Node
recorded =
    record {
      type_name = 7;
      def_name = none;
      origin = NodeOrigin.Builtin;
      fields = [];
      interface = [];
      statements = [];
      body_order = [];
      instance = some (record { proto_name = 1; extra_roots = 1 ∷ []; routes = []; is_map = record { interface = 1; node = 1; field = 1 } ∷ [] });
    }

routed : Statement
routed = Statement.Route (record { from_node = 1; from_field = 1; to_node = 1; to_field = 1; from_id = some 1; to_id = some 1 })

unfollowed : ◌≡◌ {A = List (List ℕ)} (mentions (document (recorded ∷ leaf ∷ []) (top 0 ∷ routed ∷ [])) ∷ reached (document (recorded ∷ leaf ∷ []) (top 0 ∷ routed ∷ [])) ∷ []) ((0 ∷ []) ∷ (0 ∷ []) ∷ [])
unfolding mentions reached walked noted_all noted among top_node_ids nexts node_ids document recorded routed leaf node top
unfollowed = refl
