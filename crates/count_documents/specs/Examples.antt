-- Computed examples of counts.
use Rattle.std.specs.Prelude.{◌≡◌, refl, List, [], ◌∷◌, map, ℕ}
use Rattle.std.proofs.Math.Option.{none}
use Rattle.ast.specs.Ast.{FieldData, FieldBinding, Statement, NodeOrigin, Node, Document}
use Rattle.graph_definition.specs.Graph.{node_ids, nexts, top_node_ids, among, noted, noted_all, walked, reached, mentions}
use Rattle.count_documents.specs.Count.{named, count, total_of}

-- a node of a type with a value of ids
node : ℕ → List ℕ → Node
node t l =
    record { type_name = t; def_name = none; origin = NodeOrigin.Builtin; fields = record { name = 1; binding = FieldBinding.Value (record { ty = 11; «data» = FieldData.Nodes l }); inferred = 0 } ∷ []; interface = []; statements = []; body_order = []; instance = none }

document : List Node → List Statement → Document
document n s = record { header = 0; nodes = n; protos = []; extern_protos = []; statements = s }

-- port and starboard, of type 7, hold one pod, of type 5; the pod leads back to port
windows : Document
windows = document (node 7 (2 ∷ []) ∷ node 7 (2 ∷ 9 ∷ []) ∷ node 5 (0 ∷ []) ∷ []) (Statement.Node 0 ∷ Statement.Node 1 ∷ [])

-- under 1 the pod counts twice and port twice, under 2 each once; 9 leads nowhere and counts for no name
both : ◌≡◌ {A = List (List ℕ)} (map (count 1 windows) (5 ∷ 7 ∷ 9 ∷ []) ∷ map (count 2 windows) (5 ∷ 7 ∷ 9 ∷ []) ∷ []) ((2 ∷ 3 ∷ 0 ∷ []) ∷ (1 ∷ 2 ∷ 0 ∷ []) ∷ [])
unfolding count named mentions reached walked noted_all noted among top_node_ids nexts node_ids windows document node
both = refl

-- two documents, the first under 1 and the second under 2
one_each : map (total_of (1 ∷ 2 ∷ []) (windows ∷ windows ∷ [])) (5 ∷ 7 ∷ []) ≡ (3 ∷ 5 ∷ [])
unfolding total_of count named mentions reached walked noted_all noted among top_node_ids nexts node_ids windows document node
one_each = refl

-- no documents, no protocols: 0
nothing : total_of [] [] 5 ≡ 0
unfolding total_of
nothing = refl
