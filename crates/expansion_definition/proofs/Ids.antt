-- Every node id of an output whose parts are in order is below the node count.
use mathlib.Core.Path.{◌≡◌, refl, subst}
use mathlib.Core.Logic.{◌⊎◌, inl, inr}
use mathlib.Core.List.Memᴰ
use mathlib.Core.List.{List, [], ◌∷◌, ◌++◌, map, Memᴰ}
use mathlib.Core.Option.{Option, none, some}
use Prim.Native.Nat.{ℕ, ◌<◌}
use Rattle.ast.specs.Ast.{InterfaceDecl, Route, Statement, Association, ProtoInstance, Node, ExternProtoDecl, Document}
use Rattle.ast.specs.Lists.{flat}
use Rattle.ast.specs.Ids.{binding_ids}
use Rattle.expansion_definition.specs.Outputs.{end_ids, route_ids, ids_of_statement, ids_of_instance, ids_of_interface, ids_of_node, output_ids}
use Rattle.expansion_definition.proofs.OutputState.{IdsBelow, EndBelow, RouteBelow, InstanceBelow, TopStatement, NodeStatement, OutputNode}

-- Two lists behind one another.
both : (n : ℕ) (l k : List ℕ) → IdsBelow n l → IdsBelow n k → IdsBelow n (l ++ k)
both n l k f g i q = at (Memᴰ.append_cases l q)
  where
    at : Memᴰ i l ⊎ Memᴰ i k → i < n
    at (inl x) = f i x
    at (inr x) = g i x

-- Each element's ids.
each : {A : Type 0} (n : ℕ) (g : A → List ℕ) (l : List A) → ((a : A) → Memᴰ a l → IdsBelow n (g a)) → IdsBelow n (flat g l)
each n g [] h = λ i q. absurd (Memᴰ.not-nil q)
each n g (a ∷ l) h = both n (g a) (flat g l) (h a (Memᴰ.head refl)) (each n g l (λ b m. h b (Memᴰ.tail m)))

-- One id.
one : (n i : ℕ) → i < n → IdsBelow n (i ∷ [])
one n i lt j q = at (Memᴰ.cases_cons q)
  where
    at : (j ≡ i) ⊎ Memᴰ j [] → j < n
    at (inl e) = rw e lt
    at (inr m) = absurd (Memᴰ.not-nil m)

-- A route end.
end_below : (n : ℕ) (o : Option ℕ) → EndBelow n o → IdsBelow n (end_ids o)
end_below n none h = λ i q. absurd (Memᴰ.not-nil q)
end_below n (some i) h = one n i (h i refl)

-- A route.
route_below : (n : ℕ) (r : Route) → RouteBelow n r → IdsBelow n (route_ids r)
route_below n r h = both n (end_ids r.from_id) (end_ids r.to_id) (end_below n r.from_id h.from_id) (end_below n r.to_id h.to_id)

-- A top statement.
top_below : (n : ℕ) (s : Statement) → TopStatement n s → IdsBelow n (ids_of_statement s)
top_below n (Statement.Node i) h = one n i h
top_below n (Statement.Proto p) h = absurd h
top_below n (Statement.ExternProto x) h = λ i q. absurd (Memᴰ.not-nil q)
top_below n (Statement.Route r) h = route_below n r h
top_below n (Statement.Other p) h = λ i q. absurd (Memᴰ.not-nil q)

-- A node's statement.
statement_below : (n : ℕ) (s : Statement) → NodeStatement n s → IdsBelow n (ids_of_statement s)
statement_below n (Statement.Node i) h = absurd h
statement_below n (Statement.Proto p) h = absurd h
statement_below n (Statement.ExternProto x) h = λ i q. absurd (Memᴰ.not-nil q)
statement_below n (Statement.Route r) h = route_below n r h
statement_below n (Statement.Other p) h = absurd h

-- An instance's record.
instance_below : (n : ℕ) (x : Option ProtoInstance) → ((y : ProtoInstance) → x ≡ some y → InstanceBelow n y) → IdsBelow n (ids_of_instance x)
instance_below n none h = λ i q. absurd (Memᴰ.not-nil q)
instance_below n (some x) h =
    both n x.extra_roots (flat route_ids x.routes ++ map (λ a. a.node) x.is_map) (h x refl).extra_roots
    (both n (flat route_ids x.routes) (map (λ a. a.node) x.is_map) (each n route_ids x.routes (λ r m. route_below n r ((h x refl).routes r m))) nodes)
  where
    nodes : IdsBelow n (map (λ a. a.node) x.is_map)
    nodes i q = let y = Memᴰ.of_map (λ (a : Association). a.node) x.is_map q in subst (λ (j : ℕ). j < n) y.2 ((h x refl).is_map y.0 y.1)

-- A node.
node_below : (n : ℕ) (x : Node) → OutputNode n x → IdsBelow n (ids_of_node x)
node_below n x h =
    both n (flat (λ f. binding_ids f.binding) x.fields) (ids_of_interface x.interface ++ (flat ids_of_statement x.statements ++ ids_of_instance x.instance)) (each n _ x.fields h.fields)
    (both n (ids_of_interface x.interface) (flat ids_of_statement x.statements ++ ids_of_instance x.instance) (each n _ x.interface (λ d m. (h.interface d m).0))
    (both n (flat ids_of_statement x.statements) (ids_of_instance x.instance) (each n ids_of_statement x.statements (λ s m. statement_below n s (h.statements s m))) (instance_below n x.instance h.instance)))

-- An extern without values holds no id.
extern_below : (n : ℕ) (l : List InterfaceDecl) → ((d : InterfaceDecl) → Memᴰ d l → d.value ≡ none) → IdsBelow n (ids_of_interface l)
extern_below n l h = each n _ l (λ d m. rw (h d m) (λ i q. absurd (Memᴰ.not-nil q)))

-- All node ids of the output.
pub ids_below : (n : ℕ) (d : Document) → ((x : Node) → Memᴰ x d.nodes → OutputNode n x) → ((s : Statement) → Memᴰ s d.statements → TopStatement n s)
    → ((x : ExternProtoDecl) → Memᴰ x d.extern_protos → (i : InterfaceDecl) → Memᴰ i x.interface → i.value ≡ none) → IdsBelow n (output_ids d)
ids_below n d hn hs hx =
    both n (flat ids_of_node d.nodes) (flat (λ x. ids_of_interface x.interface) d.extern_protos ++ flat ids_of_statement d.statements) (each n ids_of_node d.nodes (λ x m. node_below n x (hn x m)))
    (both n (flat (λ x. ids_of_interface x.interface) d.extern_protos) (flat ids_of_statement d.statements) (each n _ d.extern_protos (λ x m. extern_below n x.interface (hx x m)))
    (each n ids_of_statement d.statements (λ s m. top_below n s (hs s m))))
