-- How many default scopes are opened: one for each interface whose default an instance reached takes, where no instance reaches itself.
use mathlib.Core.Path.{◌≡◌, refl, ap, sym, ◌∙◌, subst}
use mathlib.Core.Logic.{◌⊎◌, inl, inr}
use mathlib.Core.Bool.{Bool, true, false, not}
use mathlib.Core.List.Memᴰ
use mathlib.Core.List.{List, [], ◌∷◌, ◌++◌, map, Memᴰ}
use mathlib.Core.Option.{Option, none, some}
use Prim.Native.Nat.{ℕ, suc, ◌+◌, ◌≤◌}
use native.Mathlib.Omega.{arith}
use lib.ListN.{length, length-map}
use Rattle.ast.specs.Ast.{FieldValue, FieldBinding, Field, InterfaceDecl, Node, ProtoDecl}
use Rattle.pick_definition.specs.Picks.{Prototype}
use Rattle.expansion_steps.specs.Lists.{Nodup, count_if}
use Rattle.expansion_steps.proofs.ListLaws.{count_map, count_same}
use Rattle.expansion_steps.specs.Steps.{Action, copy_id, defaults, Instance, World, WholeRun, opened}
use Rattle.expansion_steps.proofs.Laws.{defaults_map, defaults_append, defaults_mem, opened_all}
use Rattle.expansion_steps.specs.Sums.{Count, Sum, default_scopes, NoLoop, DefaultOf}
use Rattle.expansion_steps.proofs.Defaults.{opened_known, default_sum}
use Rattle.expansion_definition.specs.Input.{Input, proto_of_origin, last_field}
use Rattle.expansion_definition.specs.Scopes.{Scope, scope_document, is_body, is_default}
use Rattle.expansion_definition.specs.Reached.{Known, known_entry, decl_of, plain_nexts, given_ids, gives, default_scope, body_names, body_scope, value_actions, interface_actions, instance_actions, actions_by, actions_of, node_in_scope, graph}
use Rattle.expansion_definition.specs.Expanded.{scope_at, TakesDefault, DefaultTaken}
use Rattle.expansion_definition.proofs.Agrees.{agrees}
use Rattle.expansion_definition.proofs.Defaults.{Takes, list_to, defaults_exact}

-- ---- the interfaces whose default an id takes

abbrev index : Scope → ℕ
index Scope.Root = 0
index (Scope.Body p n) = 0
index (Scope.Default p k n) = k

-- the interface's index, of a default scope
abbrev index_of : (ℕ → Known) → ℕ
index_of b = index (b 0).entry

abbrev indices : List (Action Known) → List ℕ
indices l = map index_of (defaults l)

-- ---- none twice

module _ (names : List ℕ) (p : Prototype) (fields : List Field) where
  -- k is the first one's index
  from : (l : List InterfaceDecl) (k i : ℕ) → Memᴰ i (indices (interface_actions names p fields k l)) → k ≤ i
  from l k i m = by (Memᴰ.of_map index_of (defaults (interface_actions names p fields k l)) m)
    where
      by : (b : ℕ → Known) × Memᴰ b (defaults (interface_actions names p fields k l)) × (index_of b ≡ i) → k ≤ i
      by y =
          let t : Takes names p fields l k y.0 = list_to names p fields l k y.0 ((defaults_mem y.0 (interface_actions names p fields k l)).0 y.1) in
          let q : index_of y.0 ≡ k + t.i = ap index_of t.is in
          omega (arith, q, y.2)

  one_more : (g : Bool) (default : Option FieldValue) (given : Option FieldBinding) (k : ℕ) (rest : List (Action Known)) → ((i : ℕ) → Memᴰ i (indices rest) → suc k ≤ i) → Nodup (indices rest)
      → Nodup (indices (value_actions g (default_scope p k) default given ++ rest))
  one_more true default given k rest h d = rw (defaults_append (map copy_id (given_ids given)) rest, defaults_map Known (given_ids given)) d
  one_more false none given k rest h d = d
  one_more false (some v) given k rest h d = (λ m. omega (arith, h k m), d)

  list_once : (l : List InterfaceDecl) (k : ℕ) → Nodup (indices (interface_actions names p fields k l))
  list_once [] k = tt
  list_once (d ∷ l) k = one_more (gives names (last_field d.name fields)) d.value (last_field d.name fields) k (interface_actions names p fields (suc k) l) (from l (suc k)) (list_once l (suc k))

module _ (I : Input) (s : Known) (j : ℕ) where
  decl_once : (fields : List Field) (p : Prototype) (o : Option ProtoDecl) → Nodup (indices (instance_actions s.names p fields o))
  decl_once fields p none = tt
  decl_once fields p (some d) = list_once s.names p fields d.interface 0

  kind_once : (node : Node) (o : Option Prototype) → Nodup (indices (actions_by I s.names node o))
  kind_once node none = rw (defaults_map Known (plain_nexts node)) tt
  kind_once node (some p) = decl_once node.fields p (decl_of I p)

  node_once : (node : Option Node) → Nodup (indices (actions_of I s node))
  node_once none = tt
  node_once (some node) = kind_once node (proto_of_origin I (scope_document s.entry) node.origin)

  -- ---- exactly these

  -- instance j takes the default of interface k
  abbrev Taken : ℕ → Type 0
  Taken k = (p : Prototype) × TakesDefault I s j p k

  to : (k : ℕ) → Memᴰ k (indices ((graph I).actions s j)) → Taken k
  to k m = by (Memᴰ.of_map index_of (defaults ((graph I).actions s j)) m)
    where
      by : (b : ℕ → Known) × Memᴰ b (defaults ((graph I).actions s j)) × (index_of b ≡ k) → Taken k
      by y =
          let t = (defaults_exact I s j y.0).0 ((defaults_mem y.0 ((graph I).actions s j)).0 y.1) in
          let q : t.1 ≡ k = sym (ap index_of t.3) ∙ y.2 in
          (t.0, subst (λ (i : ℕ). TakesDefault I s j t.0 i) q t.2)

  back : (k : ℕ) → Taken k → Memᴰ k (indices ((graph I).actions s j))
  back k t = Memᴰ.map index_of ((defaults_mem (default_scope t.0 k) ((graph I).actions s j)).1 ((defaults_exact I s j (default_scope t.0 k)).1 (t.0, k, t.1, refl)))

  -- As many as the default scopes that it asks for.
  counted : Count Taken (length (defaults ((graph I).actions s j)))
  counted = record { list = indices ((graph I).actions s j); once = node_once (node_in_scope I s.entry j); exact = λ k. (to k, back k); size = length-map (defaults ((graph I).actions s j)) index_of }

  -- An instance alone takes a default.
  only : (k : ℕ) → Taken k → Instance (graph I) s j
  only k t = (body_scope t.0 (body_names s.names t.1.node.fields (decl_of I t.0)), rw (t.1.here, t.1.instance) refl)

-- ---- the default scopes opened

module _ (I : Input) (w : World Known) (r : WholeRun (graph I) w) where
  -- What is opened is a default scope where it is no body's.
  default_or_body : (x : Known) → (is_body x.entry ≡ true) ⊎ DefaultOf (graph I) w x → is_default x.entry ≡ not (is_body x.entry)
  default_or_body x (inl q) = body x.entry q
    where
      body : (e : Scope) → is_body e ≡ true → is_default e ≡ not (is_body e)
      body Scope.Root q = absurd (let z : ◌≡◌ {A = ℕ} 0 1 = cc in omega arith)
      body (Scope.Body p n) q = refl
      body (Scope.Default p k n) q = refl
  default_or_body x (inr d) =
      let t = (defaults_exact I (scope_at I w d.number) d.node d.default).0 d.asked in
      let q : x.entry ≡ Scope.Default t.0 t.1 d.number = ap known_entry d.is ∙ ap (λ (b : ℕ → Known). (b d.number).entry) t.3 in
      rw q refl

  -- scopes are their entries
  module _ (scopes : List Scope) (fits : map known_entry w.scopes ≡ scopes) where
    opened_count : count_if is_default scopes ≡ default_scopes (graph I) (opened r)
    opened_count =
        let same : count_if (λ (x : Known). is_default x.entry) (opened r) ≡ default_scopes (graph I) (opened r) = count_same (λ x. is_default x.entry) (λ x. not (is_body x.entry)) (opened r) (λ x m. default_or_body x (opened_known (graph I) (agrees I) w r x m)) in
        omega (arith, ap (count_if is_default) fits, count_map is_default known_entry w.scopes, ap (count_if (λ (x : Known). is_default x.entry)) (opened_all r), same)

    -- "The double-count guarantee covers the new default scopes as well."
    pub default_count_lem : NoLoop (graph I) w.scopes → Sum (graph I) (DefaultTaken I) w.scopes (count_if is_default scopes)
    default_count_lem nl = rw opened_count (default_sum (graph I) (agrees I) w r (λ s j k. (p : Prototype) × TakesDefault I s j p k) (counted I) (only I) refl nl)
