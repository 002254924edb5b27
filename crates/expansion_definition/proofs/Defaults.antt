-- A default scope is opened exactly where no field gives a value and there is a default.
use mathlib.Core.Path.{◌≡◌, refl, ap, sym, ◌∙◌, subst}
use mathlib.Core.Logic.{◌⊎◌, inl, inr, ◌↔◌}
use mathlib.Core.Bool.{Bool, true, false}
use mathlib.Core.List.Memᴰ
use mathlib.Core.List.{List, [], ◌∷◌, ◌++◌, map, Memᴰ}
use mathlib.Core.Option.{Option, none, some}
use Prim.Native.Nat.{ℕ, zero, suc, ◌+◌}
use native.Mathlib.Omega.{arith}
use lib.ListN.{get_elem?}
use Rattle.ast.specs.Ast.{FieldValue, FieldBinding, Field, InterfaceDecl, Node, ProtoDecl}
use Rattle.ast.specs.Choice.{and_then}
use Rattle.pick_definition.specs.Picks.{Prototype}
use Rattle.expansion_steps.specs.Steps.{Action, copy_id, open_default}
use Rattle.expansion_definition.specs.Input.{Input, proto_of_origin, last_field}
use Rattle.expansion_definition.specs.Scopes.{Scope, scope_document}
use Rattle.expansion_definition.specs.Values.{value_named, Env, Copier}
use Rattle.expansion_definition.specs.Instances.{take_default, clone_or, interface_value}
use Rattle.expansion_definition.specs.Reached.{Known, decl_of, plain_nexts, given_ids, gives, is_given, default_scope, value_actions, interface_actions, instance_actions, actions_by, actions_of, node_in_scope, graph}
use Rattle.expansion_definition.specs.Expanded.{TakesDefault}

abbrev Opening : (ℕ → Known) → List (Action Known) → Type 0
Opening b l = Memᴰ (open_default b) l

-- Copies open no scope.
no_copy : {A : Type 0} {b : ℕ → Known} (l : List ℕ) → Opening b (map copy_id l) → A
no_copy {b = b} l m = let x = Memᴰ.of_map copy_id l m in never x.0 x.2
  where
    never : {A : Type 0} (i : ℕ) → copy_id i ≡ open_default b → A
    never i q = absurd (let z : ◌≡◌ {A = ℕ} 0 1 = cc in omega arith)

same_scope : (b c : ℕ → Known) → open_default b ≡ open_default c → b ≡ c
same_scope b c q = cc

-- ---- one interface

one_to : {b : ℕ → Known} (g : Bool) (e : ℕ → Known) (default : Option FieldValue) (given : Option FieldBinding) → Opening b (value_actions g e default given) → (g ≡ false) × (is_given default ≡ true) × (b ≡ e)
one_to true e default given m = no_copy (given_ids given) m
one_to false e none given m = absurd (Memᴰ.not-nil m)
one_to {b} false e (some v) given m = (refl, refl, same_scope b e (Memᴰ.eq_of_singleton m))

one_back : (g : Bool) (e : ℕ → Known) (default : Option FieldValue) (given : Option FieldBinding) → g ≡ false → is_given default ≡ true → Opening e (value_actions g e default given)
one_back true e default given q r = absurd (let z : ◌≡◌ {A = ℕ} 0 1 = cc in omega arith)
one_back false e none given q r = absurd (let z : ◌≡◌ {A = ℕ} 0 1 = cc in omega arith)
one_back false e (some v) given q r = Memᴰ.head refl

-- ---- the interfaces of an instance

module _ (names : List ℕ) (p : Prototype) (fields : List Field) where
  -- the i-th of these takes its default, in the scope b; k is the first one's index
  pub record Takes (l : List InterfaceDecl) (k : ℕ) (b : ℕ → Known) : Type 0 where
    pub i : ℕ
    interface : InterfaceDecl
    place : get_elem? l i ≡ some interface
    ungiven : gives names (last_field interface.name fields) ≡ false
    default : is_given interface.value ≡ true
    pub is : b ≡ default_scope p (k + i)

  pub list_to : (l : List InterfaceDecl) (k : ℕ) (b : ℕ → Known) → Opening b (interface_actions names p fields k l) → Takes l k b
  list_to [] k b m = absurd (Memᴰ.not-nil m)
  list_to (d ∷ l) k b m = by (list_to l (suc k) b) (Memᴰ.append_cases (value_actions (gives names (last_field d.name fields)) (default_scope p k) d.value (last_field d.name fields)) m)
    where
      first : Opening b (value_actions (gives names (last_field d.name fields)) (default_scope p k) d.value (last_field d.name fields)) → Takes (d ∷ l) k b
      first x =
          let y = one_to (gives names (last_field d.name fields)) (default_scope p k) d.value (last_field d.name fields) x in
          let z : k ≡ k + 0 = omega arith in
          record { i = 0; interface = d; place = refl; ungiven = y.0; default = y.1; is = y.2 ∙ ap (default_scope p) z }

      by : (Opening b (interface_actions names p fields (suc k) l) → Takes l (suc k) b) → Opening b (value_actions (gives names (last_field d.name fields)) (default_scope p k) d.value (last_field d.name fields)) ⊎ Opening b (interface_actions names p fields (suc k) l) → Takes (d ∷ l) k b
      by h (inl x) = first x
      by h (inr x) =
          let y : Takes l (suc k) b = h x in
          let z : suc k + y.i ≡ k + suc y.i = omega arith in
          record { i = suc y.i; interface = y.interface; place = y.place; ungiven = y.ungiven; default = y.default; is = y.is ∙ ap (default_scope p) z }

  list_back : (l : List InterfaceDecl) (k i : ℕ) (d : InterfaceDecl) → get_elem? l i ≡ some d → gives names (last_field d.name fields) ≡ false → is_given d.value ≡ true → Opening (default_scope p (k + i)) (interface_actions names p fields k l)
  list_back [] k i d q u r = absurd (let z : ◌≡◌ {A = ℕ} 0 1 = cc in omega arith)
  list_back (x ∷ l) k zero d q u r =
      let e : x ≡ d = cc in
      let z : k + 0 ≡ k = omega arith in
      rw (z, e) (Memᴰ.append_left (interface_actions names p fields (suc k) l) (one_back (gives names (last_field d.name fields)) (default_scope p k) d.value (last_field d.name fields) u r))
  list_back (x ∷ l) k (suc i) d q u r =
      let z : k + suc i ≡ suc k + i = omega arith in
      rw z (Memᴰ.append_right (value_actions (gives names (last_field x.name fields)) (default_scope p k) x.value (last_field x.name fields)) (list_back l (suc k) i d q u r))

-- ---- the actions of an id

module _ (I : Input) (s : Known) (j : ℕ) (b : ℕ → Known) where
  abbrev Taken : Type 0
  Taken = (p : Prototype) × (k : ℕ) × TakesDefault I s j p k × (b ≡ default_scope p k)

  to : (node : Option Node) → node_in_scope I s.entry j ≡ node → Opening b (actions_of I s node) → Taken
  to none q m = absurd (Memᴰ.not-nil m)
  to (some node) q m = by (proto_of_origin I (scope_document s.entry) node.origin) refl m
    where
      decl : (p : Prototype) → proto_of_origin I (scope_document s.entry) node.origin ≡ some p → (o : Option ProtoDecl) → decl_of I p ≡ o → Opening b (instance_actions s.names p node.fields o) → Taken
      decl p ep none ed x = absurd (Memᴰ.not-nil x)
      decl p ep (some d) ed x =
          let y : Takes s.names p node.fields d.interface 0 b = list_to s.names p node.fields d.interface 0 b x in
          let z : 0 + y.i ≡ y.i = omega arith in
          (p, y.i, record { node = node; here = q; instance = ep; decl = d; declared = ed; interface = y.interface; place = y.place; ungiven = y.ungiven; default = y.default }, y.is ∙ ap (default_scope p) z)

      by : (o : Option Prototype) → proto_of_origin I (scope_document s.entry) node.origin ≡ o → Opening b (actions_by I s.names node o) → Taken
      by none ep x = no_copy (plain_nexts node) x
      by (some p) ep x = decl p ep (decl_of I p) refl x

  back : Taken → Opening b (actions_of I s (node_in_scope I s.entry j))
  back x =
      let t : TakesDefault I s j x.0 x.1 = x.2 in
      let z : 0 + x.1 ≡ x.1 = omega arith in
      let m : Opening (default_scope x.0 (0 + x.1)) (interface_actions s.names x.0 t.node.fields 0 t.decl.interface) = list_back s.names x.0 t.node.fields t.decl.interface 0 x.1 t.interface t.place t.ungiven t.default in
      rw (t.here, t.instance, t.declared, x.3, ← z) m

-- An id asks for a default scope exactly where it is an instance that takes the default.
pub defaults_exact : (I : Input) (s : Known) (j : ℕ) (b : ℕ → Known) → Memᴰ (open_default b) ((graph I).actions s j) ↔ ((p : Prototype) × (k : ℕ) × TakesDefault I s j p k × (b ≡ default_scope p k))
defaults_exact I s j b = (to I s j b (node_in_scope I s.entry j) refl, back I s j b)

-- "as if no field of that name were there": an IS whose target has no value gives what no field gives.
pub as_if_absent : (I : Input) (f : Env → Copier) (env : Env) (e : Scope) (default : Option FieldValue) (target : ℕ) → and_then env.is_values (value_named target) ≡ none
    → interface_value I f env e default (some (FieldBinding.Is target)) ≡ interface_value I f env e default none
unfolding interface_value clone_or
as_if_absent I f env e default target q = ap (clone_or I (take_default I f e default)) q
