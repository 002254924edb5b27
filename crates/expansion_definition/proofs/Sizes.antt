-- Lists that count alike, and values: a copy has as many ids as what it copies.
use mathlib.Core.Path.{◌≡◌, refl, ap, sym, ◌∙◌}
use mathlib.Core.List.{List, [], ◌∷◌, ◌++◌, map}
use mathlib.Core.Option.{Option, none, some}
use mathlib.Core.Bool.{Bool, true, false}
use Prim.Native.Nat.{ℕ, zero, suc, ◌+◌}
use native.Mathlib.Omega.{arith}
use lib.ListN.{length, get_elem?, set}
use lib.Dec.{eqb}
use Rattle.ast.specs.Ast.{FieldData, FieldValue, FieldBinding, Field, InterfaceDecl, Statement, Node}
use Rattle.ast.specs.Choice.{choose, and_then, or_else, map_o}
use Rattle.pick_definition.specs.Picks.{Prototype}
use Rattle.expansion_definition.specs.Input.{Input, last_field}
use Rattle.expansion_definition.specs.Scopes.{Scope}
use Rattle.ast.specs.Ids.{data_ids}
use Rattle.expansion_definition.specs.State.{State, Result, refusal, ok, Comp, bind_r, ◌>>=◌, ret, map_m}
use Rattle.expansion_definition.specs.Charges.{charge, paid}
use Rattle.expansion_definition.specs.Values.{Values, value_named, Env, Copier, copy_data, value, clone}
use Rattle.expansion_definition.specs.Instances.{take_default, clone_or, interface_value, store, values}
use Rattle.expansion_definition.specs.Outputs.{sum_of}
use Rattle.expansion_definition.specs.Counted.{routes_in, value_for, stored_if, stored_from, of_value}
use Rattle.expansion_definition.proofs.Outcome.{Outcome, refused, accepted, Any, bind_out}
use Rattle.expansion_definition.proofs.Names.{anything}

abbrev pub Out : {A : Type 0} → (A → State → Type 0) → Result A → Type 0
Out P m = Outcome Any P m

-- ---- lists

abbrev pub total : List ℕ → ℕ
total l = sum_of (λ x. x) l

pub sum_map : {A : Type 0} (g : A → ℕ) (l : List A) → sum_of g l ≡ total (map g l)
sum_map g [] = refl
sum_map g (x ∷ l) = omega (arith, sum_map g l)

-- A node replaced by one that counts the same.
pub set_same : (g : Node → ℕ) (l : List Node) (n : ℕ) (x y : Node) → get_elem? l n ≡ some x → g y ≡ g x → map g (set l n y) ≡ map g l
set_same g [] n x y e q = refl
set_same g (a ∷ l) zero x y e q = let h : a ≡ x = cc in ap (λ (t : ℕ). t ∷ map g l) (q ∙ ap g (sym h))
set_same g (a ∷ l) (suc n) x y e q = ap (λ (r : List ℕ). g a ∷ r) (set_same g l n x y e q)

pub same_head : (x y : ℕ) (l k : List ℕ) → ◌≡◌ {A = List ℕ} (x ∷ l) (y ∷ k) → x ≡ y
same_head x y l k e = cc

pub same_tail : (x y : ℕ) (l k : List ℕ) → ◌≡◌ {A = List ℕ} (x ∷ l) (y ∷ k) → l ≡ k
same_tail x y l k e = cc

pub routes_cons : (s : Statement) (l : List Statement) → routes_in (s ∷ l) ≡ routes_in (s ∷ []) + routes_in l
routes_cons (Statement.Node i) l = omega arith
routes_cons (Statement.Proto p) l = omega arith
routes_cons (Statement.ExternProto x) l = omega arith
routes_cons (Statement.Route r) l = omega arith
routes_cons (Statement.Other p) l = omega arith

pub none_left : (l k : List ℕ) → l ++ k ≡ [] → l ≡ []
none_left [] k e = refl
none_left (x ∷ l) k e = absurd (let z : ◌≡◌ {A = ℕ} 0 1 = cc in omega arith)

pub none_right : (l k : List ℕ) → l ++ k ≡ [] → k ≡ []
none_right [] k e = e
none_right (x ∷ l) k e = absurd (let z : ◌≡◌ {A = ℕ} 0 1 = cc in omega arith)

-- An answer's step tells that answer.
pub bind_at : {A B : Type 0} {P : B → State → Type 0} (m : Result A) {k : A → Comp B} → ((a : A) (s : State) → m ≡ ok a s → Out P (k a s)) → Out P (bind_r m k)
unfolding bind_r
bind_at (refusal c d i) h = refused tt
bind_at (ok a s) h = h a s refl

-- ---- values: a copy has as many ids

abbrev pub id_count : FieldValue → ℕ
id_count v = length (data_ids v.«data»)

abbrev pub shape : ℕ × FieldValue → ℕ × ℕ
shape x = (x.0, id_count x.1)

abbrev pub size : Values → ℕ
size vs = sum_of of_value vs

-- names in order, and of each value how many ids it has
abbrev pub Alike : Values → Values → Type 0
Alike vs ds = map shape vs ≡ map shape ds

pub alike_size : (vs ds : Values) → Alike vs ds → size vs ≡ size ds
alike_size vs ds q = of vs ∙ ap (λ (l : List (ℕ × ℕ)). sum_of (λ x. suc x.1) l) q ∙ sym (of ds)
  where
    of : (vs : Values) → size vs ≡ sum_of (λ x. suc x.1) (map shape vs)
    of [] = refl
    of (x ∷ vs) = omega (arith, of vs)

size_of : ℕ → List (ℕ × ℕ) → Option ℕ
size_of t [] = none
size_of t (x ∷ l) = choose (eqb x.0 t) (some x.1) (size_of t l)

value_size : (t : ℕ) (vs : Values) → map_o id_count (value_named t vs) ≡ size_of t (map shape vs)
unfolding value_named size_of
value_size t [] = refl
value_size t (x ∷ vs) = go (eqb x.0 t) (value_size t vs)
  where
    go : (b : Bool) → map_o id_count (value_named t vs) ≡ size_of t (map shape vs) → map_o id_count (choose b (some x.1) (value_named t vs)) ≡ choose b (some (id_count x.1)) (size_of t (map shape vs))
    go true q = refl
    go false q = q

-- the values of a scope have as many ids as those of the documents
abbrev pub Sized : Env → Values → Type 0
Sized env ds = (t : ℕ) → map_o id_count (and_then env.is_values (value_named t)) ≡ map_o id_count (value_named t ds)

pub alike_sized : (vs ds : Values) → Alike vs ds → (t : ℕ) → map_o id_count (value_named t vs) ≡ map_o id_count (value_named t ds)
alike_sized vs ds q t = value_size t vs ∙ ap (size_of t) q ∙ sym (value_size t ds)

pub none_sized : (t : ℕ) → ◌≡◌ {A = Option ℕ} none (map_o id_count (value_named t []))
unfolding value_named
none_sized t = refl

map_m_length : {A B : Type 0} (g : A → Comp B) (l : List A) (st : State) → Out (λ bs s. length bs ≡ length l) (map_m g l st)
unfolding map_m
map_m_length g [] st = accepted refl
map_m_length g (a ∷ l) st = bind_out (anything _) (λ b s u. bind_out (map_m_length g l s) (λ bs s2 q. accepted (ap suc q)))

module _ (I : Input) where
  value_same : (c : Copier) (v : FieldValue) (st : State) → Out (λ v' s. id_count v' ≡ id_count v) (value I c v st)
  unfolding value copy_data
  value_same c v st = go v.«data»
    where
      go : (d : FieldData) → Out (λ v' s. id_count v' ≡ length (data_ids d)) ((copy_data I c d >>= (λ d'. ret (record { ty = v.ty; «data» = d' }))) st)
      go (FieldData.Payload p) = bind_out {Q = λ d' s. length (data_ids d') ≡ 0} (accepted refl) (λ d' s q. accepted q)
      go (FieldData.Nodes ids) = bind_out (bind_out (map_m_length (λ i. paid I (c i)) ids st) (λ os s q. accepted q)) (λ d' s q. accepted q)

  module _ (f : Env → Copier) where
    default_same : (e : Scope) (default : Option FieldValue) (st : State) → Out (λ v s. map_o id_count v ≡ map_o id_count default) (take_default I f e default st)
    unfolding take_default
    default_same e none st = accepted refl
    default_same e (some v) st = bind_out (anything _) (λ n s u. bind_out (value_same _ v s) (λ v' s2 q. accepted (ap some q)))

    module _ (env : Env) (ds : Values) (hs : Sized env ds) where
      interface_value_same : (e : Scope) (default : Option FieldValue) (given : Option FieldBinding) (st : State) → Out (λ v s. map_o id_count v ≡ map_o id_count (value_for ds default given)) (interface_value I f env e default given st)
      unfolding interface_value clone_or clone
      interface_value_same e default (some (FieldBinding.Value v)) st = bind_out (value_same _ v st) (λ v' s q. accepted (ap some q))
      interface_value_same e default (some (FieldBinding.Is t)) st = is (and_then env.is_values (value_named t)) (value_named t ds) (hs t)
        where
          is : (o d : Option FieldValue) → map_o id_count o ≡ map_o id_count d → Out (λ v s. map_o id_count v ≡ map_o id_count (or_else d default)) (clone_or I (take_default I f e default) o st)
          is none none q = default_same e default st
          is none (some d) q = absurd (let z : ◌≡◌ {A = ℕ} 0 1 = cc in omega arith)
          is (some v) none q = absurd (let z : ◌≡◌ {A = ℕ} 0 1 = cc in omega arith)
          is (some v) (some d) q = bind_out {Q = λ v' s. id_count v' ≡ id_count v} (bind_out (anything _) (λ u s w. accepted refl)) (λ v' s r. accepted (ap some r ∙ q))
      interface_value_same e default none st = default_same e default st

      store_same : (name : ℕ) (vs : Values) (v : Option FieldValue) (new : Values) (d : Option FieldValue) → Alike vs new → map_o id_count v ≡ map_o id_count d → (st : State) → Out (λ vs' s. Alike vs' (stored_if name d new)) (store I name vs v st)
      unfolding store paid bind_r
      store_same name vs none new none a q st = accepted a
      store_same name vs none new (some d) a q st = absurd (let z : ◌≡◌ {A = ℕ} 0 1 = cc in omega arith)
      store_same name vs (some v) new none a q st = absurd (let z : ◌≡◌ {A = ℕ} 0 1 = cc in omega arith)
      store_same name vs (some v) new (some d) a q st = bind_out (anything (charge I st)) (λ u s w. accepted (joined (id_count v) (id_count d) (same (id_count v) (id_count d) q)))
        where
          same : (x y : ℕ) → ◌≡◌ {A = Option ℕ} (some x) (some y) → x ≡ y
          same x y e = cc

          joined : (x y : ℕ) → x ≡ y → (name, x) ∷ map shape vs ≡ (name, y) ∷ map shape new
          joined x y e = cc

      pub values_alike : (p : Prototype) (fields : List Field) (k : ℕ) (l : List InterfaceDecl) (vs new : Values) → Alike vs new → (st : State) → Out (λ vs' s. Alike vs' (stored_from ds fields l new)) (values I f env p fields k l vs st)
      unfolding values
      values_alike p fields k [] vs new a st = accepted a
      values_alike p fields k (d ∷ l) vs new a st =
          bind_out (interface_value_same (Scope.Default p k env.scope) d.value (last_field d.name fields) st)
          (λ v s1 q. bind_out (store_same d.name vs v new (value_for ds d.value (last_field d.name fields)) a q s1) (λ vs1 s2 a1. values_alike p fields (suc k) l vs1 _ a1 s2))
