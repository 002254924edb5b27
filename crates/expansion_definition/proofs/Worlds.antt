-- What the steps see of a state; the steps that leave it as it is, and the externs that they meet.
use mathlib.Core.Path.{◌≡◌, refl, ap, sym, ◌∙◌, subst}
use mathlib.Core.List.Memᴰ
use mathlib.Core.List.{List, [], ◌∷◌, ◌++◌, map, Memᴰ}
use mathlib.Core.Logic.{◌⊎◌, inl, inr}
use mathlib.Core.Option.{Option, none, some}
use mathlib.Core.Bool.{Bool, true, false, ◌&&◌}
use Prim.Native.Nat.{ℕ, zero, suc}
use native.Mathlib.Omega.{arith}
use lib.ListN.{length, get_elem?, set, length-set}
use lib.Dec.{T, ltb, eqb, eqb→eq, eqb_refl}
use Rattle.ast.specs.Ast.{NodeOrigin, FieldValue, Field, InterfaceDecl, Route, Statement, Association, ProtoInstance, Node, ExternProtoDecl}
use Rattle.ast.specs.Choice.{choose}
use Rattle.ast.specs.Lookups.{extern_proto_at}
use Rattle.expansion_steps.specs.Steps
use Rattle.expansion_definition.specs.Input.{Input, docs, used_url}
use Rattle.ast.specs.Ids.{data_ids}
use Rattle.expansion_definition.specs.State.{Entry, Bookkeeping, State, Result, refusal, ok, Comp, ◌>>=◌, ret, map_m, lookup}
use Rattle.expansion_definition.specs.Charges.{charge_if, charge, charge_each, paid}
use Rattle.expansion_definition.specs.Values.{Values, Env, src, clone}
use Rattle.expansion_definition.specs.Externs.{lookup_extern, declared, push_extern, declare, extern_proto}
use Rattle.expansion_definition.specs.PlainCopy.{copy_origin, associate, is_field, is_interface, remap_route, copy_route, copy_extern, copy_statement}
use Rattle.expansion_definition.specs.Instances.{store, Body, place, associations_of, with_instance, update, record_instance}
use Rattle.expansion_definition.specs.Reached.{Known}
use Rattle.expansion_definition.specs.Expanded.{Dangling}
use Rattle.expansion_definition.proofs.Outcome.{Outcome, refused, accepted, Any, bind_out, map_out, then_out, both}

-- ---- the world that the steps see

-- what the steps see of a map entry
abbrev pub key : Entry → ℕ × ℕ
key e = (e.scope, e.id)

-- what no state holds: the instances that opened a body scope, and what is known of each scope
pub record Unseen : Type 0 where
  pub openers : List (ℕ × ℕ)
  pub scopes : List Known

abbrev pub see : Unseen → Bookkeeping → Steps.World Known
see g w = record { mapped = map key w.map; ledger = w.ledger; openers = g.openers; scopes = g.scopes }

-- a scope more
abbrev pub with_scope : Known → Unseen → Unseen
with_scope s g = record { openers = g.openers; scopes = g.scopes ++ (s ∷ []) }

abbrev pub with_opener : ℕ → ℕ → Unseen → Unseen
with_opener n i g = record { openers = (n, i) ∷ g.openers; scopes = g.scopes }

-- An id that is found is mapped.
pub lookup_here : (m : List Entry) (s i o : ℕ) → lookup m s i ≡ some o → Memᴰ (s, i) (map key m)
unfolding lookup
lookup_here [] s i o q = absurd (let z : ◌≡◌ {A = ℕ} 0 1 = cc in omega arith)
lookup_here (e ∷ m) s i o q = go (eqb e.scope s) (eqb e.id i) (eqb→eq e.scope s) (eqb→eq e.id i) (lookup_here m s i o) q
  where
    go : (a b : Bool) → (T a → e.scope ≡ s) → (T b → e.id ≡ i) → (lookup m s i ≡ some o → Memᴰ (s, i) (map key m)) → choose (a && b) (some e.out) (lookup m s i) ≡ some o → Memᴰ (s, i) (key e ∷ map key m)
    go true true f g k r = Memᴰ.head (λ x. (sym (f tt) x, sym (g tt) x))
    go true false f g k r = Memᴰ.tail (k r)
    go false true f g k r = Memᴰ.tail (k r)
    go false false f g k r = Memᴰ.tail (k r)

-- An id that is not found is not mapped.
pub lookup_none : (m : List Entry) (s i : ℕ) → lookup m s i ≡ none → Memᴰ (s, i) (map key m) → ⊥
unfolding lookup
lookup_none [] s i q h = Memᴰ.not-nil h
lookup_none (e ∷ m) s i q h = at (lookup_none m s i) (Memᴰ.cases_cons h)
  where
    first : (a b : Bool) → T a → T b → choose (a && b) (some e.out) (lookup m s i) ≡ none → ⊥
    first true true f g r = let z : ◌≡◌ {A = ℕ} 0 1 = cc in omega arith
    first true false f g r = g
    first false true f g r = f
    first false false f g r = f

    rest : (a : Bool) → choose a (some e.out) (lookup m s i) ≡ none → lookup m s i ≡ none
    rest true r = absurd (let z : ◌≡◌ {A = ℕ} 0 1 = cc in omega arith)
    rest false r = r

    at : (lookup m s i ≡ none → Memᴰ (s, i) (map key m) → ⊥) → (◌≡◌ {A = ℕ × ℕ} (s, i) (key e)) ⊎ Memᴰ (s, i) (map key m) → ⊥
    at k (inl x) = first (eqb e.scope s) (eqb e.id i) (rw (ap (λ (y : ℕ × ℕ). y.0) x) (eqb_refl e.scope)) (rw (ap (λ (y : ℕ × ℕ). y.1) x) (eqb_refl e.id)) q
    at k (inr x) = k (rest (eqb e.scope s && eqb e.id i) q) x

-- the type names of a state's nodes
abbrev pub types_of : State → List ℕ
types_of st = map (λ x. x.type_name) st.nodes

-- A node replaced by one of its type name.
set_type : (l : List Node) (n : ℕ) (x y : Node) → get_elem? l n ≡ some x → y.type_name ≡ x.type_name → map (λ z. z.type_name) (set l n y) ≡ map (λ z. z.type_name) l
set_type [] n x y e q = refl
set_type (a ∷ l) zero x y e q = let h : a ≡ x = cc in ap (λ (t : ℕ). t ∷ map (λ z. z.type_name) l) (q ∙ ap (λ (z : Node). z.type_name) (sym h))
set_type (a ∷ l) (suc n) x y e q = ap (λ (r : List ℕ). a.type_name ∷ r) (set_type l n x y e q)

module _ (I : Input) where
  -- ---- externs that are declared

  -- an extern id of document d that leads somewhere
  abbrev pub Fine : ℕ → ℕ → Type 0
  Fine d x = extern_proto_at (docs I) d x ≡ none → ⊥

  -- every extern that is declared does
  abbrev pub Valid : State → Type 0
  Valid st = (d x n : ℕ) → lookup_extern st.extern_map d x ≡ some n → Fine d x

  some_fine : (d x : ℕ) {decl : ExternProtoDecl} → extern_proto_at (docs I) d x ≡ some decl → Fine d x
  some_fine d x p q = let z : ◌≡◌ {A = ℕ} 0 1 = cc in omega arith

  valid_push : (d x : ℕ) (decl y : ExternProtoDecl) (st : State) → extern_proto_at (docs I) d x ≡ some decl → Valid st → Valid (push_extern d x y st)
  unfolding lookup_extern
  valid_push d x decl y st e h d' x' n = go (eqb d d') (eqb x x') (eqb→eq d d') (eqb→eq x x')
    where
      go : (a b : Bool) → (T a → d ≡ d') → (T b → x ≡ x') → choose (a && b) (some (length st.extern_protos)) (lookup_extern st.extern_map d' x') ≡ some n → Fine d' x'
      go true true p q r = some_fine d' x' (ap (λ (y : ℕ). extern_proto_at (docs I) y x') (sym (p tt)) ∙ ap (extern_proto_at (docs I) d) (sym (q tt)) ∙ e)
      go true false p q r = h d' x' n r
      go false true p q r = h d' x' n r
      go false false p q r = h d' x' n r

  -- the world is the same after the step, no node is added, each keeps its type name, and an extern that is declared is there
  pub record Same (st st' : State) : Type 0 where
    pub world : st'.world ≡ st.world
    pub size : length st'.nodes ≡ length st.nodes
    pub types : types_of st' ≡ types_of st
    pub valid : Valid st → Valid st'

  pub same_then : {a b c : State} → Same a b → Same b c → Same a c
  same_then p q = record { world = q.world ∙ p.world; size = q.size ∙ p.size; types = q.types ∙ p.types; valid = λ h. q.valid (p.valid h) }

  pub itself : (st : State) → Same st st
  itself st = record { world = refl; size = refl; types = refl; valid = λ h. h }

  -- ---- what leaves the world as it is: each step that opens no scope, maps nothing and lists nothing

  -- what stops such a step: a charge too many, or one of the extern ids X of document d, which leads nowhere
  pub data Short (d : ℕ) (X : ℕ → Type 0) : ℕ → ℕ → ℕ → Type 0 where
    rows : Short d X 10 0 0
    extern : (x : ℕ) → X x → extern_proto_at (docs I) d x ≡ none → Short d X 4 d x

  abbrev pub Keep : {A : Type 0} → ℕ → (ℕ → Type 0) → Comp A → Type 0
  Keep d X c = (st : State) → Outcome (Short d X) (λ a st'. Same st st') (c st)

  module _ {d : ℕ} {X : ℕ → Type 0} where
    pub keep_ret : {A : Type 0} (a : A) → Keep d X (ret a)
    keep_ret a st = accepted (itself st)

    -- Two steps that keep the world keep it.
    pub keep_bind : {A B : Type 0} {c : Comp A} {k : A → Comp B} → Keep d X c → ((a : A) → Keep d X (k a)) → Keep d X (c >>= k)
    keep_bind h f st = bind_out (h st) (λ a s e. map_out (f a s) (λ b s' e'. same_then e e'))

    pub charge_keep : Keep d X (charge I)
    unfolding charge charge_if
    charge_keep st = go (ltb st.charges I.limits.max_rows)
      where
        go : (b : Bool) → Outcome (Short d X) (λ a st'. Same st st') (charge_if b st)
        go true = accepted (record { world = refl; size = refl; types = refl; valid = λ h. h })
        go false = refused rows

    pub charge_each_keep : {A : Type 0} (l : List A) → Keep d X (charge_each I l)
    unfolding charge_each
    charge_each_keep [] = keep_ret tt
    charge_each_keep (x ∷ l) = keep_bind charge_keep (λ a. charge_each_keep l)

    pub paid_keep : {A : Type 0} {m : Comp A} → Keep d X m → Keep d X (paid I m)
    unfolding paid
    paid_keep h = keep_bind h (λ a. keep_bind charge_keep (λ u. keep_ret a))

    pub clone_keep : (v : FieldValue) → Keep d X (clone I v)
    unfolding clone
    clone_keep v = keep_bind (charge_each_keep (data_ids v.«data»)) (λ a. keep_ret v)

    pub associate_keep : (env : Env) (a : Association) → Keep d X (associate I env a)
    unfolding associate
    associate_keep env a = keep_bind charge_keep (λ u st. accepted (record { world = refl; size = refl; types = refl; valid = λ h. h }))

    pub extern_proto_keep : (env : Env) → src env ≡ d → (x : ℕ) → X x → Keep d X (extern_proto I env x)
    unfolding extern_proto declare
    extern_proto_keep env q x hx st = go (lookup_extern st.extern_map (src env) x) (extern_proto_at (docs I) (src env) x) refl st
      where
        go : (o : Option ℕ) (decl : Option ExternProtoDecl) → extern_proto_at (docs I) (src env) x ≡ decl → Keep d X (declare I (src env) x o decl)
        go (some n) decl e = keep_ret n
        go none none e = λ s. refused (subst (λ (y : ℕ). Short y X 4 (src env) x) q (extern x hx e))
        go none (some decl) e = keep_bind charge_keep (λ a. keep_bind (charge_each_keep decl.interface) (λ b. keep_bind (charge_each_keep decl.urls) (λ c s. accepted (record { world = refl; size = refl; types = refl; valid = valid_push (src env) x decl (declared (used_url I (src env) x) decl) s e }))))

    pub copy_origin_keep : (env : Env) → src env ≡ d → (o : NodeOrigin) → ((x : ℕ) → o ≡ NodeOrigin.ExternProto x → X x) → Keep d X (copy_origin I env o)
    unfolding copy_origin
    copy_origin_keep env q NodeOrigin.Builtin h = keep_ret _
    copy_origin_keep env q (NodeOrigin.Proto p) h = keep_ret _
    copy_origin_keep env q (NodeOrigin.ExternProto x) h = keep_bind (extern_proto_keep env q x (h x refl)) (λ n. keep_ret _)
    copy_origin_keep env q NodeOrigin.Unknown h = keep_ret _

    pub is_field_keep : (f : Field) (o : Option (Option FieldValue)) → Keep d X (is_field I f o)
    unfolding is_field
    is_field_keep f none = paid_keep (keep_ret _)
    is_field_keep f (some none) = keep_ret none
    is_field_keep f (some (some v)) = keep_bind (paid_keep (clone_keep v)) (λ a. keep_ret _)

    pub is_interface_keep : (i : InterfaceDecl) (target : ℕ) (o : Option (Option FieldValue)) → Keep d X (is_interface I i target o)
    unfolding is_interface
    is_interface_keep i target none = keep_ret _
    is_interface_keep i target (some none) = keep_ret _
    is_interface_keep i target (some (some v)) = keep_bind (clone_keep v) (λ a. keep_ret _)

    pub copy_route_keep : (env : Env) (r : Route) → Keep d X (copy_route I env r)
    unfolding copy_route
    copy_route_keep env r = paid_keep (λ st. accepted (itself st))

    pub copy_extern_keep : (env : Env) → src env ≡ d → (x : ℕ) → X x → Keep d X (copy_extern I env x)
    unfolding copy_extern
    copy_extern_keep env q x hx = keep_bind (paid_keep (extern_proto_keep env q x hx)) (λ n. keep_ret _)

    pub copy_statement_keep : (env : Env) → src env ≡ d → (s : Statement) → ((x : ℕ) → s ≡ Statement.ExternProto x → X x) → Keep d X (copy_statement I env s)
    unfolding copy_statement
    copy_statement_keep env q (Statement.Node i) h = keep_ret none
    copy_statement_keep env q (Statement.Proto p) h = keep_ret none
    copy_statement_keep env q (Statement.ExternProto x) h = copy_extern_keep env q x (h x refl)
    copy_statement_keep env q (Statement.Route r) h = copy_route_keep env r
    copy_statement_keep env q (Statement.Other p) h = keep_ret none

    pub map_m_keep : {A B : Type 0} (g : A → Comp B) (l : List A) → ((a : A) → Memᴰ a l → Keep d X (g a)) → Keep d X (map_m g l)
    unfolding map_m
    map_m_keep g [] h = keep_ret []
    map_m_keep g (a ∷ l) h = keep_bind (h a (Memᴰ.head refl)) (λ b. keep_bind (map_m_keep g l (λ x m. h x (Memᴰ.tail m))) (λ bs. keep_ret (b ∷ bs)))

    pub store_keep : (name : ℕ) (vs : Values) (v : Option FieldValue) → Keep d X (store I name vs v)
    unfolding store
    store_keep name vs none = keep_ret vs
    store_keep name vs (some v) = paid_keep (keep_ret _)

    pub record_instance_keep : (name : ℕ) (def_name : Option ℕ) (n : ℕ) (b : Body) (o : ℕ) → Keep d X (record_instance name def_name n b o)
    unfolding record_instance
    record_instance_keep name def_name n b o st = accepted (record { world = refl; size = go (get_elem? st.nodes o); types = kept (get_elem? st.nodes o) refl; valid = λ h. h })
      where
        x : ProtoInstance
        x = record { proto_name = name; extra_roots = b.extra_roots; routes = map (remap_route st.world n) b.routes; is_map = associations_of n st.is_map }

        go : (y : Option Node) → length (update st.nodes o (with_instance def_name x) y) ≡ length st.nodes
        go none = refl
        go (some y) = length-set st.nodes o (with_instance def_name x y)

        kept : (y : Option Node) → get_elem? st.nodes o ≡ y → map (λ z. z.type_name) (update st.nodes o (with_instance def_name x) y) ≡ types_of st
        kept none e = refl
        kept (some y) e = set_type st.nodes o y (with_instance def_name x y) e refl

  -- ---- what is met in an accepted step is there

  pub anything : {A : Type 0} (m : Result A) → Outcome Any (λ a s. Unit {0}) m
  anything (refusal c d i) = refused tt
  anything (ok a s) = accepted tt

  pub extern_fine : (env : Env) (x : ℕ) (st : State) → Valid st → Outcome Any (λ a s. Fine (src env) x) (extern_proto I env x st)
  unfolding extern_proto declare
  extern_fine env x st h = go (lookup_extern st.extern_map (src env) x) refl (extern_proto_at (docs I) (src env) x) refl
    where
      go : (o : Option ℕ) → lookup_extern st.extern_map (src env) x ≡ o → (decl : Option ExternProtoDecl) → extern_proto_at (docs I) (src env) x ≡ decl → Outcome Any (λ a s. Fine (src env) x) (declare I (src env) x o decl st)
      go (some n) q decl e = accepted (h (src env) x n q)
      go none q none e = refused tt
      go none q (some decl) e = bind_out (anything _) (λ a s1 u. bind_out (anything _) (λ b s2 u. bind_out (anything _) (λ c s3 u. accepted (some_fine (src env) x e))))

  abbrev pub OriginFine : ℕ → NodeOrigin → Type 0
  OriginFine d o = (x : ℕ) → o ≡ NodeOrigin.ExternProto x → Fine d x

  pub origin_fine : (env : Env) (o : NodeOrigin) (st : State) → Valid st → Outcome Any (λ a s. OriginFine (src env) o) (copy_origin I env o st)
  unfolding copy_origin
  origin_fine env NodeOrigin.Builtin st h = accepted (λ x q. absurd (let z : ◌≡◌ {A = ℕ} 0 1 = cc in omega arith))
  origin_fine env (NodeOrigin.Proto p) st h = accepted (λ x q. absurd (let z : ◌≡◌ {A = ℕ} 0 1 = cc in omega arith))
  origin_fine env (NodeOrigin.ExternProto y) st h = bind_out (extern_fine env y st h) (λ n s f. accepted (λ x q. let e : y ≡ x = cc in rw (← e) f))
  origin_fine env NodeOrigin.Unknown st h = accepted (λ x q. absurd (let z : ◌≡◌ {A = ℕ} 0 1 = cc in omega arith))

  abbrev pub StatementFine : ℕ → Statement → Type 0
  StatementFine d s = (x : ℕ) → s ≡ Statement.ExternProto x → Fine d x

  pub copy_extern_fine : (env : Env) (y : ℕ) (st : State) → Valid st → Outcome Any (λ a s. StatementFine (src env) (Statement.ExternProto y)) (copy_extern I env y st)
  unfolding copy_extern paid
  copy_extern_fine env y st h = bind_out (bind_out (extern_fine env y st h) (λ n s f. bind_out (anything (charge I s)) (λ u s2 v. accepted f))) (λ n s f. accepted (λ x q. let e : y ≡ x = cc in rw (← e) f))

  statement_fine : (env : Env) (s : Statement) (st : State) → Valid st → Outcome Any (λ a t. StatementFine (src env) s) (copy_statement I env s st)
  unfolding copy_statement
  statement_fine env (Statement.Node i) st h = accepted (λ x q. absurd (let z : ◌≡◌ {A = ℕ} 0 1 = cc in omega arith))
  statement_fine env (Statement.Proto p) st h = accepted (λ x q. absurd (let z : ◌≡◌ {A = ℕ} 0 1 = cc in omega arith))
  statement_fine env (Statement.ExternProto y) st h = copy_extern_fine env y st h
  statement_fine env (Statement.Route r) st h = map_out (anything _) (λ a s u x q. absurd (let z : ◌≡◌ {A = ℕ} 0 1 = cc in omega arith))
  statement_fine env (Statement.Other p) st h = accepted (λ x q. absurd (let z : ◌≡◌ {A = ℕ} 0 1 = cc in omega arith))

  abbrev pub AllFine : ℕ → List Statement → Type 0
  AllFine d l = (x : ℕ) → Memᴰ (Statement.ExternProto x) l → Fine d x

  pub none_fine : (d : ℕ) → AllFine d []
  none_fine d x m = absurd (Memᴰ.not-nil m)

  pub cons_fine : (d : ℕ) {s : Statement} {l : List Statement} → StatementFine d s → AllFine d l → AllFine d (s ∷ l)
  cons_fine d {s} {l} f g x m = at (Memᴰ.cases_cons m)
    where
      at : (Statement.ExternProto x ≡ s) ⊎ Memᴰ (Statement.ExternProto x) l → Fine d x
      at (inl e) = f x (sym e)
      at (inr h) = g x h

  -- the first of statements is dangling, or one behind it
  abbrev pub first_dangling : {d : ℕ} (s : Statement) (l : List Statement) (x : ℕ) → s ≡ Statement.ExternProto x → extern_proto_at (docs I) d x ≡ none → Dangling I d (s ∷ l) x
  first_dangling {d} s l x q e = record { before = []; behind = l; place = ap (λ (y : Statement). y ∷ l) q; there = none_fine d; missing = e }

  abbrev pub later_dangling : {d : ℕ} {s : Statement} {l : List Statement} {x : ℕ} → StatementFine d s → Dangling I d l x → Dangling I d (s ∷ l) x
  later_dangling {d} {s} f h = record { before = s ∷ h.before; behind = h.behind; place = ap (λ (y : List Statement). s ∷ y) h.place; there = cons_fine d f h.there; missing = h.missing }

  -- The statements of a node: those in front of one that stops are there.
  pub statements_keep : (env : Env) (l : List Statement) (st : State) → Valid st → Outcome (Short (src env) (Dangling I (src env) l)) (λ a t. Same st t × AllFine (src env) l) (map_m (copy_statement I env) l st)
  unfolding map_m
  statements_keep env [] st h = accepted (itself st, none_fine (src env))
  statements_keep env (s ∷ l) st h =
      then_out (both _ (copy_statement_keep {d = src env} {X = λ x. s ≡ Statement.ExternProto x} env refl s (λ x q. q) st) (statement_fine env s st h)) first
      (λ a s1 f. then_out (statements_keep env l s1 (f.0.valid h)) (later f.1) (λ bs s2 g. accepted (same_then f.0 g.0, cons_fine (src env) f.1 g.1)))
    where
      first : (c d x : ℕ) → Short (src env) (λ y. s ≡ Statement.ExternProto y) c d x → Short (src env) (Dangling I (src env) (s ∷ l)) c d x
      first c d x rows = rows
      first c d x (extern y q e) = extern y (first_dangling s l y q e) e

      later : StatementFine (src env) s → (c d x : ℕ) → Short (src env) (Dangling I (src env) l) c d x → Short (src env) (Dangling I (src env) (s ∷ l)) c d x
      later f c d x rows = rows
      later f c d x (extern y z e) = extern y (later_dangling f z) e
