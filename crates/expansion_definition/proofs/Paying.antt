-- Each step charges just for what it leaves and for what its run counts: the calculus, and the steps that run nothing.
use mathlib.Core.Path.{◌≡◌, refl, ap, sym, subst}
use mathlib.Core.List.{List, [], ◌∷◌, ◌++◌, map, append-nil}
use mathlib.Core.Option.{Option, none, some}
use mathlib.Core.Bool.{Bool, true, false}
use Prim.Native.Nat.{ℕ, suc, ◌+◌}
use native.Mathlib.Omega.{arith}
use lib.ListN.{length}
use lib.Dec.{ltb}
use Rattle.ast.proofs.Basics.{map_append}
use Rattle.ast.specs.Ast.{NodeOrigin, FieldValue, FieldBinding, Field, InterfaceDecl, Route, Statement, Association, ExternProtoDecl}
use Rattle.ast.specs.Lists.{flat}
use Rattle.ast.specs.Lookups.{extern_proto_at}
use Rattle.expansion_steps.specs.Steps.{Action, copy_id, Task, one, all}
use Rattle.expansion_steps.specs.Steps
use Rattle.expansion_definition.specs.Input.{Input, docs, used_url}
use Rattle.ast.specs.Ids.{data_ids, option_ids, binding_ids}
use Rattle.expansion_definition.specs.State.{State, Comp, bind_r, ◌>>=◌, ret, map_m}
use Rattle.expansion_definition.specs.Charges.{one_more, charge_if, charge, charge_each, paid}
use Rattle.expansion_definition.specs.Values.{Values, Env, src, clone}
use Rattle.expansion_definition.specs.Externs.{lookup_extern, declared, push_extern, declare, extern_proto}
use Rattle.expansion_definition.specs.PlainCopy.{copy_origin, push_association, associate, is_field, is_interface, remap_route, copy_route, copy_extern, copy_statement}
use Rattle.expansion_definition.specs.Instances.{store}
use Rattle.expansion_definition.specs.Reached.{Known}
use Rattle.expansion_definition.specs.Outputs.{sum_of, extern_row_count}
use Rattle.expansion_definition.proofs.Marks.{marked_length}
use Rattle.expansion_definition.proofs.Outcome.{refused, accepted, bind_out, map_out, both}
use Rattle.expansion_definition.proofs.Names.{anything}
use Rattle.expansion_definition.proofs.Books.{sum_append, valueless_rows, option_row, option_field}
use Rattle.expansion_definition.proofs.Sizes.{Out, id_count, size}
use Rattle.expansion_definition.proofs.Costs.{Spent, spent_then, spent_as, spent_still, Sees, sees_same, Costs, none_costs, split_costs, head_costs}

module _ (I : Input) where
  -- ---- the calculus: with x charged that isn't there, a computation that runs the task leaves what the run counts and m of its answer

  pub record After (w' : Steps.World Known) (x : ℕ) (st : State) (k y : ℕ) (st' : State) : Type 0 where
    pub sees : Sees I w' st'.world
    pub spent : Spent I x st st' (k + y)

  -- with credits as far apart
  pub after : {w' : Steps.World Known} {x z : ℕ} {st st' : State} (k y : ℕ) → z ≡ k + y → Sees I w' st'.world → Spent I x st st' z → After w' x st k y st'
  after {x = x} k y q h p = record { sees = h; spent = spent_as I x (k + y) (omega arith) p }

  abbrev pub Pays : {A : Type 0} → Values → Task Known → ℕ → Comp A → (A → ℕ) → Type 0
  Pays vs t x c m = (w w' : Steps.World Known) (k : ℕ) → Costs I vs t w w' k → (st : State) → Sees I w st.world → Out (λ a st'. After w' x st k (m a) st') (c st)

  pub charge_is : (st : State) → Out (λ u s. s ≡ one_more st) (charge I st)
  unfolding charge charge_if
  charge_is st = go (ltb st.charges I.limits.max_rows)
    where
      go : (b : Bool) → Out (λ u s. s ≡ one_more st) (charge_if b st)
      go true = accepted refl
      go false = refused tt

  -- of actions in one scope
  abbrev pub P : {A : Type 0} → Values → ℕ → Known → List (Action Known) → ℕ → Comp A → (A → ℕ) → Type 0
  P vs n e l x c m = Pays vs (all n e l) x c m

  module _ {vs : Values} {n : ℕ} {e : Known} where
    -- A step that keeps the world runs nothing.
    leave : {A : Type 0} {x : ℕ} {m : A → ℕ} {c : Comp A} → ((st : State) → Out (λ a st'. (st'.world ≡ st.world) × Spent I x st st' (m a)) (c st)) → P vs n e [] x c m
    leave {x = x} {m} h w w' k cs st s = let q = none_costs I cs in map_out (h st) (λ a st' r. after k (m a) (omega (arith, q.1)) (sees_same I q.0 r.0 s) r.1)

    pub pays_ret : {A : Type 0} {x : ℕ} {m : A → ℕ} (a : A) → m a ≡ x → P vs n e [] x (ret a) m
    pays_ret a q = leave (λ st. accepted (refl, spent_still I st st refl (omega arith)))

    pub pays_is : {A : Type 0} {l : List (Action Known)} {x : ℕ} {m p : A → ℕ} {c : Comp A} → ((a : A) → m a ≡ p a) → P vs n e l x c m → P vs n e l x c p
    pays_is {x = x} {m} {p} q h w w' k cs st s = map_out (h w w' k cs st s) (λ a st' r. after k (p a) (omega (arith, q a)) r.sees r.spent)

    -- One step, of whose answer Q holds, then the next.
    pub pays_with : {A B : Type 0} (l k : List (Action Known)) {x : ℕ} {m : A → ℕ} {p : B → ℕ} {Q : A → Type 0} {c : Comp A} {f : A → Comp B} → P vs n e l x c m → ((st : State) → Out (λ a s. Q a) (c st)) → ((a : A) → Q a → P vs n e k (m a) (f a) p) → P vs n e (l ++ k) x (c >>= f) p
    pays_with l k {x} {m} {p} h y g w w' c cs st s =
        let t = split_costs I l k cs in
        bind_out (both _ (h w t.mid t.k1 t.first st s) (y st))
        (λ a s1 r. map_out (g a r.1 t.mid w' t.k2 t.second s1 r.0.sees) (λ b s2 q. record { sees = q.sees; spent = spent_then I r.0.spent (spent_as I (t.k1 + m a) (c + p b) (omega (arith, t.sum)) q.spent) }))

    pub pays_bind : {A B : Type 0} (l k : List (Action Known)) {x : ℕ} {m : A → ℕ} {p : B → ℕ} {c : Comp A} {f : A → Comp B} → P vs n e l x c m → ((a : A) → P vs n e k (m a) (f a) p) → P vs n e (l ++ k) x (c >>= f) p
    pays_bind l k h g = pays_with l k {Q = λ a. Unit {0}} h (λ st. anything _) (λ a u. g a)

    -- A step, then one that runs nothing; and the other way round.
    pub pays_then : {A B : Type 0} (l : List (Action Known)) {x : ℕ} {m : A → ℕ} {p : B → ℕ} {c : Comp A} {f : A → Comp B} → P vs n e l x c m → ((a : A) → P vs n e [] (m a) (f a) p) → P vs n e l x (c >>= f) p
    pays_then l {x} {p = p} {c} {f} h g = subst (λ (k : List (Action Known)). P vs n e k x (c >>= f) p) (append-nil l) (pays_bind l [] h g)

    -- Ids copied, then others.
    pub pays_copies : {A B : Type 0} (a b : List ℕ) {x : ℕ} {m : A → ℕ} {p : B → ℕ} {c : Comp A} {f : A → Comp B} → P vs n e (map copy_id a) x c m → ((y : A) → P vs n e (map copy_id b) (m y) (f y) p) → P vs n e (map copy_id (a ++ b)) x (c >>= f) p
    pays_copies a b {x} {p = p} {c} {f} h g = subst (λ (k : List (Action Known)). P vs n e k x (c >>= f) p) (sym (map_append copy_id a b)) (pays_bind (map copy_id a) (map copy_id b) h g)

    pub pays_after : {A B : Type 0} {l : List (Action Known)} {x : ℕ} {m : A → ℕ} {p : B → ℕ} {c : Comp A} {f : A → Comp B} → P vs n e [] x c m → ((a : A) → P vs n e l (m a) (f a) p) → P vs n e l x (c >>= f) p
    pays_after {l = l} h g = pays_bind [] l h g

    -- One id, then actions.
    pub pays_one : {A B : Type 0} {i : ℕ} {l : List (Action Known)} {x : ℕ} {m : A → ℕ} {p : B → ℕ} {c : Comp A} {f : A → Comp B} → Pays vs (one n e i) x c m → ((a : A) → P vs n e l (m a) (f a) p) → P vs n e (copy_id i ∷ l) x (c >>= f) p
    pays_one {x = x} {m} {p} h g w w' c cs st s =
        let t = head_costs I cs in
        bind_out (h w t.mid t.k1 t.first st s) (λ a s1 r. map_out (g a t.mid w' t.k2 t.second s1 r.sees) (λ b s2 q. record { sees = q.sees; spent = spent_then I r.spent (spent_as I (t.k1 + m a) (c + p b) (omega (arith, t.sum)) q.spent) }))

    charge_pays : (x : ℕ) → P vs n e [] x (charge I) (λ u. suc x)
    charge_pays x = leave (λ st. map_out (charge_is st) (λ u s q. (ap (λ (y : State). y.world) q, subst (λ (y : State). (Spent I) x st y (suc x)) (sym q) (spent_still I st (one_more st) refl (omega arith)))))

    pub charge_each_pays : {A : Type 0} (x : ℕ) (l : List A) → P vs n e [] x (charge_each I l) (λ u. length l + x)
    unfolding charge_each
    charge_each_pays x [] = pays_ret tt (omega arith)
    charge_each_pays x (a ∷ l) = pays_is (λ u. omega arith) (pays_after (charge_pays x) (λ u. charge_each_pays (suc x) l))

    pub paid_pays : {A : Type 0} (l : List (Action Known)) {x : ℕ} {m : A → ℕ} {c : Comp A} → P vs n e l x c m → P vs n e l x (paid I c) (λ a. suc (m a))
    unfolding paid
    paid_pays l h = pays_then l h (λ a. pays_after (charge_pays _) (λ u. pays_ret a refl))

    pub paid_ret : {A : Type 0} {x : ℕ} {m : A → ℕ} (a : A) → m a ≡ suc x → P vs n e [] x (paid I (ret a)) m
    unfolding paid bind_r
    paid_ret {x = x} a q = pays_after (charge_pays x) (λ u. pays_ret a q)

    -- s of each element, m of each answer
    pub map_m_pays : {A B : Type 0} (ids : A → List ℕ) (s : A → ℕ) (m : B → ℕ) (g : A → Comp B) → ((x : ℕ) (a : A) → P vs n e (map copy_id (ids a)) x (g a) (λ b. s a + m b + x)) → (x : ℕ) (l : List A) → P vs n e (map copy_id (flat ids l)) x (map_m g l) (λ bs. sum_of s l + sum_of m bs + x)
    unfolding map_m
    map_m_pays ids s m g h x [] = pays_ret [] (omega arith)
    map_m_pays ids s m g h x (a ∷ l) = pays_copies (ids a) (flat ids l) (h x a) (λ b. pays_then (map copy_id (flat ids l)) (map_m_pays ids s m g h (s a + m b + x) l) (λ bs. pays_ret (b ∷ bs) (omega arith)))

    pub map_m_still : {A B : Type 0} (m : B → ℕ) (g : A → Comp B) → ((x : ℕ) (a : A) → P vs n e [] x (g a) (λ b. m b + x)) → (x : ℕ) (l : List A) → P vs n e [] x (map_m g l) (λ bs. sum_of m bs + x)
    unfolding map_m
    map_m_still m g h x [] = pays_ret [] (omega arith)
    map_m_still m g h x (a ∷ l) = pays_after (h x a) (λ b. pays_after (map_m_still m g h (m b + x) l) (λ bs. pays_ret (b ∷ bs) (omega arith)))

    -- ---- what runs nothing

    pub clone_pays : (x : ℕ) (v : FieldValue) → P vs n e [] x (clone I v) (λ v'. id_count v' + x)
    unfolding clone
    clone_pays x v = pays_after (charge_each_pays x (data_ids v.«data»)) (λ u. pays_ret v refl)

    pub associate_pays : (x : ℕ) (env : Env) (a : Association) → P vs n e [] x (associate I env a) (λ u. suc x)
    unfolding associate
    associate_pays x env a = pays_after (charge_pays x) (λ u. leave (λ st. accepted (refl, spent_still I st (push_association env.scope a st) refl (omega arith))))

    pub extern_proto_pays : (x : ℕ) (env : Env) (y : ℕ) → P vs n e [] x (extern_proto I env y) (λ o. x)
    unfolding extern_proto declare
    extern_proto_pays x env y w w' k cs st = go (lookup_extern st.extern_map (src env) y) (extern_proto_at (docs I) (src env) y) w w' k cs st
      where
        go : (o : Option ℕ) (decl : Option ExternProtoDecl) → P vs n e [] x (declare I (src env) y o decl) (λ o. x)
        go (some o) decl = pays_ret o refl
        go none none = λ w w' k cs st s. refused tt
        go none (some decl) = pays_after (charge_pays x) (λ u. pays_after (charge_each_pays (suc x) decl.interface) (λ u2. pays_after (charge_each_pays (length decl.interface + suc x) decl.urls) (λ u3. leave (λ s. accepted (
          refl,
          spent_still I s (push_extern (src env) y (declared (used_url I (src env) y) decl) s) refl
              (omega (arith, sum_append extern_row_count s.extern_protos (declared (used_url I (src env) y) decl ∷ []), valueless_rows decl.interface, marked_length (used_url I (src env) y) 0 decl.urls)),
        )))))

    pub copy_origin_pays : (x : ℕ) (env : Env) (o : NodeOrigin) → P vs n e [] x (copy_origin I env o) (λ o'. x)
    unfolding copy_origin
    copy_origin_pays x env NodeOrigin.Builtin = pays_ret _ refl
    copy_origin_pays x env (NodeOrigin.Proto p) = pays_ret _ refl
    copy_origin_pays x env (NodeOrigin.ExternProto y) = pays_after (extern_proto_pays x env y) (λ o. pays_ret _ refl)
    copy_origin_pays x env NodeOrigin.Unknown = pays_ret _ refl

    pub is_field_pays : (x : ℕ) (f : Field) (t : ℕ) → f.binding ≡ FieldBinding.Is t → (o : Option (Option FieldValue)) → P vs n e [] x (is_field I f o) (λ r. option_field r + x)
    unfolding is_field
    is_field_pays x f t q none = paid_ret (some f) (omega (arith, ap (λ (b : FieldBinding). length (binding_ids b)) q))
    is_field_pays x f t q (some none) = pays_ret none (omega arith)
    is_field_pays x f t q (some (some v)) = pays_after (paid_pays [] (clone_pays x v)) (λ v'. pays_ret _ (omega arith))

    pub is_interface_pays : (x : ℕ) (d : InterfaceDecl) (t : ℕ) (o : Option (Option FieldValue)) → P vs n e [] x (is_interface I d t o) (λ r. length (option_ids r.value) + x)
    unfolding is_interface
    is_interface_pays x d t none = pays_ret _ (omega arith)
    is_interface_pays x d t (some none) = pays_ret _ (omega arith)
    is_interface_pays x d t (some (some v)) = pays_after (clone_pays x v) (λ v'. pays_ret _ refl)

    pub copy_route_pays : (x : ℕ) (env : Env) (r : Route) → P vs n e [] x (copy_route I env r) (λ o. option_row o + x)
    unfolding copy_route paid bind_r
    copy_route_pays x env r w w' k cs st s = pays_after (charge_pays x) (λ u. pays_ret {m = λ o. option_row o + x} (some (Statement.Route (remap_route st.world env.scope r))) (omega arith)) w w' k cs st s

    pub copy_extern_pays : (x : ℕ) (env : Env) (y : ℕ) → P vs n e [] x (copy_extern I env y) (λ o. option_row o + x)
    unfolding copy_extern
    copy_extern_pays x env y = pays_after (paid_pays [] (extern_proto_pays x env y)) (λ o. pays_ret _ (omega arith))

    pub copy_statement_pays : (env : Env) (x : ℕ) (s : Statement) → P vs n e [] x (copy_statement I env s) (λ o. option_row o + x)
    unfolding copy_statement
    copy_statement_pays env x (Statement.Node i) = pays_ret none (omega arith)
    copy_statement_pays env x (Statement.Proto p) = pays_ret none (omega arith)
    copy_statement_pays env x (Statement.ExternProto y) = copy_extern_pays x env y
    copy_statement_pays env x (Statement.Route r) = copy_route_pays x env r
    copy_statement_pays env x (Statement.Other p) = pays_ret none (omega arith)

    pub store_pays : (x name : ℕ) (vs' : Values) (v : Option FieldValue) → P vs n e [] (length (option_ids v) + (size vs' + x)) (store I name vs' v) (λ new. size new + x)
    unfolding store
    store_pays x name vs' none = pays_ret vs' (omega arith)
    store_pays x name vs' (some v) = paid_ret _ (omega arith)
