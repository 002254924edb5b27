-- The charges of every expansion: they cover the output's rows and the scopes, and are at most K.
use mathlib.Core.Path.{◌≡◌, refl, ap, sym, subst}
use mathlib.Core.Logic.{◌⊎◌, inl, inr}
use mathlib.Core.List.Memᴰ
use mathlib.Core.List.{List, [], ◌∷◌, ◌++◌, map, Memᴰ}
use mathlib.Core.Option.{Option, none, some}
use mathlib.Core.Bool.{Bool, true, false, ◌||◌}
use Prim.Native.Nat.{ℕ, zero, suc, ◌+◌, ◌≤◌, ◌<◌}
use native.Mathlib.Nat.{le_refl, le_trans}
use native.Mathlib.Omega.{arith}
use lib.ListN.{length, get_elem?, set, length-append, length-map}
use lib.Dec.{T, ltb, eqb, ltb→lt, eqb→eq}
use Rattle.ast.specs.Ast.{NodeOrigin, FieldData, FieldValue, FieldBinding, Field, InterfaceDecl, Route, Statement, Association, ProtoInstance, Node, ProtoDecl, ExternProtoDecl}
use Rattle.ast.specs.Choice.{and_then}
use Rattle.ast.specs.Lookups.{node_at, proto_at, extern_proto_at}
use Rattle.pick_definition.specs.Picks.{Prototype}
use Rattle.expansion_definition.specs.Input.{Input, docs, used_url, proto_of_origin, last_field}
use Rattle.expansion_definition.specs.Scopes.{Scope}
use Rattle.ast.specs.Ids.{data_ids, option_ids, binding_ids}
use Rattle.expansion_definition.specs.State.{State, ok, Comp, bind_r, ◌>>=◌, ret, fail, map_m, fold_m, with_world, with_nodes, lookup, start_state}
use Rattle.expansion_definition.specs.Charges.{one_more, charge_if, charge, charge_each, paid}
use Rattle.expansion_definition.specs.Values.{Values, value_named, Env, src, Copier, copy_data, value, clone}
use Rattle.expansion_definition.specs.Externs.{lookup_extern, declared, push_extern, declare, extern_proto}
use Rattle.expansion_definition.specs.PlainCopy.{blank_node, add_node, reserve_if, reserve, copy_origin, push_association, associate, is_value, is_field, copy_binding, copy_field, is_interface, copy_target, copy_interface, remap_route, copy_route, copy_extern, copy_statement, kept_order, contents, copy_plain}
use Rattle.expansion_definition.specs.Instances.{push_scope, open_scope, take_default, clone_or, interface_value, store, values, Body, add_entry, place, body_statement, root_of, associations_of, nested_roots, nested_routes, with_instance, update, record_instance, instantiate}
use Rattle.expansion_definition.specs.Copy.{copy_node, mapped_or, copy}
use Rattle.expansion_definition.specs.Expand.{statement, root_env, statements}
use Rattle.expansion_definition.specs.Outputs.{sum_of, field_row_count, interface_row_count, instance_row_count, content_rows, node_row_count, extern_row_count}
use Rattle.expansion_definition.proofs.Marks.{marked_length}
use Rattle.expansion_definition.proofs.Outcome.{Outcome, refused, accepted, bind_out, map_out}
use Rattle.expansion_definition.proofs.Books.{Numbered, four, five, six, seven, eight, nine, ten, Out, one_if, sum_append, set_sum, set_at, valueless_rows, blank_rows, option_row, option_field, somes_fields, somes_rows, also, ScopesBelow, waiting_new, waiting_own, count, worth, Books, Covered, Booked, Unopened, Cov}

module _ (I : Input) where
  module _ (n : ℕ) (ω : ℕ → Bool) where
    -- The books after a step, told part by part.
    booked : {A : Type 0} (m : A → ℕ) (st : State) (a : A) (st' : State) → count st ≤ count st' → ScopesBelow (count st') st'.is_map → st'.charges ≤ I.limits.max_rows → worth ω st' + m a ≤ st'.charges → Out (λ x s. Booked I ω (m x) st s) (ok a st')
    booked m st a st' h1 h2 h3 h4 = accepted (record { grown = h1; books = record { below = h2; capped = h3; covers = h4 } })

    -- An answer costs nothing.
    cov_ret : {A : Type 0} {k : ℕ} {m : A → ℕ} (a : A) → m a ≤ k → Cov I n ω k (ret a) m
    cov_ret {m = m} a h st hn hω b = booked m st a st (le_refl _) b.below b.capped (omega arith)

    -- One step, then the next.
    cov_bind : {A B : Type 0} {k : ℕ} {m : A → ℕ} {p : B → ℕ} {c : Comp A} {f : A → Comp B} → Cov I n ω k c m → ((a : A) → Cov I n ω (m a) (f a) p) → Cov I n ω k (c >>= f) p
    cov_bind h g st hn hω b =
        bind_out (h st hn hω b) (λ a s q. map_out (g a s (le_trans hn q.grown) (λ i r. hω i (le_trans q.grown r)) q.books) (λ x s' r. record { grown = le_trans q.grown r.grown; books = r.books }))

    -- More credit does no harm, and some may be left unused.
    cov_less : {A : Type 0} {k l : ℕ} {m p : A → ℕ} {c : Comp A} → k ≤ l → ((a : A) → p a ≤ m a) → Cov I n ω k c m → Cov I n ω l c p
    cov_less {k = k} {l} {m} {p} h g x st hn hω b = map_out (x st hn hω (record { below = b.below; capped = b.capped; covers = omega arith })) (λ a s q. record { grown = q.grown; books = less a s q.books })
      where
        less : (a : _) (s : State) → Books I ω (m a) s → Books I ω (p a) s
        less a s q = record { below = q.below; capped = q.capped; covers = omega (arith, g a) }

    -- A charge is one more credit, or refusal 10.
    charge_cov : (k : ℕ) → Cov I n ω k (charge I) (λ u. suc k)
    unfolding charge charge_if
    charge_cov k st hn hω b = go (ltb st.charges I.limits.max_rows) (ltb→lt st.charges I.limits.max_rows)
      where
        go : (t : Bool) → (T t → st.charges < I.limits.max_rows) → Out (λ u st'. Booked I ω (suc k) st st') (charge_if t st)
        go true q = booked (λ u. suc k) st tt (one_more st) (le_refl _) b.below (q tt) (omega arith)
        go false q = refused ten

    charge_each_cov : {A : Type 0} (k : ℕ) (l : List A) → Cov I n ω k (charge_each I l) (λ u. length l + k)
    unfolding charge_each
    charge_each_cov k [] = cov_ret tt (omega arith)
    charge_each_cov k (x ∷ l) = cov_bind (charge_cov k) (λ u. cov_less (le_refl _) (λ v. omega arith) (charge_each_cov (suc k) l))

    paid_cov : {A : Type 0} {k : ℕ} {m : A → ℕ} {c : Comp A} → Cov I n ω k c m → Cov I n ω k (paid I c) (λ a. suc (m a))
    unfolding paid
    paid_cov h = cov_bind h (λ a. cov_bind (charge_cov _) (λ u. cov_ret a (le_refl _)))

    paid_ret_cov : {A : Type 0} {k : ℕ} {m : A → ℕ} (a : A) → m a ≤ suc k → Cov I n ω k (paid I (ret a)) m
    unfolding paid bind_r
    paid_ret_cov {k = k} a h = cov_bind (charge_cov k) (λ u. cov_ret a h)

    map_m_cov : {A B : Type 0} (m : B → ℕ) (g : A → Comp B) → ((k : ℕ) (a : A) → Cov I n ω k (g a) (λ b. m b + k)) → (k : ℕ) (l : List A) → Cov I n ω k (map_m g l) (λ bs. sum_of m bs + k)
    unfolding map_m
    map_m_cov m g h k [] = cov_ret [] (omega arith)
    map_m_cov m g h k (a ∷ l) = cov_bind (h k a) (λ b. cov_bind (map_m_cov m g h (m b + k) l) (λ bs. cov_ret (b ∷ bs) (omega arith)))

    clone_cov : (k : ℕ) (v : FieldValue) → Cov I n ω k (clone I v) (λ v'. length (data_ids v'.«data») + k)
    unfolding clone
    clone_cov k v = cov_bind (charge_each_cov k (data_ids v.«data»)) (λ u. cov_ret v (le_refl _))

    associate_cov : (k : ℕ) (env : Env) → env.scope < n → (a : Association) → Cov I n ω k (associate I env a) (λ u. k)
    unfolding associate
    associate_cov k env lt a = cov_bind (charge_cov k) (λ u st hn hω b. booked (λ u. k) st tt (push_association env.scope a st) (le_refl _) (λ x q. at st (le_trans lt hn) b x (Memᴰ.append_cases st.is_map q)) b.capped
        (omega (arith, sum_append (λ (x : ℕ × Association). one_if (ω x.0)) st.is_map ((env.scope, a) ∷ []), small (ω env.scope))))
      where
        small : (t : Bool) → one_if t ≤ 1
        small true = omega arith
        small false = omega arith

        last : (st : State) → env.scope < count st → (x : ℕ × Association) → (x ≡ (env.scope, a)) ⊎ Memᴰ x [] → x.0 < count st
        last st l x (inl e) = subst (λ (y : ℕ × Association). y.0 < count st) (sym e) l
        last st l x (inr q) = absurd (Memᴰ.not-nil q)

        at : (st : State) → env.scope < count st → Books I ω (suc k) st → (x : ℕ × Association) → Memᴰ x st.is_map ⊎ Memᴰ x ((env.scope, a) ∷ []) → x.0 < count st
        at st l b x (inl q) = b.below x q
        at st l b x (inr q) = last st l x (Memᴰ.cases_cons q)

    extern_proto_cov : (k : ℕ) (env : Env) (x : ℕ) → Cov I n ω k (extern_proto I env x) (λ y. k)
    unfolding extern_proto declare
    extern_proto_cov k env x st = go (lookup_extern st.extern_map (src env) x) (extern_proto_at (docs I) (src env) x) st
      where
        go : (o : Option ℕ) (decl : Option ExternProtoDecl) → Cov I n ω k (declare I (src env) x o decl) (λ y. k)
        go (some m) decl = cov_ret m (le_refl _)
        go none none = λ s hn hω b. refused (four (src env) x)
        go none (some decl) = cov_bind (charge_cov k) (λ u. cov_bind (charge_each_cov (suc k) decl.interface) (λ u2. cov_bind (charge_each_cov (length decl.interface + suc k) decl.urls) (λ u3 s hn hω b. booked (λ y. k) s (length s.extern_protos) (push_extern (src env) x (declared (used_url I (src env) x) decl) s) (le_refl _) b.below b.capped
            (omega (arith, sum_append extern_row_count s.extern_protos (declared (used_url I (src env) x) decl ∷ []), valueless_rows decl.interface, marked_length (used_url I (src env) x) 0 decl.urls)))))

    copy_origin_cov : (k : ℕ) (env : Env) (o : NodeOrigin) → Cov I n ω k (copy_origin I env o) (λ x. k)
    unfolding copy_origin
    copy_origin_cov k env NodeOrigin.Builtin = cov_ret _ (le_refl _)
    copy_origin_cov k env (NodeOrigin.Proto p) = cov_ret _ (le_refl _)
    copy_origin_cov k env (NodeOrigin.ExternProto x) = cov_bind (extern_proto_cov k env x) (λ m. cov_ret _ (le_refl _))
    copy_origin_cov k env NodeOrigin.Unknown = cov_ret _ (le_refl _)

    is_field_cov : (k : ℕ) (f : Field) (t : ℕ) → f.binding ≡ FieldBinding.Is t → (o : Option (Option FieldValue)) → Cov I n ω k (is_field I f o) (λ x. option_field x + k)
    unfolding is_field
    is_field_cov k f t e none = paid_ret_cov (some f) (omega (arith, ap (λ (b : FieldBinding). length (binding_ids b)) e))
    is_field_cov k f t e (some none) = cov_ret none (omega arith)
    is_field_cov k f t e (some (some v)) = cov_bind (paid_cov (clone_cov k v)) (λ v'. cov_ret _ (omega arith))

    is_interface_cov : (k : ℕ) (d : InterfaceDecl) (t : ℕ) (o : Option (Option FieldValue)) → Cov I n ω k (is_interface I d t o) (λ x. length (option_ids x.value) + k)
    unfolding is_interface
    is_interface_cov k d t none = cov_ret _ (omega arith)
    is_interface_cov k d t (some none) = cov_ret _ (omega arith)
    is_interface_cov k d t (some (some v)) = cov_bind (clone_cov k v) (λ v'. cov_ret _ (le_refl _))

    copy_route_cov : (k : ℕ) (env : Env) (r : Route) → Cov I n ω k (copy_route I env r) (λ x. option_row x + k)
    unfolding copy_route paid bind_r
    copy_route_cov k env r st hn hω b = cov_bind {m = λ u. suc k} (charge_cov k) (λ u. cov_ret _ (omega arith)) st hn hω b

    copy_extern_cov : (k : ℕ) (env : Env) (x : ℕ) → Cov I n ω k (copy_extern I env x) (λ y. option_row y + k)
    unfolding copy_extern
    copy_extern_cov k env x = cov_bind (paid_cov (extern_proto_cov k env x)) (λ m. cov_ret _ (omega arith))

    copy_statement_cov : (env : Env) (k : ℕ) (s : Statement) → Cov I n ω k (copy_statement I env s) (λ x. option_row x + k)
    unfolding copy_statement
    copy_statement_cov env k (Statement.Node i) = cov_ret none (omega arith)
    copy_statement_cov env k (Statement.Proto p) = cov_ret none (omega arith)
    copy_statement_cov env k (Statement.ExternProto x) = copy_extern_cov k env x
    copy_statement_cov env k (Statement.Route r) = copy_route_cov k env r
    copy_statement_cov env k (Statement.Other p) = cov_ret none (omega arith)

    reserve_cov : (k : ℕ) (env : Env) (i : ℕ) → Cov I n ω k (reserve I env i) (λ new. k)
    unfolding reserve reserve_if
    reserve_cov k env i st = go (ltb (length st.nodes) I.limits.max_nodes) st
      where
        go : (t : Bool) → Cov I n ω k (reserve_if t I env i) (λ new. k)
        go false = λ s hn hω b. refused eight
        go true = cov_bind (charge_cov k) (λ u. cov_bind (charge_cov (suc k)) (λ u2 s hn hω b. booked (λ new. k) s (length s.nodes) (add_node env.scope i s) (le_refl _) b.below b.capped (omega (arith, sum_append node_row_count s.nodes (blank_node ∷ []), blank_rows))))

  -- ---- plain nodes: each step is charged for what it leaves

  -- a copier of ids in a scope
  abbrev Pays : ℕ → (ℕ → Bool) → Copier → Type 0
  Pays n ω c = (k i : ℕ) → Cov I n ω k (c i) (λ o. k)

  module _ (n : ℕ) (ω : ℕ → Bool) (c : Copier) (hc : Pays n ω c) where
    copy_data_cov : (k : ℕ) (d : FieldData) → Cov I n ω k (copy_data I c d) (λ d'. length (data_ids d') + k)
    unfolding copy_data
    copy_data_cov k (FieldData.Payload p) = cov_ret n ω _ (omega arith)
    copy_data_cov k (FieldData.Nodes ids) = cov_bind n ω (map_m_cov n ω (λ o. 1) _ (λ k' i. cov_less n ω (le_refl _) (λ o. omega arith) (paid_cov n ω (hc k' i))) k ids) (λ os. cov_ret n ω _ (omega (arith, ones os)))
      where
        ones : (l : List ℕ) → sum_of (λ o. 1) l ≡ length l
        ones [] = refl
        ones (x ∷ l) = omega (arith, ones l)

    value_cov : (k : ℕ) (v : FieldValue) → Cov I n ω k (value I c v) (λ v'. length (data_ids v'.«data») + k)
    unfolding value
    value_cov k v = cov_bind n ω (copy_data_cov k v.«data») (λ x. cov_ret n ω _ (le_refl _))

    module _ (env : Env) (lt : env.scope < n) where
      copy_field_cov : (new k : ℕ) (f : Field) → Cov I n ω k (copy_field I c env new f) (λ x. option_field x + k)
      unfolding copy_field copy_binding
      copy_field_cov new k f = go f.binding refl
        where
          go : (b : FieldBinding) → f.binding ≡ b → Cov I n ω k (copy_binding I c env new f b) (λ x. option_field x + k)
          go (FieldBinding.Value v) e = cov_bind n ω (paid_cov n ω (value_cov k v)) (λ v'. cov_ret n ω _ (omega arith))
          go (FieldBinding.Is t) e = cov_bind n ω (associate_cov n ω k env lt _) (λ u. is_field_cov n ω k f t e (is_value env t))

      copy_interface_cov : (new k : ℕ) (d : InterfaceDecl) → Cov I n ω k (copy_interface I c env new d) (λ x. interface_row_count x + k)
      unfolding copy_interface copy_target
      copy_interface_cov new k d = cov_less n ω (le_refl _) (λ x. omega arith) (paid_cov n ω (go d.is d.value))
        where
          go : (t : Option ℕ) (v : Option FieldValue) → Cov I n ω k (copy_target I c env new d t v) (λ x. length (option_ids x.value) + k)
          go (some t) v = cov_bind n ω (associate_cov n ω k env lt _) (λ u. is_interface_cov n ω k d t (is_value env t))
          go none none = cov_ret n ω _ (omega arith)
          go none (some v) = cov_bind n ω (value_cov k v) (λ v'. cov_ret n ω _ (le_refl _))

      contents_cov : (new k : ℕ) (node : Node) → Cov I n ω k (contents I c env new node) (λ x. content_rows x + k)
      unfolding contents content_rows
      contents_cov new k node =
          cov_bind n ω (copy_origin_cov n ω k env node.origin) (λ og. cov_bind n ω (map_m_cov n ω option_field _ (copy_field_cov new) k node.fields) (λ fs. cov_bind n ω (map_m_cov n ω interface_row_count _ (copy_interface_cov new) _ node.interface)
          (λ is. cov_bind n ω (map_m_cov n ω option_row _ (copy_statement_cov n ω env) _ node.statements) (λ ss. cov_bind n ω (charge_each_cov n ω _ (kept_order fs ss node.body_order)) (λ u. cov_ret n ω _ (omega (arith, somes_fields fs, somes_rows ss)))))))

      copy_plain_cov : (k i : ℕ) (node : Node) → Cov I n ω k (copy_plain I c env i node) (λ o. k)
      unfolding copy_plain
      copy_plain_cov k i node =
          cov_bind n ω (reserve_cov n ω k env i) (λ new. cov_bind n ω (contents_cov new k node) (λ x st hn hω b. booked n ω (λ o. k) st new (with_nodes (set st.nodes new x) st) (le_refl _) b.below b.capped (omega (arith, set_sum st.nodes new x))))

  -- ---- instances

  -- a scope is opened
  record Opened (ω : ℕ → Bool) (k : ℕ) (st : State) (n : ℕ) (st' : State) : Type 0 where
    number : n ≡ count st
    next : count st' ≡ suc (count st)
    older : ScopesBelow (count st) st'.is_map
    books : Books I ω k st'

  -- A scope is charged before its entry.
  open_scope_books : (ω : ℕ → Bool) (k : ℕ) (e : Scope) (st : State) → Unopened ω (count st) → Books I ω k st → Out (λ n st'. Opened ω k st n st') (open_scope I e st)
  unfolding open_scope push_scope charge charge_if bind_r
  open_scope_books ω k e st hω b = go (ltb st.charges I.limits.max_rows) (ltb→lt st.charges I.limits.max_rows)
    where
      more : length (st.world.scopes ++ (e ∷ [])) ≡ suc (count st)
      more = omega (arith, length-append st.world.scopes (e ∷ []))

      opened : suc st.charges ≤ I.limits.max_rows → Opened ω k st (count st) (with_world (record { map = st.world.map; ledger = st.world.ledger; scopes = st.world.scopes ++ (e ∷ []) }) (one_more st))
      opened le = record { number = refl; next = more; older = b.below; books = record { below = λ x q. omega (arith, more, b.below x q); capped = le; covers = omega (arith, more, b.covers) } }

      go : (t : Bool) → (T t → st.charges < I.limits.max_rows) → Out (λ n st'. Opened ω k st n st') ((charge_if t >>= (λ u. push_scope e)) st)
      go false q = refused ten
      go true q = accepted (opened (q tt))

  -- a copier leaves the credit as it was, in every open scope
  abbrev Paying : (Env → Copier) → Type 0
  Paying f = (env : Env) (n : ℕ) (ω : ℕ → Bool) → env.scope < n → Pays n ω (f env)

  take_default_cov : (f : Env → Copier) → Paying f → (n : ℕ) (ω : ℕ → Bool) (k : ℕ) (e : Scope) (v : Option FieldValue) → Cov I n ω k (take_default I f e v) (λ x. k)
  unfolding take_default
  take_default_cov f hf n ω k e none st hn hω b = cov_ret n ω none (le_refl _) st hn hω b
  take_default_cov f hf n ω k e (some v) st hn hω b =
      bind_out (open_scope_books ω k e st hω b) (λ m s1 q. bind_out (value_cov (suc m) ω (f (denv m)) (hf (denv m) (suc m) ω (le_refl _)) k v s1 (omega (arith, q.number, q.next)) (λ s r. hω s (omega (arith, q.next))) q.books)
      (λ v' s2 r. booked n ω (λ x. k) st (some v') s2 (omega (arith, q.next, r.grown)) r.books.below r.books.capped (omega (arith, r.books.covers))))
    where
      denv : ℕ → Env
      denv m = record { scope = m; entry = e; is_values = none }

  clone_or_cov : (n : ℕ) (ω : ℕ → Bool) (k : ℕ) {instead : Comp (Option FieldValue)} → Cov I n ω k instead (λ x. k) → (o : Option FieldValue) → Cov I n ω k (clone_or I instead o) (λ x. k)
  unfolding clone_or
  clone_or_cov n ω k hd none = hd
  clone_or_cov n ω k hd (some v) = cov_bind n ω (clone_cov n ω k v) (λ v'. cov_ret n ω (some v') (omega arith))

  interface_value_cov : (f : Env → Copier) → Paying f → (n : ℕ) (ω : ℕ → Bool) (env : Env) → env.scope < n → (k : ℕ) (e : Scope) (default : Option FieldValue) (given : Option FieldBinding) → Cov I n ω k (interface_value I f env e default given) (λ x. k)
  unfolding interface_value
  interface_value_cov f hf n ω env lt k e default (some (FieldBinding.Value v)) = cov_bind n ω (value_cov n ω (f env) (hf env n ω lt) k v) (λ v'. cov_ret n ω (some v') (omega arith))
  interface_value_cov f hf n ω env lt k e default (some (FieldBinding.Is t)) = clone_or_cov n ω k (take_default_cov f hf n ω k e default) (and_then env.is_values (value_named t))
  interface_value_cov f hf n ω env lt k e default none = take_default_cov f hf n ω k e default

  store_cov : (n : ℕ) (ω : ℕ → Bool) (k name : ℕ) (vs : Values) (v : Option FieldValue) → Cov I n ω k (store I name vs v) (λ x. k)
  unfolding store
  store_cov n ω k name vs none = cov_ret n ω vs (le_refl _)
  store_cov n ω k name vs (some v) = paid_ret_cov n ω _ (omega arith)

  values_cov : (f : Env → Copier) → Paying f → (n : ℕ) (ω : ℕ → Bool) (env : Env) → env.scope < n → (p : Prototype) (fields : List Field) (k j : ℕ) (l : List InterfaceDecl) (vs : Values) → Cov I n ω k (values I f env p fields j l vs) (λ x. k)
  unfolding values
  values_cov f hf n ω env lt p fields k j [] vs = cov_ret n ω vs (le_refl _)
  values_cov f hf n ω env lt p fields k j (d ∷ l) vs =
      cov_bind n ω (interface_value_cov f hf n ω env lt k (Scope.Default p j env.scope) d.value (last_field d.name fields)) (λ v. cov_bind n ω (store_cov n ω k d.name vs v) (λ vs'. values_cov f hf n ω env lt p fields k (suc j) l vs'))

  -- ---- the body

  abbrev body_rows : Body → ℕ
  body_rows b = length b.extra_roots + length b.routes

  place_cov : (n : ℕ) (ω : ℕ → Bool) (env : Env) (i o k : ℕ) (b : Body) (root : Option ℕ) → Cov I n ω (body_rows b + k) (place I env i o b root) (λ c. body_rows c + k)
  unfolding place
  place_cov n ω env i o k b none = cov_bind n ω (charge_cov n ω _) (λ u st hn hω h. booked n ω (λ c. body_rows c + k) st (record { root = some o; extra_roots = b.extra_roots; routes = b.routes }) (add_entry env.scope i o st) (le_refl _) h.below h.capped (omega (arith, h.covers)))
  place_cov n ω env i o k b (some root) = paid_ret_cov n ω _ (omega (arith, length-append b.extra_roots (o ∷ [])))

  module _ (f : Env → Copier) (hf : Paying f) (n : ℕ) (ω : ℕ → Bool) (env : Env) (i : ℕ) (inner : Env) (lt : inner.scope < n) where
    body_statement_cov : (k : ℕ) (b : Body) (s : Statement) → Cov I n ω (body_rows b + k) (body_statement I f env i inner b s) (λ c. body_rows c + k)
    unfolding body_statement
    body_statement_cov k b (Statement.Node j) = cov_bind n ω (hf inner n ω lt (body_rows b + k) j) (λ o. place_cov n ω env i o k b b.root)
    body_statement_cov k b (Statement.Proto p) = cov_ret n ω b (le_refl _)
    body_statement_cov k b (Statement.ExternProto x) = cov_bind n ω (extern_proto_cov n ω _ inner x) (λ y. cov_ret n ω b (le_refl _))
    body_statement_cov k b (Statement.Route r) = paid_ret_cov n ω _ (omega (arith, length-append b.routes (r ∷ [])))
    body_statement_cov k b (Statement.Other p) = cov_ret n ω b (le_refl _)

    body_cov : (k : ℕ) (l : List Statement) (b : Body) → Cov I n ω (body_rows b + k) (fold_m (body_statement I f env i inner) b l) (λ c. body_rows c + k)
    unfolding fold_m
    body_cov k [] b = cov_ret n ω b (le_refl _)
    body_cov k (s ∷ l) b = cov_bind n ω (body_statement_cov k b s) (λ c. body_cov k l c)

  root_of_cov : (n : ℕ) (ω : ℕ → Bool) (k : ℕ) (p : Prototype) (root : Option ℕ) → Cov I n ω k (root_of p root) (λ o. k)
  unfolding root_of
  root_of_cov n ω k p none = λ st hn hω b. refused (seven p.document p.proto)
  root_of_cov n ω k p (some o) = cov_ret n ω o (le_refl _)

  -- ---- the record

  -- An instance's record adds its own row, roots, routes and associations.
  with_instance_rows : (def_name : Option ℕ) (x : ProtoInstance) (node : Node) → content_rows (with_instance def_name x node) ≤ content_rows node + suc (length x.extra_roots + length x.routes + length x.is_map)
  unfolding content_rows
  with_instance_rows def_name x node = go node.instance
    where
      a : ℕ
      a = sum_of field_row_count node.fields + sum_of interface_row_count node.interface + length node.statements + length node.body_order

      go : (o : Option ProtoInstance) → a + suc (length (x.extra_roots ++ nested_roots o) + length (x.routes ++ nested_routes o) + length x.is_map) ≤ a + instance_row_count o + suc (length x.extra_roots + length x.routes + length x.is_map)
      go none = omega (arith, length-append x.extra_roots [], length-append x.routes [])
      go (some y) = omega (arith, length-append x.extra_roots y.extra_roots, length-append x.routes y.routes)

  -- the associations of scope n wait no longer
  record_instance_books : (ω : ℕ → Bool) (n k name : ℕ) (def_name : Option ℕ) (b : Body) (o : ℕ) (st : State) → ω n ≡ false → Books I (also ω n) (suc (body_rows b + k)) st
      → Out (λ o' st'. (count st ≤ count st') × Books I ω k st') (record_instance name def_name n b o st)
  unfolding record_instance
  record_instance_books ω n k name def_name b o st hn h = accepted (le_refl _, go (get_elem? st.nodes o) refl)
    where
      x : ProtoInstance
      x = record { proto_name = name; extra_roots = b.extra_roots; routes = map (remap_route st.world n) b.routes; is_map = associations_of n st.is_map }

      go : (y : Option Node) → get_elem? st.nodes o ≡ y → Books I ω k (with_nodes (update st.nodes o (with_instance def_name x) y) st)
      go none e = record { below = h.below; capped = h.capped; covers = omega (arith, h.covers, waiting_own ω n hn st.is_map) }
      go (some node) e = record {
        below = h.below;
        capped = h.capped;
        covers = omega (arith, h.covers, waiting_own ω n hn st.is_map, set_at st.nodes o node (with_instance def_name x node) e, with_instance_rows def_name x node, length-map b.routes (remap_route st.world n));
      }

  -- A scope just opened is not beyond the list.
  unopened_also : (ω : ℕ → Bool) (n m : ℕ) → Unopened ω n → n < m → Unopened (also ω n) m
  unopened_also ω n m h lt s le = go (ω s) (h s (omega arith)) (eqb s n) (eqb→eq s n)
    where
      go : (a : Bool) → a ≡ false → (b : Bool) → (T b → s ≡ n) → (a || b) ≡ false
      go a e true q = absurd (omega (arith, q tt))
      go true e false q = e
      go false e false q = refl

  -- An instance: while its body is copied, its scope's associations wait too.
  instantiate_cov : (f : Env → Copier) → Paying f → (n : ℕ) (ω : ℕ → Bool) (env : Env) → env.scope < n → (k i : ℕ) (node : Node) (p : Prototype) (decl : Option ProtoDecl) → Cov I n ω k (instantiate I f env i node p decl) (λ o. k)
  unfolding instantiate
  instantiate_cov f hf n ω env lt k i node p none st hn hω b = refused (six p.document p.proto)
  instantiate_cov f hf n ω env lt k i node p (some decl) st hn hω b =
      bind_out (values_cov f hf n ω env lt p node.fields k 0 decl.interface [] st hn hω b) (λ vs s1 h1. bind_out (open_scope_books ω k (Scope.Body p env.scope) s1 (λ s r. hω s (le_trans h1.grown r)) h1.books)
      (λ m s2 q. bind_out (body_cov f hf (suc m) (also ω m) env i (inner m vs) (le_refl _) k decl.body (record { root = none; extra_roots = []; routes = [] }) s2 (omega (arith, q.number, q.next)) (unopened m s1 s2 h1.grown q.number q.next) (enter m s1 s2 q.number q.older q.books))
      (λ x s3 h3. bind_out (root_of_cov (suc m) (also ω m) _ p x.root s3 (omega (arith, q.number, q.next, h3.grown)) (λ s r. unopened m s1 s2 h1.grown q.number q.next s (le_trans h3.grown r)) h3.books)
      (λ o s4 h4. bind_out (charge_cov (suc m) (also ω m) _ s4 (omega (arith, q.number, q.next, h3.grown, h4.grown)) (λ s r. unopened m s1 s2 h1.grown q.number q.next s (le_trans h3.grown (le_trans h4.grown r))) h4.books)
      (λ u s5 h5. map_out (record_instance_books ω m k decl.name node.def_name x o s5 (hω m (omega (arith, q.number, h1.grown))) h5.books)
      (λ o' s6 h6. record { grown = omega (arith, h1.grown, q.next, h3.grown, h4.grown, h5.grown, h6.0); books = h6.1 }))))))
    where
      inner : ℕ → Values → Env
      inner m vs = record { scope = m; entry = Scope.Body p env.scope; is_values = some vs }

      unopened : (m : ℕ) (s1 s2 : State) → count st ≤ count s1 → m ≡ count s1 → count s2 ≡ suc (count s1) → Unopened (also ω m) (count s2)
      unopened m s1 s2 g e1 e2 = unopened_also ω m (count s2) (λ s r. hω s (omega arith)) (omega arith)

      enter : (m : ℕ) (s1 s2 : State) → m ≡ count s1 → ScopesBelow (count s1) s2.is_map → Books I ω k s2 → Books I (also ω m) (0 + 0 + k) s2
      enter m s1 s2 e older h = record { below = h.below; capped = h.capped; covers = omega (arith, h.covers, waiting_new ω m s2.is_map (rw e older)) }

  -- ---- the copier

  copy_node_cov : (f : Env → Copier) → Paying f → (n : ℕ) (ω : ℕ → Bool) (env : Env) → env.scope < n → (k i : ℕ) (node : Node) (p : Option Prototype) → Cov I n ω k (copy_node I f env i node p) (λ o. k)
  unfolding copy_node
  copy_node_cov f hf n ω env lt k i node none = copy_plain_cov n ω (f env) (hf env n ω lt) env lt k i node
  copy_node_cov f hf n ω env lt k i node (some p) = instantiate_cov f hf n ω env lt k i node p (proto_at (docs I) p.document p.proto)

  mapped_or_cov : (n : ℕ) (ω : ℕ → Bool) (env : Env) (k i : ℕ) (next : Node → Comp ℕ) → ((node : Node) → Cov I n ω k (next node) (λ o. k)) → (o : Option ℕ) (node : Option Node) → Cov I n ω k (mapped_or env i next o node) (λ o'. k)
  unfolding mapped_or
  mapped_or_cov n ω env k i next h (some o) node = cov_ret n ω o (le_refl _)
  mapped_or_cov n ω env k i next h none none = λ st hn hω b. refused (five (src env) i)
  mapped_or_cov n ω env k i next h none (some node) = h node

  copy_cov : (left : ℕ) → Paying (copy I left)
  unfolding copy
  copy_cov zero env n ω lt k i st = mapped_or_cov n ω env k i (λ node. fail 9 0 0) (λ node st' hn hω b. refused nine) (lookup st.world.map env.scope i) (node_at (docs I) (src env) i) st
  copy_cov (suc left) env n ω lt k i st = mapped_or_cov n ω env k i _ (λ node. copy_node_cov (copy I left) (copy_cov left) n ω env lt k i node (proto_of_origin I (src env) node.origin)) (lookup st.world.map env.scope i) (node_at (docs I) (src env) i) st

  statement_cov : (n : ℕ) (ω : ℕ → Bool) (c : Copier) → Pays n ω c → (env : Env) (k : ℕ) (s : Statement) → Cov I n ω k (statement I c env s) (λ x. option_row x + k)
  unfolding statement
  statement_cov n ω c hc env k (Statement.Node i) = cov_bind n ω (paid_cov n ω (hc k i)) (λ o. cov_ret n ω _ (omega arith))
  statement_cov n ω c hc env k (Statement.Proto p) = cov_ret n ω none (omega arith)
  statement_cov n ω c hc env k (Statement.ExternProto x) = copy_extern_cov n ω k env x
  statement_cov n ω c hc env k (Statement.Route r) = copy_route_cov n ω k env r
  statement_cov n ω c hc env k (Statement.Other p) = paid_ret_cov n ω _ (omega arith)

  -- no association waits at the end
  abbrev nobody : ℕ → Bool
  nobody s = false

  -- The books at the start.
  start_books : Books I nobody 0 start_state
  start_books = record { below = λ x q. absurd (Memᴰ.not-nil q); capped = omega arith; covers = omega arith }

  -- The charges of an accepted expansion pay for its nodes, externs, scopes, statements, and two rows more; a refusal is one of 4 to 10.
  pub statements_cov : Outcome Numbered (Covered I) (statements I start_state)
  unfolding statements
  statements_cov =
      bind_out (charge_cov 0 nobody 0 start_state (omega arith) (λ s r. refl) start_books) (λ a s1 h1. bind_out (charge_cov 0 nobody 1 s1 (omega arith) (λ s r. refl) h1.books) (λ b s2 h2. bind_out (open_scope_books nobody 2 Scope.Root s2 (λ s r. refl) h2.books)
      (λ n s3 q. bind_out (map_m_cov 1 nobody option_row _ (statement_cov 1 nobody (copy I I.limits.max_depth root_env) (copy_cov I.limits.max_depth root_env 1 nobody (le_refl _)) root_env) 2 I.root.statements s3 (omega (arith, q.next)) (λ s r. refl) q.books)
      (λ l s4 h4. accepted (record { capped = h4.books.capped; covers = omega (arith, h4.books.covers, somes_rows l) })))))
