-- The output of every accepted expansion: every node id is below the node count, which is the ledger's length and at most the limit; no PROTO is left.
use mathlib.Core.Path.{◌≡◌, refl, ap, sym, ◌∙◌, subst}
use mathlib.Core.Logic.{◌⊎◌, inl, inr}
use mathlib.Core.List.Memᴰ
use mathlib.Core.List.{List, [], ◌∷◌, ◌++◌, map, Memᴰ}
use mathlib.Core.Option.{Option, none, some}
use mathlib.Core.Bool.{Bool, true, false}
use Prim.Native.Nat.{ℕ, zero, suc, ◌≤◌, ◌<◌}
use native.Mathlib.Nat.{le_refl, le_trans}
use native.Mathlib.Omega.{arith}
use lib.ListN.{length, get_elem?, set, length-append, length-set}
use lib.Dec.{T, ltb, eqb, ltb→lt}
use Rattle.ast.specs.Ast.{NodeOrigin, FieldData, FieldValue, FieldBinding, Field, InterfaceDecl, Route, Statement, Association, ProtoInstance, Node, ProtoDecl, ExternProtoDecl}
use Rattle.ast.specs.Choice.{choose, and_then, map_o}
use Rattle.ast.specs.Expanded.{OriginKept}
use Rattle.ast.specs.Lookups.{proto_at, extern_proto_at}
use Rattle.pick_definition.specs.Picks.{Prototype, prototype_in}
use Rattle.expansion_definition.specs.Input.{Input, docs, used_url, proto_of_origin, last_field}
use Rattle.expansion_definition.specs.Scopes.{Scope}
use Rattle.ast.specs.Ids.{data_ids, binding_ids}
use Rattle.expansion_definition.specs.State.{State, ok, Comp, ◌>>=◌, ret, map_m, fold_m, with_nodes, lookup, start_state}
use Rattle.expansion_definition.specs.Charges.{charge_if, charge, charge_each, paid}
use Rattle.expansion_definition.specs.Values.{Values, value_named, Env, src, Copier, copy_data, value, clone}
use Rattle.expansion_definition.specs.Externs.{lookup_extern, no_value, declared, push_extern, declare, extern_proto}
use Rattle.expansion_definition.specs.PlainCopy.{blank_node, add_node, reserve_if, reserve, copy_origin, associate, is_value, is_field, copy_binding, copy_field, is_interface, copy_target, copy_interface, remap_route, copy_route, copy_extern, copy_statement, somes, kept_order, contents, copy_plain}
use Rattle.expansion_definition.specs.Instances.{push_scope, open_scope, take_default, clone_or, interface_value, store, values, Body, place, body_statement, root_of, associations_of, nested_roots, nested_routes, with_instance, update, record_instance, instantiate}
use Rattle.expansion_definition.specs.Copy.{copy_node, mapped_or, copy}
use Rattle.expansion_definition.specs.Expand.{statement, root_env, statements}
use Rattle.expansion_definition.specs.Expanded.{Supplied}
use Rattle.expansion_definition.proofs.Marks.{supplied}
use Rattle.expansion_definition.proofs.Outcome.{refused, accepted, bind_out, map_out, at_ok}
use Rattle.expansion_definition.proofs.OutputState.{Out, All, none_some, some_some, IdsBelow, RouteBelow, InstanceBelow, TopStatement, NodeStatement, OutputNode, ids_up, node_statement_up, top_statement_up, InterfaceOk, interface_up, node_up, size, Declares, Sound, Post, Good, Free, Below, Opt, opt_up, somes_mem, set_mem, get_mem, both, cons, nothing, lookup_cons}

module _ (I : Input) where
  -- An answer in P.
  good_ret : {A : Type 0} {P : ℕ → A → Type 0} {m : ℕ} {a : A} → ((n : ℕ) → m ≤ n → P n a) → Good I m P (ret a)
  good_ret f st h b = accepted (record { sound = b; grow = le_refl _; res = f (size st) h })

  -- One step, then the next.
  good_bind : {A B : Type 0} {P : ℕ → A → Type 0} {Q : ℕ → B → Type 0} {m : ℕ} {c : Comp A} {k : A → Comp B} → Good I m P c → ((a : A) (n : ℕ) → m ≤ n → P n a → Good I n Q (k a)) → Good I m Q (c >>= k)
  good_bind g f st h b = bind_out (g st h b) (λ a s p. map_out (f a (size s) (le_trans h p.grow) p.res s (le_refl _) p.sound) (λ y s' q. record { sound = q.sound; grow = le_trans p.grow q.grow; res = q.res }))

  -- what leaves nodes, map, ledger and associations as they are, and adds at most externs without values
  record Still (st st' : State) : Type 0 where
    nodes : st'.nodes ≡ st.nodes
    maps : st'.world.map ≡ st.world.map
    ledger : st'.world.ledger ≡ st.world.ledger
    is_map : st'.is_map ≡ st.is_map
    externs : (x : ExternProtoDecl) → Memᴰ x st'.extern_protos → Memᴰ x st.extern_protos ⊎ Declares I x

  -- Such a step leaves the state in order.
  still : {A : Type 0} {m : ℕ} (P : ℕ → A → Type 0) (st st' : State) (a : A) → Still st st' → m ≤ size st → ((n : ℕ) → m ≤ n → P n a) → Sound I st → Out (Post I P st) (ok a st')
  still {m = m} P st st' a e h f b = accepted (record { sound = same; grow = grown; res = f (size st') (le_trans h grown) })
    where
      old : (x : ExternProtoDecl) → Memᴰ x st.extern_protos ⊎ Declares I x → Declares I x
      old x (inl q) = b.externs x q
      old x (inr q) = q

      same : Sound I st'
      same = record {
        listed = ap length e.nodes ∙ b.listed ∙ ap length (sym e.ledger);
        maps = λ s j o q. rw e.nodes (b.maps s j o (rw e.maps at q));
        nodes = λ x q. rw e.nodes (b.nodes x (rw e.nodes at q));
        is_map = λ x q. rw e.nodes (b.is_map x (rw e.is_map at q));
        room = rw e.nodes b.room;
        externs = λ x q. old x (e.externs x q);
      }

      grown : size st ≤ size st'
      grown = rw e.nodes (le_refl _)

  charge_good : (m : ℕ) → Good I m Free (charge I)
  unfolding charge charge_if
  charge_good m st h b = go (ltb st.charges I.limits.max_rows)
    where
      go : (t : Bool) → Out (Post I Free st) (charge_if t st)
      go false = refused tt
      go true = still Free st _ tt (record { nodes = refl; maps = refl; ledger = refl; is_map = refl; externs = λ x q. inl q }) h (λ n q. tt) b

  charge_each_good : {A : Type 0} (m : ℕ) (l : List A) → Good I m Free (charge_each I l)
  unfolding charge_each
  charge_each_good m [] = good_ret (λ n h. tt)
  charge_each_good m (x ∷ l) = good_bind (charge_good m) (λ a n h p. charge_each_good n l)

  -- more nodes do no harm to P
  abbrev Up : {A : Type 0} → (ℕ → A → Type 0) → Type 0
  Up P = (n k : ℕ) (a : _) → n ≤ k → P n a → P k a

  -- A charge afterwards does no harm.
  paid_good : {A : Type 0} {P : ℕ → A → Type 0} {m : ℕ} {c : Comp A} → Up P → Good I m P c → Good I m P (paid I c)
  unfolding paid
  paid_good up h = good_bind h (λ a n q p. good_bind (charge_good n) (λ u k r t. good_ret (λ j s. up n j a (le_trans r s) p)))

  -- Each element, in order.
  map_m_good : {A B : Type 0} (P : ℕ → B → Type 0) → Up P → (g : A → Comp B) (m : ℕ) → ((a : A) (n : ℕ) → m ≤ n → Good I n P (g a)) → (l : List A) → Good I m (λ n l'. All (P n) l') (map_m g l)
  unfolding map_m
  map_m_good P up g m h [] = good_ret (λ n q. (λ a q. nothing q))
  map_m_good P up g m h (a ∷ l) =
      good_bind (h a m (le_refl _)) (λ b n q p. good_bind (map_m_good P up g n (λ a' n' q'. h a' n' (le_trans q q')) l)
      (λ bs n2 q2 p2. good_ret (λ n3 q3. cons b bs (up n n3 b (le_trans q2 q3) p) (λ c x. up n2 n3 c q3 (p2 c x)))))

  -- ---- values

  abbrev ValueOk : ℕ → FieldValue → Type 0
  ValueOk n v = IdsBelow n (data_ids v.«data»)

  value_up : Up ValueOk
  value_up n k v h x = ids_up (data_ids v.«data») h x

  below_up : Up Below
  below_up n k o h x = le_trans x h

  clone_good : (m : ℕ) (v : FieldValue) → ValueOk m v → Good I m ValueOk (clone I v)
  unfolding clone
  clone_good m v hv = good_bind (charge_each_good m (data_ids v.«data»)) (λ a n h p. good_ret (λ k q. value_up m k v (le_trans h q) hv))

  module _ (c : Copier) (m₀ : ℕ) (hc : (i n : ℕ) → m₀ ≤ n → Good I n Below (c i)) where
    copy_data_good : (m : ℕ) → m₀ ≤ m → (d : FieldData) → Good I m (λ n d'. IdsBelow n (data_ids d')) (copy_data I c d)
    unfolding copy_data
    copy_data_good m h0 (FieldData.Payload p) = good_ret (λ n h. (λ a q. nothing q))
    copy_data_good m h0 (FieldData.Nodes ids) = good_bind (map_m_good Below below_up _ m (λ i n q. paid_good below_up (hc i n (le_trans h0 q))) ids) (λ os n1 h1 p1. good_ret (λ n h. ids_up os h p1))

    value_good : (m : ℕ) → m₀ ≤ m → (v : FieldValue) → Good I m ValueOk (value I c v)
    unfolding value
    value_good m h0 v = good_bind (copy_data_good m h0 v.«data») (λ x n1 h1 p1. good_ret (λ n h. ids_up (data_ids x) h p1))

  -- ---- environments

  abbrev ValuesOk : ℕ → Values → Type 0
  ValuesOk n l = (x : ℕ × FieldValue) → Memᴰ x l → ValueOk n x.1

  values_up : Up ValuesOk
  values_up n k l h f x q = value_up n k x.1 h (f x q)

  abbrev EnvOk : ℕ → Env → Type 0
  EnvOk n env = Opt ValuesOk n env.is_values

  env_up : (n k : ℕ) (env : Env) → n ≤ k → EnvOk n env → EnvOk k env
  env_up n k env = opt_up ValuesOk values_up n k env.is_values

  -- A value that is found is in order.
  found_ok : (n t : ℕ) (l : Values) → ValuesOk n l → Opt ValueOk n (value_named t l)
  unfolding value_named
  found_ok n t [] h = tt
  found_ok n t (x ∷ l) h = go (eqb x.0 t) (found_ok n t l (λ y q. h y (Memᴰ.tail q)))
    where
      go : (b : Bool) → Opt ValueOk n (value_named t l) → Opt ValueOk n (choose b (some x.1) (value_named t l))
      go true r = h x (Memᴰ.head refl)
      go false r = r

  is_value_ok : (n t : ℕ) (env : Env) → EnvOk n env → Opt (Opt ValueOk) n (is_value env t)
  is_value_ok n t env h = go env.is_values h
    where
      go : (o : Option Values) → Opt ValuesOk n o → Opt (Opt ValueOk) n (map_o (value_named t) o)
      go none q = tt
      go (some l) q = found_ok n t l q

  given_ok : (n t : ℕ) (env : Env) → EnvOk n env → Opt ValueOk n (and_then env.is_values (value_named t))
  given_ok n t env h = go env.is_values h
    where
      go : (o : Option Values) → Opt ValuesOk n o → Opt ValueOk n (and_then o (value_named t))
      go none q = tt
      go (some l) q = found_ok n t l q

  associate_good : (m : ℕ) (env : Env) (a : Association) → a.node < m → Good I m Free (associate I env a)
  unfolding associate
  associate_good m env a lt = good_bind (charge_good m) (λ u n h p st h' b. accepted (record {
    sound = record { listed = b.listed; maps = b.maps; nodes = b.nodes; is_map = both st.is_map ((env.scope, a) ∷ []) b.is_map (cons (env.scope, a) [] (le_trans lt (le_trans h h')) (λ a q. nothing q)); room = b.room; externs = b.externs };
    grow = le_refl _;
    res = tt;
  }))

  extern_proto_good : (m : ℕ) (env : Env) (x : ℕ) → Good I m Free (extern_proto I env x)
  unfolding extern_proto declare
  extern_proto_good m env x st = go (lookup_extern st.extern_map (src env) x) (extern_proto_at (docs I) (src env) x) refl st
    where
      new_one : (decl : ExternProtoDecl) → extern_proto_at (docs I) (src env) x ≡ some decl → Declares I (declared (used_url I (src env) x) decl)
      new_one decl e = record {
        values = λ d q. let y = Memᴰ.of_map no_value decl.interface q in ap (λ (z : InterfaceDecl). z.value) (sym y.2);
        marks = supplied I (src env) x decl e;
      }

      more : (decl y : ExternProtoDecl) → extern_proto_at (docs I) (src env) x ≡ some decl → (y ≡ declared (used_url I (src env) x) decl) ⊎ Memᴰ y [] → Declares I y
      more decl y q (inl e) = subst (Declares I) (sym e) (new_one decl q)
      more decl y q (inr n) = absurd (Memᴰ.not-nil n)

      new : (decl : ExternProtoDecl) → extern_proto_at (docs I) (src env) x ≡ some decl → (s : State) (y : ExternProtoDecl) → Memᴰ y s.extern_protos ⊎ Memᴰ y (declared (used_url I (src env) x) decl ∷ []) → Memᴰ y s.extern_protos ⊎ Declares I y
      new decl e s y (inl q) = inl q
      new decl e s y (inr q) = inr (more decl y e (Memᴰ.cases_cons q))

      go : (o : Option ℕ) (decl : Option ExternProtoDecl) → extern_proto_at (docs I) (src env) x ≡ decl → Good I m Free (declare I (src env) x o decl)
      go (some n) decl e = good_ret (λ k h. tt)
      go none none e = λ s h b. refused tt
      go none (some decl) e =
          good_bind (charge_good m) (λ a n1 h1 p1. good_bind (charge_each_good n1 decl.interface) (λ b n2 h2 p2. good_bind (charge_each_good n2 decl.urls)
          (λ c n3 h3 p3 s h b. still Free s (push_extern (src env) x (declared (used_url I (src env) x) decl) s) _ (record { nodes = refl; maps = refl; ledger = refl; is_map = refl; externs = λ y q. new decl e s y (Memᴰ.append_cases s.extern_protos q) }) h (λ k q. tt) b)))

  -- ---- plain nodes: what each step answers is in order

  copy_origin_good : (m : ℕ) (env : Env) (o : NodeOrigin) → OriginKept o → Good I m (λ n o'. OriginKept o') (copy_origin I env o)
  unfolding copy_origin
  copy_origin_good m env NodeOrigin.Builtin h = good_ret (λ n q. tt)
  copy_origin_good m env (NodeOrigin.Proto p) h = absurd h
  copy_origin_good m env (NodeOrigin.ExternProto x) h = good_bind (extern_proto_good m env x) (λ n k q p. good_ret (λ k' q'. tt))
  copy_origin_good m env NodeOrigin.Unknown h = good_ret (λ n q. tt)

  abbrev FieldOk : ℕ → Field → Type 0
  FieldOk n f = IdsBelow n (binding_ids f.binding)

  field_up : Up FieldOk
  field_up n k f h x = ids_up (binding_ids f.binding) h x

  is_field_good : (m : ℕ) (f : Field) (t : ℕ) → f.binding ≡ FieldBinding.Is t → (o : Option (Option FieldValue)) → Opt (Opt ValueOk) m o → Good I m (Opt FieldOk) (is_field I f o)
  unfolding is_field
  is_field_good m f t e none h = paid_good (opt_up FieldOk field_up) (good_ret (λ k r. rw e (λ a q. nothing q)))
  is_field_good m f t e (some none) h = good_ret (λ k r. tt)
  is_field_good m f t e (some (some v)) h = good_bind (paid_good value_up (clone_good m v h)) (λ v' n1 q1 p1. good_ret (λ k r. value_up n1 k v' r p1))

  is_interface_good : (m : ℕ) (d : InterfaceDecl) (t : ℕ) (o : Option (Option FieldValue)) → Opt (Opt ValueOk) m o → Good I m InterfaceOk (is_interface I d t o)
  unfolding is_interface InterfaceOk
  is_interface_good m d t none h = good_ret (λ k r. ((λ a q. nothing q), λ target e. refl))
  is_interface_good m d t (some none) h = good_ret (λ k r. ((λ a q. nothing q), λ target e. refl))
  is_interface_good m d t (some (some v)) h = good_bind (clone_good m v h) (λ v' n1 q1 p1. good_ret (λ k r. (value_up n1 k v' r p1, λ target e. absurd (none_some e))))

  module _ (c : Copier) (m₀ : ℕ) (hc : (i n : ℕ) → m₀ ≤ n → Good I n Below (c i)) (env : Env) (he : EnvOk m₀ env) where
    copy_field_good : (m : ℕ) → m₀ ≤ m → (new : ℕ) → new < m → (f : Field) → Good I m (Opt FieldOk) (copy_field I c env new f)
    unfolding copy_field copy_binding
    copy_field_good m h0 new lt f = go f.binding refl
      where
        go : (b : FieldBinding) → f.binding ≡ b → Good I m (Opt FieldOk) (copy_binding I c env new f b)
        go (FieldBinding.Value v) e = good_bind (paid_good value_up (value_good c m₀ hc m h0 v)) (λ v' n1 h1 p1. good_ret (λ k r. value_up n1 k v' r p1))
        go (FieldBinding.Is t) e = good_bind (associate_good m env _ lt) (λ u n1 h1 p1. is_field_good n1 f t e (is_value env t) (is_value_ok n1 t env (env_up m₀ n1 env (le_trans h0 h1) he)))

    copy_interface_good : (m : ℕ) → m₀ ≤ m → (new : ℕ) → new < m → (d : InterfaceDecl) → Good I m InterfaceOk (copy_interface I c env new d)
    unfolding copy_interface copy_target InterfaceOk
    copy_interface_good m h0 new lt d = paid_good interface_up (go d.is d.value)
      where
        go : (t : Option ℕ) (v : Option FieldValue) → Good I m InterfaceOk (copy_target I c env new d t v)
        go (some t) v = good_bind (associate_good m env _ lt) (λ u n1 h1 p1. is_interface_good n1 d t (is_value env t) (is_value_ok n1 t env (env_up m₀ n1 env (le_trans h0 h1) he)))
        go none none = good_ret (λ k r. ((λ a q. nothing q), λ target e. refl))
        go none (some v) = good_bind (value_good c m₀ hc m h0 v) (λ v' n1 h1 p1. good_ret (λ k r. (value_up n1 k v' r p1, λ target e. absurd (none_some e))))

  -- A remapped route ends in the output, or nowhere.
  remap_ok : (st : State) (s : ℕ) (r : Route) → Sound I st → RouteBelow (size st) (remap_route st.world s r)
  remap_ok st s r b = record { from_id = λ i e. go r.from_id i e; to_id = λ i e. go r.to_id i e }
    where
      go : (o : Option ℕ) (i : ℕ) → and_then o (lookup st.world.map s) ≡ some i → i < size st
      go none i e = absurd (none_some e)
      go (some j) i e = b.maps s j i e

  -- a route that is remapped, where P asks no more of a Route
  copy_route_good : (P : ℕ → Statement → Type 0) → Up P → ((n : ℕ) (r : Route) → RouteBelow n r → P n (Statement.Route r)) → (m : ℕ) (env : Env) (r : Route) → Good I m (Opt P) (copy_route I env r)
  unfolding copy_route
  copy_route_good P up asks m env r = paid_good (opt_up P up) (λ st h b. accepted (record { sound = b; grow = le_refl _; res = asks (size st) _ (remap_ok st env.scope r b) }))

  copy_extern_good : (P : ℕ → Statement → Type 0) → ((n x : ℕ) → P n (Statement.ExternProto x)) → (m : ℕ) (env : Env) (x : ℕ) → Good I m (Opt P) (copy_extern I env x)
  unfolding copy_extern
  copy_extern_good P asks m env x = good_bind (paid_good (λ n k a h p. tt) (extern_proto_good m env x)) (λ y n1 h1 p1. good_ret (λ n h. asks n y))

  copy_statement_good : (m : ℕ) (env : Env) (s : Statement) → Good I m (Opt NodeStatement) (copy_statement I env s)
  unfolding copy_statement
  copy_statement_good m env (Statement.Node i) = good_ret (λ n h. tt)
  copy_statement_good m env (Statement.Proto p) = good_ret (λ n h. tt)
  copy_statement_good m env (Statement.ExternProto x) = copy_extern_good NodeStatement (λ n y. tt) m env x
  copy_statement_good m env (Statement.Route r) = copy_route_good NodeStatement node_statement_up (λ n r' h. h) m env r
  copy_statement_good m env (Statement.Other p) = good_ret (λ n h. tt)

  contents_good : (c : Copier) (m : ℕ) → ((i n : ℕ) → m ≤ n → Good I n Below (c i)) → (env : Env) → EnvOk m env → (new : ℕ) → new < m → (node : Node) → OriginKept node.origin → Good I m OutputNode (contents I c env new node)
  unfolding contents InterfaceOk
  contents_good c m hc env he new lt node np =
      good_bind (copy_origin_good m env node.origin np) (λ og n1 h1 p1.
      good_bind (map_m_good (Opt FieldOk) (opt_up FieldOk field_up) _ n1 (λ f n h. copy_field_good c m hc env he n (le_trans h1 h) new (le_trans lt (le_trans h1 h)) f) node.fields) (λ fs n2 h2 p2.
      good_bind (map_m_good InterfaceOk interface_up _ n2 (λ d n h. copy_interface_good c m hc env he n (le_trans h1 (le_trans h2 h)) new (le_trans lt (le_trans h1 (le_trans h2 h))) d) node.interface) (λ is n3 h3 p3.
      good_bind (map_m_good (Opt NodeStatement) (opt_up NodeStatement node_statement_up) _ n3 (λ s n h. copy_statement_good n env s) node.statements) (λ ss n4 h4 p4.
      good_bind (charge_each_good n4 (kept_order fs ss node.body_order)) (λ u n5 h5 p5. good_ret (λ n h.
      record {
        origin = p1;
        fields = λ f x. field_up n2 n f (le_trans h3 (le_trans h4 (le_trans h5 h))) (p2 (some f) (somes_mem fs f x));
        interface = λ d x. interface_up n3 n d (le_trans h4 (le_trans h5 h)) (p3 d x);
        statements = λ s x. node_statement_up n4 n s (le_trans h5 h) (p4 (some s) (somes_mem ss s x));
        instance = λ i e. absurd (none_some e);
      }))))))

  -- A node with nothing in it is in order.
  blank_ok : (n : ℕ) → OutputNode n blank_node
  blank_ok n = record { origin = tt; fields = (λ a q. nothing q); interface = (λ a q. nothing q); statements = (λ a q. nothing q); instance = λ i e. absurd (none_some e) }

  -- a node more, its map entry and its ledger entry
  add_node_sound : (s i : ℕ) (st : State) → size st < I.limits.max_nodes → Sound I st → Sound I (add_node s i st)
  add_node_sound s i st lt b = record {
    listed = omega (arith, more, b.listed, length-append st.world.ledger ((s, i) ∷ []));
    maps = λ s' j o q. at s' j o (lookup_cons _ st.world.map s' j o q);
    nodes = both st.nodes (blank_node ∷ []) (λ x q. node_up (omega (arith, more)) (b.nodes x q)) (cons blank_node [] (blank_ok _) (λ a q. nothing q));
    is_map = λ x q. omega (arith, more, b.is_map x q);
    room = omega (arith, more);
    externs = b.externs;
  }
    where
      more : length (st.nodes ++ (blank_node ∷ [])) ≡ suc (size st)
      more = omega (arith, length-append st.nodes (blank_node ∷ []))

      at : (s' j o : ℕ) → (o ≡ size st) ⊎ (lookup st.world.map s' j ≡ some o) → o < length (st.nodes ++ (blank_node ∷ []))
      at s' j o (inl e) = omega (arith, more)
      at s' j o (inr q) = omega (arith, more, b.maps s' j o q)

  -- a node written again
  set_sound : (o : ℕ) (x : Node) (st : State) → OutputNode (size st) x → Sound I st → Sound I (with_nodes (set st.nodes o x) st)
  set_sound o x st h b = record {
    listed = length-set st.nodes o x ∙ b.listed;
    maps = λ s j k q. rw length-set (b.maps s j k q);
    nodes = λ y q. rw length-set (at y (set_mem st.nodes o x y q));
    is_map = λ y q. rw length-set (b.is_map y q);
    room = rw length-set b.room;
    externs = b.externs;
  }
    where
      at : (y : Node) → (y ≡ x) ⊎ Memᴰ y st.nodes → OutputNode (size st) y
      at y (inl e) = subst (OutputNode (size st)) (sym e) h
      at y (inr q) = b.nodes y q

  -- a charge changes no size
  charge_size : (s : State) → Sound I s → Out (λ u s'. Sound I s' × (size s' ≡ size s)) (charge I s)
  unfolding charge charge_if
  charge_size s b = pick (ltb s.charges I.limits.max_rows)
    where
      pick : (t : Bool) → Out (λ u s'. Sound I s' × (size s' ≡ size s)) (charge_if t s)
      pick false = refused tt
      pick true = accepted (record { listed = b.listed; maps = b.maps; nodes = b.nodes; is_map = b.is_map; room = b.room; externs = b.externs }, refl)

  reserve_good : (m : ℕ) (env : Env) (i : ℕ) → Good I m Below (reserve I env i)
  unfolding reserve reserve_if
  reserve_good m env i st h b = go (ltb (size st) I.limits.max_nodes) (ltb→lt (size st) I.limits.max_nodes)
    where
      go : (t : Bool) → (T t → size st < I.limits.max_nodes) → Out (Post I Below st) (reserve_if t I env i st)
      go false q = refused tt
      go true q = bind_out (charge_size st b) (λ u s1 p1. bind_out (charge_size s1 p1.0) (λ u2 s2 p2. accepted (fin s2 (p2.1 ∙ p1.1) p2.0)))
        where
          fin : (s2 : State) → size s2 ≡ size st → Sound I s2 → Post I Below st (size s2) (add_node env.scope i s2)
          fin s2 e b2 = record { sound = add_node_sound env.scope i s2 (rw e (q tt)) b2; grow = omega (arith, length-append s2.nodes (blank_node ∷ [])); res = omega (arith, length-append s2.nodes (blank_node ∷ [])) }

  -- a copier answers ids of the output, in every scope
  abbrev Goods : (Env → Copier) → Type 0
  Goods f = (env : Env) (m : ℕ) → EnvOk m env → (i : ℕ) → Good I m Below (f env i)

  copy_plain_good : (f : Env → Copier) → Goods f → (env : Env) (m : ℕ) → EnvOk m env → (i : ℕ) (node : Node) → OriginKept node.origin → Good I m Below (copy_plain I (f env) env i node)
  unfolding copy_plain
  copy_plain_good f hf env m he i node np =
      good_bind (reserve_good m env i) (λ new n1 h1 p1. good_bind (contents_good (f env) n1 (λ j n q. hf env n (env_up m n env (le_trans h1 q) he) j) env (env_up m n1 env h1 he) new p1 node np)
      (λ x n2 h2 p2 st q b. accepted (fin new x st (le_trans p1 (le_trans h2 q)) (node_up q p2) b)))
    where
      fin : (new : ℕ) (x : Node) (st : State) → new < size st → OutputNode (size st) x → Sound I st → Post I Below st new (with_nodes (set st.nodes new x) st)
      fin new x st lt hx b = record { sound = set_sound new x st hx b; grow = omega (arith, length-set st.nodes new x); res = omega (arith, length-set st.nodes new x) }

  -- ---- instances

  open_scope_good : (m : ℕ) (e : Scope) → Good I m Free (open_scope I e)
  unfolding open_scope push_scope
  open_scope_good m e = good_bind (charge_good m) (λ u n h p st q b. still Free st _ _ (record { nodes = refl; maps = refl; ledger = refl; is_map = refl; externs = λ x y. inl y }) q (λ k r. tt) b)

  take_default_good : (f : Env → Copier) → Goods f → (m : ℕ) (e : Scope) (v : Option FieldValue) → Good I m (Opt ValueOk) (take_default I f e v)
  unfolding take_default
  take_default_good f hf m e none = good_ret (λ n q. tt)
  take_default_good f hf m e (some v) =
      good_bind (open_scope_good m e) (λ k n1 h1 p1. good_bind (value_good (f (record { scope = k; entry = e; is_values = none })) n1 (λ i n q. hf (record { scope = k; entry = e; is_values = none }) n tt i) n1 (le_refl _) v)
      (λ v' n2 h2 p2. good_ret (λ n q. value_up n2 n v' q p2)))

  clone_or_good : (m : ℕ) {instead : Comp (Option FieldValue)} → Good I m (Opt ValueOk) instead → (o : Option FieldValue) → Opt ValueOk m o → Good I m (Opt ValueOk) (clone_or I instead o)
  unfolding clone_or
  clone_or_good m hd none h = hd
  clone_or_good m hd (some v) h = good_bind (clone_good m v h) (λ v' n1 h1 p1. good_ret (λ n q. value_up n1 n v' q p1))

  interface_value_good : (f : Env → Copier) → Goods f → (env : Env) (m : ℕ) → EnvOk m env → (e : Scope) (default : Option FieldValue) (given : Option FieldBinding) → Good I m (Opt ValueOk) (interface_value I f env e default given)
  unfolding interface_value
  interface_value_good f hf env m he e default (some (FieldBinding.Value v)) = good_bind (value_good (f env) m (λ i n q. hf env n (env_up m n env q he) i) m (le_refl _) v) (λ v' n1 h1 p1. good_ret (λ n q. value_up n1 n v' q p1))
  interface_value_good f hf env m he e default (some (FieldBinding.Is t)) = clone_or_good m (take_default_good f hf m e default) (and_then env.is_values (value_named t)) (given_ok m t env he)
  interface_value_good f hf env m he e default none = take_default_good f hf m e default

  store_good : (m name : ℕ) (vs : Values) (v : Option FieldValue) → ValuesOk m vs → Opt ValueOk m v → Good I m ValuesOk (store I name vs v)
  unfolding store
  store_good m name vs none ha hv = good_ret (λ n q. values_up m n vs q ha)
  store_good m name vs (some v) ha hv = paid_good values_up (good_ret (λ n q. cons (name, v) vs (value_up m n v q hv) (values_up m n vs q ha)))

  values_good : (f : Env → Copier) → Goods f → (env : Env) (p : Prototype) (fields : List Field) (l : List InterfaceDecl) (m : ℕ) → EnvOk m env → (k : ℕ) (vs : Values) → ValuesOk m vs → Good I m ValuesOk (values I f env p fields k l vs)
  unfolding values
  values_good f hf env p fields [] m he k vs ha = good_ret (λ n q. values_up m n vs q ha)
  values_good f hf env p fields (d ∷ l) m he k vs ha =
      good_bind (interface_value_good f hf env m he (Scope.Default p k env.scope) d.value (last_field d.name fields)) (λ v n1 h1 p1. good_bind (store_good n1 d.name vs v (values_up m n1 vs h1 ha) p1)
      (λ vs' n2 h2 p2. values_good f hf env p fields l n2 (env_up m n2 env (le_trans h1 h2) he) (suc k) vs' p2))

  -- what a body gave: its root, if any, and its extra roots
  record BodyOk (n : ℕ) (b : Body) : Type 0 where
    root : Opt Below n b.root
    extra_roots : IdsBelow n b.extra_roots

  body_up : Up BodyOk
  body_up n k b h x = record { root = opt_up Below below_up n k b.root h x.root; extra_roots = ids_up b.extra_roots h x.extra_roots }

  place_good : (m : ℕ) (env : Env) (i o : ℕ) → o < m → (b : Body) → BodyOk m b → (root : Option ℕ) → Opt Below m root → Good I m BodyOk (place I env i o b root)
  unfolding place
  place_good m env i o lt b hb none hr = good_bind (charge_good m) (λ u n h p st h' s. accepted (record {
    sound = record { listed = s.listed; maps = λ s' j k q. at st (le_trans lt (le_trans h h')) s s' j k (lookup_cons _ st.world.map s' j k q); nodes = s.nodes; is_map = s.is_map; room = s.room; externs = s.externs };
    grow = le_refl _;
    res = record { root = le_trans lt (le_trans h h'); extra_roots = ids_up b.extra_roots (le_trans h h') hb.extra_roots };
  }))
    where
      at : (st : State) → o < size st → Sound I st → (s j k : ℕ) → (k ≡ o) ⊎ (lookup st.world.map s j ≡ some k) → k < size st
      at st l s s' j k (inl e) = rw e l
      at st l s s' j k (inr q) = s.maps s' j k q
  place_good m env i o lt b hb (some root) hr = paid_good body_up (good_ret (λ n q. record { root = le_trans hr q; extra_roots = both b.extra_roots (o ∷ []) (ids_up b.extra_roots q hb.extra_roots) (cons o [] (le_trans lt q) (λ a q'. nothing q')) }))

  body_statement_good : (f : Env → Copier) → Goods f → (env : Env) (i : ℕ) (inner : Env) (m : ℕ) → EnvOk m inner → (b : Body) → BodyOk m b → (s : Statement) → Good I m BodyOk (body_statement I f env i inner b s)
  unfolding body_statement
  body_statement_good f hf env i inner m he b hb (Statement.Node j) = good_bind (hf inner m he j) (λ o n h p. place_good n env i o p b (body_up m n b h hb) b.root (opt_up Below below_up m n b.root h hb.root))
  body_statement_good f hf env i inner m he b hb (Statement.Proto p) = good_ret (λ n q. body_up m n b q hb)
  body_statement_good f hf env i inner m he b hb (Statement.ExternProto x) = good_bind (extern_proto_good m inner x) (λ y n h p. good_ret (λ k q. body_up m k b (le_trans h q) hb))
  body_statement_good f hf env i inner m he b hb (Statement.Route r) = paid_good body_up (good_ret (λ n q. record { root = opt_up Below below_up m n b.root q hb.root; extra_roots = ids_up b.extra_roots q hb.extra_roots }))
  body_statement_good f hf env i inner m he b hb (Statement.Other p) = good_ret (λ n q. body_up m n b q hb)

  body_good : (f : Env → Copier) → Goods f → (env : Env) (i : ℕ) (inner : Env) (l : List Statement) (m : ℕ) → EnvOk m inner → (b : Body) → BodyOk m b → Good I m BodyOk (fold_m (body_statement I f env i inner) b l)
  unfolding fold_m
  body_good f hf env i inner [] m he b hb = good_ret (λ n q. body_up m n b q hb)
  body_good f hf env i inner (s ∷ l) m he b hb = good_bind (body_statement_good f hf env i inner m he b hb s) (λ c n h p. body_good f hf env i inner l n (env_up m n inner h he) c p)

  root_of_good : (m : ℕ) (p : Prototype) (root : Option ℕ) → Opt Below m root → Good I m Below (root_of p root)
  unfolding root_of
  root_of_good m p none h = λ st q b. refused tt
  root_of_good m p (some o) h = good_ret (λ n q. le_trans h q)

  associations_ok : (k s : ℕ) (l : List (ℕ × Association)) → ((x : ℕ × Association) → Memᴰ x l → x.1.node < k) → (a : Association) → Memᴰ a (associations_of s l) → a.node < k
  unfolding associations_of
  associations_ok k s [] h = λ a q. nothing q
  associations_ok k s (x ∷ l) h = go (eqb x.0 s) (associations_ok k s l (λ y r. h y (Memᴰ.tail r)))
    where
      go : (t : Bool) → ((a : Association) → Memᴰ a (associations_of s l) → a.node < k) → (a : Association) → Memᴰ a (choose t (x.1 ∷ associations_of s l) (associations_of s l)) → a.node < k
      go true r = cons x.1 (associations_of s l) (h x (Memᴰ.head refl)) r
      go false r = r

  with_instance_ok : (n : ℕ) (def_name : Option ℕ) (x : ProtoInstance) (node : Node) → InstanceBelow n x → OutputNode n node → OutputNode n (with_instance def_name x node)
  with_instance_ok n def_name x node hx h = record { origin = h.origin; fields = h.fields; interface = h.interface; statements = h.statements; instance = λ i e. subst (InstanceBelow n) (some_some _ i e) made }
    where
      roots : (o : Option ProtoInstance) → ((i : ProtoInstance) → o ≡ some i → InstanceBelow n i) → IdsBelow n (nested_roots o)
      roots none q = λ a r. nothing r
      roots (some i) q = (q i refl).extra_roots

      routes : (o : Option ProtoInstance) → ((i : ProtoInstance) → o ≡ some i → InstanceBelow n i) → (r : Route) → Memᴰ r (nested_routes o) → RouteBelow n r
      routes none q = λ a r. nothing r
      routes (some i) q = (q i refl).routes

      made : InstanceBelow n (record { proto_name = x.proto_name; extra_roots = x.extra_roots ++ nested_roots node.instance; routes = x.routes ++ nested_routes node.instance; is_map = x.is_map })
      made = record { extra_roots = both x.extra_roots (nested_roots node.instance) hx.extra_roots (roots node.instance h.instance); routes = both x.routes (nested_routes node.instance) hx.routes (routes node.instance h.instance); is_map = hx.is_map }

  record_instance_good : (m name : ℕ) (def_name : Option ℕ) (n : ℕ) (b : Body) → BodyOk m b → (o : ℕ) → o < m → Good I m Below (record_instance name def_name n b o)
  unfolding record_instance
  record_instance_good m name def_name n b hb o lt st h s = accepted (go (get_elem? st.nodes o) (get_mem st.nodes o))
    where
      x : ProtoInstance
      x = record { proto_name = name; extra_roots = b.extra_roots; routes = map (remap_route st.world n) b.routes; is_map = associations_of n st.is_map }

      remapped : (r : Route) → Memᴰ r (map (remap_route st.world n) b.routes) → RouteBelow (size st) r
      remapped r q = let y = Memᴰ.of_map (remap_route st.world n) b.routes q in subst (RouteBelow (size st)) y.2 (remap_ok st n y.0 s)

      hx : InstanceBelow (size st) x
      hx = record { extra_roots = ids_up b.extra_roots h hb.extra_roots; routes = remapped; is_map = associations_ok (size st) n st.is_map s.is_map }

      go : (y : Option Node) → ((node : Node) → y ≡ some node → Memᴰ node st.nodes) → Post I Below st o (with_nodes (update st.nodes o (with_instance def_name x) y) st)
      go none q = record { sound = record { listed = s.listed; maps = s.maps; nodes = s.nodes; is_map = s.is_map; room = s.room; externs = s.externs }; grow = le_refl _; res = le_trans lt h }
      go (some node) q = record {
        sound = set_sound o (with_instance def_name x node) st (with_instance_ok (size st) def_name x node hx (s.nodes node (q node refl))) s;
        grow = omega (arith, length-set st.nodes o (with_instance def_name x node));
        res = omega (arith, length-set st.nodes o (with_instance def_name x node));
      }

  instantiate_good : (f : Env → Copier) → Goods f → (env : Env) (m : ℕ) → EnvOk m env → (i : ℕ) (node : Node) (p : Prototype) (decl : Option ProtoDecl) → Good I m Below (instantiate I f env i node p decl)
  unfolding instantiate
  instantiate_good f hf env m he i node p none = λ st q b. refused tt
  instantiate_good f hf env m he i node p (some decl) =
      good_bind (values_good f hf env p node.fields decl.interface m he 0 [] (λ a q. nothing q)) (λ vs n1 h1 p1.
      good_bind (open_scope_good n1 (Scope.Body p env.scope)) (λ n n2 h2 p2.
      good_bind (body_good f hf env i (record { scope = n; entry = Scope.Body p env.scope; is_values = some vs }) decl.body n2 (values_up n1 n2 vs h2 p1) (record { root = none; extra_roots = []; routes = [] }) (record { root = tt; extra_roots = λ a q. nothing q })) (λ b n3 h3 p3.
      good_bind (root_of_good n3 p b.root p3.root) (λ o n4 h4 p4.
      good_bind (charge_good n4) (λ u n5 h5 p5. record_instance_good n5 decl.name node.def_name n b (body_up n3 n5 b (le_trans h4 h5) p3) o (le_trans p4 h5))))))

  -- ---- the copier

  -- A plain node is of no origin Proto.
  not_proto : (d : ℕ) (o : NodeOrigin) → proto_of_origin I d o ≡ none → OriginKept o
  unfolding prototype_in
  not_proto d NodeOrigin.Builtin e = tt
  not_proto d (NodeOrigin.Proto p) e = let z : ◌≡◌ {A = ℕ} 0 1 = cc in omega arith
  not_proto d (NodeOrigin.ExternProto x) e = tt
  not_proto d NodeOrigin.Unknown e = tt

  copy_node_good : (f : Env → Copier) → Goods f → (env : Env) (m : ℕ) → EnvOk m env → (i : ℕ) (node : Node) (p : Option Prototype) → proto_of_origin I (src env) node.origin ≡ p → Good I m Below (copy_node I f env i node p)
  unfolding copy_node
  copy_node_good f hf env m he i node none e = copy_plain_good f hf env m he i node (not_proto (src env) node.origin e)
  copy_node_good f hf env m he i node (some p) e = instantiate_good f hf env m he i node p (proto_at (docs I) p.document p.proto)

  mapped_or_good : (env : Env) (m i : ℕ) (next : Node → Comp ℕ) → ((node : Node) → Good I m Below (next node)) → (st : State) → m ≤ size st → Sound I st → (o : Option ℕ) → ((k : ℕ) → o ≡ some k → k < size st) → (node : Option Node) → Out (Post I Below st) (mapped_or env i next o node st)
  unfolding mapped_or
  mapped_or_good env m i next h st q b (some o) ho node = accepted (record { sound = b; grow = le_refl _; res = ho o refl })
  mapped_or_good env m i next h st q b none ho none = refused tt
  mapped_or_good env m i next h st q b none ho (some node) = h node st q b

  copy_good : (left : ℕ) → Goods (copy I left)
  unfolding copy
  copy_good zero env m he i st h b = mapped_or_good env m i _ (λ node st' q b'. refused tt) st h b _ (b.maps env.scope i) _
  copy_good (suc left) env m he i st h b = mapped_or_good env m i _ (λ node. copy_node_good (copy I left) (copy_good left) env m he i node _ refl) st h b _ (b.maps env.scope i) _

  statement_good : (c : Copier) (m : ℕ) → ((i n : ℕ) → m ≤ n → Good I n Below (c i)) → (env : Env) (s : Statement) (n : ℕ) → m ≤ n → Good I n (Opt TopStatement) (statement I c env s)
  unfolding statement
  statement_good c m hc env (Statement.Node i) n h = good_bind (paid_good below_up (hc i n h)) (λ o n1 h1 p1. good_ret (λ k q. le_trans p1 q))
  statement_good c m hc env (Statement.Proto p) n h = good_ret (λ k q. tt)
  statement_good c m hc env (Statement.ExternProto x) n h = copy_extern_good TopStatement (λ k y. tt) n env x
  statement_good c m hc env (Statement.Route r) n h = copy_route_good TopStatement top_statement_up (λ k r' q. q) n env r
  statement_good c m hc env (Statement.Other p) n h = paid_good (opt_up TopStatement top_statement_up) (good_ret (λ k q. tt))

  -- The state at the start is in order.
  start_sound : Sound I start_state
  unfolding lookup
  start_sound = record { listed = refl; maps = λ s j o e. absurd (none_some e); nodes = λ a q. nothing q; is_map = λ a q. nothing q; room = omega arith; externs = λ a q. nothing q }

  -- The whole.
  statements_good : Out (Post I (λ n l. All (TopStatement n) l) start_state) (statements I start_state)
  unfolding statements
  statements_good =
      good_bind {m = 0} (charge_good 0) (λ a n1 h1 p1. good_bind (charge_good n1) (λ b n2 h2 p2. good_bind (open_scope_good n2 Scope.Root)
      (λ s n3 h3 p3. good_bind (map_m_good (Opt TopStatement) (opt_up TopStatement top_statement_up) _ n3 (statement_good (copy I I.limits.max_depth root_env) n3 (λ i n q. copy_good I.limits.max_depth root_env n tt i) root_env) I.root.statements)
      (λ l n4 h4 p4. good_ret {a = somes l} (λ n q x y. top_statement_up n4 n x q (p4 (some x) (somes_mem l x y))))))) start_state (omega arith) start_sound

-- of every accepted expansion
pub record Output (I : Input) (l : List Statement) (st : State) : Type 0 where
  pub listed : length st.nodes ≡ length st.world.ledger
  pub room : length st.nodes ≤ I.limits.max_nodes
  pub nodes : (x : Node) → Memᴰ x st.nodes → OutputNode (length st.nodes) x
  pub statements : (s : Statement) → Memᴰ s l → TopStatement (length st.nodes) s
  pub externs : (x : ExternProtoDecl) → Memᴰ x st.extern_protos → (d : InterfaceDecl) → Memᴰ d x.interface → d.value ≡ none
  pub supplied : (x : ExternProtoDecl) → Memᴰ x st.extern_protos → Supplied I x

-- The output of an accepted expansion.
pub output : (I : Input) (l : List Statement) (st : State) → statements I start_state ≡ ok l st → Output I l st
output I l st e =
    let p : Post I (λ n k. All (TopStatement n) k) start_state l st = at_ok (statements_good I) e in
    record { listed = p.sound.listed; room = p.sound.room; nodes = p.sound.nodes; statements = p.res; externs = λ x m. (p.sound.externs x m).values; supplied = λ x m. (p.sound.externs x m).marks }
