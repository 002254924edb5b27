-- Every number of an accepted expansion's output is in range, where those of the input are.
use mathlib.Core.Path.{◌≡◌, refl}
use mathlib.Core.List.{List, [], ◌∷◌, map}
use mathlib.Core.Option.{Option, none, some}
use mathlib.Core.Bool.{Bool, true, false}
use Prim.Native.Nat.{ℕ, zero, suc, ◌≤◌, ◌<◌}
use native.Mathlib.Omega.{arith}
use lib.ListN.{length, get_elem?, set, length-append}
use lib.Dec.{T, ltb, ltb→lt}
use Rattle.ast.specs.Ast.{NodeOrigin, FieldData, FieldValue, FieldBinding, Field, InterfaceDecl, Route, Statement, Association, ProtoInstance, Node, ProtoDecl, Url, ExternProtoDecl, File}
use Rattle.ast.specs.Choice.{and_then, map_o}
use Rattle.ast.specs.Lookups.{node_at, proto_at, extern_proto_at}
use Rattle.pick_definition.specs.Picks.{Prototype}
use Rattle.ast.specs.Each.{Each}
use Rattle.sheet_roundtrip.specs.Ranges.{IsName, IsPresent, DataInRange, ValueInRange, BindingInRange, FieldInRange, DefaultInRange, InterfaceInRange, RouteInRange, StatementInRange, AssociationInRange, InstanceInRange, OriginInRange, NodeInRange, ProtoInRange, ExternInterfaceInRange, UrlInRange, ExternProtoInRange, InRange, FileInRange}
use Rattle.expansion_definition.specs.Input.{Input, docs, used_url, last_field}
use Rattle.expansion_definition.specs.Scopes.{Scope}
use Rattle.ast.specs.Ids.{data_ids}
use Rattle.expansion_definition.specs.State.{State, ok, Comp, ◌>>=◌, ret, map_m, fold_m, with_nodes, start_state}
use Rattle.expansion_definition.specs.Charges.{one_more, charge_if, charge, charge_each, paid}
use Rattle.expansion_definition.specs.Values.{Values, value_named, Env, src, Copier, copy_data, value, clone}
use Rattle.expansion_definition.specs.Externs.{lookup_extern, no_value, marked, declared, push_extern, declare, extern_proto}
use Rattle.expansion_definition.specs.PlainCopy.{blank_node, reserve_if, reserve, copy_origin, associate, is_value, is_field, copy_binding, copy_field, is_interface, copy_target, copy_interface, remap_route, copy_route, copy_extern, copy_statement, somes, kept_order, contents, copy_plain}
use Rattle.expansion_definition.specs.Instances.{push_scope, open_scope, take_default, clone_or, interface_value, store, values, Body, place, body_statement, root_of, associations_of, with_instance, update, record_instance, instantiate}
use Rattle.expansion_definition.specs.Copy.{copy_node, mapped_or, copy}
use Rattle.expansion_definition.specs.Expand.{statement, root_env, statements, output}
use Rattle.expansion_definition.proofs.Outcome.{refused, accepted, bind_out, map_out, at_ok}
use Rattle.expansion_output.specs.Input.{IsTarget, NodeTargets, Targets, InputInRange}
use Rattle.expansion_output.proofs.Eachs.{Opt, each_snoc, each_set, each_get, each_somes, each_map, opt_then, each_both}
use Rattle.expansion_output.proofs.RangedState.{Out, present, Ranged, Post, Good, Free, ValuesInRange, SourceNode, SourceInterface, Source, lookup_ok, lookup_extern_ok, found_ok, last_field_ok, associations_ok, remap_ok, blank_ok, instance_ok}

module _ (I : Input) (given : InputInRange I) where
  -- ---- the documents: what is looked up in them is in range

  docs_ok : Each Source (docs I)
  docs_ok = ((given.root, given.root_targets), each_map (λ f. FileInRange f × Targets f.document) Source (λ (f : File). f.document) (λ f h. (h.0.document, h.1)) I.library (each_both FileInRange (λ f. Targets f.document) I.library given.library given.library_targets))

  node_at_lem : (d i : ℕ) → Opt SourceNode (node_at (docs I) d i)
  unfolding node_at
  node_at_lem d i = opt_then Source SourceNode (get_elem? (docs I) d) (λ x. get_elem? x.nodes i) (each_get Source (docs I) d docs_ok) (λ x h. each_get SourceNode x.nodes i (each_both NodeInRange NodeTargets x.nodes h.0.nodes h.1))

  proto_at_lem : (d i : ℕ) → Opt ProtoInRange (proto_at (docs I) d i)
  unfolding proto_at
  proto_at_lem d i = opt_then Source ProtoInRange (get_elem? (docs I) d) (λ x. get_elem? x.protos i) (each_get Source (docs I) d docs_ok) (λ x h. each_get ProtoInRange x.protos i h.0.protos)

  extern_at : (d i : ℕ) → Opt (ExternProtoInRange false) (extern_proto_at (docs I) d i)
  unfolding extern_proto_at
  extern_at d i = opt_then Source (ExternProtoInRange false) (get_elem? (docs I) d) (λ x. get_elem? x.extern_protos i) (each_get Source (docs I) d docs_ok) (λ x h. each_get (ExternProtoInRange false) x.extern_protos i h.0.extern_protos)

  -- ---- steps: each leads from a state in range to one, and `f-good` says what f answers

  good_ret : {A : Type 0} {P : A → Type 0} {a : A} → P a → Good I P (ret a)
  good_ret p st b = accepted (record { ranged = b; res = p })

  good_bind : {A B : Type 0} {P : A → Type 0} {Q : B → Type 0} {c : Comp A} {k : A → Comp B} → Good I P c → ((a : A) → P a → Good I Q (k a)) → Good I Q (c >>= k)
  good_bind g f st b = bind_out (g st b) (λ a s p. f a p.res s p.ranged)

  -- ---- charges

  -- After a charge holds what holds with one charge more.
  charge_out : (Q : State → Type 0) (st : State) → (st.charges < I.limits.max_rows → Q (one_more st)) → Out (λ u s. Q s) (charge I st)
  unfolding charge charge_if
  charge_out Q st f = go (ltb st.charges I.limits.max_rows) (ltb→lt st.charges I.limits.max_rows)
    where
      go : (t : Bool) → (T t → st.charges < I.limits.max_rows) → Out (λ u s. Q s) (charge_if t st)
      go false q = refused tt
      go true q = accepted (f (q tt))

  more_ranged : (st : State) → Ranged I st → st.charges < I.limits.max_rows → Ranged I (one_more st)
  more_ranged st b h = record { mapped = b.mapped; nodes = b.nodes; extern_protos = b.extern_protos; extern_map = b.extern_map; is_map = b.is_map; externs_paid = omega arith; capped = h }

  charge_good : Good I Free (charge I)
  charge_good st b = map_out (charge_out (Ranged I) st (more_ranged st b)) (λ u s p. record { ranged = p; res = tt })

  charge_each_good : {A : Type 0} (l : List A) → Good I Free (charge_each I l)
  unfolding charge_each
  charge_each_good [] = good_ret tt
  charge_each_good (x ∷ l) = good_bind charge_good (λ a p. charge_each_good l)

  paid_good : {A : Type 0} {P : A → Type 0} {c : Comp A} → Good I P c → Good I P (paid I c)
  unfolding paid
  paid_good h = good_bind h (λ a p. good_bind charge_good (λ u q. good_ret p))

  map_m_good : {A B : Type 0} (P : A → Type 0) (Q : B → Type 0) (g : A → Comp B) → ((a : A) → P a → Good I Q (g a)) → (l : List A) → Each P l → Good I (Each Q) (map_m g l)
  unfolding map_m
  map_m_good P Q g h [] e = good_ret tt
  map_m_good P Q g h (a ∷ l) e = good_bind (h a e.0) (λ b p. good_bind (map_m_good P Q g h l e.1) (λ bs ps. good_ret (p, ps)))

  -- ---- values

  value_good : (c : Copier) → ((i : ℕ) → Good I IsName (c i)) → (v : FieldValue) → v.ty ≤ 41 → Good I ValueInRange (value I c v)
  unfolding value copy_data
  value_good c hc v tag = go v.«data»
    where
      free : (l : List ℕ) → Each Free l
      free [] = tt
      free (i ∷ l) = (tt, free l)

      go : (d : FieldData) → Good I ValueInRange (copy_data I c d >>= (λ d'. ret (record { ty = v.ty; «data» = d' })))
      go (FieldData.Payload p) = good_bind {P = DataInRange} {c = ret (FieldData.Payload p)} (good_ret tt) (λ d h. good_ret (record { tag = tag; ids = h }))
      go (FieldData.Nodes ids) = good_bind {P = DataInRange} (good_bind (map_m_good Free IsName _ (λ i u. paid_good (hc i)) ids (free ids)) (λ os p. good_ret p)) (λ d h. good_ret (record { tag = tag; ids = h }))

  clone_good : (v : FieldValue) → ValueInRange v → Good I ValueInRange (clone I v)
  unfolding clone
  clone_good v h = good_bind (charge_each_good (data_ids v.«data»)) (λ u p. good_ret h)

  abbrev EnvOk : Env → Type 0
  EnvOk env = Opt ValuesInRange env.is_values

  is_value_ok : (t : ℕ) (env : Env) → EnvOk env → Opt DefaultInRange (is_value env t)
  is_value_ok t env h = go env.is_values h
    where
      go : (o : Option Values) → Opt ValuesInRange o → Opt DefaultInRange (map_o (value_named t) o)
      go none q = tt
      go (some vs) q = found_ok t vs q

  given_ok : (t : ℕ) (env : Env) → EnvOk env → DefaultInRange (and_then env.is_values (value_named t))
  given_ok t env h = go env.is_values h
    where
      go : (o : Option Values) → Opt ValuesInRange o → DefaultInRange (and_then o (value_named t))
      go none q = tt
      go (some vs) q = found_ok t vs q

  -- ---- externs

  -- the urls of a declared extern, marked
  marked_ok : (used : Option ℕ) (n : ℕ) (l : List Url) → Each (UrlInRange false) l → Each (UrlInRange true) (marked used n l)
  unfolding marked
  marked_ok used n [] h = tt
  marked_ok used n (u ∷ l) h = (record { base = h.0.base; fragment = h.0.fragment; used = tt }, marked_ok used (suc n) l h.1)

  -- a charge is left for an extern more
  record Spare (st : State) : Type 0 where
    ranged : Ranged I st
    left : length st.extern_protos < st.charges

  charge_each_spare : {A : Type 0} (l : List A) (st : State) → Spare st → Out (λ u s. Spare s) (charge_each I l st)
  unfolding charge_each
  charge_each_spare [] st p = accepted p
  charge_each_spare (x ∷ l) st p = bind_out (charge_out Spare st (λ h. record { ranged = more_ranged st p.ranged h; left = omega arith })) (λ u s q. charge_each_spare l s q)

  extern_proto_good : (env : Env) (x : ℕ) → Good I IsName (extern_proto I env x)
  unfolding extern_proto declare
  extern_proto_good env x st b = go (lookup_extern st.extern_map (src env) x) (lookup_extern_ok st.extern_map (src env) x b.extern_map) (extern_proto_at (docs I) (src env) x) (extern_at (src env) x)
    where
      push : (decl : ExternProtoDecl) → ExternProtoInRange false decl → (s : State) → Spare s → Post I IsName (length s.extern_protos) (push_extern (src env) x (declared (used_url I (src env) x) decl) s)
      push decl h s p =
          let id : IsName (length s.extern_protos) = omega (arith, p.left, p.ranged.capped, given.max_rows) in
          record {
            ranged = record {
              mapped = p.ranged.mapped;
              nodes = p.ranged.nodes;
              extern_protos = each_snoc (ExternProtoInRange true) s.extern_protos _ p.ranged.extern_protos (record { name = h.name; interface = each_map ExternInterfaceInRange ExternInterfaceInRange no_value (λ d q. (record { access = q.0.access; tag = q.0.tag; name = q.0.name; value = tt; is = q.0.is }, refl)) decl.interface h.interface; urls = marked_ok (used_url I (src env) x) 0 decl.urls h.urls });
              extern_map = (id, p.ranged.extern_map);
              is_map = p.ranged.is_map;
              externs_paid = omega (arith, p.left, length-append s.extern_protos (declared (used_url I (src env) x) decl ∷ []));
              capped = p.ranged.capped;
            };
            res = id;
          }

      go : (o : Option ℕ) → Opt IsName o → (decl : Option ExternProtoDecl) → Opt (ExternProtoInRange false) decl → Out (Post I IsName) (declare I (src env) x o decl st)
      go (some n) h decl k = accepted (record { ranged = b; res = h })
      go none h none k = refused tt
      go none h (some decl) k =
          bind_out (charge_out Spare st (λ q. record { ranged = more_ranged st b q; left = omega (arith, b.externs_paid) })) (λ u1 s1 p1. bind_out (charge_each_spare decl.interface s1 p1) (λ u2 s2 p2. bind_out (charge_each_spare decl.urls s2 p2)
          (λ u3 s3 p3. accepted (push decl k s3 p3))))

  -- ---- plain nodes

  -- a charge keeps the nodes
  abbrev Same : State → State → Type 0
  Same st s = Ranged I s × (length s.nodes ≡ length st.nodes)

  reserve_good : (env : Env) (i : ℕ) → Good I IsName (reserve I env i)
  unfolding reserve reserve_if
  reserve_good env i st b = go (ltb (length st.nodes) I.limits.max_nodes) (ltb→lt (length st.nodes) I.limits.max_nodes)
    where
      go : (t : Bool) → (T t → length st.nodes < I.limits.max_nodes) → Out (Post I IsName) (reserve_if t I env i st)
      go false q = refused tt
      go true q =
          bind_out (charge_out (Same st) st (λ h. (more_ranged st b h, refl))) (λ u1 s1 p1. bind_out (charge_out (Same st) s1 (λ h. (more_ranged s1 p1.0 h, p1.1))) (λ u2 s2 p2.
          let id : IsName (length s2.nodes) = omega (arith, p2.1, q tt, given.max_nodes) in
          accepted (record { ranged = record { mapped = (id, p2.0.mapped); nodes = each_snoc NodeInRange s2.nodes blank_node p2.0.nodes blank_ok; extern_protos = p2.0.extern_protos; extern_map = p2.0.extern_map; is_map = p2.0.is_map; externs_paid = p2.0.externs_paid; capped = p2.0.capped }; res = id })))

  -- a node written again
  set_ranged : (o : ℕ) (x : Node) (st : State) → NodeInRange x → Ranged I st → Ranged I (with_nodes (set st.nodes o x) st)
  set_ranged o x st h b = record { mapped = b.mapped; nodes = each_set NodeInRange st.nodes o x b.nodes h; extern_protos = b.extern_protos; extern_map = b.extern_map; is_map = b.is_map; externs_paid = b.externs_paid; capped = b.capped }

  copy_origin_good : (env : Env) (o : NodeOrigin) → OriginInRange o → Good I OriginInRange (copy_origin I env o)
  unfolding copy_origin
  copy_origin_good env NodeOrigin.Builtin h = good_ret tt
  copy_origin_good env (NodeOrigin.Proto p) h = good_ret h
  copy_origin_good env (NodeOrigin.ExternProto x) h = good_bind (extern_proto_good env x) (λ n p. good_ret p)
  copy_origin_good env NodeOrigin.Unknown h = good_ret tt

  associate_good : (env : Env) (a : Association) → AssociationInRange a → Good I Free (associate I env a)
  unfolding associate
  associate_good env a h = good_bind charge_good (λ u p st b. accepted (record {
    ranged = record { mapped = b.mapped; nodes = b.nodes; extern_protos = b.extern_protos; extern_map = b.extern_map; is_map = each_snoc (λ x. AssociationInRange x.1) st.is_map (env.scope, a) b.is_map h; externs_paid = b.externs_paid; capped = b.capped };
    res = tt;
  }))

  is_field_good : (f : Field) → FieldInRange f → (o : Option (Option FieldValue)) → Opt DefaultInRange o → Good I (Opt FieldInRange) (is_field I f o)
  unfolding is_field
  is_field_good f h none q = paid_good (good_ret h)
  is_field_good f h (some none) q = good_ret tt
  is_field_good f h (some (some v)) q = good_bind (paid_good (clone_good v q)) (λ v' p. good_ret (record { name = h.name; inferred = h.inferred; binding = p }))

  is_interface_good : (d : InterfaceDecl) → InterfaceInRange d → (t : ℕ) → IsName t → (o : Option (Option FieldValue)) → Opt DefaultInRange o → Good I InterfaceInRange (is_interface I d t o)
  unfolding is_interface
  is_interface_good d h t n none q = good_ret (record { access = h.access; tag = h.tag; name = h.name; value = tt; is = present t n })
  is_interface_good d h t n (some none) q = good_ret (record { access = h.access; tag = h.tag; name = h.name; value = tt; is = tt })
  is_interface_good d h t n (some (some v)) q = good_bind (clone_good v q) (λ v' p. good_ret (record { access = h.access; tag = h.tag; name = h.name; value = p; is = tt }))

  module _ (c : Copier) (hc : (i : ℕ) → Good I IsName (c i)) (env : Env) (he : EnvOk env) (new : ℕ) (hn : IsName new) where
    copy_field_good : (f : Field) → FieldInRange f → Good I (Opt FieldInRange) (copy_field I c env new f)
    unfolding copy_field copy_binding
    copy_field_good f h = go f.binding h.binding
      where
        go : (b : FieldBinding) → BindingInRange b → Good I (Opt FieldInRange) (copy_binding I c env new f b)
        go (FieldBinding.Value v) q = good_bind (paid_good (value_good c hc v q.tag)) (λ v' p. good_ret (record { name = h.name; inferred = h.inferred; binding = p }))
        go (FieldBinding.Is t) q = good_bind (associate_good env _ (record { interface = q; node = hn; field = h.name })) (λ u p. is_field_good f h (is_value env t) (is_value_ok t env he))

    copy_interface_good : (d : InterfaceDecl) → SourceInterface d → Good I InterfaceInRange (copy_interface I c env new d)
    unfolding copy_interface copy_target
    copy_interface_good d h = paid_good (go d.is h.1 d.value h.0.value)
      where
        go : (t : Option ℕ) → IsTarget t → (v : Option FieldValue) → DefaultInRange v → Good I InterfaceInRange (copy_target I c env new d t v)
        go (some t) n v q = good_bind (associate_good env _ (record { interface = n; node = hn; field = h.0.name })) (λ u p. is_interface_good d h.0 t n (is_value env t) (is_value_ok t env he))
        go none n none q = good_ret (record { access = h.0.access; tag = h.0.tag; name = h.0.name; value = tt; is = tt })
        go none n (some v) q = good_bind (value_good c hc v q.tag) (λ v' p. good_ret (record { access = h.0.access; tag = h.0.tag; name = h.0.name; value = p; is = tt }))

  copy_route_good : (env : Env) (r : Route) → RouteInRange r → Good I (Opt StatementInRange) (copy_route I env r)
  unfolding copy_route
  copy_route_good env r h = paid_good (λ st b. accepted (record { ranged = b; res = remap_ok st.world env.scope b.mapped r h }))

  copy_extern_good : (env : Env) (x : ℕ) → Good I (Opt StatementInRange) (copy_extern I env x)
  unfolding copy_extern
  copy_extern_good env x = good_bind (paid_good (extern_proto_good env x)) (λ n p. good_ret p)

  copy_statement_good : (env : Env) (s : Statement) → StatementInRange s → Good I (Opt StatementInRange) (copy_statement I env s)
  unfolding copy_statement
  copy_statement_good env (Statement.Node i) h = good_ret tt
  copy_statement_good env (Statement.Proto p) h = good_ret tt
  copy_statement_good env (Statement.ExternProto x) h = copy_extern_good env x
  copy_statement_good env (Statement.Route r) h = copy_route_good env r h
  copy_statement_good env (Statement.Other p) h = good_ret tt

  contents_good : (c : Copier) → ((i : ℕ) → Good I IsName (c i)) → (env : Env) → EnvOk env → (new : ℕ) → IsName new → (node : Node) → SourceNode node → Good I NodeInRange (contents I c env new node)
  unfolding contents
  contents_good c hc env he new hn node h =
      good_bind (copy_origin_good env node.origin h.0.origin) (λ og p1.
      good_bind (map_m_good FieldInRange (Opt FieldInRange) _ (copy_field_good c hc env he new hn) node.fields h.0.fields) (λ fs p2.
      good_bind (map_m_good SourceInterface InterfaceInRange _ (copy_interface_good c hc env he new hn) node.interface (each_both InterfaceInRange (λ d. IsTarget d.is) node.interface h.0.interface h.1)) (λ is p3.
      good_bind (map_m_good StatementInRange (Opt StatementInRange) _ (copy_statement_good env) node.statements h.0.statements) (λ ss p4.
      good_bind (charge_each_good (kept_order fs ss node.body_order)) (λ u p5.
      good_ret (record { type_name = h.0.type_name; def_name = h.0.def_name; origin = p1; fields = each_somes FieldInRange fs p2; interface = p3; statements = each_somes StatementInRange ss p4; instance = tt }))))))

  abbrev Goods : (Env → Copier) → Type 0
  Goods f = (env : Env) → EnvOk env → (i : ℕ) → Good I IsName (f env i)

  copy_plain_good : (f : Env → Copier) → Goods f → (env : Env) → EnvOk env → (i : ℕ) (node : Node) → SourceNode node → Good I IsName (copy_plain I (f env) env i node)
  unfolding copy_plain
  copy_plain_good f hf env he i node h =
      good_bind (reserve_good env i) (λ new n. good_bind (contents_good (f env) (hf env he) env he new n node h)
      (λ x p st b. accepted (record { ranged = set_ranged new x st p b; res = n })))

  -- ---- instances

  open_scope_good : (e : Scope) → Good I Free (open_scope I e)
  unfolding open_scope push_scope
  open_scope_good e = good_bind charge_good (λ u p st b. accepted (record { ranged = record { mapped = b.mapped; nodes = b.nodes; extern_protos = b.extern_protos; extern_map = b.extern_map; is_map = b.is_map; externs_paid = b.externs_paid; capped = b.capped }; res = tt }))

  take_default_good : (f : Env → Copier) → Goods f → (e : Scope) (v : Option FieldValue) → DefaultInRange v → Good I DefaultInRange (take_default I f e v)
  unfolding take_default
  take_default_good f hf e none h = good_ret tt
  take_default_good f hf e (some v) h = good_bind (open_scope_good e) (λ n p. good_bind (value_good (f (record { scope = n; entry = e; is_values = none })) (hf (record { scope = n; entry = e; is_values = none }) tt) v h.tag) (λ v' q. good_ret q))

  clone_or_good : {instead : Comp (Option FieldValue)} → Good I DefaultInRange instead → (o : Option FieldValue) → DefaultInRange o → Good I DefaultInRange (clone_or I instead o)
  unfolding clone_or
  clone_or_good hd none h = hd
  clone_or_good hd (some v) h = good_bind (clone_good v h) (λ v' p. good_ret p)

  interface_value_good : (f : Env → Copier) → Goods f → (env : Env) → EnvOk env → (e : Scope) (default : Option FieldValue) → DefaultInRange default → (b : Option FieldBinding) → Opt BindingInRange b → Good I DefaultInRange (interface_value I f env e default b)
  unfolding interface_value
  interface_value_good f hf env he e default hd (some (FieldBinding.Value v)) h = good_bind (value_good (f env) (hf env he) v h.tag) (λ v' p. good_ret p)
  interface_value_good f hf env he e default hd (some (FieldBinding.Is t)) h = clone_or_good (take_default_good f hf e default hd) (and_then env.is_values (value_named t)) (given_ok t env he)
  interface_value_good f hf env he e default hd none h = take_default_good f hf e default hd

  store_good : (name : ℕ) (vs : Values) → ValuesInRange vs → (v : Option FieldValue) → DefaultInRange v → Good I ValuesInRange (store I name vs v)
  unfolding store
  store_good name vs h none q = good_ret h
  store_good name vs h (some v) q = paid_good (good_ret (q, h))

  values_good : (f : Env → Copier) → Goods f → (env : Env) → EnvOk env → (p : Prototype) (fields : List Field) → Each FieldInRange fields → (k : ℕ) (l : List InterfaceDecl) → Each InterfaceInRange l → (vs : Values) → ValuesInRange vs → Good I ValuesInRange (values I f env p fields k l vs)
  unfolding values
  values_good f hf env he p fields h k [] e vs q = good_ret q
  values_good f hf env he p fields h k (d ∷ l) e vs q =
      good_bind (interface_value_good f hf env he (Scope.Default p k env.scope) d.value e.0.value (last_field d.name fields) (last_field_ok d.name fields h)) (λ v p1. good_bind (store_good d.name vs q v p1)
      (λ vs' p2. values_good f hf env he p fields h (suc k) l e.1 vs' p2))

  record BodyOk (b : Body) : Type 0 where
    root : Opt IsName b.root
    extra_roots : Each IsName b.extra_roots
    routes : Each RouteInRange b.routes

  place_good : (env : Env) (i o : ℕ) → IsName o → (b : Body) → BodyOk b → (root : Option ℕ) → Opt IsName root → Good I BodyOk (place I env i o b root)
  unfolding place
  place_good env i o n b h none hr = good_bind charge_good (λ u p st r. accepted (record {
    ranged = record { mapped = (n, r.mapped); nodes = r.nodes; extern_protos = r.extern_protos; extern_map = r.extern_map; is_map = r.is_map; externs_paid = r.externs_paid; capped = r.capped };
    res = record { root = n; extra_roots = h.extra_roots; routes = h.routes };
  }))
  place_good env i o n b h (some root) hr = paid_good (good_ret (record { root = hr; extra_roots = each_snoc IsName b.extra_roots o h.extra_roots n; routes = h.routes }))

  body_statement_good : (f : Env → Copier) → Goods f → (env : Env) (i : ℕ) (inner : Env) → EnvOk inner → (b : Body) → BodyOk b → (s : Statement) → StatementInRange s → Good I BodyOk (body_statement I f env i inner b s)
  unfolding body_statement
  body_statement_good f hf env i inner he b h (Statement.Node j) q = good_bind (hf inner he j) (λ o p. place_good env i o p b h b.root h.root)
  body_statement_good f hf env i inner he b h (Statement.Proto p) q = good_ret h
  body_statement_good f hf env i inner he b h (Statement.ExternProto x) q = good_bind (extern_proto_good inner x) (λ n p. good_ret h)
  body_statement_good f hf env i inner he b h (Statement.Route r) q = paid_good (good_ret (record { root = h.root; extra_roots = h.extra_roots; routes = each_snoc RouteInRange b.routes r h.routes q }))
  body_statement_good f hf env i inner he b h (Statement.Other p) q = good_ret h

  body_good : (f : Env → Copier) → Goods f → (env : Env) (i : ℕ) (inner : Env) → EnvOk inner → (l : List Statement) → Each StatementInRange l → (b : Body) → BodyOk b → Good I BodyOk (fold_m (body_statement I f env i inner) b l)
  unfolding fold_m
  body_good f hf env i inner he [] e b h = good_ret h
  body_good f hf env i inner he (s ∷ l) e b h = good_bind (body_statement_good f hf env i inner he b h s e.0) (λ c p. body_good f hf env i inner he l e.1 c p)

  root_of_good : (p : Prototype) (root : Option ℕ) → Opt IsName root → Good I IsName (root_of p root)
  unfolding root_of
  root_of_good p none h = λ st b. refused tt
  root_of_good p (some o) h = good_ret h

  record_instance_good : (name : ℕ) → IsName name → (def_name : Option ℕ) → IsPresent def_name → (n : ℕ) (b : Body) → BodyOk b → (o : ℕ) → IsName o → Good I IsName (record_instance name def_name n b o)
  unfolding record_instance
  record_instance_good name hname def_name hd n b hb o ho st r = accepted (record { ranged = go (get_elem? st.nodes o) (each_get NodeInRange st.nodes o r.nodes); res = ho })
    where
      x : ProtoInstance
      x = record { proto_name = name; extra_roots = b.extra_roots; routes = map (remap_route st.world n) b.routes; is_map = associations_of n st.is_map }

      hx : InstanceInRange x
      hx = record { proto_name = hname; extra_roots = hb.extra_roots; routes = each_map RouteInRange RouteInRange (remap_route st.world n) (remap_ok st.world n r.mapped) b.routes hb.routes; is_map = associations_ok n st.is_map r.is_map }

      go : (y : Option Node) → Opt NodeInRange y → Ranged I (with_nodes (update st.nodes o (with_instance def_name x) y) st)
      go none q = record { mapped = r.mapped; nodes = r.nodes; extern_protos = r.extern_protos; extern_map = r.extern_map; is_map = r.is_map; externs_paid = r.externs_paid; capped = r.capped }
      go (some node) q = set_ranged o (with_instance def_name x node) st (instance_ok def_name x node hd hx q) r

  instantiate_good : (f : Env → Copier) → Goods f → (env : Env) → EnvOk env → (i : ℕ) (node : Node) → SourceNode node → (p : Prototype) (decl : Option ProtoDecl) → Opt ProtoInRange decl → Good I IsName (instantiate I f env i node p decl)
  unfolding instantiate
  instantiate_good f hf env he i node h p none q = λ st b. refused tt
  instantiate_good f hf env he i node h p (some decl) q =
      good_bind (values_good f hf env he p node.fields h.0.fields 0 decl.interface q.interface [] tt) (λ vs p1.
      good_bind (open_scope_good (Scope.Body p env.scope)) (λ n p2.
      good_bind (body_good f hf env i (record { scope = n; entry = Scope.Body p env.scope; is_values = some vs }) p1 decl.body q.body (record { root = none; extra_roots = []; routes = [] }) (record { root = tt; extra_roots = tt; routes = tt })) (λ b p3.
      good_bind (root_of_good p b.root p3.root) (λ o p4.
      good_bind charge_good (λ u p5. record_instance_good decl.name q.name node.def_name h.0.def_name n b p3 o p4)))))

  -- ---- the copier

  copy_node_good : (f : Env → Copier) → Goods f → (env : Env) → EnvOk env → (i : ℕ) (node : Node) → SourceNode node → (p : Option Prototype) → Good I IsName (copy_node I f env i node p)
  unfolding copy_node
  copy_node_good f hf env he i node h none = copy_plain_good f hf env he i node h
  copy_node_good f hf env he i node h (some p) = instantiate_good f hf env he i node h p (proto_at (docs I) p.document p.proto) (proto_at_lem p.document p.proto)

  mapped_or_good : (env : Env) (i : ℕ) (next : Node → Comp ℕ) → ((node : Node) → SourceNode node → Good I IsName (next node)) → (o : Option ℕ) → Opt IsName o → (node : Option Node) → Opt SourceNode node → Good I IsName (mapped_or env i next o node)
  unfolding mapped_or
  mapped_or_good env i next f (some o) h node q = good_ret h
  mapped_or_good env i next f none h none q = λ st b. refused tt
  mapped_or_good env i next f none h (some node) q = f node q

  copy_good : (left : ℕ) → Goods (copy I left)
  unfolding copy
  copy_good zero env he i st b = mapped_or_good env i _ (λ node h s r. refused tt) _ (lookup_ok st.world.map env.scope i b.mapped) _ (node_at_lem (src env) i) st b
  copy_good (suc left) env he i st b = mapped_or_good env i _ (λ node h. copy_node_good (copy I left) (copy_good left) env he i node h _) _ (lookup_ok st.world.map env.scope i b.mapped) _ (node_at_lem (src env) i) st b

  statement_good : (c : Copier) → ((i : ℕ) → Good I IsName (c i)) → (env : Env) (s : Statement) → StatementInRange s → Good I (Opt StatementInRange) (statement I c env s)
  unfolding statement
  statement_good c hc env (Statement.Node i) h = good_bind (paid_good (hc i)) (λ o p. good_ret p)
  statement_good c hc env (Statement.Proto p) h = good_ret tt
  statement_good c hc env (Statement.ExternProto x) h = copy_extern_good env x
  statement_good c hc env (Statement.Route r) h = copy_route_good env r h
  statement_good c hc env (Statement.Other p) h = paid_good (good_ret tt)

  statements_good : Good I (Each StatementInRange) (statements I)
  unfolding statements
  statements_good =
      good_bind charge_good (λ a p1. good_bind charge_good (λ b p2. good_bind (open_scope_good Scope.Root) (λ s p3.
      good_bind (map_m_good StatementInRange (Opt StatementInRange) _ (statement_good (copy I I.limits.max_depth root_env) (copy_good I.limits.max_depth root_env tt) root_env) I.root.statements given.root.statements) (λ l p4.
      good_ret {a = somes l} (each_somes StatementInRange l p4)))))

  start_ranged : Ranged I start_state
  start_ranged = record { mapped = tt; nodes = tt; extern_protos = tt; extern_map = tt; is_map = tt; externs_paid = omega arith; capped = omega arith }

  -- The output of a run that is not refused is in range.
  pub output_in_range : (l : List Statement) (st : State) → statements I start_state ≡ ok l st → InRange true (output I l st)
  output_in_range l st e =
      let p : Post I (Each StatementInRange) l st = at_ok (statements_good start_state start_ranged) e in
      record { nodes = p.ranged.nodes; protos = tt; extern_protos = p.ranged.extern_protos; statements = p.res }
