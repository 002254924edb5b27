-- Two runs from one state: the expansion that looks for room, under limits L, and the definition, under bigger limits L'. Each step gives the same answer and state, or a limit refuses under L.
-- With L for L' this is wish 7; and with that, wish 9.
-- The laws come first, then one line for each function of the definition.
use mathlib.Core.Path.{◌≡◌, refl, ap, subst}
use mathlib.Core.Bool.{Bool, true, false}
use mathlib.Core.List.{List, [], ◌∷◌, ◌++◌}
use mathlib.Core.Option.{Option, none, some}
use Prim.Native.Nat.{ℕ, zero, suc, ◌*◌, ◌≤◌, ◌<◌}
use native.Mathlib.Nat.{le_refl, le_trans}
use native.Mathlib.Decide.{ℕ_discrete}
use native.Mathlib.Omega.{arith}
use lib.ListN.{length, get_elem?, length-append, length-set}
use lib.Dec.{T, leb, ltb, ltb→lt, lt→ltb, le→leb}
use Rattle.ast.specs.Ast.{NodeOrigin, FieldData, FieldValue, FieldBinding, Field, InterfaceDecl, Route, Statement, Association, Node, ProtoDecl, ExternProtoDecl, Document, File}
use Rattle.ast.specs.Choice.{and_then}
use Rattle.ast.specs.Lookups.{node_at, proto_at, extern_proto_at}
use Rattle.pick_definition.specs.Picks.{Prototype}
use Rattle.expansion_definition.specs.Input.{Limits, Input, docs, proto_of_origin, last_field}
use Rattle.expansion_definition.specs.Scopes.{Scope}
use Rattle.ast.specs.Ids.{data_ids}
use Rattle.expansion_definition.specs.State.{State, Result, refusal, ok, Comp, bind_r, ◌>>=◌, ◌>>◌, ret, map_m, fold_m, with_world, lookup, start_state}
use Rattle.expansion_definition.specs.Charges.{one_more, charge_if, charge, charge_each, paid}
use Rattle.expansion_definition.specs.Values.{Values, value_named, Env, src, Copier, copy_data, value, clone}
use Rattle.expansion_definition.specs.Externs.{lookup_extern, declare, extern_proto}
use Rattle.expansion_definition.specs.PlainCopy.{blank_node, add_node, reserve_if, reserve, copy_origin, associate, is_value, is_field, copy_binding, copy_field, is_interface, copy_target, copy_interface, copy_route, copy_extern, copy_statement, kept_order, contents, copy_plain}
use Rattle.expansion_definition.specs.Instances.{push_scope, open_scope, take_default, clone_or, interface_value, store, values, Body, place, body_statement, root_of, update, record_instance, instantiate}
use Rattle.expansion_definition.specs.Copy.{copy_node, mapped_or, copy}
use Rattle.expansion_definition.specs.Expand.{statement, root_env, statements, Expansion, Answer, answer, expand}
use Rattle.expansion_definition.specs.Room.{HasEntries, push_if, push_in, open_in, take_default_in, interface_value_in, values_in, instantiate_in, copy_node_in, copy_in, statements_in, expand_in}
use Rattle.expansion_definition.specs.Bigger.{Bigger, with_limits, TooSmall}
use Rattle.expansion_definition.specs.Bigger
use Rattle.expansion_definition.proofs.Demand.{refused_not_expanded, same_expansion}

-- ---- two results

-- no more scopes than charges
abbrev pub Sound : State → Type 0
Sound st = length st.world.scopes ≤ st.charges

-- what an accepted step leaves: neither nodes nor charges fall
pub record Grown (st st' : State) : Type 0 where
  pub sound : Sound st'
  pub nodes : length st.nodes ≤ length st'.nodes
  pub charges : st.charges ≤ st'.charges

grown_same : {st : State} → Sound st → Grown st st
grown_same h = record { sound = h; nodes = le_refl _; charges = le_refl _ }

grown_trans : {a b c : State} → Grown a b → Grown b c → Grown a c
grown_trans g h = record { sound = h.sound; nodes = le_trans g.nodes h.nodes; charges = le_trans g.charges h.charges }

-- the refusals of a limit that is smaller in L than in L'
pub data Short (L L' : Limits) : ℕ → ℕ → ℕ → Type 0 where
  eight : L.max_nodes < L'.max_nodes → Short L L' 8 0 0
  nine : L.max_depth < L'.max_depth → Short L L' 9 0 0
  ten : L.max_rows < L'.max_rows → Short L L' 10 0 0

-- what holds where L refused and L' goes on
abbrev pub past : {L L' : Limits} {c d i : ℕ} → Short L L' c d i → State → Type 0
past {L = L} (eight h) st = L.max_nodes < length st.nodes
past (nine h) st = Unit {0}
past {L = L} (ten h) st = L.max_rows < st.charges

still : {L L' : Limits} {c d i : ℕ} (s : Short L L' c d i) {st st' : State} → Grown st st' → past s st → past s st'
still (eight h) g p = le_trans p g.nodes
still (nine h) g p = tt
still (ten h) g p = le_trans p g.charges

-- from the state st: the result under L, and under L'
pub data Run {A : Type 0} (L L' : Limits) (st : State) : Result A → Result A → Type 0 where
  same : {a : A} {st' : State} → Grown st st' → Run L L' st (ok a st') (ok a st')
  refuses : {c d i : ℕ} → Run L L' st (refusal c d i) (refusal c d i)
  goes_on : {c d i : ℕ} {a : A} {st' : State} (s : Short L L' c d i) → Grown st st' → past s st' → Run L L' st (refusal c d i) (ok a st')
  stops : {c d i c' d' i' : ℕ} → Short L L' c d i → Run L L' st (refusal c d i) (refusal c' d' i')

-- A run that starts later.
later : {A : Type 0} {L L' : Limits} {st st' : State} {r r' : Result A} → Grown st st' → Run L L' st' r r' → Run L L' st r r'
later g (same h) = same (grown_trans g h)
later g refuses = refuses
later g (goes_on s h p) = goes_on s (grown_trans g h) p
later g (stops s) = stops s

-- L has refused; L' goes on as it does by itself.
alone : {A : Type 0} {L L' M M' : Limits} {st : State} {c d i : ℕ} (s : Short L L' c d i) → past s st → {r r' : Result A} → Run M M' st r r' → Run L L' st (refusal c d i) r'
alone s p (same g) = goes_on s g (still s g p)
alone s p refuses = stops s
alone s p (goes_on t g q) = goes_on s g (still s g p)
alone s p (stops t) = stops s

-- ---- laws

module _ (root : Document) (library : List File) (L L' : Limits) (le : Bigger L L') (words : ℕ) (entries : HasEntries words L) where
  abbrev I : Input
  I = record { root = root; library = library; limits = L }

  abbrev I' : Input
  I' = record { root = root; library = library; limits = L' }

  -- a step of the first and of the second
  abbrev Steps : {A : Type 0} → Comp A → Comp A → Type 0
  Steps m m' = (st : State) → Sound st → Run L L' st (m st) (m' st)

  bind_run : {A B : Type 0} {st : State} {r r' : Result A} {k k' : A → Comp B} → Run L L' st r r' → ((a : A) → Steps (k a) (k' a)) → Run L L' st (bind_r r k) (bind_r r' k')
  unfolding bind_r
  bind_run (same g) f = later g (f _ _ g.sound)
  bind_run refuses f = refuses
  bind_run (goes_on s g p) f = later g (alone s p (f _ _ g.sound))
  bind_run (stops s) f = stops s

  bind : {A B : Type 0} {m m' : Comp A} {k k' : A → Comp B} → Steps m m' → ((a : A) → Steps (k a) (k' a)) → Steps (m >>= k) (m' >>= k')
  bind h f st s = bind_run (h st s) f

  return : {A : Type 0} (a : A) → Steps (ret a) (ret a)
  return a st s = same (grown_same s)

  mapped : {A B : Type 0} {g g' : A → Comp B} → ((a : A) → Steps (g a) (g' a)) → (l : List A) → Steps (map_m g l) (map_m g' l)
  unfolding map_m
  mapped h [] = return []
  mapped h (a ∷ l) = bind (h a) (λ b. bind (mapped h l) (λ bs. return (b ∷ bs)))

  folded : {A B : Type 0} {g g' : B → A → Comp B} → ((b : B) (a : A) → Steps (g b a) (g' b a)) → (b : B) (l : List A) → Steps (fold_m g b l) (fold_m g' b l)
  unfolding fold_m
  folded h b [] = return b
  folded h b (a ∷ l) = bind (h b a) (λ c. folded h c l)

  -- L has refused; L' takes a step, and goes on.
  cut : {A B : Type 0} {st : State} {c d i : ℕ} {r r' : Result A} {k : A → Comp B} → Short L L' c d i → Run L L' st r r' → ((a : A) (st' : State) → Grown st st' → Run L L' st' (refusal c d i) (k a st')) → Run L L' st (refusal c d i) (bind_r r' k)
  unfolding bind_r
  cut s (same g) f = later g (f _ _ g)
  cut s refuses f = stops s
  cut s (goes_on t g p) f = later g (f _ _ g)
  cut s (stops t) f = stops s

  -- ---- where the limits are met

  charge_steps : Steps (charge I) (charge I')
  unfolding charge charge_if
  charge_steps st h = go (ltb st.charges L.max_rows) (ltb st.charges L'.max_rows) (ltb→lt _ _) (lt→ltb _ _) (ltb→lt _ _) (lt→ltb _ _)
    where
      one : Grown st (one_more st)
      one = record { sound = omega arith; nodes = le_refl _; charges = omega arith }

      go : (b b' : Bool) → (T b → st.charges < L.max_rows) → (st.charges < L.max_rows → T b) → (T b' → st.charges < L'.max_rows) → (st.charges < L'.max_rows → T b') → Run L L' st (charge_if b st) (charge_if b' st)
      go true true t f t' f' = same one
      go true false t f t' f' = absurd (f' (omega (arith, t tt, le.max_rows)))
      go false true t f t' f' = goes_on (ten (omega (arith, f, t' tt))) one (omega (arith, f, t' tt))
      go false false t f t' f' = refuses

  -- a node is added
  added : (s i : ℕ) (st : State) → Sound st → Grown st (add_node s i st)
  added s i st h = record { sound = h; nodes = omega (arith, length-append st.nodes (blank_node ∷ [])); charges = le_refl _ }

  reserve_steps : (env : Env) (i : ℕ) → Steps (reserve I env i) (reserve I' env i)
  unfolding reserve reserve_if
  reserve_steps env i st h = go (ltb (length st.nodes) L.max_nodes) (ltb (length st.nodes) L'.max_nodes) (ltb→lt _ _) (lt→ltb _ _) (ltb→lt _ _) (lt→ltb _ _)
    where
      go : (b b' : Bool) → (T b → length st.nodes < L.max_nodes) → (length st.nodes < L.max_nodes → T b) → (T b' → length st.nodes < L'.max_nodes) → (length st.nodes < L'.max_nodes → T b') → Run L L' st (reserve_if b I env i st) (reserve_if b' I' env i st)
      go true true t f t' f' = bind charge_steps (λ u. bind charge_steps (λ v s q. same (added env.scope i s q))) st h
      go true false t f t' f' = absurd (f' (omega (arith, t tt, le.max_nodes)))
      go false true t f t' f' =
          let short : L.max_nodes < L'.max_nodes = omega (arith, f, t' tt) in
          cut (eight short) (charge_steps st h) (λ u s1 g1. cut (eight short) (charge_steps s1 g1.sound) (λ v s2 g2. goes_on (eight short) (added env.scope i s2 g2.sound) (omega (arith, f, t' tt, g1.nodes, g2.nodes, length-append s2.nodes (blank_node ∷ [])))))
      go false false t f t' f' = refuses

  -- no more scopes than charges, and one more charge is made: so there is room
  pub open_steps : (e : Scope) → Steps (open_in words I e) (open_scope I' e)
  unfolding open_in push_in push_if open_scope push_scope charge charge_if bind_r
  open_steps e st h = go (ltb st.charges L.max_rows) (ltb st.charges L'.max_rows) (ltb→lt _ _) (lt→ltb _ _) (ltb→lt _ _) (lt→ltb _ _)
    where
      after : State
      after = with_world (record { map = st.world.map; ledger = st.world.ledger; scopes = st.world.scopes ++ (e ∷ []) }) (one_more st)

      one : Grown st after
      one = record { sound = omega (arith, length-append st.world.scopes (e ∷ [])); nodes = le_refl _; charges = omega arith }

      push : (b : Bool) → T b → Run L L' st (push_if b e (one_more st)) (push_scope e (one_more st))
      push true t = same one
      push false t = absurd t

      go : (b b' : Bool) → (T b → st.charges < L.max_rows) → (st.charges < L.max_rows → T b) → (T b' → st.charges < L'.max_rows) → (st.charges < L'.max_rows → T b') → Run L L' st ((charge_if b >>= (λ u. push_in words e)) st) ((charge_if b' >>= (λ u. push_scope e)) st)
      go true true t f t' f' = push (leb (5 * suc (length st.world.scopes)) words) (le→leb (5 * suc (length st.world.scopes)) words (omega (arith, t tt, h, entries)))
      go true false t f t' f' = absurd (f' (omega (arith, t tt, le.max_rows)))
      go false true t f t' f' = goes_on (ten (omega (arith, f, t' tt))) one (omega (arith, f, t' tt))
      go false false t f t' f' = refuses

  -- ---- one line for each function

  charge_each_steps : {A : Type 0} (l : List A) → Steps (charge_each I l) (charge_each I' l)
  unfolding charge_each
  charge_each_steps [] = return tt
  charge_each_steps (x ∷ l) = bind charge_steps (λ u. charge_each_steps l)

  paid_steps : {A : Type 0} {m m' : Comp A} → Steps m m' → Steps (paid I m) (paid I' m')
  unfolding paid
  paid_steps h = bind h (λ a. bind charge_steps (λ u. return a))

  clone_steps : (v : FieldValue) → Steps (clone I v) (clone I' v)
  unfolding clone
  clone_steps v = bind (charge_each_steps (data_ids v.«data»)) (λ u. return v)

  declare_steps : (d x : ℕ) (o : Option ℕ) (decl : Option ExternProtoDecl) → Steps (declare I d x o decl) (declare I' d x o decl)
  unfolding declare
  declare_steps d x (some n) decl = return n
  declare_steps d x none none = λ st s. refuses
  declare_steps d x none (some decl) = bind charge_steps (λ u. bind (charge_each_steps decl.interface) (λ v. bind (charge_each_steps decl.urls) (λ w st s. same (record { sound = s; nodes = le_refl _; charges = le_refl _ }))))

  extern_proto_steps : (env : Env) (x : ℕ) → Steps (extern_proto I env x) (extern_proto I' env x)
  unfolding extern_proto
  extern_proto_steps env x st = declare_steps (src env) x (lookup_extern st.extern_map (src env) x) (extern_proto_at (docs I) (src env) x) st

  copy_origin_steps : (env : Env) (o : NodeOrigin) → Steps (copy_origin I env o) (copy_origin I' env o)
  unfolding copy_origin
  copy_origin_steps env NodeOrigin.Builtin = return _
  copy_origin_steps env (NodeOrigin.Proto p) = return _
  copy_origin_steps env (NodeOrigin.ExternProto x) = bind (extern_proto_steps env x) (λ n. return _)
  copy_origin_steps env NodeOrigin.Unknown = return _

  associate_steps : (env : Env) (a : Association) → Steps (associate I env a) (associate I' env a)
  unfolding associate
  associate_steps env a = bind charge_steps (λ u st s. same (record { sound = s; nodes = le_refl _; charges = le_refl _ }))

  is_field_steps : (f : Field) (o : Option (Option FieldValue)) → Steps (is_field I f o) (is_field I' f o)
  unfolding is_field
  is_field_steps f none = paid_steps (return _)
  is_field_steps f (some none) = return _
  is_field_steps f (some (some v)) = bind (paid_steps (clone_steps v)) (λ v'. return _)

  is_interface_steps : (d : InterfaceDecl) (t : ℕ) (o : Option (Option FieldValue)) → Steps (is_interface I d t o) (is_interface I' d t o)
  unfolding is_interface
  is_interface_steps d t none = return _
  is_interface_steps d t (some none) = return _
  is_interface_steps d t (some (some v)) = bind (clone_steps v) (λ v'. return _)

  copy_route_steps : (env : Env) (r : Route) → Steps (copy_route I env r) (copy_route I' env r)
  unfolding copy_route
  copy_route_steps env r = paid_steps (λ st s. same (grown_same s))

  copy_extern_steps : (env : Env) (x : ℕ) → Steps (copy_extern I env x) (copy_extern I' env x)
  unfolding copy_extern
  copy_extern_steps env x = bind (paid_steps (extern_proto_steps env x)) (λ n. return _)

  copy_statement_steps : (env : Env) (s : Statement) → Steps (copy_statement I env s) (copy_statement I' env s)
  unfolding copy_statement
  copy_statement_steps env (Statement.Node i) = return _
  copy_statement_steps env (Statement.Proto p) = return _
  copy_statement_steps env (Statement.ExternProto x) = copy_extern_steps env x
  copy_statement_steps env (Statement.Route r) = copy_route_steps env r
  copy_statement_steps env (Statement.Other p) = return _

  -- of a copier
  module _ (c c' : Copier) (hc : (i : ℕ) → Steps (c i) (c' i)) where
    copy_data_steps : (d : FieldData) → Steps (copy_data I c d) (copy_data I' c' d)
    unfolding copy_data
    copy_data_steps (FieldData.Payload p) = return _
    copy_data_steps (FieldData.Nodes ids) = bind (mapped (λ i. paid_steps (hc i)) ids) (λ out. return _)

    value_steps : (v : FieldValue) → Steps (value I c v) (value I' c' v)
    unfolding value
    value_steps v = bind (copy_data_steps v.«data») (λ d. return _)

    module _ (env : Env) where
      copy_binding_steps : (new : ℕ) (f : Field) (b : FieldBinding) → Steps (copy_binding I c env new f b) (copy_binding I' c' env new f b)
      unfolding copy_binding
      copy_binding_steps new f (FieldBinding.Value v) = bind (paid_steps (value_steps v)) (λ v'. return _)
      copy_binding_steps new f (FieldBinding.Is t) = bind (associate_steps env _) (λ u. is_field_steps f (is_value env t))

      copy_field_steps : (new : ℕ) (f : Field) → Steps (copy_field I c env new f) (copy_field I' c' env new f)
      unfolding copy_field
      copy_field_steps new f = copy_binding_steps new f f.binding

      copy_target_steps : (new : ℕ) (d : InterfaceDecl) (t : Option ℕ) (v : Option FieldValue) → Steps (copy_target I c env new d t v) (copy_target I' c' env new d t v)
      unfolding copy_target
      copy_target_steps new d (some t) v = bind (associate_steps env _) (λ u. is_interface_steps d t (is_value env t))
      copy_target_steps new d none none = return _
      copy_target_steps new d none (some v) = bind (value_steps v) (λ v'. return _)

      copy_interface_steps : (new : ℕ) (d : InterfaceDecl) → Steps (copy_interface I c env new d) (copy_interface I' c' env new d)
      unfolding copy_interface
      copy_interface_steps new d = paid_steps (copy_target_steps new d d.is d.value)

      contents_steps : (new : ℕ) (node : Node) → Steps (contents I c env new node) (contents I' c' env new node)
      unfolding contents
      contents_steps new node =
          bind (copy_origin_steps env node.origin) (λ origin. bind (mapped (copy_field_steps new) node.fields) (λ fs. bind (mapped (copy_interface_steps new) node.interface) (λ is. bind (mapped (copy_statement_steps env) node.statements) (λ ss. bind (charge_each_steps (kept_order fs ss node.body_order)) (λ u. return _)))))

      copy_plain_steps : (i : ℕ) (node : Node) → Steps (copy_plain I c env i node) (copy_plain I' c' env i node)
      unfolding copy_plain
      copy_plain_steps i node = bind (reserve_steps env i) (λ new. bind (contents_steps new node) (λ x st s. same (record { sound = s; nodes = omega (arith, length-set st.nodes new x); charges = le_refl _ })))

      statement_steps : (s : Statement) → Steps (statement I c env s) (statement I' c' env s)
      unfolding statement
      statement_steps (Statement.Node i) = bind (paid_steps (hc i)) (λ o. return _)
      statement_steps (Statement.Proto p) = return _
      statement_steps (Statement.ExternProto x) = copy_extern_steps env x
      statement_steps (Statement.Route r) = copy_route_steps env r
      statement_steps (Statement.Other p) = paid_steps (return _)

  store_steps : (name : ℕ) (vs : Values) (v : Option FieldValue) → Steps (store I name vs v) (store I' name vs v)
  unfolding store
  store_steps name vs none = return vs
  store_steps name vs (some v) = paid_steps (return _)

  clone_or_steps : {m m' : Comp (Option FieldValue)} → Steps m m' → (o : Option FieldValue) → Steps (clone_or I m o) (clone_or I' m' o)
  unfolding clone_or
  clone_or_steps h none = h
  clone_or_steps h (some v) = bind (clone_steps v) (λ v'. return _)

  place_steps : (env : Env) (i o : ℕ) (b : Body) (root : Option ℕ) → Steps (place I env i o b root) (place I' env i o b root)
  unfolding place
  place_steps env i o b none = bind charge_steps (λ u st s. same (record { sound = s; nodes = le_refl _; charges = le_refl _ }))
  place_steps env i o b (some root) = paid_steps (return _)

  root_of_steps : (p : Prototype) (o : Option ℕ) → Steps (root_of p o) (root_of p o)
  unfolding root_of
  root_of_steps p none = λ st s. refuses
  root_of_steps p (some o) = return o

  record_instance_steps : (name : ℕ) (def_name : Option ℕ) (n : ℕ) (b : Body) (o : ℕ) → Steps (record_instance name def_name n b o) (record_instance name def_name n b o)
  unfolding record_instance
  record_instance_steps name def_name n b o st s = same (record { sound = s; nodes = go (get_elem? st.nodes o) _; charges = le_refl _ })
    where
      go : (x : Option Node) (g : Node → Node) → length st.nodes ≤ length (update st.nodes o g x)
      go none g = le_refl _
      go (some x) g = omega (arith, length-set st.nodes o (g x))

  -- of a copier in every scope
  module _ (f f' : Env → Copier) (hf : (env : Env) (i : ℕ) → Steps (f env i) (f' env i)) where
    take_default_steps : (e : Scope) (v : Option FieldValue) → Steps (take_default_in words I f e v) (take_default I' f' e v)
    unfolding take_default take_default_in
    take_default_steps e none = return none
    take_default_steps e (some v) = bind (open_steps e) (λ n. bind (value_steps _ _ (hf _) v) (λ v'. return _))

    interface_value_steps : (env : Env) (e : Scope) (default : Option FieldValue) (given : Option FieldBinding) → Steps (interface_value_in words I f env e default given) (interface_value I' f' env e default given)
    unfolding interface_value interface_value_in
    interface_value_steps env e default (some (FieldBinding.Value v)) = bind (value_steps _ _ (hf env) v) (λ v'. return _)
    interface_value_steps env e default (some (FieldBinding.Is t)) = clone_or_steps (take_default_steps e default) (and_then env.is_values (value_named t))
    interface_value_steps env e default none = take_default_steps e default

    values_steps : (env : Env) (p : Prototype) (fields : List Field) (k : ℕ) (l : List InterfaceDecl) (vs : Values) → Steps (values_in words I f env p fields k l vs) (values I' f' env p fields k l vs)
    unfolding values values_in
    values_steps env p fields k [] vs = return vs
    values_steps env p fields k (d ∷ l) vs = bind (interface_value_steps env _ d.value (last_field d.name fields)) (λ v. bind (store_steps d.name vs v) (λ vs'. values_steps env p fields (suc k) l vs'))

    body_statement_steps : (env : Env) (i : ℕ) (inner : Env) (b : Body) (s : Statement) → Steps (body_statement I f env i inner b s) (body_statement I' f' env i inner b s)
    unfolding body_statement
    body_statement_steps env i inner b (Statement.Node j) = bind (hf inner j) (λ o. place_steps env i o b b.root)
    body_statement_steps env i inner b (Statement.Proto p) = return b
    body_statement_steps env i inner b (Statement.ExternProto x) = bind (extern_proto_steps inner x) (λ n. return b)
    body_statement_steps env i inner b (Statement.Route r) = paid_steps (return _)
    body_statement_steps env i inner b (Statement.Other p) = return b

    instantiate_steps : (env : Env) (i : ℕ) (node : Node) (p : Prototype) (decl : Option ProtoDecl) → Steps (instantiate_in words I f env i node p decl) (instantiate I' f' env i node p decl)
    unfolding instantiate instantiate_in
    instantiate_steps env i node p none = λ st s. refuses
    instantiate_steps env i node p (some proto) =
        bind (values_steps env p node.fields 0 proto.interface []) (λ vs. bind (open_steps _) (λ n. bind (folded (body_statement_steps env i _) _ proto.body) (λ b. bind (root_of_steps p b.root) (λ o. bind charge_steps (λ u. record_instance_steps proto.name node.def_name n b o)))))

    copy_node_steps : (env : Env) (i : ℕ) (node : Node) (p : Option Prototype) → Steps (copy_node_in words I f env i node p) (copy_node I' f' env i node p)
    unfolding copy_node copy_node_in
    copy_node_steps env i node none = copy_plain_steps _ _ (hf env) env i node
    copy_node_steps env i node (some p) = instantiate_steps env i node p (proto_at (docs I) p.document p.proto)

  mapped_or_steps : (env : Env) (i : ℕ) {next next' : Node → Comp ℕ} → ((node : Node) → Steps (next node) (next' node)) → (o : Option ℕ) (node : Option Node) → Steps (mapped_or env i next o node) (mapped_or env i next' o node)
  unfolding mapped_or
  mapped_or_steps env i h (some o) node = return o
  mapped_or_steps env i h none none = λ st s. refuses
  mapped_or_steps env i h none (some node) = h node

  -- what a node is does not depend on limits
  proto_of_same : (d : ℕ) (o : NodeOrigin) → proto_of_origin I d o ≡ proto_of_origin I' d o
  proto_of_same d o = refl

  copy_one : {f f' : Env → Copier} → ((env : Env) (i : ℕ) → Steps (f env i) (f' env i)) → (env : Env) (i : ℕ) (node : Node) → Steps (copy_node_in words I f env i node (proto_of_origin I (src env) node.origin)) (copy_node I' f' env i node (proto_of_origin I' (src env) node.origin))
  copy_one {f} {f'} hf env i node = rw (proto_of_same (src env) node.origin) (copy_node_steps f f' hf env i node (proto_of_origin I' (src env) node.origin))

  -- with the same depth left
  copy_steps : (left : ℕ) (env : Env) (i : ℕ) → Steps (copy_in words I left env i) (copy I' left env i)
  unfolding copy copy_in
  copy_steps zero env i st = mapped_or_steps env i (λ node s q. refuses) (lookup st.world.map env.scope i) (node_at (docs I) (src env) i) st
  copy_steps (suc left) env i st = mapped_or_steps env i (copy_one (copy_steps left) env i) (lookup st.world.map env.scope i) (node_at (docs I) (src env) i) st

  -- with more left: "depth + 1 over D gives 9"
  copy_deeper : L.max_depth < L'.max_depth → (left left' : ℕ) → left ≤ left' → (env : Env) (i : ℕ) → Steps (copy_in words I left env i) (copy I' left' env i)
  unfolding copy copy_in
  copy_deeper lt zero zero h = copy_steps zero
  copy_deeper lt zero (suc left') h = λ env i st. mapped_or_steps env i (λ node s q. alone (nine lt) tt (copy_one (copy_steps left') env i node s q)) (lookup st.world.map env.scope i) (node_at (docs I) (src env) i) st
  copy_deeper lt (suc left) zero h = absurd (omega arith)
  copy_deeper lt (suc left) (suc left') h = λ env i st. mapped_or_steps env i (copy_one (copy_deeper lt left left' (omega arith)) env i) (lookup st.world.map env.scope i) (node_at (docs I) (src env) i) st

  root_copy_steps : (i : ℕ) → Steps (copy_in words I L.max_depth root_env i) (copy I' L'.max_depth root_env i)
  root_copy_steps = go (ℕ_discrete L.max_depth L'.max_depth)
    where
      go : Dec (L.max_depth ≡ L'.max_depth) → (i : ℕ) → Steps (copy_in words I L.max_depth root_env i) (copy I' L'.max_depth root_env i)
      go (yes e) = subst (λ (d : ℕ). (i : ℕ) → Steps (copy_in words I L.max_depth root_env i) (copy I' d root_env i)) e (copy_steps L.max_depth root_env)
      go (no e) = copy_deeper (omega (arith, le.max_depth)) L.max_depth L'.max_depth le.max_depth root_env

  statements_steps : Run L L' start_state (statements_in words I start_state) (statements I' start_state)
  unfolding statements statements_in
  statements_steps = bind charge_steps (λ a. bind charge_steps (λ b. bind (open_steps Scope.Root) (λ n. bind (mapped (statement_steps _ _ root_copy_steps root_env) root.statements) (λ l. return _)))) start_state (omega arith)

-- ---- the two answers

-- the same; or a limit that is smaller in L refuses, and what L' accepts is past it
pub data Answers (L L' : Limits) : Answer → Answer → Type 0 where
  both : {a : Answer} → Answers L L' a a
  first : {c d i : ℕ} {a : Answer} → Short L L' c d i → ((e : Expansion) → a ≡ Answer.Expanded e → TooSmall L L' e c d i) → Answers L L' (Answer.Refused c d i) a

small : {L L' : Limits} {c d i : ℕ} (s : Short L L' c d i) (st : State) → past s st → (e : Expansion) → length st.nodes ≡ e.node_count → st.charges ≡ e.charges → TooSmall L L' e c d i
small (eight h) st p e n k = Bigger.nodes (omega arith)
small (nine h) st p e n k = Bigger.depth h
small (ten h) st p e n k = Bigger.rows (omega arith)

pub answers_in : (words : ℕ) (I : Input) → HasEntries words I.limits → (L : Limits) → Bigger I.limits L → Answers I.limits L (expand_in words I) (expand (with_limits L I))
unfolding expand expand_in answer
answers_in words I entries L le = go (statements_steps I.root I.library I.limits L le words entries)
  where
    go : {r r' : Result (List Statement)} → Run I.limits L start_state r r' → Answers I.limits L (answer I r) (answer (with_limits L I) r')
    go (same g) = both
    go refuses = both
    go (goes_on {a = l} {st' = st} s g p) = first s (λ e q. let h = same_expansion _ e q in small s st p e (ap (λ (x : Expansion). x.node_count) h) (ap (λ (x : Expansion). x.charges) h))
    go (stops s) = first s (λ e q. refused_not_expanded q)
