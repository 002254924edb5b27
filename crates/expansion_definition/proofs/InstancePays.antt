-- An instance charges just for what it leaves and for what its run counts: its scopes, its values, its body, its record.
use mathlib.Core.Path.{◌≡◌, refl, ap, sym, ◌∙◌, subst}
use mathlib.Core.List.{List, [], ◌∷◌, ◌++◌, map, append_assoc, append-nil}
use mathlib.Core.Option.{Option, none, some}
use Prim.Native.Nat.{ℕ, suc, ◌+◌}
use native.Mathlib.Omega.{arith}
use lib.ListN.{length, get_elem?, length-append}
use Rattle.ast.proofs.Basics.{map_append}
use Rattle.ast.specs.Ast.{FieldValue, FieldBinding, Field, InterfaceDecl, Statement, ProtoInstance, Node, ProtoDecl}
use Rattle.ast.specs.Choice.{and_then}
use Rattle.ast.specs.Lists.{flat}
use Rattle.pick_definition.specs.Picks.{Prototype}
use Rattle.expansion_steps.specs.Steps.{plain_node, instance_node, Action, copy_id, add_mapped, add_default, add_body, Mapped, count, one, all}
use Rattle.expansion_steps.specs.Steps
use Rattle.expansion_definition.specs.Input.{Input, proto_of_origin, last_field}
use Rattle.expansion_definition.specs.Scopes.{Scope}
use Rattle.ast.specs.Ids.{data_ids, option_ids, statement_ids}
use Rattle.expansion_definition.specs.State.{State, Comp, bind_r, ◌>>=◌, fold_m, with_world, with_nodes}
use Rattle.expansion_definition.specs.Charges.{one_more, charge, paid}
use Rattle.expansion_definition.specs.Values.{Values, value_named, Env, src, Copier}
use Rattle.expansion_definition.specs.Externs.{extern_proto}
use Rattle.expansion_definition.specs.PlainCopy.{remap_route}
use Rattle.expansion_definition.specs.Instances.{push_scope, open_scope, take_default, clone_or, interface_value, values, Body, add_entry, place, body_statement, root_of, associations_of, with_instance, update, record_instance, instantiate}
use Rattle.expansion_definition.specs.Copy.{copy_node}
use Rattle.expansion_definition.specs.Reached.{Known, body_ids, default_ids, decl_of, plain_nexts, gives, is_given, name_if_valued, body_names, body_scope, default_scope, kind_by, node_kind, default_action, value_actions, interface_actions, instance_actions, actions_by, actions_of, node_in_scope, graph}
use Rattle.expansion_definition.specs.Counted.{of_node, all_but_one, routes_in, body_routes, of_scope, associations_in, stored_from, stored_by, body_values, of_run}
use Rattle.expansion_definition.proofs.Outcome.{refused, accepted, bind_out, map_out, both}
use Rattle.expansion_definition.proofs.Names.{Shows, known, none_shown, values_shown, anything}
use Rattle.expansion_definition.proofs.InstanceRuns.{at_length}
use Rattle.expansion_definition.proofs.Books.{sum_append}
use Rattle.expansion_definition.proofs.Sizes.{Out, total, sum_map, set_same, same_head, same_tail, routes_cons, none_left, none_right, size, Alike, alike_size, Sized, alike_sized, none_sized, values_alike}
use Rattle.expansion_definition.proofs.Costs.{kepts, Spent, spent_then, spent_as, spent_still, Sees, sees_same, Costs, no_costs, default_costs, PlainCosts, InstanceCosts, plain_run, instance_run}
use Rattle.expansion_definition.proofs.Paying.{After, after, Pays, charge_is, pays_ret, pays_is, pays_with, pays_bind, pays_then, pays_after, pays_one, paid_ret, clone_pays, extern_proto_pays, store_pays}
use Rattle.expansion_definition.proofs.PlainPays.{value_pays, copy_plain_pays}

module _ (I : Input) where
  -- ---- scopes

  abbrev pub scope_more : Scope → State → State
  scope_more e st = with_world (record { map = st.world.map; ledger = st.world.ledger; scopes = st.world.scopes ++ (e ∷ []) }) st

  pub record Opened (e : Scope) (st : State) (n : ℕ) (st' : State) : Type 0 where
    pub number : n ≡ length st.world.scopes
    pub is : st' ≡ scope_more e (one_more st)

  pub open_is : (e : Scope) (st : State) → Out (λ n st'. Opened e st n st') (open_scope I e st)
  unfolding open_scope push_scope
  open_is e st = bind_out (charge_is I st) (λ u s q. accepted (record { number = ap (λ (y : State). length y.world.scopes) q; is = ap (scope_more e) q }))

  pub open_spent : (e : Scope) (st st' : State) (n x y : ℕ) → Opened e st n st' → suc x ≡ of_scope I e + y → Spent I x st st' y
  open_spent e st st' n x y o q = subst (λ (z : State). (Spent I) x st z y) (sym o.is) (spent_still I st (scope_more e (one_more st)) refl (omega (arith, sum_append (of_scope I) st.world.scopes (e ∷ []))))

  pub open_sees : (e : Scope) (st st' : State) (n : ℕ) (w w' : Steps.World Known) (s : Known) → Opened e st n st' → w'.mapped ≡ w.mapped → w'.scopes ≡ w.scopes ++ (s ∷ []) → Sees I w st.world → Sees I w' st'.world
  open_sees e st st' n w w' s o p q h =
      subst (λ (z : State). (Sees I) w' z.world) (sym o.is) (record { mapped = p ∙ h.mapped; scopes = ap length q ∙ length-append w.scopes (s ∷ []) ∙ ap (λ (m : ℕ). m + 1) h.scopes ∙ sym (length-append st.world.scopes (e ∷ [])) })

  -- ---- instances

  -- a copier of every scope
  abbrev pub Copying : (Env → Copier) → Type 0
  Copying f = (env : Env) (names : List ℕ) (ds : Values) → Shows env names → Sized env ds → (x i : ℕ) → Pays I ds (one env.scope (known env names) i) x (f env i) (λ o. x)

  module _ (f : Env → Copier) (hf : Copying f) where
    take_default_pays : {vs : Values} {n : ℕ} {e : Known} (x : ℕ) (p : Prototype) (k : ℕ) (v : Option FieldValue) → default_ids k (decl_of I p) ≡ option_ids v → Pays I vs (all n e (default_action (default_scope p k) v)) x (take_default I f (Scope.Default p k n) v) (λ o. length (option_ids o) + x)
    unfolding take_default
    take_default_pays x p k none eb w w' c cs st s = pays_ret I {m = λ o. length (option_ids o) + x} none (omega arith) w w' c cs st s
    take_default_pays {vs} {n} {e} x p k (some v) eb w w' c cs st s =
        bind_out (open_is (Scope.Default p k n) st) (λ m s1 o. bind_out (value_pays I {vs = []} {n = m} {e = b} (f (denv m)) (hf (denv m) [] [] none_shown none_sized) x v (add_default b w) w' c (inside m o.number) s1 (open_sees (Scope.Default p k n) st s1 m w (add_default b w) b o refl refl s))
        (λ v' s2 r. accepted (record { sees = r.sees; spent = spent_then I (open_spent (Scope.Default p k n) st s1 m x x o (omega arith)) r.spent })))
      where
        b : Known
        b = default_scope p k n

        denv : ℕ → Env
        denv m = record { scope = m; entry = b.entry; is_values = none }

        inside : (m : ℕ) → m ≡ length st.world.scopes → Costs I [] (all m b (map copy_id (data_ids v.«data»))) (add_default b w) w' c
        inside m q = subst (λ (j : ℕ). (Costs I) [] (all j b (map copy_id (data_ids v.«data»))) (add_default b w) w' c) (s.scopes ∙ sym q) (subst (λ (l : List ℕ). (Costs I) [] (all (count w) b (map copy_id l)) (add_default b w) w' c) eb (default_costs I cs))

    -- in a scope of which the names and the sizes of their values are known
    module _ (env : Env) (names : List ℕ) (ds : Values) (hn : Shows env names) (hs : Sized env ds) where
      abbrev pub Here : {A : Type 0} → List (Action Known) → ℕ → Comp A → (A → ℕ) → Type 0
      Here l x c m = Pays I ds (all env.scope (known env names) l) x c m

      interface_value_pays : (x : ℕ) (p : Prototype) (k : ℕ) (default : Option FieldValue) → default_ids k (decl_of I p) ≡ option_ids default → (given : Option FieldBinding)
          → Here (value_actions (gives names given) (default_scope p k) default given) x (interface_value I f env (Scope.Default p k env.scope) default given) (λ o. length (option_ids o) + x)
      unfolding interface_value clone_or
      interface_value_pays x p k default eb (some (FieldBinding.Value v)) = pays_then I (map copy_id (data_ids v.«data»)) (value_pays I (f env) (hf env names ds hn hs) x v) (λ v'. pays_ret I _ refl)
      interface_value_pays x p k default eb (some (FieldBinding.Is t)) = rw (hn t) (is (and_then env.is_values (value_named t)))
        where
          is : (o : Option FieldValue) → Here (value_actions (is_given o) (default_scope p k) default (some (FieldBinding.Is t))) x (clone_or I (take_default I f (Scope.Default p k env.scope) default) o) (λ o. length (option_ids o) + x)
          is none = take_default_pays x p k default eb
          is (some v) = pays_after I (clone_pays I x v) (λ v'. pays_ret I _ refl)
      interface_value_pays x p k default eb none = take_default_pays x p k default eb

      -- pre, post: the interfaces before and behind these
      pub values_pays : (p : Prototype) (fields : List Field) (decl : ProtoDecl) → decl_of I p ≡ some decl → (post : List InterfaceDecl) (x : ℕ) (l pre : List InterfaceDecl) (k : ℕ) (vs : Values) → pre ++ (l ++ post) ≡ decl.interface → length pre ≡ k
          → Here (interface_actions names p fields k l) (size vs + x) (values I f env p fields k l vs) (λ new. size new + x)
      unfolding values
      values_pays p fields decl ep post x [] pre k vs el ek = pays_ret I vs refl
      values_pays p fields decl ep post x (d ∷ l) pre k vs el ek =
          pays_bind I (value_actions (gives names (last_field d.name fields)) (default_scope p k) d.value (last_field d.name fields)) (interface_actions names p fields (suc k) l) (interface_value_pays (size vs + x) p k d.value ids (last_field d.name fields))
          (λ v. pays_after I (store_pays I x d.name vs v) (λ vs'. values_pays p fields decl ep post x l (pre ++ (d ∷ [])) (suc k) vs' (append_assoc pre (d ∷ []) (l ++ post) ∙ el) (omega (arith, length-append pre (d ∷ [])))))
        where
          this : get_elem? decl.interface k ≡ some d
          this = rw (← el, ← ek) (at_length I pre d (l ++ post))

          ids : default_ids k (decl_of I p) ≡ option_ids d.value
          ids = ap (default_ids k) ep ∙ ap (λ (y : Option InterfaceDecl). option_ids (and_then y (λ z. z.value))) this

    -- ---- the body of the instance i of env's scope, in the scope inner

    module _ (env : Env) (i : ℕ) (inner : Env) (names : List ℕ) (ds : Values) (hn : Shows inner names) (hs : Sized inner ds) where
      abbrev Inside : {A : Type 0} → List ℕ → ℕ → Comp A → (A → ℕ) → Type 0
      Inside l x c m = Pays I ds (all inner.scope (known inner names) (map copy_id l)) x c m

      -- A statement that is no Node,
      still_pays : (x : ℕ) (b : Body) (s : Statement) → statement_ids s ≡ [] → Inside [] x (body_statement I f env i inner b s) (λ c. routes_in (s ∷ []) + x)
      unfolding body_statement
      still_pays x b (Statement.Node j) q = absurd (let z : ◌≡◌ {A = ℕ} 0 1 = cc in omega arith)
      still_pays x b (Statement.Proto p) q = pays_ret I b (omega arith)
      still_pays x b (Statement.ExternProto y) q = pays_after I (extern_proto_pays I x inner y) (λ o. pays_ret I b (omega arith))
      still_pays x b (Statement.Route r) q = paid_ret I _ (omega arith)
      still_pays x b (Statement.Other p) q = pays_ret I b (omega arith)

      -- which leaves the root.
      still_root : (b : Body) (s : Statement) → statement_ids s ≡ [] → (st : State) → Out (λ c s'. c.root ≡ b.root) (body_statement I f env i inner b s st)
      unfolding body_statement paid bind_r
      still_root b (Statement.Node j) q st = absurd (let z : ◌≡◌ {A = ℕ} 0 1 = cc in omega arith)
      still_root b (Statement.Proto p) q st = accepted refl
      still_root b (Statement.ExternProto y) q st = bind_out (anything (extern_proto I inner y st)) (λ o s u. accepted refl)
      still_root b (Statement.Route r) q st = bind_out (anything (charge I st)) (λ o s u. accepted refl)
      still_root b (Statement.Other p) q st = accepted refl

      -- Once the root stands, a Node is an extra root.
      place_more : (x o new : ℕ) (b : Body) (root : Option ℕ) → root ≡ some o → Inside [] x (place I env i new b root) (λ c. suc x)
      unfolding place
      place_more x o new b none q = absurd (let z : ◌≡◌ {A = ℕ} 0 1 = cc in omega arith)
      place_more x o new b (some root) q = paid_ret I _ refl

      place_root : (o new : ℕ) (b : Body) (root : Option ℕ) → root ≡ some o → (st : State) → Out (λ c s. c.root ≡ some o) (place I env i new b root st)
      unfolding place paid bind_r
      place_root o new b none q st = absurd (let z : ◌≡◌ {A = ℕ} 0 1 = cc in omega arith)
      place_root o new b (some root) q st = bind_out (anything (charge I st)) (λ u s v. accepted q)

      more_pays : (o : ℕ) (b : Body) → b.root ≡ some o → (x : ℕ) (s : Statement) → Inside (statement_ids s) x (body_statement I f env i inner b s) (λ c. length (statement_ids s) + routes_in (s ∷ []) + x)
      unfolding body_statement
      more_pays o b q x (Statement.Node j) = pays_is I (λ c. omega arith) (pays_one I (hf inner names ds hn hs x j) (λ new. place_more x o new b b.root q))
      more_pays o b q x (Statement.Proto p) = still_pays x b (Statement.Proto p) refl
      more_pays o b q x (Statement.ExternProto y) = still_pays x b (Statement.ExternProto y) refl
      more_pays o b q x (Statement.Route r) = still_pays x b (Statement.Route r) refl
      more_pays o b q x (Statement.Other p) = still_pays x b (Statement.Other p) refl

      more_root : (o : ℕ) (b : Body) → b.root ≡ some o → (s : Statement) (st : State) → Out (λ c s'. c.root ≡ some o) (body_statement I f env i inner b s st)
      unfolding body_statement
      more_root o b q (Statement.Node j) st = bind_out (anything (f inner j st)) (λ new s1 u. place_root o new b b.root q s1)
      more_root o b q (Statement.Proto p) st = map_out (still_root b (Statement.Proto p) refl st) (λ c s r. r ∙ q)
      more_root o b q (Statement.ExternProto y) st = map_out (still_root b (Statement.ExternProto y) refl st) (λ c s r. r ∙ q)
      more_root o b q (Statement.Route r) st = map_out (still_root b (Statement.Route r) refl st) (λ c s r. r ∙ q)
      more_root o b q (Statement.Other p) st = map_out (still_root b (Statement.Other p) refl st) (λ c s r. r ∙ q)

      body_more : (o : ℕ) (l : List Statement) (b : Body) → b.root ≡ some o → (x : ℕ) → Inside (flat statement_ids l) x (fold_m (body_statement I f env i inner) b l) (λ c. length (flat statement_ids l) + routes_in l + x)
      unfolding fold_m
      body_more o [] b q x = pays_ret I b (omega arith)
      body_more o (s ∷ l) b q x = subst (λ (k : List (Action Known)). (Pays I) ds (all inner.scope (known inner names) k) x (fold_m (body_statement I f env i inner) b (s ∷ l)) (λ c. length (flat statement_ids (s ∷ l)) + routes_in (s ∷ l) + x)) (sym (map_append copy_id (statement_ids s) (flat statement_ids l)))
          (pays_is I (λ c. omega (arith, length-append (statement_ids s) (flat statement_ids l), routes_cons s l)) (pays_with I (map copy_id (statement_ids s)) (map copy_id (flat statement_ids l)) (more_pays o b q x s) (more_root o b q s) (λ c r. body_more o l c r (length (statement_ids s) + routes_in (s ∷ []) + x))))

      -- the first Node: the root, and the instance's map entry
      record First (x : ℕ) (w : Steps.World Known) (st : State) (c : Body) (st' : State) (y : ℕ) : Type 0 where
        out : ℕ
        root : c.root ≡ some out
        sees : Sees I (add_mapped env.scope i w) st'.world
        spent : Spent I x st st' y

      place_first : (x new : ℕ) (b : Body) (root : Option ℕ) → root ≡ none → (w : Steps.World Known) (st : State) → Sees I w st.world → Out (λ c st'. First x w st c st' (suc x)) (place I env i new b root st)
      unfolding place
      place_first x new b (some root) q w st s = absurd (let z : ◌≡◌ {A = ℕ} 0 1 = cc in omega arith)
      place_first x new b none q w st s = bind_out (charge_is I st) (λ u s1 e. accepted (subst (λ (y : State). First x w st (record { root = some new; extra_roots = b.extra_roots; routes = b.routes }) (add_entry env.scope i new y) (suc x)) (sym e) (record {
        out = new;
        root = refl;
        sees = record { mapped = ap (λ (l : List (ℕ × ℕ)). (env.scope, i) ∷ l) s.mapped; scopes = s.scopes };
        spent = spent_still I st (add_entry env.scope i new (one_more st)) refl (omega arith);
      })))

      node_first : (x j : ℕ) (b : Body) → b.root ≡ none → (w w2 : Steps.World Known) (k : ℕ) → Costs I ds (one inner.scope (known inner names) j) w w2 k → (st : State) → Sees I w st.world → Out (λ c st'. First x w2 st c st' (suc (k + x))) (body_statement I f env i inner b (Statement.Node j) st)
      unfolding body_statement
      node_first x j b q w w2 k cs st s =
          bind_out (hf inner names ds hn hs x j w w2 k cs st s) (λ new s1 r. map_out (place_first (k + x) new b b.root q w2 s1 r.sees) (λ c s2 h. record { out = h.out; root = h.root; sees = h.sees; spent = spent_then I r.spent h.spent }))

      -- a statement before the first Node
      pub record Before (x : ℕ) (w : Steps.World Known) (st : State) (c : Body) (st' : State) (y : ℕ) : Type 0 where
        pub root : c.root ≡ none
        pub sees : Sees I w st'.world
        pub spent : Spent I x st st' y

      before : (x : ℕ) (b : Body) → b.root ≡ none → (s : Statement) → statement_ids s ≡ [] → (w : Steps.World Known) (st : State) → Sees I w st.world → Out (λ c st'. Before x w st c st' (routes_in (s ∷ []) + x)) (body_statement I f env i inner b s st)
      before x b q s h w st t = map_out (both _ (still_pays x b s h w w 0 (no_costs I) st t) (still_root b s h st)) (λ c s1 r. record { root = r.1 ∙ q; sees = r.0.sees; spent = spent_as I x (routes_in (s ∷ []) + x) (omega arith) r.0.spent })

      pub body_none : (l : List Statement) (b : Body) → b.root ≡ none → flat statement_ids l ≡ [] → (x : ℕ) (w : Steps.World Known) (st : State) → Sees I w st.world → Out (λ c st'. Before x w st c st' (routes_in l + x)) (fold_m (body_statement I f env i inner) b l st)
      unfolding fold_m
      body_none [] b q e x w st s = accepted (record { root = q; sees = s; spent = spent_still I {x = x} {y = 0 + x} st st refl (omega arith) })
      body_none (y ∷ l) b q e x w st s = bind_out (before x b q y (none_left (statement_ids y) (flat statement_ids l) e) w st s)
          (λ c s1 h. map_out (body_none l c h.root (none_right (statement_ids y) (flat statement_ids l) e) (routes_in (y ∷ []) + x) w s1 h.sees) (λ c' s2 z. record { root = z.root; sees = z.sees; spent = spent_then I h.spent (spent_as I (routes_in (y ∷ []) + x) (routes_in (y ∷ l) + x) (omega (arith, routes_cons y l)) z.spent) }))

      pub body_first_lem : (l : List Statement) (b : Body) → b.root ≡ none → (r : ℕ) (rs : List ℕ) → flat statement_ids l ≡ r ∷ rs → (w w2 w3 : Steps.World Known) (k2 k3 : ℕ) → Costs I ds (one inner.scope (known inner names) r) w w2 k2 → Costs I ds (all inner.scope (known inner names) (map copy_id rs)) (add_mapped env.scope i w2) w3 k3
          → (x : ℕ) (st : State) → Sees I w st.world → Out (λ c st'. After I w3 x st (k2 + k3) (1 + length rs + routes_in l + x) st') (fold_m (body_statement I f env i inner) b l st)
      unfolding fold_m
      body_first_lem [] b q r rs e w w2 w3 k2 k3 c2 c3 x st s = absurd (let z : ◌≡◌ {A = ℕ} 0 1 = cc in omega arith)
      body_first_lem (Statement.Node j ∷ l) b q r rs e w w2 w3 k2 k3 c2 c3 x st s =
          bind_out (node_first x j b q w w2 k2 (rw (same_head j r (flat statement_ids l) rs e) c2) st s)
          (λ c s1 h. map_out (body_more h.out l c h.root (suc (k2 + x)) (add_mapped env.scope i w2) w3 k3 (rw (same_tail j r (flat statement_ids l) rs e) c3) s1 h.sees) (λ c' s2 y. record { sees = y.sees; spent = spent_then I h.spent (spent_as I (suc (k2 + x)) (k2 + k3 + (1 + length rs + routes_in l + x)) (omega (arith, ap length (same_tail j r (flat statement_ids l) rs e))) y.spent) }))
      body_first_lem (Statement.Proto p ∷ l) b q r rs e w w2 w3 k2 k3 c2 c3 x st s =
          bind_out (before x b q (Statement.Proto p) refl w st s) (λ c s1 h. map_out (body_first_lem l c h.root r rs e w w2 w3 k2 k3 c2 c3 (0 + x) s1 h.sees) (λ c' s2 y. record { sees = y.sees; spent = spent_then I h.spent (spent_as I (0 + x) (k2 + k3 + (1 + length rs + routes_in l + x)) (omega arith) y.spent) }))
      body_first_lem (Statement.ExternProto z ∷ l) b q r rs e w w2 w3 k2 k3 c2 c3 x st s =
          bind_out (before x b q (Statement.ExternProto z) refl w st s) (λ c s1 h. map_out (body_first_lem l c h.root r rs e w w2 w3 k2 k3 c2 c3 (0 + x) s1 h.sees) (λ c' s2 y. record { sees = y.sees; spent = spent_then I h.spent (spent_as I (0 + x) (k2 + k3 + (1 + length rs + routes_in l + x)) (omega arith) y.spent) }))
      body_first_lem (Statement.Route z ∷ l) b q r rs e w w2 w3 k2 k3 c2 c3 x st s =
          bind_out (before x b q (Statement.Route z) refl w st s) (λ c s1 h. map_out (body_first_lem l c h.root r rs e w w2 w3 k2 k3 c2 c3 (1 + 0 + x) s1 h.sees) (λ c' s2 y. record { sees = y.sees; spent = spent_then I h.spent (spent_as I (1 + 0 + x) (k2 + k3 + (1 + length rs + (1 + routes_in l) + x)) (omega arith) y.spent) }))
      body_first_lem (Statement.Other p ∷ l) b q r rs e w w2 w3 k2 k3 c2 c3 x st s =
          bind_out (before x b q (Statement.Other p) refl w st s) (λ c s1 h. map_out (body_first_lem l c h.root r rs e w w2 w3 k2 k3 c2 c3 (0 + x) s1 h.sees) (λ c' s2 y. record { sees = y.sees; spent = spent_then I h.spent (spent_as I (0 + x) (k2 + k3 + (1 + length rs + routes_in l + x)) (omega arith) y.spent) }))

    -- The record changes no node's count.
    record_is : (x name : ℕ) (def_name : Option ℕ) (n : ℕ) (b : Body) (o : ℕ) (st : State) → Out (λ o' st'. (st'.world ≡ st.world) × Spent I x st st' x) (record_instance name def_name n b o st)
    unfolding record_instance
    record_is x name def_name n b o st = accepted (refl, spent)
      where
        inst : ProtoInstance
        inst = record { proto_name = name; extra_roots = b.extra_roots; routes = map (remap_route st.world n) b.routes; is_map = associations_of n st.is_map }

        go : (y : Option Node) → get_elem? st.nodes o ≡ y → map of_node (update st.nodes o (with_instance def_name inst) y) ≡ kepts I st
        go none e = refl
        go (some y) e = set_same of_node st.nodes o y (with_instance def_name inst y) e refl

        same : map of_node (update st.nodes o (with_instance def_name inst) (get_elem? st.nodes o)) ≡ kepts I st
        same = go (get_elem? st.nodes o) refl

        spent : Spent I x st (with_nodes (update st.nodes o (with_instance def_name inst) (get_elem? st.nodes o)) st) x
        spent = spent_still I st _ same (omega (arith, sum_map of_node (update st.nodes o (with_instance def_name inst) (get_elem? st.nodes o)), sum_map of_node st.nodes, ap total same))

    -- 7, or the record.
    close : (p : Prototype) (name : ℕ) (def_name : Option ℕ) (n : ℕ) (b : Body) (root : Option ℕ) (st : State) → Out (λ o st'. (st'.world ≡ st.world) × Spent I 0 st st' 1) ((root_of p root >>= (λ o. charge I >>= (λ u. record_instance name def_name n b o))) st)
    unfolding root_of bind_r
    close p name def_name n b none st = refused tt
    close p name def_name n b (some o) st = bind_out (charge_is I st) (λ u s q. map_out (record_is 1 name def_name n b o s) (λ o' s' r. (r.0 ∙ ap (λ (y : State). y.world) q, spent_then I (subst (λ (y : State). (Spent I) 0 st y 1) (sym q) (spent_still I st (one_more st) refl (omega arith))) r.1)))

    module _ (env : Env) (names : List ℕ) (ds : Values) (hn : Shows env names) (hs : Sized env ds) (x i : ℕ) (node : Node) (there : node_in_scope I env.entry i ≡ some node) where
      -- An instance.
      instantiate_pays : (p : Prototype) (decl : ProtoDecl) → decl_of I p ≡ some decl → (graph I).actions (known env names) i ≡ interface_actions names p node.fields 0 decl.interface → (w w' : Steps.World Known) (k : ℕ)
          → InstanceCosts I ds env.scope (known env names) i (body_scope p (flat (name_if_valued names node.fields) decl.interface)) w w' k → (st : State) → Sees I w st.world → Out (λ o st'. After I w' x st k x st') (instantiate I f env i node p (some decl) st)
      unfolding instantiate
      instantiate_pays p decl ep acts w w' k c st s =
          bind_out (both _ (values_pays env names ds hn hs p node.fields decl ep [] x decl.interface [] 0 [] (append-nil decl.interface) refl w c.w1 c.k1 (rw acts at c.values') st s) (both _ (values_shown I f env names hn p node.fields decl.interface st) (values_alike I f env ds hs p node.fields 0 decl.interface [] [] refl st)))
          (λ vs s1 a. bind_out (open_is (Scope.Body p env.scope) s1)
          (λ m s2 o. bind_out (body_first_lem env i (inner m vs) ns ds' a.1.0 (alike_sized vs ds' a.1.1) decl.body (record { root = none; extra_roots = []; routes = [] }) refl c.r c.rs starts (add_body env.scope i b c.w1) c.w2 w' c.k2 c.k3 (first m s1 a.0.sees o.number) (others m s1 a.0.sees o.number) 0 s2 (open_sees (Scope.Body p env.scope) s1 s2 m c.w1 (add_body env.scope i b c.w1) b o refl refl a.0.sees))
          (λ y s3 z. map_out (close p decl.name node.def_name m y y.root s3) (λ o' s4 t. record { sees = sees_same I refl t.0 z.sees; spent = whole vs a.1.1 s1 s2 s3 s4 m a.0.spent o z.spent t.1 }))))
        where
          ns : List ℕ
          ns = flat (name_if_valued names node.fields) decl.interface

          b : Known
          b = body_scope p ns env.scope

          inner : ℕ → Values → Env
          inner m vs = record { scope = m; entry = b.entry; is_values = some vs }

          ds' : Values
          ds' = stored_from ds node.fields decl.interface []

          stored : body_values I ds (known env names) i b.entry ≡ ds'
          stored = ap (λ (o : Option Node). stored_by ds o (decl_of I p)) there ∙ ap (stored_by ds (some node)) ep

          starts : flat statement_ids decl.body ≡ c.r ∷ c.rs
          starts = sym (ap body_ids ep) ∙ c.starts

          number : (m : ℕ) (s1 : State) → Sees I c.w1 s1.world → m ≡ length s1.world.scopes → count c.w1 ≡ m
          number m s1 h q = h.scopes ∙ sym q

          first : (m : ℕ) (s1 : State) → Sees I c.w1 s1.world → m ≡ length s1.world.scopes → Costs I ds' (one m b c.r) (add_body env.scope i b c.w1) c.w2 c.k2
          first m s1 h q = subst (λ (j : ℕ). (Costs I) ds' (one j b c.r) (add_body env.scope i b c.w1) c.w2 c.k2) (number m s1 h q) (subst (λ (v : Values). (Costs I) v (one (count c.w1) b c.r) (add_body env.scope i b c.w1) c.w2 c.k2) stored c.first)

          others : (m : ℕ) (s1 : State) → Sees I c.w1 s1.world → m ≡ length s1.world.scopes → Costs I ds' (all m b (map copy_id c.rs)) (add_mapped env.scope i c.w2) w' c.k3
          others m s1 h q = subst (λ (j : ℕ). (Costs I) ds' (all j b (map copy_id c.rs)) (add_mapped env.scope i c.w2) w' c.k3) (number m s1 h q) (subst (λ (v : Values). (Costs I) v (all (count c.w1) b (map copy_id c.rs)) (add_mapped env.scope i c.w2) w' c.k3) stored c.others)

          -- the map entry, the record, the extra roots and the routes, which the scope's entry counts
          own : ℕ
          own = 2 + all_but_one (body_ids (decl_of I p)) + body_routes (decl_of I p)

          own_is : own ≡ 2 + length c.rs + routes_in decl.body
          own_is = omega (arith, ap (λ (o : Option ProtoDecl). body_routes o) ep, ap all_but_one c.starts)

          whole : (vs : Values) → Alike vs ds' → (s1 s2 s3 s4 : State) (m : ℕ) → Spent I (size [] + x) st s1 (c.k1 + (size vs + x)) → Opened (Scope.Body p env.scope) s1 m s2 → Spent I 0 s2 s3 (c.k2 + c.k3 + (1 + length c.rs + routes_in decl.body + 0)) → Spent I 0 s3 s4 1 → Spent I x st s4 (k + x)
          whole vs al s1 s2 s3 s4 m e1 o e3 e4 = spent_as I x (k + x) (omega (arith, own_is, c.sum, alike_size vs ds' al, ap size stored)) (spent_then I (spent_as I (own + x) (own + mid) (omega arith) e1) (spent_then I (open_spent (Scope.Body p env.scope) s1 s2 m (own + mid) mid o (omega arith)) (spent_then I (spent_as I mid (mid + body) (omega arith) e3) (spent_as I (mid + body) (mid + body + 1) (omega arith) e4))))
            where
              mid : ℕ
              mid = c.k1 + size vs + x

              body : ℕ
              body = c.k2 + c.k3 + 1 + length c.rs + routes_in decl.body

      -- A node that is not mapped.
      pub node_pays : (w w' : Steps.World Known) (k : ℕ) → Costs I ds (one env.scope (known env names) i) w w' k → (st : State) → Sees I w st.world → (Mapped w env.scope i → ⊥) → (p : Option Prototype) → proto_of_origin I (src env) node.origin ≡ p → Out (λ o st'. After I w' x st k x st') (copy_node I f env i node p st)
      unfolding copy_node instantiate
      node_pays w w' k cs st s un none ep = map_out (copy_plain_pays I (f env) (hf env names ds hn hs) env refl x i node w w' c.k (rw acts at c.inside) st s) (λ o st' r. after I k x (omega (arith, cs.is, c.sum, ap associations_in there)) r.sees r.spent)
        where
          kind : (graph I).kind (known env names) i ≡ plain_node
          kind = ap (node_kind I (known env names)) there ∙ ap (kind_by I names node) ep

          acts : (graph I).actions (known env names) i ≡ map copy_id (plain_nexts node)
          acts = ap (actions_of I (known env names)) there ∙ ap (actions_by I names node) ep

          c : PlainCosts I ds env.scope (known env names) i w w' (of_run I ds cs.run)
          c = plain_run I ds env.scope (known env names) i w un kind w' cs.run
      node_pays w w' k cs st s un (some p) ep = go (decl_of I p) refl
        where
          go : (decl : Option ProtoDecl) → decl_of I p ≡ decl → Out (λ o st'. After I w' x st k x st') (instantiate I f env i node p decl st)
          go none ed = refused tt
          go (some decl) ed = instantiate_pays p decl ed acts w w' k (subst (λ (c : ℕ). (InstanceCosts I) ds env.scope (known env names) i (body_scope p ns) w w' c) cs.is (instance_run I ds env.scope (known env names) i w (body_scope p ns) un kind w' cs.run)) st s
            where
              ns : List ℕ
              ns = flat (name_if_valued names node.fields) decl.interface

              kind : (graph I).kind (known env names) i ≡ instance_node (body_scope p ns)
              kind = ap (node_kind I (known env names)) there ∙ ap (kind_by I names node) ep ∙ ap (λ (y : Option ProtoDecl). instance_node (body_scope p (body_names names node.fields y))) ed

              acts : (graph I).actions (known env names) i ≡ interface_actions names p node.fields 0 decl.interface
              acts = ap (actions_of I (known env names)) there ∙ ap (actions_by I names node) ep ∙ ap (instance_actions names p node.fields) ed
