-- The charges of an accepted expansion are those that `Counted` counts, whichever run of the steps is taken: each function of the definition charges just for what it leaves.
use mathlib.Core.Path.{◌≡◌, refl, ap, sym, ◌∙◌, subst}
use mathlib.Core.List.{List, [], ◌∷◌, ◌++◌, map, append-nil}
use mathlib.Core.Option.{Option, none, some}
use mathlib.Core.Bool.{Bool, true, false}
use Prim.Native.Nat.{ℕ, zero, suc, ◌+◌}
use native.Mathlib.Omega.{arith}
use lib.ListN.{length}
use lib.Dec.{ltb}
use Rattle.ast.specs.Ast.{Field, InterfaceDecl, Statement, Node, ProtoDecl}
use Rattle.ast.specs.Choice.{and_then, map_o}
use Rattle.ast.specs.Lists.{flat}
use Rattle.ast.specs.Lookups.{node_at}
use Rattle.pick_definition.specs.Picks.{Prototype}
use Rattle.expansion_steps.specs.Steps.{copy_id, add_mapped, add_plain, add_default, add_body, Mapped, count, one, all, Run, first_world, WholeRun}
use Rattle.expansion_steps.specs.Steps
use Rattle.expansion_definition.specs.Input.{Input, docs, proto_of_origin}
use Rattle.expansion_definition.specs.Scopes.{Scope}
use Rattle.ast.specs.Ids.{binding_ids, statement_ids}
use Rattle.expansion_definition.specs.State.{State, ok, Comp, fold_m, lookup, start_state}
use Rattle.expansion_definition.specs.Charges.{one_more}
use Rattle.expansion_definition.specs.Values.{Values, value_named, Env, src}
use Rattle.expansion_definition.specs.PlainCopy.{blank_node, add_node, reserve_if, reserve, somes}
use Rattle.expansion_definition.specs.Instances.{open_scope, values, Body, body_statement}
use Rattle.expansion_definition.specs.Copy.{mapped_or, copy}
use Rattle.expansion_definition.specs.Expand.{root_env, statements, output, expansion}
use Rattle.expansion_definition.specs.Reached.{Known, decl_of, interface_ids, body_scope, default_scope, interface_actions, node_in_scope, graph}
use Rattle.expansion_definition.specs.Outputs.{sum_of, interface_row_count}
use Rattle.expansion_definition.specs.Counted.{of_node, of_output, routes_in, of_scope, is_in, is_set, of_run, counted, tops, values_or, held, CopiesCharged}
use Rattle.expansion_definition.specs.Until.{plain_first, given_first, default_env, default_first, body_env, body_first, of_contents, BodyDone, before_root, from_root, of_body}
use Rattle.expansion_definition.proofs.Outcome.{refused, accepted, bind_out, map_out, at_ok}
use Rattle.expansion_definition.proofs.Names.{Shows, known, none_shown}
use Rattle.expansion_definition.proofs.Worlds.{lookup_here, lookup_none}
use Rattle.expansion_definition.proofs.Books.{sum_append, option_row, option_field, somes_fields, somes_rows}
use Rattle.expansion_definition.proofs.Sizes.{Out, bind_at, id_count, size, Sized, none_sized}
use Rattle.expansion_definition.proofs.Costs.{Spent, spent_still, Sees, sees_same, Costs, mapped_run}
use Rattle.expansion_definition.proofs.Paying.{After, after, Pays, charge_is, pays_ret, pays_bind, pays_then, pays_copies, pays_after, map_m_pays, map_m_still, copy_origin_pays, copy_statement_pays}
use Rattle.expansion_definition.proofs.PlainPays.{ids_first_lem, copy_field_pays, copy_interface_pays, statement_pays, reserved}
use Rattle.expansion_definition.proofs.InstancePays.{scope_more, Opened, open_is, open_spent, open_sees, Copying, values_pays, body_none, body_first_lem, node_pays}

module _ (I : Input) where
  -- ---- the copier

  module _ (env : Env) (names : List ℕ) (ds : Values) (x i : ℕ) (next : Node → Comp ℕ) (w w' : Steps.World Known) (k : ℕ) (cs : Costs I ds (one env.scope (known env names) i) w w' k) (st : State) (s : Sees I w st.world) where
    mapped_pays : ((node : Node) → node_in_scope I env.entry i ≡ some node → (Mapped w env.scope i → ⊥) → Out (λ o st'. After I w' x st k x st') (next node st))
        → (o : Option ℕ) → lookup st.world.map env.scope i ≡ o → (node : Option Node) → node_in_scope I env.entry i ≡ node → Out (λ o' st'. After I w' x st k x st') (mapped_or env i next o node st)
    unfolding mapped_or
    mapped_pays h (some o) el node en = accepted (after I k x (omega (arith, q.1, cs.is)) (sees_same I q.0 refl s) (spent_still I {x = x} {y = x} st st refl refl))
      where
        q : (w ≡ w') × (of_run I ds cs.run ≡ 0)
        q = mapped_run I ds env.scope (known env names) i w (rw s.mapped (lookup_here st.world.map env.scope i o el)) w' cs.run
    mapped_pays h none el none en = refused tt
    mapped_pays h none el (some node) en = h node en (λ m. lookup_none st.world.map env.scope i el (rw s.mapped at m))

  copy_pays : (left : ℕ) → Copying I (copy I left)
  unfolding copy
  copy_pays zero env names ds hn hs x i w w' k cs st s = mapped_pays env names ds x i _ w w' k cs st s (λ node en un. refused tt) (lookup st.world.map env.scope i) refl (node_at (docs I) (src env) i) refl
  copy_pays (suc left) env names ds hn hs x i w w' k cs st s =
      mapped_pays env names ds x i _ w w' k cs st s (λ node en un. node_pays I (copy I left) (copy_pays left) env names ds hn hs x i node en w w' k cs st s un (proto_of_origin I (src env) node.origin) refl) (lookup st.world.map env.scope i) refl (node_at (docs I) (src env) i) refl

  -- A copy that comes to its end is charged by the list.
  pub copies_charged : CopiesCharged I
  unfolding value_named
  copies_charged left env names hn i o st st' e w w' qm qs r = let a = at_ok (copy_pays left env names (values_or env.is_values) hn (sized env.is_values) 0 i w w' (of_run I (values_or env.is_values) r) (record { run = r; is = refl }) st (record { mapped = qm; scopes = qs })) e in omega (arith, a.spent.paid')
    where
      sized : (vs : Option Values) (t : ℕ) → map_o id_count (and_then vs (value_named t)) ≡ map_o id_count (value_named t (values_or vs))
      sized none t = refl
      sized (some vs) t = refl

  -- ---- the first parts of a node

  sized : (env : Env) → Sized env (values_or env.is_values)
  unfolding value_named
  sized env = go env.is_values
    where
      go : (vs : Option Values) (t : ℕ) → map_o id_count (and_then vs (value_named t)) ≡ map_o id_count (value_named t (values_or vs))
      go none t = refl
      go (some vs) t = refl

  pub row_is : (env : Env) (i : ℕ) (st : State) → Out (λ new st'. (st'.charges ≡ st.charges + 2) × (held I st' ≡ held I st + 2)) (reserve I env i st)
  unfolding reserve reserve_if
  row_is env i st = go (ltb (length st.nodes) I.limits.max_nodes)
    where
      go : (b : Bool) → Out (λ new st'. (st'.charges ≡ st.charges + 2) × (held I st' ≡ held I st + 2)) (reserve_if b I env i st)
      go false = refused tt
      go true = bind_out (charge_is I st) (λ u s1 q1. bind_out (charge_is I s1) (λ u2 s2 q2. accepted (subst (λ (s : State). (s.charges ≡ st.charges + 2) × (held I (add_node env.scope i s) ≡ held I st + 2)) (sym (q2 ∙ ap one_more q1)) (omega arith, omega (arith, sum_append of_node st.nodes (blank_node ∷ []))))))

  module _ (left : ℕ) (env : Env) (names : List ℕ) (hn : Shows env names) where
    abbrev pub ds : Values
    ds = values_or env.is_values

    hc : (x i : ℕ) → Pays I ds (one env.scope (known env names) i) x (copy I left env i) (λ o. x)
    hc x i = copy_pays left env names ds hn (sized env) x i

    pub plain_first_lem : (i : ℕ) (node : Node) (fs : List Field) (is : List InterfaceDecl) (ss : List Statement) (ids : List ℕ) (st : State) (w w' : Steps.World Known) → Sees I w st.world
        → (r : Run (graph I) (all env.scope (known env names) (map copy_id (flat (λ f. binding_ids f.binding) fs ++ (flat (λ d. interface_ids d.is d.value) is ++ ids)))) (add_plain env.scope i w) w')
        → Out (λ x st'. st'.charges + held I st ≡ st.charges + held I st' + (of_contents x + sum_of (λ f. is_in f.binding) fs + sum_of (λ d. is_set d.is) is + length ids) + of_run I ds r) (plain_first I (copy I left env) env i node fs is ss ids st)
    unfolding plain_first
    plain_first_lem i node fs is ss ids st w w' s r =
        bind_out (reserved I (copy I left env) hc env i st) (λ new s1 y. map_out (pays_after I {vs = ds} {n = env.scope} {e = known env names} (copy_origin_pays I 2 env node.origin) (λ og. pays_copies I (flat (λ f. binding_ids f.binding) fs) (flat (λ d. interface_ids d.is d.value) is ++ ids) (map_m_pays I (λ f. binding_ids f.binding) (λ f. is_in f.binding) option_field _ (copy_field_pays I (copy I left env) hc env new) 2 fs)
        (λ fs'. pays_copies I (flat (λ d. interface_ids d.is d.value) is) ids (map_m_pays I (λ d. interface_ids d.is d.value) (λ d. is_set d.is) interface_row_count _ (copy_interface_pays I (copy I left env) hc env new) _ is)
        (λ is'. pays_after I (map_m_still I option_row _ (copy_statement_pays I env) _ ss) (λ ss'. pays_then I (map copy_id ids) (ids_first_lem I (copy I left env) hc _ ids) (λ os. pays_ret I {m = λ x. 2 + of_contents x + sum_of (λ f. is_in f.binding) fs + sum_of (λ d. is_set d.is) is + length ids} _ (omega (arith, somes_fields fs', somes_rows ss')))))))
        (add_plain env.scope i w) w' (of_run I ds r) (record { run = r; is = refl }) s1 (y.sees w s)) (λ x s2 z. omega (arith, y.paid', z.spent.paid')))

    module _ (p : Prototype) (decl : ProtoDecl) (ep : decl_of I p ≡ some decl) (fields : List Field) (is behind : List InterfaceDecl) (eq : decl.interface ≡ is ++ behind) where
      values_first : Pays I ds (all env.scope (known env names) (interface_actions names p fields 0 is)) 0 (values I (copy I left) env p fields 0 is []) (λ vs. size vs + 0)
      values_first = values_pays I (copy I left) (copy_pays left) env names ds hn (sized env) p fields decl ep behind 0 is [] 0 [] (sym eq) refl

      pub given_first_lem : (ids : List ℕ) (st : State) (w w' : Steps.World Known) → Sees I w st.world → (r : Run (graph I) (all env.scope (known env names) (interface_actions names p fields 0 is ++ map copy_id ids)) w w')
          → Out (λ vs st'. st'.charges + held I st ≡ st.charges + held I st' + (size vs + length ids) + of_run I ds r) (given_first I (copy I left) env p fields is ids st)
      unfolding given_first
      given_first_lem ids st w w' s r = map_out (pays_bind I (interface_actions names p fields 0 is) (map copy_id ids) values_first (λ vs. pays_then I (map copy_id ids) (ids_first_lem I (copy I left env) hc (size vs + 0) ids) (λ os. pays_ret I {m = λ vs. length ids + (size vs + 0)} vs refl)) w w' (of_run I ds r) (record { run = r; is = refl }) st s) (λ vs st' z. omega (arith, z.spent.paid'))

      pub default_first_lem : (ids : List ℕ) (st : State) (w w1 w' : Steps.World Known) → Sees I w st.world → (r : Run (graph I) (all env.scope (known env names) (interface_actions names p fields 0 is)) w w1)
          → (q : Run (graph I) (all (count w1) (default_scope p (length is) env.scope) (map copy_id ids)) (add_default (default_scope p (length is) env.scope) w1) w')
          → Out (λ x st'. st'.charges + held I st ≡ st.charges + held I st' + (size x.1 + length ids + of_run I ds r) + of_run I [] q) (default_first I (copy I left) env p fields is ids st)
      unfolding default_first
      default_first_lem ids st w w1 w' s r q = bind_out (values_first w w1 (of_run I ds r) (record { run = r; is = refl }) st s) (λ vs s1 a. bind_out (open_is I b s1)
          (λ m s2 o. bind_out (ids_first_lem I {vs = []} {n = m} {e = e} (copy I left (default_env env p (length is) m)) (copy_pays left (default_env env p (length is) m) [] [] none_shown none_sized) 0 ids (add_default e w1) w' (of_run I [] q) (subst (λ (j : ℕ). (Costs I) [] (all j e (map copy_id ids)) (add_default e w1) w' (of_run I [] q)) (a.sees.scopes ∙ sym o.number) (record { run = q; is = refl })) s2 (open_sees I b s1 s2 m w1 (add_default e w1) e o refl refl a.sees))
          (λ os s3 z. accepted (omega (arith, a.spent.paid', (open_spent I b s1 s2 m 0 0 o refl).paid', z.spent.paid')))))
        where
          b : Scope
          b = Scope.Default p (length is) env.scope

          e : Known
          e = default_scope p (length is) env.scope

    pub body_part : (i : ℕ) (node : Node) (p : Prototype) (decl : ProtoDecl) → decl_of I p ≡ some decl → (ss : List Statement) (st : State)
        → Out (λ x st'. (inside : List ℕ) → Shows (body_env env p x.number x.values) inside → (w v : Steps.World Known) → Sees I w st.world → (r : Run (graph I) (all env.scope (known env names) (interface_actions names p node.fields 0 decl.interface)) w v) → (l : List ℕ) → flat statement_ids ss ≡ l
        → (b : BodyDone I env.scope i (body_scope p inside env.scope) v l) → st'.charges + held I st + of_scope I (Scope.Body p env.scope) ≡ st.charges + held I st' + 1 + size x.values + length l + routes_in ss + of_run I ds r + of_body x.values b) (body_first I (copy I left) env i node p decl ss st)
    unfolding body_first
    body_part i node p decl ep ss st = bind_at (values I (copy I left) env p node.fields 0 decl.interface [] st) (λ vs s1 e1. bind_at (open_scope I (Scope.Body p env.scope) s1) (λ m s2 e2. bind_at (fold_m (body_statement I (copy I left) env i (body_env env p m vs)) (record { root = none; extra_roots = []; routes = [] }) ss s2)
        (λ y s3 e3. accepted (λ inside hi w v s r. whole vs s1 m s2 y s3 inside hi w v r (at_ok (values_first p decl ep node.fields decl.interface [] (sym (append-nil decl.interface)) w v (of_run I ds r) (record { run = r; is = refl }) st s) e1) (at_ok (open_is I (Scope.Body p env.scope) s1) e2) e3))))
      where
        whole : (vs : Values) (s1 : State) (m : ℕ) (s2 : State) (y : Body) (s3 : State) (inside : List ℕ) → Shows (body_env env p m vs) inside → (w v : Steps.World Known) (r : Run (graph I) (all env.scope (known env names) (interface_actions names p node.fields 0 decl.interface)) w v)
            → After I v 0 st (of_run I ds r) (size vs + 0) s1 → Opened I (Scope.Body p env.scope) s1 m s2 → fold_m (body_statement I (copy I left) env i (body_env env p m vs)) (record { root = none; extra_roots = []; routes = [] }) ss s2 ≡ ok y s3
            → (l : List ℕ) → flat statement_ids ss ≡ l → (b : BodyDone I env.scope i (body_scope p inside env.scope) v l) → s3.charges + held I st + of_scope I (Scope.Body p env.scope) ≡ st.charges + held I s3 + 1 + size vs + length l + routes_in ss + of_run I ds r + of_body vs b
        whole vs s1 m s2 y s3 inside hi w v r a o e3 = go
          where
            known' : Known
            known' = body_scope p inside env.scope

            opened : Spent I (of_scope I (Scope.Body p env.scope)) s1 s2 1
            opened = open_spent I (Scope.Body p env.scope) s1 s2 m (of_scope I (Scope.Body p env.scope)) 1 o (omega arith)

            seen : Sees I (add_body env.scope i known' v) s2.world
            seen = open_sees I (Scope.Body p env.scope) s1 s2 m v (add_body env.scope i known' v) known' o refl refl a.sees

            number : count v ≡ m
            number = a.sees.scopes ∙ sym o.number

            go : (l : List ℕ) → flat statement_ids ss ≡ l → (b : BodyDone I env.scope i known' v l) → s3.charges + held I st + of_scope I (Scope.Body p env.scope) ≡ st.charges + held I s3 + 1 + size vs + length l + routes_in ss + of_run I ds r + of_body vs b
            go l q before_root = omega (arith, a.spent.paid', opened.paid', (at_ok (body_none I (copy I left) (copy_pays left) env i (body_env env p m vs) inside vs hi (sized (body_env env p m vs)) ss (record { root = none; extra_roots = []; routes = [] }) refl q 0 (add_body env.scope i known' v) s2 seen) e3).spent.paid')
            go l q (from_root n ns v1 v2 x z) = omega (
              arith,
              a.spent.paid',
              opened.paid',
              (at_ok (body_first_lem I (copy I left) (copy_pays left) env i (body_env env p m vs) inside vs hi (sized (body_env env p m vs)) ss (record { root = none; extra_roots = []; routes = [] }) refl n ns q (add_body env.scope i known' v) v1 v2 (of_run I vs x) (of_run I vs z)
                  (subst (λ (j : ℕ). (Costs I) vs (one j known' n) (add_body env.scope i known' v) v1 (of_run I vs x)) number (record { run = x; is = refl })) (subst (λ (j : ℕ). (Costs I) vs (all j known' (map copy_id ns)) (add_mapped env.scope i v1) v2 (of_run I vs z)) number (record { run = z; is = refl })) 0 s2 seen) e3).spent.paid',
            )

  -- ---- the whole

  -- The charges made for top statements are counted.
  pub tops_counted : (tl : List Statement) (w : Steps.World Known) (r : Run (graph I) (all 0 (graph I).root (map copy_id (flat statement_ids tl))) (first_world (graph I).root) w) → Out (λ l st. st.charges ≡ counted I (expansion I l st) r) (tops I tl start_state)
  unfolding tops
  tops_counted tl w r =
      bind_out (charge_is I start_state) (λ u s1 q1. bind_out (charge_is I s1) (λ v s2 q2. bind_out (open_is I Scope.Root s2)
      (λ n s3 o. bind_out (map_m_pays I {vs = []} {n = 0} {e = (graph I).root} statement_ids (λ s. 0) option_row _ (statement_pays I {vs = []} {n = 0} {e = (graph I).root} (copy I I.limits.max_depth root_env) (copy_pays I.limits.max_depth root_env [] [] none_shown none_sized) root_env) 2 tl (first_world (graph I).root) w (of_run I [] r) (record { run = r; is = refl }) s3 (sees s3 (begun s1 s2 s3 n q1 q2 o)))
      (λ l s4 z. accepted (last l s3 s4 (begun s1 s2 s3 n q1 q2 o) z.spent)))))
    where
      three : State
      three = scope_more I Scope.Root (one_more (one_more (one_more start_state)))

      begun : (s1 s2 s3 : State) (n : ℕ) → s1 ≡ one_more start_state → s2 ≡ one_more s1 → Opened I Scope.Root s2 n s3 → s3 ≡ three
      begun s1 s2 s3 n q1 q2 o = o.is ∙ ap (λ (y : State). (scope_more I) Scope.Root (one_more y)) (q2 ∙ ap one_more q1)

      sees : (s3 : State) → s3 ≡ three → Sees I (first_world (graph I).root) s3.world
      sees s3 q = subst (λ (y : State). (Sees I) (first_world (graph I).root) y.world) (sym q) (record { mapped = refl; scopes = refl })

      none_kept : (l : List Statement) → sum_of (λ (s : Statement). 0) l ≡ 0
      none_kept [] = refl
      none_kept (s ∷ l) = omega (arith, none_kept l)

      last : (l : List (Option Statement)) (s3 s4 : State) → s3 ≡ three → Spent I 2 s3 s4 (of_run I [] r + (sum_of (λ (s : Statement). 0) tl + sum_of option_row l + 2)) → s4.charges ≡ of_output (output I (somes l) s4) + sum_of (of_scope I) s4.world.scopes + of_run I [] r
      last l s3 s4 q p = omega (arith, (subst (λ (y : State). (Spent I) 2 y s4 (of_run I [] r + (sum_of (λ (s : Statement). 0) tl + sum_of option_row l + 2))) q p).paid', none_kept tl, somes_rows l)

  -- The charges of an accepted expansion are counted.
  pub charges_counted : (w : Steps.World Known) (r : WholeRun (graph I) w) → Out (λ l st. st.charges ≡ counted I (expansion I l st) r) (statements I start_state)
  unfolding statements tops
  charges_counted w r = tops_counted I.root.statements w r
