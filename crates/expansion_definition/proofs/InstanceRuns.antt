-- An instance: its values, its body and its record are a run, or stop on the way.
use mathlib.Core.Path.{◌≡◌, refl, ap, sym, ◌∙◌, subst}
use mathlib.Core.List.Memᴰ
use mathlib.Core.List.{List, [], ◌∷◌, ◌++◌, map, append_assoc, append-nil, Memᴰ}
use mathlib.Core.Logic.{◌⊎◌, inl, inr}
use mathlib.Core.Option.{Option, none, some}
use Prim.Native.Nat.{ℕ, suc}
use native.Mathlib.Omega.{arith}
use lib.ListN.{length, get_elem?, length-append}
use Rattle.ast.proofs.Basics.{map_append}
use Rattle.ast.specs.Ast.{FieldValue, FieldBinding, Field, InterfaceDecl, Route, Statement, Node, ProtoDecl}
use Rattle.ast.specs.Choice.{and_then}
use Rattle.pick_definition.specs.Picks.{Prototype}
use Rattle.expansion_steps.specs.Steps.{instance_node, copy_id, add_mapped, add_default, add_body, Mapped, Task, one, all, Run}
use Rattle.expansion_steps.proofs.Depth.{Within, instance_within, no_within, copy_within, default_within, within_run, append_within}
use Rattle.expansion_steps.specs.Places.{Comes, here, in_values, in_root, in_others, in_copy, in_default}
use Rattle.expansion_steps.specs.Steps
use Rattle.expansion_definition.specs.Input.{Input, proto_of_origin, last_field}
use Rattle.expansion_definition.specs.Scopes.{Scope}
use Rattle.ast.specs.Lists.{flat}
use Rattle.ast.specs.Ids.{data_ids, option_ids, statement_ids}
use Rattle.expansion_definition.specs.State.{Bookkeeping, State, bind_r, ◌>>=◌, fold_m}
use Rattle.expansion_definition.specs.Charges.{charge, paid}
use Rattle.expansion_definition.specs.Values.{Values, value_named, Env, src, Copier}
use Rattle.expansion_definition.specs.Instances.{push_scope, open_scope, take_default, clone_or, interface_value, values, Body, place, body_statement, root_of, record_instance, instantiate}
use Rattle.expansion_definition.specs.Reached.{Known, known_entry, body_ids, default_ids, decl_of, gives, is_given, name_if_valued, body_names, body_scope, default_scope, default_action, value_actions, interface_actions, instance_actions, graph}
use Rattle.expansion_definition.specs.Until.{before_root, from_root}
use Rattle.expansion_definition.specs.Expanded.{InstanceAt, Dangling, four_body, six, seven}
use Rattle.expansion_definition.proofs.Outcome.{Outcome, refused, accepted, bind_out, then_out, turn_out, both}
use Rattle.expansion_definition.proofs.Names.{Shows, known, none_shown, values_shown}
use Rattle.expansion_definition.proofs.Worlds.{Unseen, see, with_scope, with_opener, Valid, Same, same_then, itself, Short, rows, extern, keep_ret, keep_bind, charge_keep, clone_keep, extern_proto_keep, store_keep, record_instance_keep, extern_fine, StatementFine, AllFine, none_fine, cons_fine, first_dangling, later_dangling}
use Rattle.expansion_definition.proofs.Running.{Fits, fits_from, count_is, Fair, Ran, Stop, own, fault, overcharged, shift, deeper, ListStop, in_list, at_extern, first_stop_lem, later_stop_lem, Runs, upto, keep_then, then_keep, no_run, then_run, value_run}
use Rattle.expansion_definition.proofs.PlainRuns.{Copying, Node', kind_is, actions_are}

module _ (I : Input) where
  -- ---- instances

  -- a scope is opened
  pub record Opens (e : Scope) (st : State) (n : ℕ) (st' : State) : Type 0 where
    pub number : n ≡ length st.world.scopes
    pub after : st'.world ≡ record { map = st.world.map; ledger = st.world.ledger; scopes = st.world.scopes ++ (e ∷ []) }
    pub size : length st'.nodes ≡ length st.nodes
    pub valid : Valid I st → Valid I st'

  -- A scope is opened at the end of the list.
  pub open_scope_world : {d : ℕ} {X : ℕ → Type 0} (e : Scope) (st : State) → Outcome (Short I d X) (λ n st'. Opens e st n st') (open_scope I e st)
  unfolding open_scope push_scope
  open_scope_world e st = bind_out (charge_keep I st) (λ u s q. accepted (record { number = ap (λ (w : Bookkeeping). length w.scopes) q.world; after = ap (λ (w : Bookkeeping). record { map = w.map; ledger = w.ledger; scopes = w.scopes ++ (e ∷ []) }) q.world; size = q.size; valid = q.valid }))

  -- The state has its entry.
  pub opened_fits : (s : Known) (g : Unseen) (st : State) (n : ℕ) (st' : State) → Fits I g st → Opens s.entry st n st' → Fits I (with_scope s g) st'
  opened_fits s g st n st' ft q = record {
    entries = map_append known_entry g.scopes (s ∷ []) ∙ ap (λ (l : List Scope). l ++ (s.entry ∷ [])) ft.entries ∙ ap (λ (x : Bookkeeping). x.scopes) (sym q.after);
    listed = q.size ∙ ft.listed ∙ ap (λ (x : Bookkeeping). length x.ledger) (sym q.after);
    room = rw q.size ft.room;
    valid = q.valid ft.valid;
  }

  -- A default, in its own scope, if there is one.
  take_default_run : {left d : ℕ} {X : ℕ → Type 0} (f : Env → Copier) → Copying I left f → (n : ℕ) (e : Known) (p : Prototype) (k : ℕ) (v : Option FieldValue) → default_ids k (decl_of I p) ≡ option_ids v → Runs I left d X (all n e (default_action (default_scope p k) v)) (take_default I f (Scope.Default p k n) v)
  unfolding take_default
  take_default_run f hf n e p k none eb g st ft = accepted (record { after = g; fits = ft; run = no_within })
  take_default_run {left} {d} {X} f hf n e p k (some v) eb g st ft =
      then_out (open_scope_world b.entry st) (λ c y x r. own r) (λ m s1 q. then_out (value_run I m b (f (denv m)) (hf d X (denv m) [] none_shown) v (with_scope b g) s1 (opened_fits b g st m s1 ft q))
      (shift I (λ k' m' s j u y. in_default (default_scope p k) refl (inner (λ t w. Comes (graph I) t w k' m' s j u) m s1 (q.number ∙ count_is I g st ft) q.after y)))
      (λ v' s2 r. accepted (record { after = r.after; fits = r.fits; run = default_within (default_scope p k) refl (inner (λ t w. Within (graph I) (Fair I) left t w (see r.after s2.world)) m s1 (q.number ∙ count_is I g st ft) q.after r.run) no_within })))
    where
      b : Known
      b = default_scope p k n

      denv : ℕ → Env
      denv m = record { scope = m; entry = b.entry; is_values = none }

      inner : (P : Task Known → Steps.World Known → Type 0) (m : ℕ) (s1 : State) → m ≡ length g.scopes → s1.world ≡ record { map = st.world.map; ledger = st.world.ledger; scopes = st.world.scopes ++ (b.entry ∷ []) }
          → P (all m b (map copy_id (data_ids v.«data»))) (see (with_scope b g) s1.world) → P (all (length g.scopes) b (map copy_id (default_ids k (decl_of I p)))) (add_default b (see g st.world))
      inner P m s1 em ew r =
          rw eb (subst (λ (x : ℕ). P (all x b (map copy_id (data_ids v.«data»))) (add_default b (see g st.world))) em (subst (λ (x : Bookkeeping). P (all m b (map copy_id (data_ids v.«data»))) (see (with_scope b g) x)) ew r))

  -- The value of one interface: a default is taken exactly where the field gives none.
  interface_value_run : {left d : ℕ} {X : ℕ → Type 0} (f : Env → Copier) → Copying I left f → (env : Env) (names : List ℕ) → Shows env names → (p : Prototype) (k : ℕ) (default : Option FieldValue) → default_ids k (decl_of I p) ≡ option_ids default → (given : Option FieldBinding)
      → Runs I left d X (all env.scope (known env names) (value_actions (gives names given) (default_scope p k) default given)) (interface_value I f env (Scope.Default p k env.scope) default given)
  unfolding interface_value clone_or
  interface_value_run {d = d} {X} f hf env names hn p k default eb (some (FieldBinding.Value v)) = then_keep I (value_run I env.scope (known env names) (f env) (hf d X env names hn) v) (λ v'. keep_ret I _)
  interface_value_run {left} {d} {X} f hf env names hn p k default eb (some (FieldBinding.Is t)) = rw (hn t) (is (and_then env.is_values (value_named t)))
    where
      is : (o : Option FieldValue) → Runs I left d X (all env.scope (known env names) (value_actions (is_given o) (default_scope p k) default (some (FieldBinding.Is t)))) (clone_or I (take_default I f (Scope.Default p k env.scope) default) o)
      is none = take_default_run f hf env.scope (known env names) p k default eb
      is (some v) = no_run I env.scope (known env names) (keep_bind I (clone_keep I v) (λ a. keep_ret I _))
  interface_value_run f hf env names hn p k default eb none = take_default_run f hf env.scope (known env names) p k default eb

  -- The element behind a list stands at its length.
  pub at_length : {A : Type 0} (l : List A) (x : A) (r : List A) → get_elem? (l ++ (x ∷ r)) (length l) ≡ some x
  at_length [] x r = refl
  at_length (y ∷ l) x r = at_length l x r

  -- pre, post: the interfaces before and behind these
  pub values_run : {left d : ℕ} {X : ℕ → Type 0} (f : Env → Copier) → Copying I left f → (env : Env) (names : List ℕ) → Shows env names → (p : Prototype) (fields : List Field) (decl : ProtoDecl) → decl_of I p ≡ some decl → (post l pre : List InterfaceDecl) (k : ℕ) (vs : Values) → pre ++ (l ++ post) ≡ decl.interface → length pre ≡ k
      → Runs I left d X (all env.scope (known env names) (interface_actions names p fields k l)) (values I f env p fields k l vs)
  unfolding values
  values_run f hf env names hn p fields decl ep post [] pre k vs el ek = no_run I env.scope (known env names) (keep_ret I vs)
  values_run f hf env names hn p fields decl ep post (d ∷ l) pre k vs el ek =
      then_run I env.scope (known env names) (interface_value_run f hf env names hn p k d.value ids (last_field d.name fields))
      (λ v. keep_then I (store_keep I d.name vs v) (λ vs'. values_run f hf env names hn p fields decl ep post l (pre ++ (d ∷ [])) (suc k) vs' (append_assoc pre (d ∷ []) (l ++ post) ∙ el) (omega (arith, length-append pre (d ∷ [])))))
    where
      this : get_elem? decl.interface k ≡ some d
      this = rw (← el, ← ek) (at_length pre d (l ++ post))

      ids : default_ids k (decl_of I p) ≡ option_ids d.value
      ids = ap (default_ids k) ep ∙ ap (λ (x : Option InterfaceDecl). option_ids (and_then x (λ y. y.value))) this

  -- ---- the body of the instance i of env's scope, in the scope inner, where these names have a value

  module _ (left : ℕ) (f : Env → Copier) (hf : Copying I left f) (env : Env) (i : ℕ) (inner : Env) (names : List ℕ) (hn : Shows inner names) where
    -- a charge too many
    abbrev pub Own : ℕ → ℕ → ℕ → Type 0
    Own c d x = Short I (src inner) (λ y. ⊥) c d x

    -- a statement that is no Node leaves the root and the world as they are
    record Passed (root : Option ℕ) (st : State) (b : Body) (st' : State) : Type 0 where
      root' : b.root ≡ root
      same : Same I st st'

    -- An ExternProto statement of a body.
    extern_body : (x : ℕ) (b : Body) (root : Option ℕ) → b.root ≡ root → (st : State) → Valid I st → Outcome (Short I (src inner) (λ y. Statement.ExternProto x ≡ Statement.ExternProto y)) (λ c st'. Passed root st c st' × StatementFine I (src inner) (Statement.ExternProto x)) (body_statement I f env i inner b (Statement.ExternProto x) st)
    unfolding body_statement
    extern_body x b root q st v = bind_out (both _ (extern_proto_keep I inner refl x refl st) (extern_fine I inner x st v)) (λ m s1 h. accepted (record { root' = q; same = h.0 }, λ y r. let e : x ≡ y = cc in rw (← e) h.1))

    -- A Route of a body.
    route_body : {X : ℕ → Type 0} (r : Route) (b : Body) (root : Option ℕ) → b.root ≡ root → (st : State) → Outcome (Short I (src inner) X) (λ c st'. Passed root st c st') (body_statement I f env i inner b (Statement.Route r) st)
    unfolding body_statement paid bind_r
    route_body r b root q st = bind_out (charge_keep I st) (λ m s1 h. accepted (record { root' = q; same = h }))

    abbrev pub Others : List ℕ → Task Known
    Others l = all inner.scope (known inner names) (map copy_id l)

    -- once the root stands, the body copies its other Nodes
    record More (o : ℕ) (l : List ℕ) (F : Type 0) (g : Unseen) (st : State) (b : Body) (st' : State) : Type 0 where
      root : b.root ≡ some o
      ran : Ran I left (Others l) g st st'
      fine : F

    -- A further Node of a body is no new root.
    place_more : {X : ℕ → Type 0} (o new : ℕ) (b : Body) (root : Option ℕ) → root ≡ some o → (st : State) → Outcome (Short I (src inner) X) (λ c st'. Passed (some o) st c st') (place I env i new b root st)
    unfolding place paid bind_r
    place_more o new b none q st = absurd (let z : ◌≡◌ {A = ℕ} 0 1 = cc in omega arith)
    place_more o new b (some root) q st = bind_out (charge_keep I st) (λ u s1 h. accepted (record { root' = q; same = h }))

    -- A statement that is no Node copies nothing.
    passed_more : {o : ℕ} {F : Type 0} {g : Unseen} {st st' : State} {b : Body} → Fits I g st → F → Passed (some o) st b st' → More o [] F g st b st'
    passed_more {g = g} ft k h = record { fine = k; root = h.root'; ran = upto I h.same (record { after = g; fits = ft; run = no_within }) }

    -- One statement, once the root stands.
    statement_more : (o : ℕ) (b : Body) → b.root ≡ some o → (s : Statement) (g : Unseen) (st : State) → Fits I g st → Outcome (Stop I left (src inner) (λ y. s ≡ Statement.ExternProto y) (Others (statement_ids s)) (see g st.world)) (λ c st'. More o (statement_ids s) (StatementFine I (src inner) s) g st c st') (body_statement I f env i inner b s st)
    unfolding body_statement
    statement_more o b q (Statement.Node j) g st ft =
        then_out (hf (src inner) (λ y. Statement.Node j ≡ Statement.ExternProto y) inner names hn j g st ft) (shift I (λ k m s i' v y. in_copy y)) (λ new s1 r. turn_out (place_more o new b b.root q s1) (λ c d x y. own y) (λ c s2 h. record { fine = λ x q. absurd (let z : ◌≡◌ {A = ℕ} 0 1 = cc in omega arith); root = h.root'; ran = upto I h.same (record { after = r.after; fits = r.fits; run = copy_within r.run no_within }) }))
    statement_more o b q (Statement.Proto p) g st ft = accepted (passed_more ft (λ x y. absurd (let z : ◌≡◌ {A = ℕ} 0 1 = cc in omega arith)) (record { root' = q; same = itself I st }))
    statement_more o b q (Statement.ExternProto x) g st ft = turn_out (extern_body x b (some o) q st ft.valid) (λ c d x y. own y) (λ c s h. passed_more ft h.1 h.0)
    statement_more o b q (Statement.Route r) g st ft = turn_out (route_body r b (some o) q st) (λ c d x y. own y) (λ c s h. passed_more ft (λ x y. absurd (let z : ◌≡◌ {A = ℕ} 0 1 = cc in omega arith)) h)
    statement_more o b q (Statement.Other p) g st ft = accepted (passed_more ft (λ x y. absurd (let z : ◌≡◌ {A = ℕ} 0 1 = cc in omega arith)) (record { root' = q; same = itself I st }))

    -- The statements left, once the root stands.
    body_more : (o : ℕ) (b : Body) → b.root ≡ some o → (l : List Statement) (g : Unseen) (st : State) → Fits I g st → Outcome (ListStop I left inner.scope (known inner names) (src inner) l (see g st.world)) (λ c st'. More o (flat statement_ids l) (AllFine I (src inner) l) g st c st') (fold_m (body_statement I f env i inner) b l st)
    unfolding fold_m
    body_more o b q [] g st ft = accepted (record { fine = none_fine I (src inner); root = q; ran = record { after = g; fits = ft; run = no_within } })
    body_more o b q (s ∷ l) g st ft =
        then_out (statement_more o b q s g st ft) (first_stop_lem I s l)
        (λ c s1 h. turn_out (body_more o c h.root l h.ran.after s1 h.ran.fits) (later_stop_lem I s l h.fine (within_run h.ran.run)) (λ c' s2 k. record {
          fine = cons_fine I (src inner) h.fine k.fine;
          root = k.root;
          ran = record { after = k.ran.after; fits = k.ran.fits; run = rw map_append (append_within h.ran.run k.ran.run) };
        }))

    -- the first Node of the body: its copy, then the instance's map entry
    record FirstNode (j : ℕ) (g : Unseen) (st : State) (b : Body) (st' : State) : Type 0 where
      out : ℕ
      root : b.root ≡ some out
      mid : Bookkeeping
      after : Unseen
      fits : Fits I after st'
      run : Within (graph I) (Fair I) left (one inner.scope (known inner names) j) (see g st.world) (see after mid)
      mapped : see after st'.world ≡ add_mapped env.scope i (see after mid)

    -- The first Node is the root, and the instance is mapped.
    place_first : (j new : ℕ) (b : Body) (root : Option ℕ) → root ≡ none → (g : Unseen) (w st : State) → Ran I left (one inner.scope (known inner names) j) g w st → Outcome Own (λ c st'. FirstNode j g w c st') (place I env i new b root st)
    unfolding place
    place_first j new b (some root) q g w st r = absurd (let z : ◌≡◌ {A = ℕ} 0 1 = cc in omega arith)
    place_first j new b none q g w st r =
        bind_out (charge_keep I st) (λ u s1 h. accepted (record {
          out = new;
          root = refl;
          mid = st.world;
          after = r.after;
          fits = let k : Fits I r.after s1 = fits_from I r.after h r.fits in record { entries = k.entries; listed = k.listed; room = k.room; valid = k.valid };
          run = r.run;
          mapped = ap (λ (x : Bookkeeping). add_mapped env.scope i (see r.after x)) h.world;
        }))

    -- a body that has a root: its first Node, the instance's map entry, its other Nodes
    pub record Rooted (l : List ℕ) (g : Unseen) (st st' : State) : Type 0 where
      pub r : ℕ
      pub rs : List ℕ
      pub mid : Bookkeeping
      pub between : Unseen
      pub after : Unseen
      pub fits : Fits I after st'
      pub ids : l ≡ r ∷ rs
      pub first : Within (graph I) (Fair I) left (one inner.scope (known inner names) r) (see g st.world) (see between mid)
      pub others : Within (graph I) (Fair I) left (Others rs) (add_mapped env.scope i (see between mid)) (see after st'.world)

    -- The same, from an equal world.
    rooted_from : {l : List ℕ} {g : Unseen} {u v w : State} → Same I u v → Rooted l g v w → Rooted l g u w
    rooted_from {g = g} q x = record { r = x.r; rs = x.rs; mid = x.mid; between = x.between; after = x.after; fits = x.fits; ids = x.ids; first = subst (λ (y : Bookkeeping). Within (graph I) (Fair I) left (one inner.scope (known inner names) x.r) (see g y) (see x.between x.mid)) q.world x.first; others = x.others }

    pub data BodyRan (l : List ℕ) (F : Type 0) (g : Unseen) (st : State) (b : Body) (st' : State) : Type 0 where
      rootless : b.root ≡ none → l ≡ [] → F → BodyRan l F g st b st'
      rooted : (o : ℕ) → b.root ≡ some o → F → Rooted l g st st' → BodyRan l F g st b st'

    -- The same of any body.
    ran_from : {l : List ℕ} {E F : Type 0} {g : Unseen} {u v w : State} {b : Body} → (E → F) → Same I u v → BodyRan l E g v b w → BodyRan l F g u b w
    ran_from k q (rootless h e y) = rootless h e (k y)
    ran_from k q (rooted o h y x) = rooted o h (k y) (rooted_from q x)

    -- what stops a body: a charge; a dangling ExternProto statement before the first Node; the first Node; another; or a dangling statement behind the first Node
    pub data BodyStop (l : List Statement) (w : Steps.World Known) : ℕ → ℕ → ℕ → Type 0 where
      own_stop : {c d x : ℕ} → Own c d x → BodyStop l w c d x
      extern_stop : (x : ℕ) (h : Dangling I (src inner) l x) → flat statement_ids h.before ≡ [] → BodyStop l w 4 (src inner) x
      first_stop : {c d x : ℕ} (r : ℕ) (rs : List ℕ) → flat statement_ids l ≡ r ∷ rs → Stop I left (src inner) (λ y. ⊥) (one inner.scope (known inner names) r) w c d x → BodyStop l w c d x
      other_stop : {c d x : ℕ} (r : ℕ) (rs : List ℕ) → flat statement_ids l ≡ r ∷ rs → (mid : Steps.World Known) → Run (graph I) (one inner.scope (known inner names) r) w mid → Stop I left (src inner) (λ y. ⊥) (Others rs) (add_mapped env.scope i mid) c d x → BodyStop l w c d x
      later_stop : (x : ℕ) (h : Dangling I (src inner) l x) (r : ℕ) (rs : List ℕ) → flat statement_ids h.before ≡ r ∷ rs → (mid v : Steps.World Known) → Run (graph I) (one inner.scope (known inner names) r) w mid → Run (graph I) (Others rs) (add_mapped env.scope i mid) v → BodyStop l w 4 (src inner) x

    -- Behind a statement that is no Node, from an equal world.
    behind : (s : Statement) (l : List Statement) → statement_ids s ≡ [] → StatementFine I (src inner) s → (g : Unseen) {u v : State} → Same I u v → (c d x : ℕ) → BodyStop l (see g v.world) c d x → BodyStop (s ∷ l) (see g u.world) c d x
    behind s l e f g {u} {v} q c d x r = subst (λ (y : Bookkeeping). BodyStop (s ∷ l) (see g y) c d x) q.world (go r)
      where
        same : (k : List Statement) → flat statement_ids (s ∷ k) ≡ flat statement_ids k
        same k = ap (λ (y : List ℕ). y ++ flat statement_ids k) e

        go : {c d x : ℕ} → BodyStop l (see g v.world) c d x → BodyStop (s ∷ l) (see g v.world) c d x
        go (own_stop y) = own_stop y
        go (extern_stop x h z) = extern_stop x (later_dangling I f h) (same h.before ∙ z)
        go (first_stop r rs z y) = first_stop r rs (same l ∙ z) y
        go (other_stop r rs z mid a y) = other_stop r rs (same l ∙ z) mid a y
        go (later_stop x h r rs z mid w a y) = later_stop x (later_dangling I f h) r rs (same h.before ∙ z) mid w a y

    -- Behind the first Node.
    behind_first : (j : ℕ) (l : List Statement) (w mid : Steps.World Known) → Run (graph I) (one inner.scope (known inner names) j) w mid → (c d x : ℕ) → ListStop I left inner.scope (known inner names) (src inner) l (add_mapped env.scope i mid) c d x → BodyStop (Statement.Node j ∷ l) w c d x
    behind_first j l w mid a c d x (in_list y) = other_stop j (flat statement_ids l) refl mid a y
    behind_first j l w mid a c d x (at_extern y h v k) = later_stop y (later_dangling I (λ x q. absurd (let z : ◌≡◌ {A = ℕ} 0 1 = cc in omega arith)) h) j (flat statement_ids h.before) refl mid v a k

    -- A body from its start on.
    pub body_first_lem : (b : Body) → b.root ≡ none → (l : List Statement) (g : Unseen) (st : State) → Fits I g st → Outcome (BodyStop l (see g st.world)) (λ c st'. BodyRan (flat statement_ids l) (AllFine I (src inner) l) g st c st') (fold_m (body_statement I f env i inner) b l st)
    unfolding fold_m body_statement bind_r
    body_first_lem b q [] g st ft = accepted (rootless q refl (none_fine I (src inner)))
    body_first_lem b q (Statement.Node j ∷ l) g st ft =
        bind_out (then_out (hf (src inner) (λ y. ⊥) inner names hn j g st ft) (λ c d x y. first_stop j (flat statement_ids l) refl y) (λ new s1 r. turn_out (place_first j new b b.root q g st s1 r) (λ c d x y. own_stop y) (λ c s2 h. h))) (λ c s2 h. turn_out (body_more h.out c h.root l h.after s2 h.fits)
        (λ c' d x y. behind_first j l (see g st.world) (see h.after h.mid) (within_run h.run) c' d x (rw h.mapped at y))
        (λ c' s3 k. rooted h.out k.root (cons_fine I (src inner) (λ x y. absurd (let z : ◌≡◌ {A = ℕ} 0 1 = cc in omega arith)) k.fine) (record { r = j; rs = flat statement_ids l; mid = h.mid; between = h.after; after = k.ran.after; fits = k.ran.fits; ids = refl; first = h.run; others = rw h.mapped at k.ran.run })))
    body_first_lem b q (Statement.Proto p ∷ l) g st ft = turn_out (body_first_lem b q l g st ft) (behind (Statement.Proto p) l refl no_extern g (itself I st)) (λ c s k. ran_from (λ y. cons_fine I (src inner) no_extern y) (itself I st) k)
      where
        no_extern : StatementFine I (src inner) (Statement.Proto p)
        no_extern x q = absurd (let z : ◌≡◌ {A = ℕ} 0 1 = cc in omega arith)
    body_first_lem b q (Statement.ExternProto x ∷ l) g st ft =
        then_out (extern_body x b none q st ft.valid) dangles (λ c s1 h. turn_out (body_first_lem c h.0.root' l g s1 (fits_from I g h.0.same ft)) (behind (Statement.ExternProto x) l refl h.1 g h.0.same) (λ c' s2 k. ran_from (λ y. cons_fine I (src inner) h.1 y) h.0.same k))
      where
        dangles : (c d y : ℕ) → Short I (src inner) (λ z. Statement.ExternProto x ≡ Statement.ExternProto z) c d y → BodyStop (Statement.ExternProto x ∷ l) (see g st.world) c d y
        dangles c d y rows = own_stop rows
        dangles c d y (extern z q e) = extern_stop z (first_dangling I (Statement.ExternProto x) l z q e) refl
    body_first_lem b q (Statement.Route r ∷ l) g st ft =
        then_out (route_body r b none q st) (λ c d y r. own_stop r) (λ c s1 h. turn_out (body_first_lem c h.root' l g s1 (fits_from I g h.same ft)) (behind (Statement.Route r) l refl no_extern g h.same) (λ c' s2 k. ran_from (λ y. cons_fine I (src inner) no_extern y) h.same k))
      where
        no_extern : StatementFine I (src inner) (Statement.Route r)
        no_extern x q = absurd (let z : ◌≡◌ {A = ℕ} 0 1 = cc in omega arith)
    body_first_lem b q (Statement.Other p ∷ l) g st ft = turn_out (body_first_lem b q l g st ft) (behind (Statement.Other p) l refl no_extern g (itself I st)) (λ c s k. ran_from (λ y. cons_fine I (src inner) no_extern y) (itself I st) k)
      where
        no_extern : StatementFine I (src inner) (Statement.Other p)
        no_extern x q = absurd (let z : ◌≡◌ {A = ℕ} 0 1 = cc in omega arith)

  -- A body that starts from no id has no Node statement.
  no_node : (l : List Statement) → flat statement_ids l ≡ [] → (j : ℕ) → Memᴰ (Statement.Node j) l → ⊥
  no_node l q j m = Memᴰ.not-nil (rw q at (in_flat l m))
    where
      in_flat : (l : List Statement) → Memᴰ (Statement.Node j) l → Memᴰ j (flat statement_ids l)
      in_flat [] m = absurd (Memᴰ.not-nil m)
      in_flat (s ∷ l) m = at (in_flat l) (Memᴰ.cases_cons m)
        where
          at : (Memᴰ (Statement.Node j) l → Memᴰ j (flat statement_ids l)) → (Statement.Node j ≡ s) ⊎ Memᴰ (Statement.Node j) l → Memᴰ j (statement_ids s ++ flat statement_ids l)
          at k (inl e) = subst (λ (x : Statement). Memᴰ j (statement_ids x ++ flat statement_ids l)) e (Memᴰ.head refl)
          at k (inr h) = Memᴰ.append_right (statement_ids s) (k h)

  -- An instance.
  pub instantiate_run : (left : ℕ) (f : Env → Copier) → Copying I left f → (d : ℕ) (X : ℕ → Type 0) (env : Env) (names : List ℕ) → Shows env names → (i : ℕ) (node : Node) (p : Prototype) → Node' I env i node (some p) → (g : Unseen) (st : State) → Fits I g st → (Mapped (see g st.world) env.scope i → ⊥)
      → (decl : Option ProtoDecl) → decl_of I p ≡ decl → Outcome (Stop I (suc left) d X (one env.scope (known env names) i) (see g st.world)) (λ o st'. Ran I (suc left) (one env.scope (known env names) i) g st st') (instantiate I f env i node p decl st)
  unfolding instantiate root_of bind_r
  instantiate_run left f hf d X env names hn i node p h g st ft un none ep = refused (fault here un (omega arith) (six p (record { node = node; there = h.there; instance = h.proto }) ep))
  instantiate_run left f hf d X env names hn i node p h g st ft un (some decl) ep =
      then_out (both _ (values_run {d = d} {X = X} f hf env names hn p node.fields decl ep [] decl.interface [] 0 [] (append-nil decl.interface) refl g st ft) (values_shown I f env names hn p node.fields decl.interface st))
      (deeper I {t = all env.scope (known env names) (interface_actions names p node.fields 0 decl.interface)} {w = see g st.world} (λ k m s j v y. in_values (body_scope p ns) un kind (rw acts y)) charged)
      (λ vs s1 x. then_out (open_scope_world b.entry s1) charged
      (λ n s2 q. then_out (body_first_lem left f hf env i (inner n vs) ns x.1 (record { root = none; extra_roots = []; routes = [] }) refl decl.body (begun s1 x.0) s2 (opener_fits (opened_fits b x.0.after s1 n s2 x.0.fits q)))
      (stops n vs x.1 s1 s2 x.0 q)
      (λ c s3 rb. last n vs x.1 s1 s2 x.0 q c s3 rb c.root refl)))
    where
      Target : ℕ → ℕ → ℕ → Type 0
      Target c f x = Stop I (suc left) d X (one env.scope (known env names) i) (see g st.world) c f x

      at : InstanceAt I (known env names) i p
      at = record { node = node; there = h.there; instance = h.proto }

      ns : List ℕ
      ns = flat (name_if_valued names node.fields) decl.interface

      b : Known
      b = body_scope p ns env.scope

      inner : ℕ → Values → Env
      inner n vs = record { scope = n; entry = b.entry; is_values = some vs }

      acts : (graph I).actions (known env names) i ≡ interface_actions names p node.fields 0 decl.interface
      acts = actions_are I env names i node (some p) h ∙ ap (instance_actions names p node.fields) ep

      kind : (graph I).kind (known env names) i ≡ instance_node (body_scope p ns)
      kind = kind_is I env names i node (some p) h ∙ ap (λ (x : Option ProtoDecl). instance_node (body_scope p (body_names names node.fields x))) ep

      Valued : State → Type 0
      Valued s1 = Ran I left (all env.scope (known env names) (interface_actions names p node.fields 0 decl.interface)) g st s1

      -- the instance is the opener of its body's scope
      begun : (s1 : State) → Valued s1 → Unseen
      begun s1 rv = with_opener env.scope i (with_scope b rv.after)

      opener_fits : {u : Unseen} {s : State} → Fits I u s → Fits I (with_opener env.scope i u) s
      opener_fits k = record { entries = k.entries; listed = k.listed; room = k.room; valid = k.valid }

      vals : (s1 : State) (rv : Valued s1) → Within (graph I) (Fair I) left (all env.scope (known env names) ((graph I).actions (known env names) i)) (see g st.world) (see rv.after s1.world)
      vals s1 rv = rw acts rv.run

      starts : {r : ℕ} {rs : List ℕ} → flat statement_ids decl.body ≡ r ∷ rs → body_ids (decl_of I p) ≡ r ∷ rs
      starts q = ap body_ids ep ∙ q

      -- a task of the body, in the world that it starts from
      enter : (P : Task Known → Steps.World Known → Type 0) (n : ℕ) (s1 s2 : State) (rv : Valued s1) → Opens b.entry s1 n s2 → (r : ℕ) → P (one n b r) (see (begun s1 rv) s2.world) → P (one (length rv.after.scopes) b r) (add_body env.scope i b (see rv.after s1.world))
      enter P n s1 s2 rv q r y =
          subst (λ (m : ℕ). P (one m b r) (add_body env.scope i b (see rv.after s1.world))) (q.number ∙ count_is I rv.after s1 rv.fits) (subst (λ (w : Bookkeeping). P (one n b r) (see (begun s1 rv) w)) q.after y)

      renumber : (P : Task Known → Type 0) (n : ℕ) (s1 s2 : State) (rv : Valued s1) → Opens b.entry s1 n s2 → (rs : List ℕ) → P (all n b (map copy_id rs)) → P (all (length rv.after.scopes) b (map copy_id rs))
      renumber P n s1 s2 rv q rs y = subst (λ (m : ℕ). P (all m b (map copy_id rs))) (q.number ∙ count_is I rv.after s1 rv.fits) y

      -- a charge too many is the instance's
      charged : (c f x : ℕ) → Short I d X c f x → Target c f x
      charged c f x rows = overcharged here un (omega arith) node h.there
      charged c f x (extern y m e) = own (extern y m e)

      -- the body's own charges
      mine : (c f x : ℕ) → Short I p.document (λ y. ⊥) c f x → Target c f x
      mine c f x rows = overcharged here un (omega arith) node h.there
      mine c f x (extern y none_is e) = absurd none_is

      -- where the body stops, the instance does
      stops : (n : ℕ) (vs : Values) (hv : Shows (inner n vs) ns) (s1 s2 : State) (rv : Valued s1) → Opens b.entry s1 n s2
          → (c e x : ℕ) → BodyStop left f hf env i (inner n vs) ns hv decl.body (see (begun s1 rv) s2.world) c e x → Target c e x
      stops n vs hv s1 s2 rv q c e x (own_stop r) = mine c e x r
      stops n vs hv s1 s2 rv q c e x (extern_stop y k z) = fault here un (omega arith) (four_body p at decl ep (see rv.after s1.world) (within_run (vals s1 rv)) y k (body_scope p ns) kind (rw z before_root))
      stops n vs hv s1 s2 rv q c e x (first_stop r rs z y) = deeper I (λ k m s j v u. in_root (body_scope p ns) r rs un kind refl (starts z) (within_run (vals s1 rv)) (enter (λ t w. Comes (graph I) t w k m s j v) n s1 s2 rv q r u)) mine c e x y
      stops n vs hv s1 s2 rv q c e x (other_stop r rs z mid a y) =
          deeper I (λ k m s j v u. in_others (body_scope p ns) r rs un kind refl (starts z) (within_run (vals s1 rv)) (enter (λ t w. Run (graph I) t w mid) n s1 s2 rv q r a) (renumber (λ t. Comes (graph I) t (add_mapped env.scope i mid) k m s j v) n s1 s2 rv q rs u)) mine c e x y
      stops n vs hv s1 s2 rv q c e x (later_stop y k r rs z mid v a u) = fault here un (omega arith) (four_body p at decl ep (see rv.after s1.world) (within_run (vals s1 rv)) y k (body_scope p ns) kind (rw z (from_root r rs mid v (enter (λ t w. Run (graph I) t w mid) n s1 s2 rv q r a) (renumber (λ t. Run (graph I) t (add_mapped env.scope i mid) v) n s1 s2 rv q rs u))))

      -- the values, the scope, the body
      fair : AllFine I p.document decl.body → Fair I (known env names) i
      fair fb = record {
        of_plain = λ node' a. absurd (other node' (one_node_lem h.there a.there) a.plain);
        of_instance = λ p' a decl' e. at_once p' (one_pick h.proto (ap (λ (y : Node). proto_of_origin I (src env) y.origin) (one_node_lem h.there a.there) ∙ a.instance)) decl' e;
      }
        where
          one_node_lem : {o : Option Node} {a b : Node} → o ≡ some a → o ≡ some b → a ≡ b
          one_node_lem p q = cc

          one_pick : {o : Option Prototype} {a b : Prototype} → o ≡ some a → o ≡ some b → a ≡ b
          one_pick p q = cc

          one_decl : {o : Option ProtoDecl} {a b : ProtoDecl} → o ≡ some a → o ≡ some b → a ≡ b
          one_decl p q = cc

          other : (node' : Node) → node ≡ node' → proto_of_origin I (src env) node'.origin ≡ none → ⊥
          other node' e q = clash h.proto (ap (λ (y : Node). proto_of_origin I (src env) y.origin) e ∙ q)
            where
              clash : {o : Option Prototype} {a : Prototype} → o ≡ some a → o ≡ none → ⊥
              clash a b = let z : ◌≡◌ {A = ℕ} 0 1 = cc in omega arith

          at_once : (p' : Prototype) → p ≡ p' → (decl' : ProtoDecl) → decl_of I p' ≡ some decl' → AllFine I p'.document decl'.body
          at_once p' e decl' q = let d : decl ≡ decl' = one_decl ep (ap (decl_of I) e ∙ q) in subst (λ (y : Prototype). (AllFine I) y.document decl'.body) e (subst (λ (y : ProtoDecl). (AllFine I) p.document y.body) d fb)

      whole : (n : ℕ) (vs : Values) (hv : Shows (inner n vs) ns) → AllFine I p.document decl.body → (s1 s2 w : State) (rv : Valued s1) → Opens b.entry s1 n s2
          → Rooted left f hf env i (inner n vs) ns hv (flat statement_ids decl.body) (begun s1 rv) s2 w → Ran I (suc left) (one env.scope (known env names) i) g st w
      whole n vs hv fb s1 s2 w rv q x = record {
        after = x.after;
        fits = x.fits;
        run =
            instance_within (body_scope p ns) x.r x.rs un kind refl (starts x.ids) (fair fb) (vals s1 rv) (enter (λ t y. Within (graph I) (Fair I) left t y (see x.between x.mid)) n s1 s2 rv q x.r x.first)
            (renumber (λ t. Within (graph I) (Fair I) left t (add_mapped env.scope i (see x.between x.mid)) (see x.after w.world)) n s1 s2 rv q x.rs x.others);
      }

      -- 7 where there is no root; else the record, which leaves the world as it is
      last : (n : ℕ) (vs : Values) (hv : Shows (inner n vs) ns) (s1 s2 : State) (rv : Valued s1) → Opens b.entry s1 n s2
          → (x : Body) (s3 : State) → BodyRan left f hf env i (inner n vs) ns hv (flat statement_ids decl.body) (AllFine I p.document decl.body) (begun s1 rv) s2 x s3 → (root : Option ℕ) → x.root ≡ root
          → Outcome Target (λ o st'. Ran I (suc left) (one env.scope (known env names) i) g st st') ((root_of p root >>= (λ o. charge I >>= (λ u. record_instance decl.name node.def_name n x o))) s3)
      last n vs hv s1 s2 rv q x s3 (rootless y z fb) none er = refused (fault here un (omega arith) (seven p at decl ep (see rv.after s1.world) (within_run (vals s1 rv)) (no_node decl.body z) fb))
      last n vs hv s1 s2 rv q x s3 (rootless y z fb) (some root) er = absurd (let z : ◌≡◌ {A = ℕ} 0 1 = cc in omega arith)
      last n vs hv s1 s2 rv q x s3 (rooted o z fb y) none er = absurd (let z : ◌≡◌ {A = ℕ} 0 1 = cc in omega arith)
      last n vs hv s1 s2 rv q x s3 (rooted o z fb y) (some root) er =
          then_out (charge_keep I s3) charged (λ u s4 q4. turn_out (record_instance_keep I decl.name node.def_name n x root s4) charged (λ o' s5 q5. upto I (same_then I q4 q5) (whole n vs hv fb s1 s2 s3 rv q y)))
