-- Every accepted call of the definition is a run of the steps, and every refused one a run up to the place of the refusal.
use mathlib.Core.Path.{◌≡◌, refl, ap, sym, ◌∙◌, subst}
use mathlib.Core.List.{List, [], ◌∷◌, ◌++◌, map, append-nil}
use mathlib.Core.Option.{Option, none, some}
use Prim.Native.Nat.{ℕ, zero, suc}
use native.Mathlib.Omega.{arith}
use lib.ListN.{length}
use Rattle.ast.specs.Ast.{Field, InterfaceDecl, Statement, Node, ProtoDecl}
use Rattle.pick_definition.specs.Picks.{Prototype, member}
use Rattle.expansion_steps.specs.Steps.{copy_id, add_mapped, add_plain, add_default, add_body, Mapped, count, Task, one, all, Run, first_world, WholeRun}
use Rattle.expansion_steps.proofs.Depth.{Within, mapped_within, within_run}
use Rattle.expansion_steps.specs.Places.{here}
use Rattle.expansion_steps.specs.Steps
use Rattle.expansion_definition.specs.Input.{Input, proto_of_origin}
use Rattle.expansion_definition.specs.Scopes.{Scope}
use Rattle.ast.specs.Lists.{flat}
use Rattle.ast.specs.Ids.{binding_ids, statement_ids}
use Rattle.expansion_definition.specs.State.{Bookkeeping, State, Comp, fold_m, lookup, start_state}
use Rattle.expansion_definition.specs.Values.{Values, value_named, Env, src, Copier}
use Rattle.expansion_definition.specs.Externs.{lookup_extern}
use Rattle.expansion_definition.specs.PlainCopy.{copy_statement}
use Rattle.expansion_definition.specs.Instances.{values, Body, body_statement}
use Rattle.expansion_definition.specs.Copy.{copy_node, mapped_or, copy}
use Rattle.expansion_definition.specs.Expand.{root_env, statements}
use Rattle.expansion_definition.specs.Reached.{Known, known_entry, decl_of, interface_ids, is_given, name_if_valued, body_scope, default_scope, interface_actions, node_in_scope, graph}
use Rattle.expansion_definition.specs.Counted.{tops}
use Rattle.expansion_definition.specs.Until.{ids_first, plain_first, given_first, default_env, default_first, body_env, body_first, BodyDone, before_root, from_root, body_world}
use Rattle.expansion_definition.specs.Expanded.{ChargedAt, top_charge, node_charge, Refusal, at_top, nowhere, too_deep, at_node}
use Rattle.expansion_definition.proofs.Outcome.{Outcome, refused, accepted, Any, bind_out, map_out, then_out, turn_out, both}
use Rattle.expansion_definition.proofs.Names.{Shows, known, none_shown, values_shown}
use Rattle.expansion_definition.proofs.Worlds.{Unseen, see, with_scope, with_opener, lookup_here, lookup_none, Valid, Same, same_then, itself, Short, rows, extern, keep_ret, keep_bind, charge_keep, paid_keep, extern_proto_keep, copy_origin_keep, copy_statement_keep, map_m_keep, AllFine}
use Rattle.expansion_definition.proofs.Running.{Fits, fits_from, count_is, Fair, Ran, Stop, own, lost, deep, fault, overcharged, ListStop, in_list, at_extern, Runs, keep_then, then_keep, then_run, then_copies, map_m_run, ids_run, copy_field_run, copy_interface_run, tops_run}
use Rattle.expansion_definition.proofs.PlainRuns.{reserve_world, Copying, copy_plain_run}
use Rattle.expansion_definition.proofs.InstanceRuns.{Opens, open_scope_world, opened_fits, values_run, BodyRan, rootless, rooted, body_first_lem, instantiate_run}

module _ (I : Input) where
  -- ---- the copier

  -- A node that is not mapped.
  copy_node_run : (left : ℕ) (f : Env → Copier) → Copying I left f → (d : ℕ) (X : ℕ → Type 0) (env : Env) (names : List ℕ) → Shows env names → (i : ℕ) (node : Node) → node_in_scope I env.entry i ≡ some node → (g : Unseen) (st : State) → Fits I g st → (Mapped (see g st.world) env.scope i → ⊥)
      → (p : Option Prototype) → proto_of_origin I (src env) node.origin ≡ p → Outcome (Stop I (suc left) d X (one env.scope (known env names) i) (see g st.world)) (λ o st'. Ran I (suc left) (one env.scope (known env names) i) g st st') (copy_node I f env i node p st)
  unfolding copy_node
  copy_node_run left f hf d X env names hn i node en g st ft un none ep = copy_plain_run I left f hf d X env names hn i node (record { there = en; proto = ep }) g st ft un
  copy_node_run left f hf d X env names hn i node en g st ft un (some p) ep = instantiate_run I left f hf d X env names hn i node p (record { there = en; proto = ep }) g st ft un (decl_of I p) refl

  -- A mapped id answers; a node is copied.
  mapped_or_run : (left d : ℕ) (X : ℕ → Type 0) (env : Env) (names : List ℕ) (i : ℕ) (next : Node → Comp ℕ) (g : Unseen) (st : State) → Fits I g st
      → ((node : Node) → node_in_scope I env.entry i ≡ some node → (Mapped (see g st.world) env.scope i → ⊥) → Outcome (Stop I left d X (one env.scope (known env names) i) (see g st.world)) (λ o st'. Ran I left (one env.scope (known env names) i) g st st') (next node st))
      → (o : Option ℕ) → lookup st.world.map env.scope i ≡ o → (node : Option Node) → node_in_scope I env.entry i ≡ node
      → Outcome (Stop I left d X (one env.scope (known env names) i) (see g st.world)) (λ o' st'. Ran I left (one env.scope (known env names) i) g st st') (mapped_or env i next o node st)
  unfolding mapped_or
  mapped_or_run left d X env names i next g st ft h (some o) el node en = accepted (record { after = g; fits = ft; run = mapped_within (lookup_here st.world.map env.scope i o el) })
  mapped_or_run left d X env names i next g st ft h none el none en = refused (lost here (lookup_none st.world.map env.scope i el) (omega arith) en)
  mapped_or_run left d X env names i next g st ft h none el (some node) en = h node en (lookup_none st.world.map env.scope i el)

  -- The copier, at every depth.
  copy_run : (left : ℕ) → Copying I left (copy I left)
  unfolding copy
  copy_run zero d X env names hn i g st ft = mapped_or_run zero d X env names i _ g st ft (λ node en un. refused (deep here un node en)) _ refl _ refl
  copy_run (suc left) d X env names hn i g st ft = mapped_or_run (suc left) d X env names i _ g st ft (λ node en un. copy_node_run left (copy I left) (copy_run left) d X env names hn i node en g st ft un _ refl) _ refl _ refl

  -- ---- the first parts of a node that come to their end are runs

  pub record PartRan (t : Task Known) (w : Steps.World Known) (st : State) : Type 0 where
    pub after : Unseen
    pub fits : Fits I after st
    pub run : Run (graph I) t w (see after st.world)

  pub record DefaultRan (t : Task Known) (b : Known) (ids : List ℕ) (w : Steps.World Known) (st : State) : Type 0 where
    pub before : Steps.World Known
    pub values' : Run (graph I) t w before
    pub inside : PartRan (all (count before) b (map copy_id ids)) (add_default b before) st

  pub record BodyPartRan (n i : ℕ) (b : Known) (t : Task Known) (l : List ℕ) (w : Steps.World Known) (st : State) : Type 0 where
    pub before : Steps.World Known
    pub values' : Run (graph I) t w before
    pub body_done : BodyDone I n i b before l
    pub after : Unseen
    pub fits : Fits I after st
    pub world : see after st.world ≡ body_world body_done

  module _ (left : ℕ) (env : Env) (names : List ℕ) (hn : Shows env names) where
    abbrev pub e : Known
    e = known env names

    hc : (i : ℕ) → Runs I left (src env) (λ x. Unit {0}) (one env.scope e i) (copy I left env i)
    hc i = copy_run left (src env) (λ x. Unit {0}) env names hn i

    pub plain_ran : (i : ℕ) (node : Node) (fs : List Field) (is : List InterfaceDecl) (ss : List Statement) (ids : List ℕ) (g : Unseen) (st : State) → Fits I g st
        → Outcome Any (λ x st'. PartRan (all env.scope e (map copy_id (flat (λ f. binding_ids f.binding) fs ++ (flat (λ d. interface_ids d.is d.value) is ++ ids)))) (add_plain env.scope i (see g st.world)) st') (plain_first I (copy I left env) env i node fs is ss ids st)
    unfolding plain_first ids_first
    plain_ran i node fs is ss ids g st ft = bind_out (reserve_world I {R = Any} env i g st ft (λ q. tt) (λ c f x r. tt)) (λ new s1 e1. turn_out (keep_then I (copy_origin_keep I env refl node.origin (λ x q. tt)) (λ og. then_copies I env.scope e (flat (λ f. binding_ids f.binding) fs) (flat (λ d. interface_ids d.is d.value) is ++ ids) (map_m_run I env.scope e _ _ fs (λ f m. copy_field_run I env.scope e (copy I left env) hc env new f)) (λ fs'. then_copies I env.scope e (flat (λ d. interface_ids d.is d.value) is) ids (map_m_run I env.scope e _ _ is (λ d m. copy_interface_run I env.scope e (copy I left env) hc env new d)) (λ is'. keep_then I (map_m_keep I (copy_statement I env) ss (λ s m. copy_statement_keep I env refl s (λ x q. tt))) (λ ss'. then_keep I (ids_run I env.scope e (copy I left env) hc ids) (λ os. keep_ret I _))))) g s1 e1.fits) (λ c f x r. tt)
        (λ x s2 r. record { after = r.after; fits = r.fits; run = subst (λ (w : Steps.World Known). Run (graph I) (all env.scope e (map copy_id (flat (λ f. binding_ids f.binding) fs ++ (flat (λ d. interface_ids d.is d.value) is ++ ids)))) w (see r.after s2.world)) e1.seen (within_run r.run) }))

    module _ (p : Prototype) (decl : ProtoDecl) (ep : decl_of I p ≡ some decl) (fields : List Field) (is behind : List InterfaceDecl) (eq : decl.interface ≡ is ++ behind) where
      values_ran : Runs I left (src env) (λ x. Unit {0}) (all env.scope e (interface_actions names p fields 0 is)) (values I (copy I left) env p fields 0 is [])
      values_ran = values_run I (copy I left) (copy_run left) env names hn p fields decl ep behind is [] 0 [] (sym eq) refl

      pub given_ran : (ids : List ℕ) (g : Unseen) (st : State) → Fits I g st → Outcome Any (λ vs st'. PartRan (all env.scope e (interface_actions names p fields 0 is ++ map copy_id ids)) (see g st.world) st') (given_first I (copy I left) env p fields is ids st)
      unfolding given_first ids_first
      given_ran ids g st ft = turn_out (then_run I env.scope e values_ran (λ vs. then_keep I (ids_run I env.scope e (copy I left env) hc ids) (λ os. keep_ret I vs)) g st ft) (λ c f x r. tt) (λ vs s r. record { after = r.after; fits = r.fits; run = within_run r.run })

      pub default_ran : (ids : List ℕ) (g : Unseen) (st : State) → Fits I g st → Outcome Any (λ x st'. DefaultRan (all env.scope e (interface_actions names p fields 0 is)) (default_scope p (length is) env.scope) ids (see g st.world) st') (default_first I (copy I left) env p fields is ids st)
      unfolding default_first ids_first
      default_ran ids g st ft = then_out (values_ran g st ft) (λ c f x r. tt) (λ vs s1 r. then_out (open_scope_world I {d = 0} {X = λ x. ⊥} b.entry s1) (λ c f x y. tt)
          (λ m s2 q. then_out (ids_run I {d = 0} {X = λ x. ⊥} m b (copy I left (default_env env p (length is) m)) (copy_run left 0 (λ x. ⊥) (default_env env p (length is) m) [] none_shown) ids (with_scope b r.after) s2 (opened_fits I b r.after s1 m s2 r.fits q)) (λ c f x y. tt)
          (λ os s3 z. accepted (record { before = see r.after s1.world; values' = within_run r.run; inside = record { after = z.after; fits = z.fits; run = subst (λ (k : ℕ). Run (graph I) (all k b (map copy_id ids)) (add_default b (see r.after s1.world)) (see z.after s3.world)) (q.number ∙ count_is I r.after s1 r.fits) (subst (λ (w : Bookkeeping). Run (graph I) (all m b (map copy_id ids)) (see (with_scope b r.after) w) (see z.after s3.world)) q.after (within_run z.run)) } }))))
        where
          b : Known
          b = default_scope p (length is) env.scope

    -- A body without a Node keeps the world.
    body_still : (i : ℕ) (inner : Env) (l : List Statement) (b : Body) → flat statement_ids l ≡ [] → (st : State) → Outcome Any (λ c st'. Same I st st') (fold_m (body_statement I (copy I left) env i inner) b l st)
    unfolding fold_m body_statement
    body_still i inner [] b q st = accepted (itself I st)
    body_still i inner (Statement.Node j ∷ l) b q st = absurd (let z : ◌≡◌ {A = ℕ} 0 1 = cc in omega arith)
    body_still i inner (Statement.Proto p ∷ l) b q st = then_out (keep_ret I {d = 0} {X = λ x. ⊥} b st) (λ c f x r. tt) (λ c s1 h. map_out (body_still i inner l c q s1) (λ c' s2 k. same_then I h k))
    body_still i inner (Statement.ExternProto x ∷ l) b q st = then_out (keep_bind I {d = src inner} {X = λ x. Unit {0}} (extern_proto_keep I inner refl x tt) (λ n. keep_ret I b) st) (λ c f x r. tt) (λ c s1 h. map_out (body_still i inner l c q s1) (λ c' s2 k. same_then I h k))
    body_still i inner (Statement.Route r ∷ l) b q st = then_out (paid_keep I {d = 0} {X = λ x. ⊥} (keep_ret I _) st) (λ c f x r. tt) (λ c s1 h. map_out (body_still i inner l c q s1) (λ c' s2 k. same_then I h k))
    body_still i inner (Statement.Other p ∷ l) b q st = then_out (keep_ret I {d = 0} {X = λ x. ⊥} b st) (λ c f x r. tt) (λ c s1 h. map_out (body_still i inner l c q s1) (λ c' s2 k. same_then I h k))

    -- The values, the scope, and the first statements of the body.
    pub body_ran : (i : ℕ) (node : Node) (p : Prototype) (decl : ProtoDecl) → decl_of I p ≡ some decl → (ss : List Statement) (g : Unseen) (st : State) → Fits I g st
        → Outcome Any (λ x st'. Shows (body_env env p x.number x.values) (flat (name_if_valued names node.fields) decl.interface) × BodyPartRan env.scope i (body_scope p (flat (name_if_valued names node.fields) decl.interface) env.scope) (all env.scope e (interface_actions names p node.fields 0 decl.interface)) (flat statement_ids ss) (see g st.world) st') (body_first I (copy I left) env i node p decl ss st)
    unfolding body_first
    body_ran i node p decl ep ss g st ft = then_out (both _ (values_ran p decl ep node.fields decl.interface [] (sym (append-nil decl.interface)) g st ft) (values_shown I (copy I left) env names hn p node.fields decl.interface st)) (λ c f x r. tt)
        (λ vs s1 x. then_out (open_scope_world I {d = 0} {X = λ x. ⊥} b.entry s1) (λ c f y r. tt) (λ m s2 q. bind_out (within vs x.1 s1 x.0 m s2 q (flat statement_ids ss) refl) (λ y s3 z. accepted (x.1, z))))
      where
        ns : List ℕ
        ns = flat (name_if_valued names node.fields) decl.interface

        b : Known
        b = body_scope p ns env.scope

        Task' : Task Known
        Task' = all env.scope e (interface_actions names p node.fields 0 decl.interface)

        within : (vs : Values) → ((t : ℕ) → member t ns ≡ is_given (value_named t vs)) → (s1 : State) (rv : Ran I left Task' g st s1) (m : ℕ) (s2 : State) → Opens I b.entry s1 m s2 → (l : List ℕ) → flat statement_ids ss ≡ l
            → Outcome Any (λ y s3. BodyPartRan env.scope i b Task' l (see g st.world) s3) (fold_m (body_statement I (copy I left) env i (body_env env p m vs)) (record { root = none; extra_roots = []; routes = [] }) ss s2)
        within vs hv s1 rv m s2 q l el = go l el
          where
            begun : Unseen
            begun = with_opener env.scope i (with_scope b rv.after)

            ft2 : Fits I begun s2
            ft2 = let k : Fits I (with_scope b rv.after) s2 = opened_fits I b rv.after s1 m s2 rv.fits q in record { entries = k.entries; listed = k.listed; room = k.room; valid = k.valid }

            v : Steps.World Known
            v = see rv.after s1.world

            opened' : see begun s2.world ≡ add_body env.scope i b v
            opened' = ap (λ (w : Bookkeeping). see begun w) q.after

            number : m ≡ count v
            number = q.number ∙ count_is I rv.after s1 rv.fits

            go : (l : List ℕ) → flat statement_ids ss ≡ l → Outcome Any (λ y s3. BodyPartRan env.scope i b Task' l (see g st.world) s3) (fold_m (body_statement I (copy I left) env i (body_env env p m vs)) (record { root = none; extra_roots = []; routes = [] }) ss s2)
            go [] el = map_out (body_still i (body_env env p m vs) ss _ el s2) (λ y s3 h. record { before = v; values' = within_run rv.run; body_done = before_root; after = begun; fits = fits_from I begun h ft2; world = ap (λ (w : Bookkeeping). see begun w) h.world ∙ opened' })
            go (r ∷ rs) el = turn_out (body_first_lem I left (copy I left) (copy_run left) env i (body_env env p m vs) ns hv (record { root = none; extra_roots = []; routes = [] }) refl ss begun s2 ft2) (λ c f x y. tt) (λ y s3 h. done y s3 h)
              where
                done : (y : Body) (s3 : State) → BodyRan I left (copy I left) (copy_run left) env i (body_env env p m vs) ns hv (flat statement_ids ss) (AllFine I p.document ss) begun s2 y s3 → BodyPartRan env.scope i b Task' (r ∷ rs) (see g st.world) s3
                done y s3 (rootless h z k) = absurd (no_ids (sym z ∙ el))
                  where
                    no_ids : ◌≡◌ {A = List ℕ} [] (r ∷ rs) → ⊥
                    no_ids z = let y : ◌≡◌ {A = ℕ} 0 1 = cc in omega arith
                done y s3 (rooted o h k x) = record {
                  before = v;
                  values' = within_run rv.run;
                  body_done = from_root r rs (see x.between x.mid) (see x.after s3.world) first others;
                  after = x.after;
                  fits = x.fits;
                  world = refl;
                }
                  where
                    same_first : x.r ≡ r
                    same_first = let z : x.r ∷ x.rs ≡ r ∷ rs = sym x.ids ∙ el in cc

                    same_rest : x.rs ≡ rs
                    same_rest = let z : x.r ∷ x.rs ≡ r ∷ rs = sym x.ids ∙ el in cc

                    first : Run (graph I) (one (count v) b r) (add_body env.scope i b v) (see x.between x.mid)
                    first = rw (← same_first, ← number, ← opened') (within_run x.first)

                    others : Run (graph I) (all (count v) b (map copy_id rs)) (add_mapped env.scope i (see x.between x.mid)) (see x.after s3.world)
                    others = rw (← same_rest, ← number) (within_run x.others)

  -- ---- the whole

  -- An accepted expansion is a whole run of the steps, and the state has the entries of its scopes; nothing is mapped before.
  pub record Whole (w : Bookkeeping) : Type 0 where
    pub after : Unseen
    pub fits : map known_entry after.scopes ≡ w.scopes
    pub externs : AllFine I 0 I.root.statements
    pub within : Within (graph I) (Fair I) I.limits.max_depth (all 0 (graph I).root (map copy_id ((graph I).starts (graph I).root))) (first_world (graph I).root) (see after w)

  pub whole_run : {w : Bookkeeping} (h : Whole w) → WholeRun (graph I) (see h.after w)
  whole_run h = within_run h.within

  -- ---- the start

  abbrev root_known : Known
  root_known = (graph I).root

  abbrev root_unseen : Unseen
  root_unseen = record { openers = []; scopes = root_known ∷ [] }

  abbrev root_world : Bookkeeping
  root_world = record { map = []; ledger = []; scopes = Scope.Root ∷ [] }

  root_open : (s2 s3 : State) → s2.world ≡ start_state.world → s3.world ≡ record { map = s2.world.map; ledger = s2.world.ledger; scopes = s2.world.scopes ++ (Scope.Root ∷ []) } → s3.world ≡ root_world
  root_open s2 s3 e q = q ∙ ap (λ (w : Bookkeeping). record { map = w.map; ledger = w.ledger; scopes = w.scopes ++ (Scope.Root ∷ []) }) e

  nothing : Valid I start_state
  unfolding lookup_extern
  nothing d x n q = absurd (nowhere_yet d x n q)
    where
      nowhere_yet : (d x n : ℕ) → lookup_extern [] d x ≡ some n → ⊥
      nowhere_yet d x n q = let z : ◌≡◌ {A = ℕ} 0 1 = cc in omega arith

  none_yet : Fits I (record { openers = []; scopes = [] }) start_state
  none_yet = record { entries = refl; listed = refl; room = omega arith; valid = nothing }

  fits : (n : ℕ) (s2 s3 : State) → Same I start_state s2 → Opens I Scope.Root s2 n s3 → Fits I root_unseen s3
  fits n s2 s3 e q = opened_fits I root_known (record { openers = []; scopes = [] }) s2 n s3 (fits_from I _ e none_yet) q

  -- Top statements that are done are a run.
  pub tops_ran : (l : List Statement) → Outcome Any (λ k st. PartRan (all 0 (graph I).root (map copy_id (flat statement_ids l))) (first_world (graph I).root) st) (tops I l start_state)
  unfolding tops
  tops_ran l =
      then_out (charge_keep I {d = 0} {X = λ x. ⊥} start_state) (λ c d x r. tt) (λ a s1 e1. then_out (charge_keep I {d = 0} {X = λ x. ⊥} s1) (λ c d x r. tt) (λ b s2 e2. then_out (open_scope_world I {d = 0} {X = λ x. ⊥} Scope.Root s2) (λ c d x r. tt)
      (λ n s3 q. then_out (tops_run I I.limits.max_depth 0 0 root_known (copy I I.limits.max_depth root_env) (λ X. copy_run I.limits.max_depth 0 X root_env [] none_shown) root_env refl l root_unseen s3 (fits n s2 s3 (same_then I e1 e2) q)) (λ c d x r. tt)
      (λ k s4 r. accepted (record { after = r.0.after; fits = r.0.fits; run = subst (λ (w : Bookkeeping). Run (graph I) (all 0 root_known (map copy_id (flat statement_ids l))) (see root_unseen w) (see r.0.after s4.world)) (root_open s2 s3 (same_then I e1 e2).world q.after) (within_run r.0.run) })))))

  -- A refused one stops on the way: a row too many, of the root_known or of a node, or what `Refusal` says.
  pub data Halt : ℕ → ℕ → ℕ → Type 0 where
    no_row : ChargedAt I → Halt 10 0 0
    because : {c d i : ℕ} → Refusal I c d i → Halt c d i

  pub statements_run : Outcome Halt (λ l st'. Whole st'.world) (statements I start_state)
  unfolding statements lookup_extern
  statements_run =
      then_out (charge_keep I start_state) short (λ a s1 e1. then_out (charge_keep I s1) short (λ b s2 e2. then_out (open_scope_world I Scope.Root s2) short
      (λ n s3 q. then_out (tops_run I I.limits.max_depth 0 0 root_known (copy I I.limits.max_depth root_env) (λ X. copy_run I.limits.max_depth 0 X root_env [] none_shown) root_env refl I.root.statements root_unseen s3 (fits n s2 s3 (same_then I e1 e2) q))
      (λ c d x r. halt c d x (subst (λ (w : Bookkeeping). (ListStop I) I.limits.max_depth 0 root_known 0 I.root.statements (see root_unseen w) c d x) (root_open s2 s3 (same_then I e1 e2).world q.after) r))
      (λ l s4 r. accepted (record { after = r.0.after; fits = r.0.fits.entries; externs = r.1; within = whole s3 s4 r.0.after (root_open s2 s3 (same_then I e1 e2).world q.after) r.0.run })))))
    where
      short : (c d x : ℕ) → Short I 0 (λ x. ⊥) c d x → Halt c d x
      short c d x rows = no_row top_charge
      short c d x (extern y none_is e) = absurd none_is

      halt : (c d x : ℕ) → ListStop I I.limits.max_depth 0 root_known 0 I.root.statements (see root_unseen root_world) c d x → Halt c d x
      halt c d x (at_extern y h v r) = because (at_top y h v r)
      halt c d x (in_list (own rows)) = no_row top_charge
      halt c d x (in_list (own (extern y none_is e))) = absurd none_is
      halt c d x (in_list (lost {k} {m} {i} {s} {v} y un l e)) = because (nowhere (record { depth = k; number = m; scope = s; id = i; world = v; comes = y; unmapped = un }) l e)
      halt c d x (in_list (deep {m} {i} {s} {v} y un node e)) = because (too_deep (record { depth = I.limits.max_depth; number = m; scope = s; id = i; world = v; comes = y; unmapped = un }) refl node e)
      halt c d x (in_list (overcharged {k} {m} {i} {s} {v} y un l node e)) = no_row (node_charge (record { depth = k; number = m; scope = s; id = i; world = v; comes = y; unmapped = un }) l node e)
      halt c d x (in_list (fault {k = k} {m} {i} {s} {v} y un l r)) = because (at_node (record { depth = k; number = m; scope = s; id = i; world = v; comes = y; unmapped = un }) l r)

      whole : (s3 s4 : State) (k : Unseen) → s3.world ≡ root_world → Within (graph I) (Fair I) I.limits.max_depth (all 0 root_known (map copy_id (flat statement_ids I.root.statements))) (see root_unseen s3.world) (see k s4.world) → Within (graph I) (Fair I) I.limits.max_depth (all 0 root_known (map copy_id (flat statement_ids I.root.statements))) (see root_unseen root_world) (see k s4.world)
      whole s3 s4 k e r = subst (λ (w : Bookkeeping). Within (graph I) (Fair I) I.limits.max_depth (all 0 root_known (map copy_id (flat statement_ids I.root.statements))) (see root_unseen w) (see k s4.world)) e r
