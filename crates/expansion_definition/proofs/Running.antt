-- Each step is a run of what it copies and opens, or stops on the way.
use mathlib.Core.Path.{◌≡◌, refl, ap, sym, ◌∙◌, subst}
use mathlib.Core.List.{List, [], ◌∷◌, ◌++◌, map, Memᴰ}
use mathlib.Core.Logic.{◌⊎◌, inl, inr}
use mathlib.Core.Option.{Option, none, some}
use Prim.Native.Nat.{ℕ, suc, ◌≤◌, ◌<◌}
use native.Mathlib.Omega.{arith}
use lib.ListN.{length, length-map}
use Rattle.ast.proofs.Basics.{map_append}
use Rattle.ast.specs.Ast.{NodeOrigin, FieldData, FieldValue, FieldBinding, Field, InterfaceDecl, Statement, Node, ProtoDecl}
use Rattle.ast.specs.Lookups.{node_at}
use Rattle.pick_definition.specs.Picks.{Prototype}
use Rattle.expansion_steps.specs.Steps.{Action, copy_id, Mapped, Task, one, all, Run, no_action}
use Rattle.expansion_steps.proofs.Depth.{Within, no_within, copy_within, within_run, append_within}
use Rattle.expansion_steps.specs.Places.{Comes, in_copy, after_copy, comes_left, comes_right}
use Rattle.expansion_steps.specs.Steps
use Rattle.expansion_steps.proofs.Laws.{append_run}
use Rattle.expansion_definition.specs.Input.{Input, docs}
use Rattle.ast.specs.Lists.{flat}
use Rattle.ast.specs.Ids.{data_ids, binding_ids, statement_ids}
use Rattle.expansion_definition.specs.State.{Bookkeeping, State, Comp, ◌>>=◌, map_m}
use Rattle.expansion_definition.specs.Charges.{paid}
use Rattle.expansion_definition.specs.Values.{Env, src, Copier, copy_data, value}
use Rattle.expansion_definition.specs.PlainCopy.{is_value, copy_binding, copy_field, copy_target, copy_interface, contents}
use Rattle.expansion_definition.specs.Expand.{statement}
use Rattle.expansion_definition.specs.Reached.{Known, known_entry, decl_of, interface_ids, plain_nexts, graph}
use Rattle.expansion_definition.specs.Expanded.{known_document, PlainAt, InstanceAt, Dangling, Fault}
use Rattle.expansion_definition.proofs.Outcome.{Outcome, accepted, Any, bind_out, map_out, then_out, turn_out, both}
use Rattle.expansion_definition.proofs.Worlds.{Unseen, see, Fine, Valid, Same, same_then, Short, rows, extern, Keep, keep_ret, keep_bind, charge_keep, charge_each_keep, paid_keep, associate_keep, copy_origin_keep, is_field_keep, is_interface_keep, copy_route_keep, copy_extern_keep, anything, OriginFine, origin_fine, StatementFine, copy_extern_fine, AllFine, none_fine, cons_fine, first_dangling, later_dangling, statements_keep}

module _ (I : Input) where
  -- ---- runs: each step is a run of what it copies and opens

  -- the state has the entries of the scopes, a ledger entry to a node, and at most N nodes
  pub record Fits (g : Unseen) (st : State) : Type 0 where
    pub entries : map known_entry g.scopes ≡ st.world.scopes
    pub listed : length st.nodes ≡ length st.world.ledger
    pub room : length st.nodes ≤ I.limits.max_nodes
    pub valid : Valid I st

  pub fits_from : (g : Unseen) {u v : State} → Same I u v → Fits g u → Fits g v
  fits_from g q h = record { entries = h.entries ∙ ap (λ (w : Bookkeeping). w.scopes) (sym q.world); listed = q.size ∙ h.listed ∙ ap (λ (w : Bookkeeping). length w.ledger) (sym q.world); room = rw q.size h.room; valid = q.valid h.valid }

  -- They are as many.
  pub count_is : (g : Unseen) (st : State) → Fits g st → length st.world.scopes ≡ length g.scopes
  count_is g st h = ap length (sym h.entries) ∙ length-map g.scopes known_entry

  -- an extern id that stands in a node
  abbrev pub ExternOf : Node → ℕ → Type 0
  ExternOf node x = (node.origin ≡ NodeOrigin.ExternProto x) ⊎ Memᴰ (Statement.ExternProto x) node.statements

  -- the extern ids that stand in a plain node, or in the body of an instance's PROTO, lead somewhere
  pub record Fair (s : Known) (i : ℕ) : Type 0 where
    pub of_plain : (node : Node) → PlainAt I s i node → (x : ℕ) → ExternOf node x → Fine I (known_document s) x
    pub of_instance : (p : Prototype) → InstanceAt I s i p → (decl : ProtoDecl) → decl_of I p ≡ some decl → AllFine I p.document decl.body

  -- the task is run, from g on, with at most so many nodes open
  pub record Ran (left : ℕ) (t : Task Known) (g : Unseen) (st st' : State) : Type 0 where
    pub after : Unseen
    pub fits : Fits after st'
    pub run : Within (graph I) Fair left t (see g st.world) (see after st'.world)

  -- what stops a task that is begun in the world w, where so many nodes may still be opened: the step's own reason; an id that leads nowhere; a node that it comes to with so many open; a node at fault; a node with a charge too many
  pub data Stop (left d : ℕ) (X : ℕ → Type 0) (t : Task Known) (w : Steps.World Known) : ℕ → ℕ → ℕ → Type 0 where
    own : {c f x : ℕ} → Short I d X c f x → Stop left d X t w c f x
    lost : {k m i : ℕ} {s : Known} {v : Steps.World Known} → Comes (graph I) t w k m s i v → (Mapped v m i → ⊥) → k ≤ left → node_at (docs I) (known_document s) i ≡ none → Stop left d X t w 5 (known_document s) i
    deep : {m i : ℕ} {s : Known} {v : Steps.World Known} → Comes (graph I) t w left m s i v → (Mapped v m i → ⊥) → (node : Node) → node_at (docs I) (known_document s) i ≡ some node → Stop left d X t w 9 0 0
    fault : {c f x k m i : ℕ} {s : Known} {v : Steps.World Known} → Comes (graph I) t w k m s i v → (Mapped v m i → ⊥) → k < left → Fault I m s i v c f x → Stop left d X t w c f x
    overcharged : {k m i : ℕ} {s : Known} {v : Steps.World Known} → Comes (graph I) t w k m s i v → (Mapped v m i → ⊥) → k < left → (node : Node) → node_at (docs I) (known_document s) i ≡ some node → Stop left d X t w 10 0 0

  -- The task stops where a part of it does,
  pub shift : {left d : ℕ} {X : ℕ → Type 0} {t t' : Task Known} {w w' : Steps.World Known} → ((k m : ℕ) (s : Known) (i : ℕ) (v : Steps.World Known) → Comes (graph I) t w k m s i v → Comes (graph I) t' w' k m s i v) → (c f x : ℕ) → Stop left d X t w c f x → Stop left d X t' w' c f x
  shift h c f x (own r) = own r
  shift h c f x (lost y un l e) = lost (h _ _ _ _ _ y) un l e
  shift h c f x (deep y un node e) = deep (h _ _ _ _ _ y) un node e
  shift h c f x (fault y un l e) = fault (h _ _ _ _ _ y) un l e
  shift h c f x (overcharged y un l node e) = overcharged (h _ _ _ _ _ y) un l node e

  -- also where the part is inside a further node; a reason of the part's own is told apart.
  pub deeper : {left d d' : ℕ} {X X' : ℕ → Type 0} {t t' : Task Known} {w w' : Steps.World Known} → ((k m : ℕ) (s : Known) (i : ℕ) (v : Steps.World Known) → Comes (graph I) t w k m s i v → Comes (graph I) t' w' (suc k) m s i v)
      → ((c f x : ℕ) → Short I d X c f x → Stop (suc left) d' X' t' w' c f x) → (c f x : ℕ) → Stop left d X t w c f x → Stop (suc left) d' X' t' w' c f x
  deeper h o c f x (own r) = o c f x r
  deeper h o c f x (lost y un l e) = lost (h _ _ _ _ _ y) un (omega arith) e
  deeper h o c f x (deep y un node e) = deep (h _ _ _ _ _ y) un node e
  deeper h o c f x (fault y un l e) = fault (h _ _ _ _ _ y) un (omega arith) e
  deeper h o c f x (overcharged y un l node e) = overcharged (h _ _ _ _ _ y) un (omega arith) node e

  -- A reason of its own, or another.
  apart : {left d : ℕ} {X Y : ℕ → Type 0} {t : Task Known} {w : Steps.World Known} {c f x : ℕ} → Stop left d X t w c f x → Short I d X c f x ⊎ Stop left d Y t w c f x
  apart (own r) = inl r
  apart (lost y un l e) = inr (lost y un l e)
  apart (deep y un node e) = inr (deep y un node e)
  apart (fault y un l e) = inr (fault y un l e)
  apart (overcharged y un l node e) = inr (overcharged y un l node e)

  -- what stops the statements l of a scope, begun in the world w: a Node of theirs, a charge, or a dangling ExternProto statement; those in front of it are run
  pub data ListStop (left n : ℕ) (e : Known) (d : ℕ) (l : List Statement) (w : Steps.World Known) : ℕ → ℕ → ℕ → Type 0 where
    in_list : {c f x : ℕ} → Stop left d (λ y. ⊥) (all n e (map copy_id (flat statement_ids l))) w c f x → ListStop left n e d l w c f x
    at_extern : (x : ℕ) (h : Dangling I d l x) (v : Steps.World Known) → Run (graph I) (all n e (map copy_id (flat statement_ids h.before))) w v → ListStop left n e d l w 4 d x

  module _ {left n d : ℕ} {e : Known} (s : Statement) (l : List Statement) where
    -- The first of them stops,
    pub first_stop_lem : {w : Steps.World Known} (c f x : ℕ) → Stop left d (λ y. s ≡ Statement.ExternProto y) (all n e (map copy_id (statement_ids s))) w c f x → ListStop left n e d (s ∷ l) w c f x
    first_stop_lem {w} c f x r = go (apart r)
      where
        go : {c f x : ℕ} → Short I d (λ y. s ≡ Statement.ExternProto y) c f x ⊎ Stop left d (λ y. ⊥) (all n e (map copy_id (statement_ids s))) w c f x → ListStop left n e d (s ∷ l) w c f x
        go (inl rows) = in_list (own rows)
        go (inl (extern y q z)) = at_extern y (first_dangling I s l y q z) w no_action
        go (inr k) = in_list (shift (λ k' m s' j v y. rw map_append (comes_left (map copy_id (flat statement_ids l)) y)) _ _ _ k)

    -- or one behind it.
    pub later_stop_lem : {w w1 : Steps.World Known} → StatementFine I d s → Run (graph I) (all n e (map copy_id (statement_ids s))) w w1 → (c f x : ℕ) → ListStop left n e d l w1 c f x → ListStop left n e d (s ∷ l) w c f x
    later_stop_lem f r c g x (in_list k) = in_list (shift (λ k' m s' j v y. rw map_append (comes_right r y)) _ _ _ k)
    later_stop_lem f r c g x (at_extern y h v k) = at_extern y (later_dangling I f h) v (rw map_append (append_run r k))

  -- the step runs the task, whatever was opened before, or stops on the way
  abbrev pub Runs : {A : Type 0} → ℕ → ℕ → (ℕ → Type 0) → Task Known → Comp A → Type 0
  Runs left d X t c = (g : Unseen) (st : State) → Fits g st → Outcome (Stop left d X t (see g st.world)) (λ a st'. Ran left t g st st') (c st)

  -- A run from an equal world.
  from : {left : ℕ} {t : Task Known} {g : Unseen} {u v w : State} → Same I u v → Ran left t g v w → Ran left t g u w
  from {left} {t} {g} {w = w} q r = record { after = r.after; fits = r.fits; run = subst (λ (x : Bookkeeping). Within (graph I) Fair left t (see g x) (see r.after w.world)) q.world r.run }

  -- A run to an equal world.
  pub upto : {left : ℕ} {t : Task Known} {g : Unseen} {u v w : State} → Same I v w → Ran left t g u v → Ran left t g u w
  upto {left} {t} {g} {u = u} q r = record { after = r.after; fits = fits_from r.after q r.fits; run = subst (λ (x : Bookkeeping). Within (graph I) Fair left t (see g u.world) (see r.after x)) (sym q.world) r.run }

  -- ids copied in order, and nothing else
  abbrev pub Copies : {A : Type 0} → ℕ → ℕ → (ℕ → Type 0) → ℕ → Known → List ℕ → Comp A → Type 0
  Copies left d X n e l c = Runs left d X (all n e (map copy_id l)) c

  -- the same, and F holds where it is run to its end
  abbrev RunsAnd : {A : Type 0} → ℕ → ℕ → (ℕ → Type 0) → Task Known → Type 0 → Comp A → Type 0
  RunsAnd left d X t F c = (g : Unseen) (st : State) → Fits g st → Outcome (Stop left d X t (see g st.world)) (λ a st'. Ran left t g st st' × F) (c st)

  module _ {left d : ℕ} {X : ℕ → Type 0} where
    -- A stop from an equal world.
    stop_from : {t : Task Known} (g : Unseen) {u v : State} → Same I u v → (c f x : ℕ) → Stop left d X t (see g v.world) c f x → Stop left d X t (see g u.world) c f x
    stop_from {t} g q c f x r = subst (λ (y : Bookkeeping). Stop left d X t (see g y) c f x) q.world r

    -- A step that keeps the world, then a run.
    pub keep_then : {A B : Type 0} {t : Task Known} {c : Comp A} {k : A → Comp B} → Keep I d X c → ((a : A) → Runs left d X t (k a)) → Runs left d X t (c >>= k)
    keep_then h f g st ft = then_out (h st) (λ c e x r. own r) (λ a s q. turn_out (f a g s (fits_from g q ft)) (stop_from g q) (λ b s' r. from q r))

    -- A run, then a step that keeps the world.
    pub then_keep : {A B : Type 0} {t : Task Known} {c : Comp A} {k : A → Comp B} → Runs left d X t c → ((a : A) → Keep I d X (k a)) → Runs left d X t (c >>= k)
    then_keep h f g st ft = bind_out (h g st ft) (λ a s r. turn_out (f a s) (λ c e x y. own y) (λ b s' q. upto q r))

    -- A charge after a run adds nothing to it.
    paid_run : {A : Type 0} {t : Task Known} {m : Comp A} → Runs left d X t m → Runs left d X t (paid I m)
    unfolding paid
    paid_run h = then_keep h (λ a. keep_bind I (charge_keep I) (λ u. keep_ret I a))

    module _ (n : ℕ) (e : Known) where
      -- A step that keeps the world runs no action.
      pub no_run : {A : Type 0} {c : Comp A} → Keep I d X c → Runs left d X (all n e []) c
      no_run h g st ft = turn_out (h st) (λ c f x r. own r) (λ a s q. upto q (record { after = g; fits = ft; run = no_within }))

      -- Two runs of actions, one after the other.
      pub then_run : {A B : Type 0} {l k : List (Action Known)} {c : Comp A} {f : A → Comp B} → Runs left d X (all n e l) c → ((a : A) → Runs left d X (all n e k) (f a)) → Runs left d X (all n e (l ++ k)) (c >>= f)
      then_run {k = k} h f g st ft =
          then_out (h g st ft) (shift (λ k' m s i v y. comes_left k y)) (λ a s r. turn_out (f a r.after s r.fits) (shift (λ k' m s' i v y. comes_right (within_run r.run) y)) (λ b s' r'. record { after = r'.after; fits = r'.fits; run = append_within r.run r'.run }))

      -- Ids copied, then others.
      pub then_copies : {A B : Type 0} (l k : List ℕ) {c : Comp A} {f : A → Comp B} → Copies left d X n e l c → ((a : A) → Copies left d X n e k (f a)) → Copies left d X n e (l ++ k) (c >>= f)
      then_copies l k {c} {f} h g = subst (λ (x : List (Action Known)). Runs left d X (all n e x) (c >>= f)) (sym (map_append copy_id l k)) (then_run h g)

      -- One id copied, then actions.
      one_run : {A B : Type 0} {i : ℕ} {l : List (Action Known)} {c : Comp A} {f : A → Comp B} → Runs left d X (one n e i) c → ((a : A) → Runs left d X (all n e l) (f a)) → Runs left d X (all n e (copy_id i ∷ l)) (c >>= f)
      one_run h f g st ft =
          then_out (h g st ft) (shift (λ k m s j v y. in_copy y)) (λ a s r. turn_out (f a r.after s r.fits) (shift (λ k m s' j v y. after_copy (within_run r.run) y)) (λ b s' r'. record { after = r'.after; fits = r'.fits; run = copy_within r.run r'.run }))

      -- Ids copied for each element, in order.
      pub map_m_run : {A B : Type 0} (g : A → Comp B) (ids : A → List ℕ) (l : List A) → ((a : A) → Memᴰ a l → Copies left d X n e (ids a) (g a)) → Copies left d X n e (flat ids l) (map_m g l)
      unfolding map_m
      map_m_run g ids [] h = no_run (keep_ret I [])
      map_m_run g ids (a ∷ l) h = then_copies (ids a) (flat ids l) (h a (Memᴰ.head refl)) (λ b. then_keep (map_m_run g ids l (λ x m. h x (Memᴰ.tail m))) (λ bs. keep_ret I (b ∷ bs)))

      module _ (c : Copier) (hc : (i : ℕ) → Runs left d X (one n e i) (c i)) where
        -- A list of ids copied, each charged after its copy.
        pub ids_run : (l : List ℕ) → Copies left d X n e l (map_m (λ i. paid I (c i)) l)
        unfolding map_m
        ids_run [] = no_run (keep_ret I [])
        ids_run (i ∷ l) = one_run (paid_run (hc i)) (λ o. then_keep (ids_run l) (λ os. keep_ret I (o ∷ os)))

        copy_data_run : (x : FieldData) → Copies left d X n e (data_ids x) (copy_data I c x)
        unfolding copy_data
        copy_data_run (FieldData.Payload p) = no_run (keep_ret I _)
        copy_data_run (FieldData.Nodes ids) = then_keep (ids_run ids) (λ os. keep_ret I _)

        pub value_run : (v : FieldValue) → Copies left d X n e (data_ids v.«data») (value I c v)
        unfolding value
        value_run v = then_keep (copy_data_run v.«data») (λ x. keep_ret I _)

        pub copy_field_run : (env : Env) (new : ℕ) (f : Field) → Copies left d X n e (binding_ids f.binding) (copy_field I c env new f)
        unfolding copy_field copy_binding
        copy_field_run env new f = go f.binding
          where
            go : (b : FieldBinding) → Copies left d X n e (binding_ids b) (copy_binding I c env new f b)
            go (FieldBinding.Value v) = then_keep (paid_run (value_run v)) (λ v'. keep_ret I _)
            go (FieldBinding.Is target) = no_run (keep_bind I (associate_keep I env _) (λ u. is_field_keep I f (is_value env target)))

        pub copy_interface_run : (env : Env) (new : ℕ) (i : InterfaceDecl) → Copies left d X n e (interface_ids i.is i.value) (copy_interface I c env new i)
        unfolding copy_interface copy_target
        copy_interface_run env new i = paid_run (go i.is i.value)
          where
            go : (target : Option ℕ) (v : Option FieldValue) → Copies left d X n e (interface_ids target v) (copy_target I c env new i target v)
            go (some target) v = no_run (keep_bind I (associate_keep I env _) (λ u. is_interface_keep I i target (is_value env target)))
            go none none = no_run (keep_ret I _)
            go none (some v) = then_keep (value_run v) (λ v'. keep_ret I _)

        -- The contents of a plain node copy where its steps lead, and its externs are there: the origin's first, its statements' last.
        pub contents_run : (env : Env) → src env ≡ d → (new : ℕ) (node : Node) (g : Unseen) (st : State) → Fits g st → ((x : ℕ) → node.origin ≡ NodeOrigin.ExternProto x → X x)
            → (OriginFine I (src env) node.origin → (v : Steps.World Known) → Run (graph I) (all n e (map copy_id (plain_nexts node))) (see g st.world) v → (x : ℕ) → Dangling I (src env) node.statements x → X x)
            → Outcome (Stop left d X (all n e (map copy_id (plain_nexts node))) (see g st.world)) (λ y st'. Ran left (all n e (map copy_id (plain_nexts node))) g st st' × (OriginFine I (src env) node.origin × AllFine I (src env) node.statements)) (contents I c env new node st)
        unfolding contents
        contents_run env q new node g st ft ho hs =
            then_out (both _ (copy_origin_keep I env q node.origin ho st) (origin_fine I env node.origin st ft.valid)) (λ c f x r. own r)
            (λ origin s1 k1. then_out (map_m_run _ _ node.fields (λ f m. copy_field_run env new f) g s1 (fits_from g k1.0 ft)) (λ c f x r. stop_from g k1.0 c f x (shift (λ k m s i v y. rw map_append (comes_left _ y)) c f x r))
            (λ fields s2 r2. then_out (map_m_run _ _ node.interface (λ i m. copy_interface_run env new i) r2.after s2 r2.fits) (λ c f x r. stop_from g k1.0 c f x (shift (λ k m s i v y. rw map_append (comes_right (within_run r2.run) y)) c f x r))
            (λ interface s3 r3. let r : Ran left (all n e (map copy_id (plain_nexts node))) g st s3 = from k1.0 (record { after = r3.after; fits = r3.fits; run = rw map_append (append_within r2.run r3.run) }) in
            then_out (statements_keep I env node.statements s3 r3.fits.valid) (last k1.1 (see r.after s3.world) (within_run r.run))
            (λ ss s4 k4. then_out (charge_each_keep I _ s4) (λ c f x y. own y) (λ u s5 k5. accepted (upto (same_then I k4.0 k5) r, (k1.1, k4.1)))))))
          where
            last : OriginFine I (src env) node.origin → (v : Steps.World Known) → Run (graph I) (all n e (map copy_id (plain_nexts node))) (see g st.world) v → (c f x : ℕ) → Short I (src env) (Dangling I (src env) node.statements) c f x → Stop left d X (all n e (map copy_id (plain_nexts node))) (see g st.world) c f x
            last fo v r c f x rows = own rows
            last fo v r c f x (extern y h z) = own (subst (λ (k : ℕ). (Short I) k X 4 (src env) y) q (extern y (hs fo v r y h) z))

        statement_run : (env : Env) → src env ≡ d → (s : Statement) → ((x : ℕ) → s ≡ Statement.ExternProto x → X x) → Copies left d X n e (statement_ids s) (statement I c env s)
        unfolding statement
        statement_run env q (Statement.Node i) h = one_run (paid_run (hc i)) (λ o. no_run (keep_ret I _))
        statement_run env q (Statement.Proto p) h = no_run (keep_ret I _)
        statement_run env q (Statement.ExternProto x) h = no_run (copy_extern_keep I env q x (h x refl))
        statement_run env q (Statement.Route r) h = no_run (copy_route_keep I env r)
        statement_run env q (Statement.Other p) h = no_run (paid_keep I (keep_ret I _))

        -- The top statements, whose externs are there.
        top_run : (env : Env) → src env ≡ d → (s : Statement) → ((x : ℕ) → s ≡ Statement.ExternProto x → X x) → RunsAnd left d X (all n e (map copy_id (statement_ids s))) (StatementFine I (src env) s) (statement I c env s)
        unfolding statement
        top_run env q s h g st ft = turn_out (both _ (statement_run env q s h g st ft) (fine s)) (λ c f x r. r) (λ a s' r. r)
          where
            fine : (s : Statement) → Outcome Any (λ a t. StatementFine I (src env) s) (statement I c env s st)
            fine (Statement.Node i) = map_out (anything I _) (λ a t u x q. absurd (let z : ◌≡◌ {A = ℕ} 0 1 = cc in omega arith))
            fine (Statement.Proto p) = map_out (anything I _) (λ a t u x q. absurd (let z : ◌≡◌ {A = ℕ} 0 1 = cc in omega arith))
            fine (Statement.ExternProto y) = copy_extern_fine I env y st ft.valid
            fine (Statement.Route r) = map_out (anything I _) (λ a t u x q. absurd (let z : ◌≡◌ {A = ℕ} 0 1 = cc in omega arith))
            fine (Statement.Other p) = map_out (anything I _) (λ a t u x q. absurd (let z : ◌≡◌ {A = ℕ} 0 1 = cc in omega arith))

  -- The top statements: where one stops, those in front of it are run.
  pub tops_run : (left d n : ℕ) (e : Known) (c : Copier) → ((X : ℕ → Type 0) (i : ℕ) → Runs left d X (one n e i) (c i)) → (env : Env) → src env ≡ d → (l : List Statement) (g : Unseen) (st : State) → Fits g st
      → Outcome (ListStop left n e d l (see g st.world)) (λ a st'. Ran left (all n e (map copy_id (flat statement_ids l))) g st st' × AllFine I (src env) l) (map_m (statement I c env) l st)
  unfolding map_m
  tops_run left d n e c hc env q [] g st ft = accepted (record { after = g; fits = ft; run = no_within }, none_fine I (src env))
  tops_run left d n e c hc env q (s ∷ l) g st ft =
      then_out (top_run {X = λ x. s ≡ Statement.ExternProto x} n e c (hc _) env q s (λ x r. r) g st ft) (first_stop_lem s l)
      (λ b s1 r. then_out (tops_run left d n e c hc env q l r.0.after s1 r.0.fits) (later_stop_lem s l (subst (λ (k : ℕ). (StatementFine I) k s) q r.1) (within_run r.0.run))
      (λ bs s2 k. accepted (record { after = k.0.after; fits = k.0.fits; run = rw map_append (append_within r.0.run k.0.run) }, cons_fine I (src env) r.1 k.1)))
