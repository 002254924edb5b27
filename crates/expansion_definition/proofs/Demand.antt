-- Demand 3 holds of every accepted expansion, for all inputs and limits.
use mathlib.Core.Path.{◌≡◌, refl, ap, sym, ◌∙◌, subst}
use mathlib.Core.Logic.{inl, inr, ⊎_elim}
use mathlib.Core.Option.{none, some}
use mathlib.Core.List.Memᴰ
use mathlib.Core.List.{List, [], ◌∷◌, map, Memᴰ}
use Prim.Native.Nat.{ℕ, ◌≤◌, ◌<◌}
use native.Mathlib.Decide.{dec_lt}
use native.Mathlib.Omega.{arith}
use lib.ListN.{length, get_or, length-map, get_or-map}
use Rattle.ast.specs.Ast.{Statement, Node, ProtoDecl}
use Rattle.ast.specs.Lists.{flat}
use Rattle.ast.specs.Choice.{map_o}
use Rattle.ast.specs.Each.{Each}
use Rattle.ast.specs.Expanded.{TopKept, InnerKept, InterfaceKept, NodeKept}
use Rattle.ast.proofs.Basics.{each_mem, map_map}
use Rattle.ast.specs.Lookups.{node_at, proto_at, extern_proto_at}
use Rattle.pick_definition.specs.Picks.{Prototype}
use Rattle.expansion_steps.proofs.ListLaws.{nodup_map}
use Rattle.expansion_steps.specs.Steps.{Kind, no_node, plain_node, instance_node, Plain, Instance, ReachedIn, WholeRun}
use Rattle.expansion_steps.proofs.Laws.{opened_all}
use Rattle.expansion_steps.specs.Steps
use Rattle.expansion_steps.proofs.Unique.{run_unique}
use Rattle.expansion_steps.proofs.Depth.{Passes, pass_plain, pass_instance, passes_unmapped}
use Rattle.expansion_steps.specs.Sums.{Exact, DefaultOf}
use Rattle.expansion_steps.proofs.Gain.{apart}
use Rattle.expansion_steps.proofs.Exact.{exact}
use Rattle.expansion_steps.proofs.Defaults.{default_asked, asked_open}
use Rattle.expansion_definition.specs.Input.{Input, docs}
use Rattle.expansion_definition.specs.Scopes.{Scope, scope_document, is_body}
use Rattle.ast.specs.Ids.{statement_ids}
use Rattle.expansion_definition.specs.State.{Bookkeeping, State, Result, refusal, ok, start_state}
use Rattle.expansion_definition.specs.Expand.{statements, LedgerEntry, ledger_entry, Expansion, Answer, expansion, answer, expand}
use Rattle.expansion_definition.specs.Reached.{Known, known_entry, body_ids, decl_of, body_names, body_scope, kind_by, node_kind, default_scope, graph}
use Rattle.expansion_definition.specs.Expanded.{scope_at, TakesDefault, Expanded, Met, known_document, PlainAt, InstanceAt, Dangling, four_origin, four_statement, four_body, six, seven, eight, Needs, Refusal, at_top, nowhere, too_deep, at_node, too_many}
use Rattle.expansion_definition.proofs.Outcome.{at_ok, at_refusal}
use Rattle.expansion_definition.proofs.Worlds.{see}
use Rattle.expansion_definition.proofs.Running.{Fair}
use Rattle.expansion_definition.proofs.Walk.{Whole, whole_run, Halt, no_row, because, statements_run}
use Rattle.expansion_definition.proofs.Agrees.{agrees}
use Rattle.expansion_definition.proofs.Defaults.{defaults_exact}
use Rattle.expansion_definition.proofs.DefaultCount.{default_count_lem}
use Rattle.expansion_definition.proofs.Output.{Output, output}
use Rattle.expansion_definition.proofs.OutputState.{TopStatement, NodeStatement, OutputNode}
use Rattle.expansion_definition.proofs.Ids.{ids_below}
use Rattle.expansion_definition.proofs.Rows.{statements_cov}
use Rattle.expansion_definition.proofs.Books.{Covered}
use Rattle.expansion_definition.proofs.Types.{types_listed}
use Rattle.expansion_definition.proofs.Stopped.{stopped}
use Rattle.expansion_definition.proofs.Needs.{rows_needed}
use Rattle.expansion_definition.proofs.Counted.{charges_counted}

-- A list of pairs, put together from their parts.
map_pairs : (l : List (ℕ × ℕ)) → map (λ x. (x.0, x.1)) l ≡ l
map_pairs [] = refl
map_pairs (x ∷ l) = ap (λ (r : List (ℕ × ℕ)). x ∷ r) (map_pairs l)

-- Statements and nodes of an output are those of an expanded document.
top_kept : (n : ℕ) (s : Statement) → TopStatement n s → TopKept s
top_kept n (Statement.Node i) h = tt
top_kept n (Statement.Proto p) h = h
top_kept n (Statement.ExternProto x) h = tt
top_kept n (Statement.Route r) h = tt
top_kept n (Statement.Other p) h = tt

inner_kept : (n : ℕ) (s : Statement) → NodeStatement n s → InnerKept s
inner_kept n (Statement.Node i) h = h
inner_kept n (Statement.Proto p) h = h
inner_kept n (Statement.ExternProto x) h = tt
inner_kept n (Statement.Route r) h = tt
inner_kept n (Statement.Other p) h = h

node_kept : (n : ℕ) (x : Node) → OutputNode n x → NodeKept x
node_kept n x h =
    record {
      origin = h.origin;
      interface = each_mem InterfaceKept x.interface (λ d q. (h.interface d q).1);
      statements = each_mem InnerKept x.statements (λ s q. inner_kept n s (h.statements s q));
    }

module _ (I : Input) (l : List Statement) (st : State) (e : statements I start_state ≡ ok l st) where
  -- Its output,
  out : Output I l st
  out = output I l st e

  -- its charges,
  paid : Covered I l st
  paid = at_ok (statements_cov I) e

  -- its run,
  ran : Whole I st.world
  ran = at_ok (statements_run I) e

  -- where it ends,
  abbrev end : Steps.World Known
  end = see ran.after st.world

  -- and what the steps give of that run.
  x : Exact (graph I) end
  x = exact (graph I) (agrees I) end refl (whole_run I ran)

  -- what is known of a scope
  abbrev at : ℕ → Known
  at s = scope_at I end s

  -- The scope list has its entry.
  entry_is : (s : ℕ) → get_or st.world.scopes s Scope.Root ≡ (at s).entry
  entry_is s = ap (λ (l : List Scope). get_or l s Scope.Root) (sym ran.fits) ∙ get_or-map known_entry end.scopes s (graph I).root

  count_is : length end.scopes ≡ length st.world.scopes
  count_is = sym (length-map end.scopes known_entry) ∙ ap length ran.fits

  abbrev row : ℕ × ℕ → LedgerEntry
  row y = ledger_entry st.world.scopes y

  -- An entry tells scope and source id.
  row_inj : (a b : ℕ × ℕ) → row a ≡ row b → a ≡ b
  row_inj a b q = λ i. ((q i).scope, (q i).source)

  abbrev Listed : ℕ → ℕ → ℕ → Type 0
  Listed s d i = (s < length st.world.scopes) × (d ≡ scope_document (at s).entry) × Plain (graph I) (at s) i × ReachedIn (graph I) (at s) i

  -- An entry of the answer's ledger is one of the state's, its document that of its scope.
  to : (s d i : ℕ) → (y : ℕ × ℕ) × Memᴰ y st.world.ledger × (row y ≡ record { scope = s; document = d; source = i }) → Listed s d i
  to s d i y =
      let es : y.0.0 ≡ s = ap (λ (z : LedgerEntry). z.scope) y.2 in
      let ed : scope_document (get_or st.world.scopes y.0.0 Scope.Root) ≡ d = ap (λ (z : LedgerEntry). z.document) y.2 in
      let ei : y.0.1 ≡ i = ap (λ (z : LedgerEntry). z.source) y.2 in
      let q : (s < length end.scopes) × Plain (graph I) (at s) i × ReachedIn (graph I) (at s) i = (x.ledger s i).0 (Memᴰ.cast (λ k. (sym es k, sym ei k)) y.1) in
      (rw count_is at q.0, sym ed ∙ ap scope_document (entry_is y.0.0) ∙ ap (λ (k : ℕ). scope_document (at k).entry) es, q.1, q.2)

  -- And the other way round.
  back : (s d i : ℕ) → Listed s d i → Memᴰ (record { scope = s; document = d; source = i }) (map row st.world.ledger)
  back s d i q =
      let ed : d ≡ scope_document (get_or st.world.scopes s Scope.Root) = q.1 ∙ ap scope_document (sym (entry_is s)) in
      Memᴰ.cast (λ k. record { scope = s; document = ed k; source = i }) (Memᴰ.map row ((x.ledger s i).1 (rw count_is q.0, q.2, q.3)))

  -- No source is an instance.
  no_instance : (y : LedgerEntry) → Memᴰ y (map row st.world.ledger) → Instance (graph I) (at y.scope) y.source → ⊥
  no_instance y m i = apart (graph I) {e = at y.scope} {j = y.source} (to y.scope y.document y.source (Memᴰ.of_map row st.world.ledger m)).2 i

  abbrev Taken : Prototype → ℕ → ℕ → Type 0
  Taken p k n = (n < length st.world.scopes) × (j : ℕ) × ReachedIn (graph I) (at n) j × TakesDefault I (at n) j p k

  -- A default scope is that of a default which an instance reached takes.
  default_taken : (p : Prototype) (k n : ℕ) → Memᴰ (Scope.Default p k n) (map known_entry end.scopes) → Taken p k n
  default_taken p k n m =
      let y = Memᴰ.of_map known_entry end.scopes m in
      ⊎_elim (λ q. no_root y.0 y.2 q) (λ d. by y.0 y.2 d) (default_asked (graph I) (agrees I) end (whole_run I ran) y.0 y.1 (ap is_body y.2))
    where
      no_root : (x : Known) → x.entry ≡ Scope.Default p k n → x ≡ (graph I).root → Taken p k n
      no_root x q z = absurd (let a : x.entry ≡ Scope.Root = ap known_entry z in let z : ◌≡◌ {A = ℕ} 0 1 = cc in omega arith)

      same : (p' : Prototype) (k' n' : ℕ) → Scope.Default p' k' n' ≡ Scope.Default p k n → Taken p' k' n' → Taken p k n
      same p' k' n' q t =
          let ep : p' ≡ p = cc in
          let ek : k' ≡ k = cc in
          let en : n' ≡ n = cc in
          rw (← ep, ← ek, ← en) t

      by : (x : Known) → x.entry ≡ Scope.Default p k n → DefaultOf (graph I) end x → Taken p k n
      by x q d =
          let a = (defaults_exact I (at d.number) d.node d.default).0 d.asked in
          same a.0 a.1 d.number (ap (λ (b : ℕ → Known). (b d.number).entry) (sym a.3) ∙ ap known_entry (sym d.is) ∙ q) (rw count_is at d.lt, d.node, d.reached, a.2)

  -- And each of them is opened.
  taken_default : (p : Prototype) (k n : ℕ) → Taken p k n → Memᴰ (Scope.Default p k n) (map known_entry end.scopes)
  taken_default p k n t =
      Memᴰ.map known_entry (asked_open (graph I) (agrees I) end (whole_run I ran) n t.1 (rw count_is t.0) refl t.2 (default_scope p k) ((defaults_exact I (at n) t.1 (default_scope p k)).1 (p, k, t.3, refl)))

  -- All of it together.
  expanded : Expanded I (expansion I l st)
  expanded = record {
    world = end;
    steps = whole_run I ran;
    opens = λ v r. ap (λ (u : Steps.World Known). u.scopes) (run_unique (whole_run I ran) v r) ∙ opened_all r;
    no_proto = record {
      protos = refl;
      statements = λ p m. out.statements (Statement.Proto p) m;
      node_statements = λ y m p q. (out.nodes y m).statements (Statement.Proto p) q;
      origins = λ y m p q. rw q at (out.nodes y m).origin;
    };
    no_instance = no_instance;
    ids = ids_below (length st.nodes) (Rattle.expansion_definition.specs.Expand.output I l st) out.nodes out.statements out.externs;
    node_count = refl;
    node_limit = out.room;
    scopes = sym ran.fits;
    scope_count = refl;
    defaults = λ p k n. (λ m. default_taken p k n (rw ran.fits m), λ t. rw (← ran.fits) (taken_default p k n t));
    nodes_reached = rw out.listed x.nodes;
    ledger_once = nodup_map row row_inj st.world.ledger x.once;
    ledger = λ s d i. (λ m. to s d i (Memᴰ.of_map row st.world.ledger m), back s d i);
    ledger_size = length-map st.world.ledger row ∙ sym out.listed;
    ledger_order = λ v r. map_map (λ x. (x.scope, x.source)) row st.world.ledger ∙ map_pairs st.world.ledger ∙ ap (λ (u : Steps.World Known). u.ledger) (run_unique (whole_run I ran) v r);
    type_names = sym (map_map some (λ x. x.type_name) st.nodes) ∙ at_ok (types_listed I) e ∙ sym (map_map (λ x. map_o (λ n. n.type_name) (node_at (docs I) x.document x.source)) row st.world.ledger);
    pods = x.pods;
    default_count = default_count_lem I end (whole_run I ran) st.world.scopes ran.fits;
    charges = λ v r. at_ok (charges_counted I v r) e;
    rows_paid = omega (arith, paid.covers);
    scopes_paid = omega (arith, paid.covers);
    charge_limit = paid.capped;
    form = record {
      nodes = each_mem NodeKept st.nodes (λ y m. node_kept (length st.nodes) y (out.nodes y m));
      protos = refl;
      extern_protos = each_mem (λ y. Each InterfaceKept y.interface) st.extern_protos (λ y m. each_mem InterfaceKept y.interface (λ d q k s. out.externs y m d q));
      statements = each_mem TopKept l (λ s m. top_kept (length st.nodes) s (out.statements s m));
    };
    externs = out.externs;
    supplied = out.supplied;
  }

-- ---- what an accepted expansion passes

-- What is no node is neither plain nor an instance,
no_kind : {S : Type 0} {k : Kind S} → k ≡ no_node → k ≡ plain_node → ⊥
no_kind p q = let z : ◌≡◌ {A = ℕ} 0 1 = cc in omega arith

no_instance_lem : {S : Type 0} {k : Kind S} {b : ℕ → S} → k ≡ no_node → k ≡ instance_node b → ⊥
no_instance_lem p q = let z : ◌≡◌ {A = ℕ} 0 1 = cc in omega arith

-- and no node is both.
not_both : {S : Type 0} {k : Kind S} {b : ℕ → S} → k ≡ plain_node → k ≡ instance_node b → ⊥
not_both p q = let z : ◌≡◌ {A = ℕ} 0 1 = cc in omega arith

one_body : {S : Type 0} {k : Kind S} (b c : ℕ → S) → k ≡ instance_node b → k ≡ instance_node c → b ≡ c
one_body b c p q = cc

no_start : {r : ℕ} {rs : List ℕ} → ◌≡◌ {A = List ℕ} [] (r ∷ rs) → ⊥
no_start q = let z : ◌≡◌ {A = ℕ} 0 1 = cc in omega arith

-- The first id that statements start from is a Node's.
first_node : (l : List Statement) (r : ℕ) (rs : List ℕ) → flat statement_ids l ≡ r ∷ rs → Memᴰ (Statement.Node r) l
first_node [] r rs q = absurd (no_start q)
first_node (Statement.Node i ∷ l) r rs q = let e : i ≡ r = same_head i r (flat statement_ids l) rs q in Memᴰ.head (ap Statement.Node (sym e))
  where
    same_head : (x y : ℕ) (l k : List ℕ) → ◌≡◌ {A = List ℕ} (x ∷ l) (y ∷ k) → x ≡ y
    same_head x y l k e = cc
first_node (Statement.Proto p ∷ l) r rs q = Memᴰ.tail (first_node l r rs q)
first_node (Statement.ExternProto x ∷ l) r rs q = Memᴰ.tail (first_node l r rs q)
first_node (Statement.Route x ∷ l) r rs q = Memᴰ.tail (first_node l r rs q)
first_node (Statement.Other p ∷ l) r rs q = Memᴰ.tail (first_node l r rs q)

module _ (I : Input) (s : Known) (i : ℕ) where
  plain_kind : (node : Node) → PlainAt I s i node → (graph I).kind s i ≡ plain_node
  plain_kind node h = ap (node_kind I s) h.there ∙ ap (kind_by I s.names node) h.plain

  abbrev body_for : (p : Prototype) → InstanceAt I s i p → ℕ → Known
  body_for p h = body_scope p (body_names s.names h.node.fields (decl_of I p))

  instance_kind : (p : Prototype) (h : InstanceAt I s i p) → (graph I).kind s i ≡ instance_node (body_for p h)
  instance_kind p h = ap (node_kind I s) h.there ∙ ap (kind_by I s.names h.node) h.instance

module _ (I : Input) (l : List Statement) (st : State) (e : statements I start_state ≡ ok l st) where
  passed : (m : Met I) → Passes (graph I) (Fair I) I.limits.max_depth m.depth m.number m.scope m.id m.world (end I l st e)
  passed m = passes_unmapped m.comes m.unmapped I.limits.max_depth (end I l st e) (ran I l st e).within

  -- No id leads nowhere,
  none_lost : (m : Met I) → node_at (docs I) (known_document m.scope) m.id ≡ none → ⊥
  none_lost m q = go (passed m)
    where
      kind : (graph I).kind m.scope m.id ≡ no_node
      kind = ap (node_kind I m.scope) q

      go : Passes (graph I) (Fair I) I.limits.max_depth m.depth m.number m.scope m.id m.world (end I l st e) → ⊥
      go (pass_plain x f p h) = no_kind kind p
      go (pass_instance x f b r rs p h) = no_instance_lem kind p

  -- no node is too deep,
  none_deep : (m : Met I) → m.depth < I.limits.max_depth
  none_deep m = go (passed m)
    where
      go : Passes (graph I) (Fair I) I.limits.max_depth m.depth m.number m.scope m.id m.world (end I l st e) → m.depth < I.limits.max_depth
      go (pass_plain x f p h) = x
      go (pass_instance x f b r rs p h) = x

  -- no instance has no PROTO, or one whose body has no root,
  rooted : (m : Met I) (p : Prototype) (h : InstanceAt I m.scope m.id p) → (r : ℕ) × (rs : List ℕ) × (body_ids (decl_of I p) ≡ r ∷ rs)
  rooted m p h = go (passed m)
    where
      go : Passes (graph I) (Fair I) I.limits.max_depth m.depth m.number m.scope m.id m.world (end I l st e) → (r : ℕ) × (rs : List ℕ) × (body_ids (decl_of I p) ≡ r ∷ rs)
      go (pass_plain x f q k) = absurd (not_both q (instance_kind I m.scope m.id p h))
      go (pass_instance x f b r rs q k) = (r, rs, ap (λ (b : ℕ → Known). (graph I).starts (b m.number)) (one_body (body_for I m.scope m.id p h) b (instance_kind I m.scope m.id p h) q) ∙ k)

  -- no extern id leads nowhere,
  fair : (m : Met I) → Fair I m.scope m.id
  fair m = go (passed m)
    where
      go : Passes (graph I) (Fair I) I.limits.max_depth m.depth m.number m.scope m.id m.world (end I l st e) → Fair I m.scope m.id
      go (pass_plain x f p h) = f
      go (pass_instance x f b r rs p h) = f

  -- and for every plain node there was room.
  had_room : (m : Met I) (node : Node) → PlainAt I m.scope m.id node → length m.world.ledger < I.limits.max_nodes
  had_room m node h = go (passed m)
    where
      go : Passes (graph I) (Fair I) I.limits.max_depth m.depth m.number m.scope m.id m.world (end I l st e) → length m.world.ledger < I.limits.max_nodes
      go (pass_plain x f p k) = omega (arith, (out I l st e).listed, (out I l st e).room)
      go (pass_instance x f b r rs q k) = absurd (not_both (plain_kind I m.scope m.id node h) q)

-- A refusal is no expansion.
pub refused_not_expanded : {A : Type 0} {c d i : ℕ} {e : Expansion} → Answer.Refused c d i ≡ Answer.Expanded e → A
refused_not_expanded q = absurd (let z : ◌≡◌ {A = ℕ} 0 1 = cc in omega arith)

-- An answer holds one expansion.
pub same_expansion : (a b : Expansion) → Answer.Expanded a ≡ Answer.Expanded b → a ≡ b
same_expansion a b q = cc

-- Demand 3: whatever is written into a scene and the files it names, this holds of every accepted expansion.
pub demand_3 : (I : Input) (e : Expansion) → expand I ≡ Answer.Expanded e → Expanded I e
unfolding expand answer
demand_3 I e = go (statements I start_state) refl
  where
    go : (r : Result (List Statement)) → statements I start_state ≡ r → answer I r ≡ Answer.Expanded e → Expanded I e
    go (refusal c d i) q h = refused_not_expanded h
    go (ok l st) q h = subst (Expanded I) (same_expansion (expansion I l st) e h) (expanded I l st q)

-- ---- refusals

-- A refusal has its reason: of a 10, that more rows are needed.
because_of : (I : Input) {c d i : ℕ} → expand I ≡ Answer.Refused c d i → Halt I c d i → Refusal I c d i
because_of I e (no_row p) = too_few (rows_needed I).0 (rows_needed I).1 (dec_lt I.limits.max_rows (rows_needed I).0)
  where
    too_few : (need : ℕ) → Needs I need → Dec (I.limits.max_rows < need) → Refusal I 10 0 0
    too_few need h (yes l) = too_many p (stopped I 10 0 0 e) need h l
    too_few need h (no l) = absurd (h.other 0 0 (sym (h.enough I.limits.max_rows (omega arith)) ∙ e))
because_of I e (because r) = r

-- Every refusal is one of document 01's, with its places, and given for what document 01 says.
pub refusals : (I : Input) (c d i : ℕ) → expand I ≡ Answer.Refused c d i → Refusal I c d i
unfolding expand answer
refusals I c d i e = go (statements I start_state) refl e
  where
    go : (r : Result (List Statement)) → statements I start_state ≡ r → answer I r ≡ Answer.Refused c d i → Refusal I c d i
    go (refusal c' d' i') q h =
        let hc : c' ≡ c = cc in
        let hd : d' ≡ d = cc in
        let hi : i' ≡ i = cc in
        because_of I e (rw (← hc, ← hd, ← hi) (at_refusal (statements_run I) q))
    go (ok l st) q h = refused_not_expanded (sym h)

-- Its number is one of 4 to 10.
pub numbered : {I : Input} {c d i : ℕ} → Refusal I c d i → (4 ≤ c) × (c ≤ 10)
numbered (at_top x h v r) = omega arith
numbered (nowhere m l e) = omega arith
numbered (too_deep m l node e) = omega arith
numbered (at_node m l (four_origin node p r x o q)) = omega arith
numbered (at_node m l (four_statement node p r o v w x h)) = omega arith
numbered (at_node m l (four_body p h decl r v w x k b z y)) = omega arith
numbered (at_node m l (six p h q)) = omega arith
numbered (at_node m l (seven p h decl r v w e z)) = omega arith
numbered (at_node m l (eight node p q)) = omega arith
numbered (too_many p s need h l) = omega arith

-- ---- the other way round

-- A dangling statement is one of them.
stands : {I : Input} {d x : ℕ} {l : List Statement} → Dangling I d l x → Memᴰ (Statement.ExternProto x) l
stands {x = x} h = subst (Memᴰ (Statement.ExternProto x)) (sym h.place) (Memᴰ.append_right h.before (Memᴰ.head refl))

-- Where a refusal has what it is given for, no expansion is accepted.
pub faultless : (I : Input) (e : Expansion) → expand I ≡ Answer.Expanded e → (c d i : ℕ) → Refusal I c d i → ⊥
unfolding expand answer
faultless I e q c d i r = go (statements I start_state) refl q
  where
    at : (l : List Statement) (st : State) → statements I start_state ≡ ok l st → {c d i : ℕ} → Refusal I c d i → ⊥
    at l st h (at_top x d v r) = (ran I l st h).externs x (stands d) d.missing
    at l st h (nowhere m k z) = none_lost I l st h m z
    at l st h (too_deep m k node z) = omega (arith, none_deep I l st h m)
    at l st h (at_node m k (four_origin node p r x o z)) = (fair I l st h m).of_plain node p x (inl o) z
    at l st h (at_node m k (four_statement node p r o v w x d)) = (fair I l st h m).of_plain node p x (inr (stands d)) d.missing
    at l st h (at_node m k (four_body p y decl r v w x d b o z)) = (fair I l st h m).of_instance p y decl r x (stands d) d.missing
    at l st h (at_node m k (six p y z)) = let x = rooted I l st h m p y in no_start (sym (ap body_ids z) ∙ x.2)
    at l st h (at_node m k (seven p y decl r v w z f)) = let x = rooted I l st h m p y in z x.0 (first_node decl.body x.0 x.1 (sym (ap body_ids r) ∙ x.2))
    at l st h (at_node m k (eight node p z)) = omega (arith, had_room I l st h m node p)
    at l st h (too_many p s need z k) = refused_not_expanded (sym (z.short I.limits.max_rows k) ∙ q)

    go : (z : Result (List Statement)) → statements I start_state ≡ z → answer I z ≡ Answer.Expanded e → ⊥
    go (refusal c d i) h k = refused_not_expanded k
    go (ok l st) h k = at l st h r

-- ---- what the numbers and the places say by themselves

-- 4: there is no such EXTERNPROTO.
pub refused_4 : {I : Input} {c d i : ℕ} → Refusal I c d i → c ≡ 4 → extern_proto_at (docs I) d i ≡ none
refused_4 (at_top x h v r) q = h.missing
refused_4 (nowhere m l e) q = absurd (omega arith)
refused_4 (too_deep m l node e) q = absurd (omega arith)
refused_4 (at_node m l (four_origin node p r x o e)) q = e
refused_4 (at_node m l (four_statement node p r o v w x h)) q = h.missing
refused_4 (at_node m l (four_body p h decl r v w x k b z y)) q = k.missing
refused_4 (at_node m l (six p h e)) q = absurd (omega arith)
refused_4 (at_node m l (seven p h decl r v w e z)) q = absurd (omega arith)
refused_4 (at_node m l (eight node p e)) q = absurd (omega arith)
refused_4 (too_many p s need h l) q = absurd (omega arith)

-- 5: there is no such node.
pub refused_5 : {I : Input} {c d i : ℕ} → Refusal I c d i → c ≡ 5 → node_at (docs I) d i ≡ none
refused_5 (at_top x h v r) q = absurd (omega arith)
refused_5 (nowhere m l e) q = e
refused_5 (too_deep m l node e) q = absurd (omega arith)
refused_5 (at_node m l (four_origin node p r x o e)) q = absurd (omega arith)
refused_5 (at_node m l (four_statement node p r o v w x h)) q = absurd (omega arith)
refused_5 (at_node m l (four_body p h decl r v w x k b z y)) q = absurd (omega arith)
refused_5 (at_node m l (six p h e)) q = absurd (omega arith)
refused_5 (at_node m l (seven p h decl r v w e z)) q = absurd (omega arith)
refused_5 (at_node m l (eight node p e)) q = absurd (omega arith)
refused_5 (too_many p s need h l) q = absurd (omega arith)

-- 6: there is no such PROTO.
pub refused_6 : {I : Input} {c d i : ℕ} → Refusal I c d i → c ≡ 6 → proto_at (docs I) d i ≡ none
refused_6 (at_top x h v r) q = absurd (omega arith)
refused_6 (nowhere m l e) q = absurd (omega arith)
refused_6 (too_deep m l node e) q = absurd (omega arith)
refused_6 (at_node m l (four_origin node p r x o e)) q = absurd (omega arith)
refused_6 (at_node m l (four_statement node p r o v w x h)) q = absurd (omega arith)
refused_6 (at_node m l (four_body p h decl r v w x k b z y)) q = absurd (omega arith)
refused_6 (at_node m l (six p h e)) q = e
refused_6 (at_node m l (seven p h decl r v w e z)) q = absurd (omega arith)
refused_6 (at_node m l (eight node p e)) q = absurd (omega arith)
refused_6 (too_many p s need h l) q = absurd (omega arith)

-- 7: that PROTO's body has no Node statement.
pub refused_7 : {I : Input} {c d i : ℕ} → Refusal I c d i → c ≡ 7 → (decl : ProtoDecl) × (proto_at (docs I) d i ≡ some decl) × ((j : ℕ) → Memᴰ (Statement.Node j) decl.body → ⊥)
refused_7 (at_top x h v r) q = absurd (omega arith)
refused_7 (nowhere m l e) q = absurd (omega arith)
refused_7 (too_deep m l node e) q = absurd (omega arith)
refused_7 (at_node m l (four_origin node p r x o e)) q = absurd (omega arith)
refused_7 (at_node m l (four_statement node p r o v w x h)) q = absurd (omega arith)
refused_7 (at_node m l (four_body p h decl r v w x k b z y)) q = absurd (omega arith)
refused_7 (at_node m l (six p h e)) q = absurd (omega arith)
refused_7 (at_node m l (seven p h decl r v w e z)) q = (decl, r, e)
refused_7 (at_node m l (eight node p e)) q = absurd (omega arith)
refused_7 (too_many p s need h l) q = absurd (omega arith)
