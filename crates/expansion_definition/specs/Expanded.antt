-- Demand 3 of an accepted expansion, sentence by sentence, and what else holds of every one.
use Rattle.std.specs.Prelude.{◌≡◌, ◌↔◌, true, false, ℕ, ◌≤◌, ◌<◌, length}
use mathlib.Core.List.{List, [], ◌∷◌, ◌++◌, map, Memᴰ}
use Rattle.std.proofs.Math.Option.{Option, none, some}
use Rattle.std.proofs.Math.ListN.{get_elem?}
use Rattle.ast.specs.Ast.{NodeOrigin, InterfaceDecl, Statement, Node, ProtoDecl, Url, ExternProtoDecl, Document}
use Rattle.ast.specs.Choice.{map_o}
use Rattle.ast.specs.Expanded.{IsExpanded}
use Rattle.ast.specs.Lists.{flat}
use Rattle.ast.specs.Lookups.{node_at, proto_at, extern_proto_at}
use Rattle.pick_definition.specs.Picks.{Prototype, Pick, prototype_of, pick_url, pick_of}
use Rattle.expansion_steps.specs.Lists.{Nodup, count_if}
use Rattle.expansion_steps.specs.Steps.{instance_node, copy_id, Plain, Instance, ReachedIn, World, add_mapped, add_plain, add_body, first_world, Mapped, count, one, all, Run, WholeRun, opened}
use Rattle.expansion_steps.specs.Places.{Comes}
use Rattle.expansion_steps.specs.Sums.{entry, Sum, Total, bodies, NoLoop}
use Rattle.expansion_definition.specs.Input.{Input, docs, proto_of_origin, last_field}
use Rattle.expansion_definition.specs.Scopes.{Scope, scope_document, is_default}
use Rattle.ast.specs.Ids.{statement_ids}
use Rattle.expansion_definition.specs.State.{State, refusal, ok, start_state}
use Rattle.expansion_definition.specs.Copy.{copy}
use Rattle.expansion_definition.specs.Expand.{statement, root_env, LedgerEntry, Expansion, Answer, expansion, expand}
use Rattle.expansion_definition.specs.Reached.{Known, known_entry, decl_of, gives, is_given, node_in_scope, graph}
use Rattle.expansion_definition.specs.Outputs.{output_ids, row_count}
use Rattle.expansion_definition.specs.Counted.{counted, tops, CopiesCharged}
use Rattle.expansion_definition.specs.Until.{Fit, BodyDone, PartsCharged, OpenTop}

-- "A PROTO is left in an output by a kind 7 row or a Proto statement, an instance by a node of origin Proto ..": none is.
pub record NoProto (d : Document) : Type 0 where
  pub protos : d.protos ≡ []
  pub statements : (p : ℕ) → Memᴰ (Statement.Proto p) d.statements → ⊥
  pub node_statements : (x : Node) → Memᴰ x d.nodes → (p : ℕ) → Memᴰ (Statement.Proto p) x.statements → ⊥
  pub origins : (x : Node) → Memᴰ x d.nodes → (p : ℕ) → x.origin ≡ NodeOrigin.Proto p → ⊥

-- what is known of scope number s of a world
abbrev pub scope_at : Input → World Known → ℕ → Known
scope_at I w s = entry (graph I) w.scopes s

-- In a scope of which s is known, instance j of PROTO p takes the default of the PROTO's interface number k: no field gives a value there, and there is a default.
pub record TakesDefault (I : Input) (s : Known) (j : ℕ) (p : Prototype) (k : ℕ) : Type 0 where
  pub node : Node
  pub here : node_in_scope I s.entry j ≡ some node
  pub instance : proto_of_origin I (scope_document s.entry) node.origin ≡ some p
  pub decl : ProtoDecl
  pub declared : decl_of I p ≡ some decl
  pub interface : InterfaceDecl
  pub place : get_elem? decl.interface k ≡ some interface
  pub ungiven : gives s.names (last_field interface.name node.fields) ≡ false
  pub default : is_given interface.value ≡ true

-- x is an instance reached in that scope, and the number of an interface whose default it takes
abbrev pub DefaultTaken : Input → Known → ℕ × ℕ → Type 0
DefaultTaken I s x = ReachedIn (graph I) s x.0 × ((p : Prototype) × TakesDefault I s x.0 p x.1)

-- a url but for its mark
abbrev pub address : Url → ℕ × Option ℕ
address u = (u.base, u.fragment)

-- Document 02, wish 1. y stands in the output for extern `id` of document `document`: its urls are the same, but for the marks.
pub record Supplied (I : Input) (y : ExternProtoDecl) : Type 0 where
  pub document : ℕ
  pub id : ℕ
  pub decl : ExternProtoDecl
  pub declares : extern_proto_at (docs I) document id ≡ some decl
  pub name : y.name ≡ decl.name
  pub urls : map address y.urls ≡ map address decl.urls
  -- "In the output, that url row has c = 1 and every other url row c = 0.": a marked url is the one that the pick took,
  pub taken : (k : ℕ) (u : Url) → get_elem? y.urls k ≡ some u → u.used ≡ true → (p : Pick) × (pick_of I.root I.library document id ≡ some p) × (p.url ≡ k)
  -- an extern with a pick has a mark, on a url that leads to the picked PROTO,
  pub one : (p : Pick) → pick_of I.root I.library document id ≡ some p → (u : Url) × (get_elem? y.urls p.url ≡ some u) × (u.used ≡ true) × (pick_url I.library u ≡ some (prototype_of p))
  -- and one without a pick has none.
  pub none : pick_of I.root I.library document id ≡ none → (u : Url) → Memᴰ u y.urls → u.used ≡ false

pub record Expanded (I : Input) (e : Expansion) : Type 0 where
  -- The steps come to their end, and whichever run of them does opens these scopes, world.scopes.
  pub world : World Known
  pub steps : WholeRun (graph I) world
  pub opens : (w : World Known) (r : WholeRun (graph I) w) → world.scopes ≡ (graph I).root ∷ opened r
  -- "No PROTO and no instance, as document 01 defines them, is left in its output."
  -- An instance is left by a node of origin Proto, or by one whose ledger source is an instance. "Demand 3 uses this wider meaning of instance throughout." (document 02, wish 12):
  -- what an instance is, `prototype_in` says for every document; the graph, what is reached, the ledger, the pods and the defaults below go by it.
  pub no_proto : NoProto e.document
  pub no_instance : (x : LedgerEntry) → Memᴰ x e.ledger → Instance (graph I) (scope_at I world x.scope) x.source → ⊥
  -- "Every node id of the output is below the node count, and that count is at most the node limit."
  pub ids : (i : ℕ) → Memᴰ i (output_ids e.document) → i < e.node_count
  pub node_count : e.node_count ≡ length e.document.nodes
  pub node_limit : e.node_count ≤ I.limits.max_nodes
  -- "the scope list has one entry for each scope that these steps open, and no other"
  pub scopes : e.scopes ≡ map known_entry world.scopes
  pub scope_count : e.scope_count ≡ length e.scopes
  -- Document 02, wish 6: a default scope is opened exactly where no field gives a value. Its entry stands in the list if and only if an instance reached in the opening scope takes that default.
  pub defaults : (p : Prototype) (k n : ℕ) → Memᴰ (Scope.Default p k n) e.scopes ↔ ((n < e.scope_count) × (j : ℕ) × ReachedIn (graph I) (scope_at I world n) j × TakesDefault I (scope_at I world n) j p k)
  -- "The node count = the sum, over all these scopes, of the plain nodes reached in each, by document 01's closure."
  pub nodes_reached : Total (graph I) (Plain (graph I)) world.scopes e.node_count
  -- "The ledger has, for each of these scopes and each plain node reached in it, exactly one entry with that scope, document and source id, and no other entry."
  pub ledger_once : Nodup e.ledger
  pub ledger : (s d i : ℕ) → Memᴰ (record { scope = s; document = d; source = i }) e.ledger
      ↔ ((s < e.scope_count) × (d ≡ scope_document (scope_at I world s).entry) × Plain (graph I) (scope_at I world s) i × ReachedIn (graph I) (scope_at I world s) i)
  -- One entry to an output node,
  pub ledger_size : length e.ledger ≡ e.node_count
  -- in the order in which the steps, whichever run of them, copy the nodes; and entry k is node k's, which has the type name of the source node that the entry names.
  pub ledger_order : (w : World Known) → WholeRun (graph I) w → map (λ x. (x.scope, x.source)) e.ledger ≡ w.ledger
  pub type_names : map (λ x. some x.type_name) e.document.nodes ≡ map (λ x. map_o (λ n. n.type_name) (node_at (docs I) x.document x.source)) e.ledger
  -- "whenever no instance reached in any of these scopes reaches itself, the body scopes opened = the sum, over all these scopes, of the instances reached in each"
  pub pods : NoLoop (graph I) world.scopes → Total (graph I) (Instance (graph I)) world.scopes (bodies (graph I) world.scopes)
  -- Document 02, wish 6, "The double-count guarantee covers the new default scopes as well.": then too the default scopes opened = the sum, over all these scopes and the instances reached in each, of the interfaces whose default is taken there.
  pub default_count : NoLoop (graph I) world.scopes → Sum (graph I) (DefaultTaken I) world.scopes (count_if is_default e.scopes)
  -- Document 01, Charges: the charges are its list's items, counted one by one from the output, the scope list and a run of the steps, whichever it is.
  pub charges : (w : World Known) (r : WholeRun (graph I) w) → e.charges ≡ counted I e r
  -- Beside the demand: "In every accepted expansion rows ≤ charges ≤ K"; a scope has a charge of its own; the output is an expanded document.
  pub rows_paid : row_count e.document ≤ e.charges
  pub scopes_paid : e.scope_count ≤ e.charges
  pub charge_limit : e.charges ≤ I.limits.max_rows
  pub form : IsExpanded e.document
  -- "An extern is row 8, interfaces of class 0, urls."
  pub externs : (x : ExternProtoDecl) → Memᴰ x e.document.extern_protos → (i : InterfaceDecl) → Memᴰ i x.interface → i.value ≡ none
  -- Document 02, wish 1, of every extern of the output, whichever statement declares it
  pub supplied : (x : ExternProtoDecl) → Memᴰ x e.document.extern_protos → Supplied I x

-- ---- refusals

-- The steps come to node id `id` of scope number `number`, which isn't mapped there yet: `depth` nodes are open around it, `scope` is what is known of the scope, and `world` what the steps have made so far.
pub record Met (I : Input) : Type 0 where
  pub depth : ℕ
  pub number : ℕ
  pub scope : Known
  pub id : ℕ
  pub world : World Known
  pub comes : Comes (graph I) (all 0 (graph I).root (map copy_id ((graph I).starts (graph I).root))) (first_world (graph I).root) depth number scope id world
  pub unmapped : Mapped world number id → ⊥

-- the document that the nodes of a scope live in
abbrev pub known_document : Known → ℕ
known_document s = scope_document s.entry

-- node id i of a scope is there, and plain
pub record PlainAt (I : Input) (s : Known) (i : ℕ) (node : Node) : Type 0 where
  pub there : node_at (docs I) (known_document s) i ≡ some node
  pub plain : proto_of_origin I (known_document s) node.origin ≡ none

-- it is there, and an instance of PROTO p.proto of document p.document
pub record InstanceAt (I : Input) (s : Known) (i : ℕ) (p : Prototype) : Type 0 where
  pub node : Node
  pub there : node_at (docs I) (known_document s) i ≡ some node
  pub instance : proto_of_origin I (known_document s) node.origin ≡ some p

-- the extern ids of statements of document d lead somewhere
abbrev pub ExternsThere : Input → ℕ → List Statement → Type 0
ExternsThere I d l = (x : ℕ) → Memᴰ (Statement.ExternProto x) l → extern_proto_at (docs I) d x ≡ none → ⊥

-- Of the statements l of document d, the first ExternProto statement whose id leads nowhere: the id is x, and these stand in front of it.
pub record Dangling (I : Input) (d : ℕ) (l : List Statement) (x : ℕ) : Type 0 where
  pub before : List Statement
  pub behind : List Statement
  pub place : l ≡ before ++ (Statement.ExternProto x ∷ behind)
  pub there : ExternsThere I d before
  pub missing : extern_proto_at (docs I) d x ≡ none

-- What is wrong at node id i of scope number n, of which s is known, in the world w: the refusal's number, and its two places. What stands before it in the order of the steps is done.
pub data Fault (I : Input) (n : ℕ) (s : Known) (i : ℕ) (w : World Known) : ℕ → ℕ → ℕ → Type 0 where
  -- "4 dangling EXTERNPROTO id": of a plain node, for which there is room, its origin,
  four_origin : (node : Node) → PlainAt I s i node → length w.ledger < I.limits.max_nodes → (x : ℕ) → node.origin ≡ NodeOrigin.ExternProto x → extern_proto_at (docs I) (known_document s) x ≡ none → Fault I n s i w 4 (known_document s) x
  -- or an ExternProto statement: the origin's is there, and the contents are copied
  four_statement : (node : Node) → PlainAt I s i node → length w.ledger < I.limits.max_nodes → ((y : ℕ) → node.origin ≡ NodeOrigin.ExternProto y → extern_proto_at (docs I) (known_document s) y ≡ none → ⊥)
      → (v : World Known) → Run (graph I) (all n s ((graph I).actions s i)) (add_plain n i w) v → (x : ℕ) → Dangling I (known_document s) node.statements x → Fault I n s i w 4 (known_document s) x
  -- of an instance whose values are copied, an ExternProto statement of the PROTO's body
  four_body : (p : Prototype) → InstanceAt I s i p → (decl : ProtoDecl) → proto_at (docs I) p.document p.proto ≡ some decl → (v : World Known) → Run (graph I) (all n s ((graph I).actions s i)) w v
      → (x : ℕ) (h : Dangling I p.document decl.body x) (b : ℕ → Known) → (graph I).kind s i ≡ instance_node b → BodyDone I n i (b n) v (flat statement_ids h.before) → Fault I n s i w 4 p.document x
  -- "6 dangling PROTO id": of an instance
  six : (p : Prototype) → InstanceAt I s i p → proto_at (docs I) p.document p.proto ≡ none → Fault I n s i w 6 p.document p.proto
  -- "7 body without a root", "7 last": of an instance whose values are copied, no Node statement in the PROTO's body, whose externs are there
  seven : (p : Prototype) → InstanceAt I s i p → (decl : ProtoDecl) → proto_at (docs I) p.document p.proto ≡ some decl → (v : World Known) → Run (graph I) (all n s ((graph I).actions s i)) w v
      → ((j : ℕ) → Memᴰ (Statement.Node j) decl.body → ⊥) → ExternsThere I p.document decl.body → Fault I n s i w 7 p.document p.proto
  -- "8 if nodes ≥ N": a plain node, where N nodes are there
  eight : (node : Node) → PlainAt I s i node → length w.ledger ≡ I.limits.max_nodes → Fault I n s i w 8 0 0

-- The top statements `before`, in front of `next`, are done: what is kept of them, and the state that the definition is in when it comes to `next`. The steps run their Nodes.
pub record TopsDone (I : Input) : Type 0 where
  pub before : List Statement
  pub next : Statement
  pub behind : List Statement
  pub place : I.root.statements ≡ before ++ (next ∷ behind)
  pub kept : List Statement
  pub state : State
  pub done : tops I before start_state ≡ ok kept state
  pub world : World Known
  pub run : Run (graph I) (all 0 (graph I).root (map copy_id (flat statement_ids before))) (first_world (graph I).root) world
  pub fits : Fit I world state
  -- The charges made until then are the items of document 01's list, counted from what is there then and a run of those Nodes, whichever it is.
  pub charges : (w : World Known) (r : Run (graph I) (all 0 (graph I).root (map copy_id (flat statement_ids before))) (first_world (graph I).root) w) → state.charges ≡ counted I (expansion I kept state) r
  -- And so it is with each copy that comes to its end, there or in `next`; and with the first parts of one that doesn't.
  pub copies : CopiesCharged I
  pub parts : PartsCharged I

-- Where an expansion is refused, with which number and places, and what is charged until then; accepted or not with a larger limit on rows.
pub data Stopped (I : Input) : ℕ → ℕ → ℕ → Type 0 where
  -- "at the start three (document, top, scope 0)": fewer may be made
  at_start : I.limits.max_rows < 3 → Stopped I 10 0 0
  -- a top statement is refused
  at_statement : (h : TopsDone I) {c d i : ℕ} → statement I (copy I I.limits.max_depth root_env) root_env h.next h.state ≡ refusal c d i → Stopped I c d i

-- the same input, with another limit on rows
abbrev pub with_rows : ℕ → Input → Input
with_rows k I = record { root = I.root; library = I.library; limits = record { max_nodes = I.limits.max_nodes; max_depth = I.limits.max_depth; max_rows = k } }

-- A refusal that is no 10, and the charges made until then: those of the top statements that are done, then those of the first parts of the nodes that are open, one in the other.
pub record Until (I : Input) (charges c d i : ℕ) : Type 0 where
  pub tops : TopsDone I
  pub state : State
  pub way : OpenTop I tops.next tops.state state c d i
  pub made : state.charges ≡ charges

-- How many rows an input needs: with so many or more the steps come to an end that is no 10, the same for each such limit; with fewer it is 10. They are just the charges made until that end, be it an expansion or a refusal, and these are the items of document 01's list.
pub record Needs (I : Input) (need : ℕ) : Type 0 where
  pub end : Answer
  pub other : (d i : ℕ) → end ≡ Answer.Refused 10 d i → ⊥
  pub enough : (k : ℕ) → need ≤ k → expand (with_rows k I) ≡ end
  pub short : (k : ℕ) → k < need → expand (with_rows k I) ≡ Answer.Refused 10 0 0
  pub exact : (e : Expansion) → end ≡ Answer.Expanded e → e.charges ≡ need
  pub counts : (k : ℕ) → need ≤ k → (e : Expansion) → end ≡ Answer.Expanded e → (w : World Known) (r : WholeRun (graph (with_rows k I)) w) → need ≡ counted (with_rows k I) e r
  pub stops : (k : ℕ) → need ≤ k → (c d i : ℕ) → end ≡ Answer.Refused c d i → Until (with_rows k I) need c d i

-- Whose charge is refused: one of the top's (document, top, scope 0, a top statement), or one of a node that the steps come to while fewer than D are open.
pub data ChargedAt (I : Input) : Type 0 where
  top_charge : ChargedAt I
  node_charge : (m : Met I) → m.depth < I.limits.max_depth → (node : Node) → node_at (docs I) (known_document m.scope) m.id ≡ some node → ChargedAt I

-- Every refusal of the steps, and what it is given for.
pub data Refusal (I : Input) : ℕ → ℕ → ℕ → Type 0 where
  -- 4, of a top statement: those in front of it are done
  at_top : (x : ℕ) (h : Dangling I 0 I.root.statements x) (v : World Known) → Run (graph I) (all 0 (graph I).root (map copy_id (flat statement_ids h.before))) (first_world (graph I).root) v → Refusal I 4 0 x
  -- "5 dangling node id"
  nowhere : (m : Met I) → m.depth ≤ I.limits.max_depth → node_at (docs I) (known_document m.scope) m.id ≡ none → Refusal I 5 (known_document m.scope) m.id
  -- "depth + 1 over D gives 9": D nodes are open, and the steps come to a further one
  too_deep : (m : Met I) → m.depth ≡ I.limits.max_depth → (node : Node) → node_at (docs I) (known_document m.scope) m.id ≡ some node → Refusal I 9 0 0
  -- 4, 6, 7, 8: fewer are open, and that node is at fault
  at_node : (m : Met I) → m.depth < I.limits.max_depth → {c d i : ℕ} → Fault I m.number m.scope m.id m.world c d i → Refusal I c d i
  -- "the one that would make more than K gives 10": more rows are needed, and the steps come to that charge
  too_many : ChargedAt I → Stopped I 10 0 0 → (need : ℕ) → Needs I need → I.limits.max_rows < need → Refusal I 10 0 0
