-- What is charged until a refusal (document 01, Charges). A node that is open then has been charged for what stands in front of the place: it is the definition's own, on these first parts alone, and its charges are the list's items.
use Rattle.std.specs.Prelude.{◌≡◌, List, [], ◌∷◌, ◌++◌, map, ℕ, zero, suc, ◌+◌, ◌≤◌, length}
use Rattle.std.proofs.Math.Option.{Option, none, some}
use Rattle.ast.specs.Ast.{NodeOrigin, FieldData, FieldValue, FieldBinding, Field, InterfaceDecl, Statement, Node, ProtoDecl}
use Rattle.ast.specs.Choice.{and_then}
use Rattle.ast.specs.Lists.{flat}
use Rattle.ast.specs.Lookups.{node_at, proto_at, extern_proto_at}
use Rattle.pick_definition.specs.Picks.{Prototype, member}
use Rattle.expansion_steps.specs.Steps.{World, add_mapped, add_plain, add_default, add_body, count, copy_id, Task, one, all, Run}
use Rattle.expansion_definition.specs.Input.{Input, docs, proto_of_origin, last_field}
use Rattle.expansion_definition.specs.Scopes.{Scope}
use Rattle.ast.specs.Ids.{binding_ids, statement_ids}
use Rattle.expansion_definition.specs.State.{State, ok, Comp, ◌>>=◌, ◌>>◌, ret, map_m, fold_m, lookup}
use Rattle.expansion_definition.specs.Charges.{paid}
use Rattle.expansion_definition.specs.Values.{Values, value_named, Env, src, Copier}
use Rattle.expansion_definition.specs.Externs.{lookup_extern}
use Rattle.expansion_definition.specs.PlainCopy.{reserve, copy_origin, copy_field, copy_interface, copy_statement, somes}
use Rattle.expansion_definition.specs.Instances.{open_scope, values, Body, body_statement}
use Rattle.expansion_definition.specs.Copy.{copy}
use Rattle.expansion_definition.specs.Expand.{root_env}
use Rattle.expansion_definition.specs.Reached.{Known, known_entry, interface_ids, is_given, body_names, default_scope, interface_actions, graph}
use Rattle.expansion_definition.specs.Outputs.{sum_of, field_row_count, interface_row_count}
use Rattle.expansion_definition.specs.Counted.{routes_in, of_scope, is_in, is_set, of_value, of_run, held, values_or}

-- ---- the first parts of a node

-- ids of a value that isn't kept yet
unfoldable pub ids_first : Input → Copier → List ℕ → Comp (List ℕ)
ids_first I c ids = map_m (λ i. paid I (c i)) ids

-- a plain copy: its first fields, interfaces and statements, then ids of the next value; what is made of the node
unfoldable pub plain_first : Input → Copier → Env → ℕ → Node → List Field → List InterfaceDecl → List Statement → List ℕ → Comp Node
plain_first I c env i node fs is ss ids = do
  new ← reserve I env i
  origin ← copy_origin I env node.origin
  fields ← map_m (copy_field I c env new) fs
  interface ← map_m (copy_interface I c env new) is
  statements ← map_m (copy_statement I env) ss
  os ← ids_first I c ids
  ret (record { type_name = node.type_name; def_name = node.def_name; origin = origin; fields = somes fields; interface = interface; statements = somes statements; body_order = []; instance = none })

-- an instance: the values of its first interfaces, then ids of the next value that is given,
unfoldable pub given_first : Input → (Env → Copier) → Env → Prototype → List Field → List InterfaceDecl → List ℕ → Comp Values
given_first I f env p fields is ids = do
  vs ← values I f env p fields 0 is []
  os ← ids_first I (f env) ids
  ret vs

-- or of the next default,
abbrev pub default_env : Env → Prototype → ℕ → ℕ → Env
default_env env p k n = record { scope = n; entry = Scope.Default p k env.scope; is_values = none }

unfoldable pub default_first : Input → (Env → Copier) → Env → Prototype → List Field → List InterfaceDecl → List ℕ → Comp (ℕ × Values)
default_first I f env p fields is ids = do
  vs ← values I f env p fields 0 is []
  n ← open_scope I (Scope.Default p (length is) env.scope)
  os ← ids_first I (f (default_env env p (length is) n)) ids
  ret (n, vs)

-- or all its values, and the first statements of its body
abbrev pub body_env : Env → Prototype → ℕ → Values → Env
body_env env p n vs = record { scope = n; entry = Scope.Body p env.scope; is_values = some vs }

-- what a body gave so far, and the values in it
pub record BodyPart : Type 0 where
  pub number : ℕ
  pub values : Values
  pub body : Body

unfoldable pub body_first : Input → (Env → Copier) → Env → ℕ → Node → Prototype → ProtoDecl → List Statement → Comp BodyPart
body_first I f env i node p decl ss = do
  vs ← values I f env p node.fields 0 decl.interface []
  n ← open_scope I (Scope.Body p env.scope)
  b ← fold_m (body_statement I f env i (body_env env p n vs)) (record { root = none; extra_roots = []; routes = [] }) ss
  ret (record { number = n; values = vs; body = b })

-- ---- what they are charged

-- The steps are in the world w where the definition is in the state st: as many ids are mapped, as many nodes listed, the same scopes open. Each node is listed, N is kept, and the externs declared are there.
pub record Fit (I : Input) (w : World Known) (st : State) : Type 0 where
  pub mapped : w.mapped ≡ map (λ e. (e.scope, e.id)) st.world.map
  pub ledger : w.ledger ≡ st.world.ledger
  pub scopes : map known_entry w.scopes ≡ st.world.scopes
  pub listed : length st.nodes ≡ length st.world.ledger
  pub room : length st.nodes ≤ I.limits.max_nodes
  pub externs : (d x n : ℕ) → lookup_extern st.extern_map d x ≡ some n → extern_proto_at (docs I) d x ≡ none → ⊥

-- the names are those that have a value in the scope
abbrev pub Named : Env → List ℕ → Type 0
Named env names = (t : ℕ) → member t names ≡ is_given (and_then env.is_values (value_named t))

abbrev pub scope_of : Env → List ℕ → Known
scope_of env names = record { entry = env.entry; names = names }

-- From the state st to st' the steps run the task, from the world w on; the charges made are what the state holds more of, what the run counts, and these items.
pub record Charged (I : Input) (vs : Values) (t : Task Known) (w : World Known) (st st' : State) (items : ℕ) : Type 0 where
  pub after : World Known
  pub run : Run (graph I) t w after
  pub fits : Fit I after st'
  pub charges : st'.charges + held I st ≡ st.charges + held I st' + items + of_run I vs run

-- of what is made of a node: "a kept field, interface, statement", with the ids of their values. Its row and map entry are held.
abbrev pub of_contents : Node → ℕ
of_contents x = sum_of field_row_count x.fields + sum_of interface_row_count x.interface + length x.statements

-- The values of the first interfaces are run, and then a default's ids in its scope b.
pub record DefaultCharged (I : Input) (vs : Values) (t : Task Known) (b : Known) (ids : List ℕ) (w : World Known) (st st' : State) (items : ℕ) : Type 0 where
  pub before : World Known
  pub values : Run (graph I) t w before
  pub inside : Charged I [] (all (count before) b (map copy_id ids)) (add_default b before) st st' (items + of_run I vs values)

-- Of the body of instance i of scope number n these Nodes are done, its scope b opened in the world v: the first is the root, then the instance is mapped, then come the others.
pub data BodyDone (I : Input) (n i : ℕ) (b : Known) (v : World Known) : List ℕ → Type 0 where
  before_root : BodyDone I n i b v []
  from_root : (r : ℕ) (rs : List ℕ) (v1 v2 : World Known) → Run (graph I) (one (count v) b r) (add_body n i b v) v1 → Run (graph I) (all (count v) b (map copy_id rs)) (add_mapped n i v1) v2 → BodyDone I n i b v (r ∷ rs)

-- the world then, and what its runs count
abbrev pub body_world : {I : Input} {n i : ℕ} {b : Known} {v : World Known} {l : List ℕ} → BodyDone I n i b v l → World Known
body_world {n = n} {i = i} {b = b} {v = v} before_root = add_body n i b v
body_world (from_root r rs v1 v2 x y) = v2

abbrev pub of_body : {I : Input} {n i : ℕ} {b : Known} {v : World Known} {l : List ℕ} → Values → BodyDone I n i b v l → ℕ
of_body vs before_root = 0
of_body {I} vs (from_root r rs v1 v2 x y) = of_run I vs x + of_run I vs y

-- All values are run, and then the first statements ss of the body, whose scope is inner and where names have a value. The state holds that scope with all that its body will be charged.
pub record BodyCharged (I : Input) (env : Env) (t : Task Known) (i : ℕ) (inner : Env) (names : List ℕ) (ss : List Statement) (w : World Known) (st st' : State) : Type 0 where
  pub named : Named inner names
  pub before : World Known
  pub values : Run (graph I) t w before
  pub done : BodyDone I env.scope i (scope_of inner names) before (flat statement_ids ss)
  pub fits : Fit I (body_world done) st'
  -- "a scope", "a stored interface value" and its ids, "an instance's map entry" or "an extra root" for each Node, "a body route" for each route
  pub charges : st'.charges + held I st + of_scope I inner.entry ≡ st.charges + held I st' + 1 + sum_of of_value (values_or inner.is_values) + length (flat statement_ids ss) + routes_in ss + of_run I (values_or env.is_values) values + of_body (values_or inner.is_values) done

-- What the first parts are charged, in whatever state they begin and whatever comes after them. In a scope env, where names have a value.
pub record PartsCharged (I : Input) : Type 0 where
  -- "a plain copy two (row, map entry)"
  pub row : (env : Env) (i new : ℕ) (st st' : State) → reserve I env i st ≡ ok new st' → (st'.charges ≡ st.charges + 2) × (held I st' ≡ held I st + 2)
  -- what is kept, "an association, written or not", and "an id of a class 2 value copied" of the next value
  pub plain : (left : ℕ) (env : Env) (names : List ℕ) → Named env names → (i : ℕ) (node : Node) (fs : List Field) (is : List InterfaceDecl) (ss : List Statement) (ids : List ℕ) (x : Node) (st st' : State) → plain_first I (copy I left env) env i node fs is ss ids st ≡ ok x st' → (w : World Known) → Fit I w st
      → Charged I (values_or env.is_values) (all env.scope (scope_of env names) (map copy_id (flat (λ f. binding_ids f.binding) fs ++ (flat (λ d. interface_ids d.is d.value) is ++ ids)))) (add_plain env.scope i w) st st'
      (of_contents x + sum_of (λ f. is_in f.binding) fs + sum_of (λ d. is_set d.is) is + length ids)
  -- "a stored interface value" and its ids, then the ids of the next value,
  pub given : (left : ℕ) (env : Env) (names : List ℕ) → Named env names → (p : Prototype) (decl : ProtoDecl) → proto_at (docs I) p.document p.proto ≡ some decl → (fields : List Field) (is behind : List InterfaceDecl) → decl.interface ≡ is ++ behind → (ids : List ℕ) (vs : Values) (st st' : State)
      → given_first I (copy I left) env p fields is ids st ≡ ok vs st' → (w : World Known) → Fit I w st → Charged I (values_or env.is_values) (all env.scope (scope_of env names) (interface_actions names p fields 0 is ++ map copy_id ids)) w st st' (sum_of of_value vs + length ids)
  -- or of a default, whose "scope" the state holds
  pub default : (left : ℕ) (env : Env) (names : List ℕ) → Named env names → (p : Prototype) (decl : ProtoDecl) → proto_at (docs I) p.document p.proto ≡ some decl → (fields : List Field) (is behind : List InterfaceDecl) → decl.interface ≡ is ++ behind → (ids : List ℕ) (n : ℕ) (vs : Values) (st st' : State)
      → default_first I (copy I left) env p fields is ids st ≡ ok (n, vs) st' → (w : World Known) → Fit I w st → DefaultCharged I (values_or env.is_values) (all env.scope (scope_of env names) (interface_actions names p fields 0 is)) (default_scope p (length is) env.scope) ids w st st' (sum_of of_value vs + length ids)
  -- all values, and the body
  pub body : (left : ℕ) (env : Env) (names : List ℕ) → Named env names → (i : ℕ) (node : Node) (p : Prototype) (decl : ProtoDecl) → proto_at (docs I) p.document p.proto ≡ some decl → (ss : List Statement) (x : BodyPart) (st st' : State) → body_first I (copy I left) env i node p decl ss st ≡ ok x st' → (w : World Known) → Fit I w st
      → BodyCharged I env (all env.scope (scope_of env names) (interface_actions names p node.fields 0 decl.interface)) i (body_env env p x.number x.values) (body_names names node.fields (some decl)) ss w st st'

-- ---- the way to the place

-- no value is given: the default is taken
abbrev pub NoneGiven : Env → Option FieldBinding → Type 0
NoneGiven env none = Unit {0}
NoneGiven env (some (FieldBinding.Value v)) = ⊥
NoneGiven env (some (FieldBinding.Is t)) = and_then env.is_values (value_named t) ≡ none

-- node id i of the scope is copied: it isn't mapped there, and it is there, of the PROTO p
pub record Copied (I : Input) (env : Env) (i : ℕ) (st : State) (node : Node) (p : Option Prototype) : Type 0 where
  pub unmapped : lookup st.world.map env.scope i ≡ none
  pub there : node_at (docs I) (src env) i ≡ some node
  pub kind : proto_of_origin I (src env) node.origin ≡ p

-- The id j stands in a value, behind ids.
pub record IdIn (v : FieldValue) (ids : List ℕ) (j : ℕ) : Type 0 where
  pub behind : List ℕ
  pub place : v.«data» ≡ FieldData.Nodes (ids ++ (j ∷ behind))

-- It is the next to be copied of a plain node, when these fields, interfaces and ids are done.
pub data PlainPlace (node : Node) : List Field → List InterfaceDecl → List ℕ → ℕ → Type 0 where
  in_field : {fs : List Field} {v : FieldValue} {ids : List ℕ} {j : ℕ} (f : Field) (behind : List Field) → node.fields ≡ fs ++ (f ∷ behind) → f.binding ≡ FieldBinding.Value v → IdIn v ids j → PlainPlace node fs [] ids j
  in_interface : {is : List InterfaceDecl} {v : FieldValue} {ids : List ℕ} {j : ℕ} (d : InterfaceDecl) (behind : List InterfaceDecl) → node.interface ≡ is ++ (d ∷ behind) → d.is ≡ none → d.value ≡ some v → IdIn v ids j → PlainPlace node node.fields is ids j

-- The copy of id i, begun in the state st, is refused in the state t: its number, its places. The nodes open then are on the way; left: how many may be opened.
pub data Open (I : Input) : ℕ → Env → ℕ → State → State → ℕ → ℕ → ℕ → Type 0 where
  five : {left i : ℕ} {env : Env} {st : State} → lookup st.world.map env.scope i ≡ none → node_at (docs I) (src env) i ≡ none → Open I left env i st st 5 (src env) i
  nine : {i : ℕ} {env : Env} {st : State} {node : Node} → lookup st.world.map env.scope i ≡ none → node_at (docs I) (src env) i ≡ some node → Open I zero env i st st 9 0 0
  -- a plain node
  eight : {left i : ℕ} {env : Env} {st : State} {node : Node} → Copied I env i st node none → I.limits.max_nodes ≤ length st.nodes → Open I (suc left) env i st st 8 0 0
  four_origin : {left i x new : ℕ} {env : Env} {st t : State} {node : Node} → Copied I env i st node none → reserve I env i st ≡ ok new t → node.origin ≡ NodeOrigin.ExternProto x → extern_proto_at (docs I) (src env) x ≡ none → Open I (suc left) env i st t 4 (src env) x
  in_plain : {left i j c d x : ℕ} {env : Env} {st s t : State} {node made : Node} {fs : List Field} {is : List InterfaceDecl} {ids : List ℕ} → Copied I env i st node none → PlainPlace node fs is ids j → plain_first I (copy I left env) env i node fs is [] ids st ≡ ok made s
      → Open I left env j s t c d x → Open I (suc left) env i st t c d x
  four_statement : {left i x : ℕ} {env : Env} {st t : State} {node made : Node} (ss behind : List Statement) → Copied I env i st node none → node.statements ≡ ss ++ (Statement.ExternProto x ∷ behind) → plain_first I (copy I left env) env i node node.fields node.interface ss [] st ≡ ok made t
      → extern_proto_at (docs I) (src env) x ≡ none → Open I (suc left) env i st t 4 (src env) x
  -- an instance
  six : {left i : ℕ} {env : Env} {st : State} {node : Node} {p : Prototype} → Copied I env i st node (some p) → proto_at (docs I) p.document p.proto ≡ none → Open I (suc left) env i st st 6 p.document p.proto
  in_given : {left i j c d x : ℕ} {env : Env} {st s t : State} {node : Node} {p : Prototype} {decl : ProtoDecl} {v : FieldValue} {ids : List ℕ} {vs : Values} (is : List InterfaceDecl) (a : InterfaceDecl) (behind : List InterfaceDecl) → Copied I env i st node (some p) → proto_at (docs I) p.document p.proto ≡ some decl
      → decl.interface ≡ is ++ (a ∷ behind) → last_field a.name node.fields ≡ some (FieldBinding.Value v) → IdIn v ids j → given_first I (copy I left) env p node.fields is ids st ≡ ok vs s → Open I left env j s t c d x → Open I (suc left) env i st t c d x
  in_default : {left i j n c d x : ℕ} {env : Env} {st s t : State} {node : Node} {p : Prototype} {decl : ProtoDecl} {v : FieldValue} {ids : List ℕ} {vs : Values} (is : List InterfaceDecl) (a : InterfaceDecl) (behind : List InterfaceDecl) → Copied I env i st node (some p) → proto_at (docs I) p.document p.proto ≡ some decl
      → decl.interface ≡ is ++ (a ∷ behind) → NoneGiven env (last_field a.name node.fields) → a.value ≡ some v → IdIn v ids j → default_first I (copy I left) env p node.fields is ids st ≡ ok (n, vs) s → Open I left (default_env env p (length is) n) j s t c d x → Open I (suc left) env i st t c d x
  in_body : {left i j c d x : ℕ} {env : Env} {st s t : State} {node : Node} {p : Prototype} {decl : ProtoDecl} {y : BodyPart} (ss behind : List Statement) → Copied I env i st node (some p) → proto_at (docs I) p.document p.proto ≡ some decl
      → decl.body ≡ ss ++ (Statement.Node j ∷ behind) → body_first I (copy I left) env i node p decl ss st ≡ ok y s → Open I left (body_env env p y.number y.values) j s t c d x → Open I (suc left) env i st t c d x
  four_body : {left i x : ℕ} {env : Env} {st t : State} {node : Node} {p : Prototype} {decl : ProtoDecl} {y : BodyPart} (ss behind : List Statement) → Copied I env i st node (some p) → proto_at (docs I) p.document p.proto ≡ some decl
      → decl.body ≡ ss ++ (Statement.ExternProto x ∷ behind) → body_first I (copy I left) env i node p decl ss st ≡ ok y t → extern_proto_at (docs I) p.document x ≡ none → Open I (suc left) env i st t 4 p.document x
  seven : {left i : ℕ} {env : Env} {st t : State} {node : Node} {p : Prototype} {decl : ProtoDecl} {y : BodyPart} → Copied I env i st node (some p) → proto_at (docs I) p.document p.proto ≡ some decl
      → body_first I (copy I left) env i node p decl decl.body st ≡ ok y t → y.body.root ≡ none → Open I (suc left) env i st t 7 p.document p.proto

-- A top statement, begun in the state st, is refused in the state t.
pub data OpenTop (I : Input) : Statement → State → State → ℕ → ℕ → ℕ → Type 0 where
  in_node : {i c d x : ℕ} {st t : State} → Open I I.limits.max_depth root_env i st t c d x → OpenTop I (Statement.Node i) st t c d x
  four_top : {x : ℕ} {st : State} → extern_proto_at (docs I) 0 x ≡ none → OpenTop I (Statement.ExternProto x) st st 4 0 x
