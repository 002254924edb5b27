-- What an accepted expansion is charged for (document 01, Charges), counted item by item from its output, its scope list and a run of the steps; the definition's own count is not looked at.
use Rattle.std.specs.Prelude.{◌≡◌, List, [], ◌∷◌, map, ℕ, ◌+◌, length}
use Rattle.std.proofs.Math.Option.{Option, none, some}
use Rattle.ast.specs.Ast.{FieldValue, FieldBinding, Field, InterfaceDecl, Statement, Node, ProtoDecl, Document}
use Rattle.ast.specs.Choice.{and_then, or_else}
use Rattle.pick_definition.specs.Picks.{member}
use Rattle.expansion_steps.specs.Steps.{World, Task, one, Run, mapped_step, plain_step, instance_step, no_action, then_copy, then_default}
use Rattle.expansion_definition.specs.Input.{Input, last_field}
use Rattle.expansion_definition.specs.Scopes.{Scope}
use Rattle.ast.specs.Ids.{data_ids}
use Rattle.expansion_definition.specs.Values.{Values, value_named, Env}
use Rattle.expansion_definition.specs.State.{State, ok, Comp, ◌>>=◌, ◌>>◌, ret, map_m}
use Rattle.expansion_definition.specs.Charges.{charge}
use Rattle.expansion_definition.specs.PlainCopy.{somes}
use Rattle.expansion_definition.specs.Instances.{open_scope}
use Rattle.expansion_definition.specs.Copy.{copy}
use Rattle.expansion_definition.specs.Expand.{statement, root_env, Expansion}
use Rattle.expansion_definition.specs.Reached.{Known, decl_of, body_ids, is_given, node_in_scope, graph}
use Rattle.expansion_definition.specs.Outputs.{sum_of, field_row_count, interface_row_count, extern_row_count}

-- ---- the output: what is pushed there stays there

-- of a node: "a plain copy two (row, map entry)"; "a kept field, interface, statement or body-order element"; "an id of a class 2 value copied or cloned", of the values that stand in it. What its instance has is counted below.
abbrev pub of_node : Node → ℕ
of_node x = 2 + sum_of field_row_count x.fields + sum_of interface_row_count x.interface + length x.statements + length x.body_order

-- "at the start three (document, top, scope 0)", the scope counted below; "an extern's row, and each of its interfaces and urls"; the top's kept statements
abbrev pub of_output : Document → ℕ
of_output d = 2 + sum_of of_node d.nodes + sum_of extern_row_count d.extern_protos + length d.statements

-- ---- the scope list

-- "others are extra roots": all but the first
abbrev pub all_but_one : List ℕ → ℕ
all_but_one [] = 0
all_but_one (i ∷ l) = length l

abbrev pub routes_in : List Statement → ℕ
routes_in [] = 0
routes_in (Statement.Node i ∷ l) = routes_in l
routes_in (Statement.Proto p ∷ l) = routes_in l
routes_in (Statement.ExternProto x ∷ l) = routes_in l
routes_in (Statement.Route r ∷ l) = 1 + routes_in l
routes_in (Statement.Other p ∷ l) = routes_in l

abbrev pub body_routes : Option ProtoDecl → ℕ
body_routes none = 0
body_routes (some p) = routes_in p.body

-- "a scope"; and of an instance's body "an instance's map entry; its record; an extra root; a body route". "A nested instance's roots and routes aren't charged again."
abbrev pub of_scope : Input → Scope → ℕ
of_scope I Scope.Root = 1
of_scope I (Scope.Body p n) = 1 + 1 + 1 + all_but_one (body_ids (decl_of I p)) + body_routes (decl_of I p)
of_scope I (Scope.Default p k n) = 1

-- ---- the steps: what no output has to show

-- "In a plain copy each IS, of a field or an interface, adds an association"
abbrev pub is_in : FieldBinding → ℕ
is_in (FieldBinding.Value v) = 0
is_in (FieldBinding.Is target) = 1

abbrev pub is_set : Option ℕ → ℕ
is_set none = 0
is_set (some target) = 1

abbrev pub associations_in : Option Node → ℕ
associations_in none = 0
associations_in (some node) = sum_of (λ f. is_in f.binding) node.fields + sum_of (λ d. is_set d.is) node.interface

-- the value that an interface has: its field's, or that of the field's IS target, or the default. vs: the values that names have in the instance's scope.
-- Values are as they stand in the documents; a copy has as many ids.
abbrev pub value_for : Values → Option FieldValue → Option FieldBinding → Option FieldValue
value_for vs default none = default
value_for vs default (some (FieldBinding.Value v)) = some v
value_for vs default (some (FieldBinding.Is target)) = or_else (value_named target vs) default

abbrev pub stored_if : ℕ → Option FieldValue → Values → Values
stored_if name none new = new
stored_if name (some v) new = (name, v) ∷ new

abbrev pub stored_from : Values → List Field → List InterfaceDecl → Values → Values
stored_from vs fields [] new = new
stored_from vs fields (d ∷ l) new = stored_from vs fields l (stored_if d.name (value_for vs d.value (last_field d.name fields)) new)

abbrev pub stored_by : Values → Option Node → Option ProtoDecl → Values
stored_by vs none decl = []
stored_by vs (some node) none = []
stored_by vs (some node) (some decl) = stored_from vs node.fields decl.interface []

abbrev pub proto_in : Input → Scope → Option ProtoDecl
proto_in I Scope.Root = none
proto_in I (Scope.Body p n) = decl_of I p
proto_in I (Scope.Default p k n) = decl_of I p

-- the values of the body of instance id of scope e; body: the entry of the body's scope
abbrev pub body_values : Input → Values → Known → ℕ → Scope → Values
body_values I vs e id body = stored_by vs (node_in_scope I e.entry id) (proto_in I body)

-- "a stored interface value", and "an id of a class 2 value copied or cloned" of it
abbrev pub of_value : ℕ × FieldValue → ℕ
of_value x = 1 + length (data_ids x.1.«data»)

-- "an association, written or not" of each plain node copied; the stored values of each instance that opens a body. vs: the values that names have in the task's scope; none do in a default's.
unfoldable pub of_run : (I : Input) → Values → {t : Task Known} {w w' : World Known} → Run (graph I) t w w' → ℕ
of_run I vs (mapped_step m) = 0
of_run I vs (plain_step {n} {id} {e} un p r) = associations_in (node_in_scope I e.entry id) + of_run I vs r
of_run I vs (instance_step {n} {id} {e} b r rs un i tb q rv r2 r3) = of_run I vs rv + sum_of of_value (body_values I vs e id (b n).entry) + of_run I (body_values I vs e id (b n).entry) r2 + of_run I (body_values I vs e id (b n).entry) r3
of_run I vs no_action = 0
of_run I vs (then_copy a b) = of_run I vs a + of_run I vs b
of_run I vs (then_default b tb x y) = of_run I [] x + of_run I vs y

-- ---- the whole

-- of an expansion, and of a run
abbrev pub counted : (I : Input) → Expansion → {t : Task Known} {w w' : World Known} → Run (graph I) t w w' → ℕ
counted I e r = of_output e.document + sum_of (of_scope I) e.scopes + of_run I [] r

-- ---- on the way

-- The expansion of the first top statements, those of l: what the definition has made when it comes to the next one.
unfoldable pub tops : Input → List Statement → Comp (List Statement)
tops I l = do
  charge I
  charge I
  open_scope I Scope.Root
  k ← map_m (statement I (copy I I.limits.max_depth root_env) root_env) l
  ret (somes k)

-- of the list's items, those that a state holds: nodes, externs, scopes
abbrev pub held : Input → State → ℕ
held I st = sum_of of_node st.nodes + sum_of extern_row_count st.extern_protos + sum_of (of_scope I) st.world.scopes

-- the values of a scope
abbrev pub values_or : Option Values → Values
values_or none = []
values_or (some vs) = vs

-- A copy that comes to its end, in whatever state it begins and whatever comes after it: what it charges are the items that the state holds more of, and those of its run. names: those that have a value in its scope.
abbrev pub CopiesCharged : Input → Type 0
CopiesCharged I =
    (left : ℕ) (env : Env) (names : List ℕ) → ((t : ℕ) → member t names ≡ is_given (and_then env.is_values (value_named t))) → (i o : ℕ) (st st' : State) → copy I left env i st ≡ ok o st'
    → (w w' : World Known) → w.mapped ≡ map (λ e. (e.scope, e.id)) st.world.map → length w.scopes ≡ length st.world.scopes → (r : Run (graph I) (one env.scope (record { entry = env.entry; names = names }) i) w w')
    → st'.charges + held I st ≡ st.charges + held I st' + of_run I (values_or env.is_values) r
