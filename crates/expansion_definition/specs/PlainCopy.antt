-- A plain copy (document 01, Copy: `copy_plain`).
use Rattle.std.specs.Prelude.{Bool, true, false, List, [], ◌∷◌, ◌++◌, map, ℕ, length, set, ltb}
use Rattle.std.proofs.Math.Option.{Option, none, some}
use Rattle.ast.specs.Ast.{NodeOrigin, BodyElement, FieldValue, FieldBinding, Field, InterfaceDecl, Route, Statement, Association, Node}
use Rattle.ast.specs.Choice.{and_then, map_o}
use Rattle.expansion_definition.specs.Input.{Input}
use Rattle.expansion_definition.specs.State.{Bookkeeping, State, ok, Comp, ◌>>=◌, ◌>>◌, ret, fail, map_m, with_world, with_nodes, lookup}
use Rattle.expansion_definition.specs.Charges.{charge, charge_each, paid}
use Rattle.expansion_definition.specs.Values.{Env, Copier, value, clone, value_named}
use Rattle.expansion_definition.specs.Externs.{extern_proto}

-- ---- the node and its map entry

abbrev pub blank_node : Node
blank_node = record { type_name = 0; def_name = none; origin = NodeOrigin.Builtin; fields = []; interface = []; statements = []; body_order = []; instance = none }

-- a node at the end of the output, its map entry and its ledger entry
abbrev pub add_node : ℕ → ℕ → State → State
add_node s i st =
    with_nodes (st.nodes ++ (blank_node ∷ []))
    (with_world (record { map = record { scope = s; id = i; out = length st.nodes } ∷ st.world.map; ledger = st.world.ledger ++ ((s, i) ∷ []); scopes = st.world.scopes }) st)

-- "8 if nodes ≥ N, then 10, then its map entry"; charged: "a plain copy two (row, map entry)"
unfoldable pub reserve_if : Bool → Input → Env → ℕ → Comp ℕ
reserve_if false I env i = fail 8 0 0
reserve_if true I env i = do
  charge I
  charge I
  λ st. ok (length st.nodes) (add_node env.scope i st)

unfoldable pub reserve : Input → Env → ℕ → Comp ℕ
reserve I env i st = reserve_if (ltb (length st.nodes) I.limits.max_nodes) I env i st

-- "then the extern of an ExternProto origin is declared (4), all before its contents"
unfoldable pub copy_origin : Input → Env → NodeOrigin → Comp NodeOrigin
copy_origin I env NodeOrigin.Builtin = ret NodeOrigin.Builtin
copy_origin I env (NodeOrigin.Proto p) = ret (NodeOrigin.Proto p)
copy_origin I env (NodeOrigin.ExternProto x) = do
  n ← extern_proto I env x
  ret (NodeOrigin.ExternProto n)
copy_origin I env NodeOrigin.Unknown = ret NodeOrigin.Unknown

-- ---- IS

abbrev pub push_association : ℕ → Association → State → State
push_association s a st = record { world = st.world; nodes = st.nodes; extern_protos = st.extern_protos; extern_map = st.extern_map; is_map = st.is_map ++ ((s, a) ∷ []); charges = st.charges }

-- "In a plain copy each IS, of a field or an interface, adds an association"; charged: "an association, written or not"
unfoldable pub associate : Input → Env → Association → Comp (Unit {0})
associate I env a = do
  charge I
  λ st. ok tt (push_association env.scope a st)

-- what an IS target has in the scope: nothing outside a body; in a body a value or none
abbrev pub is_value : Env → ℕ → Option (Option FieldValue)
is_value env target = map_o (value_named target) env.is_values

-- ---- fields

abbrev pub with_value : Field → FieldValue → Field
with_value f v = record { name = f.name; binding = FieldBinding.Value v; inferred = f.inferred }

-- "In a body scope the IS gives way to the value with its type tag; without one the field is dropped"; "Elsewhere (defaults too) the IS stays"
unfoldable pub is_field : Input → Field → Option (Option FieldValue) → Comp (Option Field)
is_field I f none = paid I (ret (some f))
is_field I f (some none) = ret none
is_field I f (some (some v)) = do
  v' ← paid I (clone I v)
  ret (some (with_value f v'))

-- charged: "a kept field"
unfoldable pub copy_binding : Input → Copier → Env → ℕ → Field → FieldBinding → Comp (Option Field)
copy_binding I c env new f (FieldBinding.Value v) = do
  v' ← paid I (value I c v)
  ret (some (with_value f v'))
copy_binding I c env new f (FieldBinding.Is target) = do
  associate I env (record { interface = target; node = new; field = f.name })
  is_field I f (is_value env target)

unfoldable pub copy_field : Input → Copier → Env → ℕ → Field → Comp (Option Field)
copy_field I c env new f = copy_binding I c env new f f.binding

-- ---- interfaces

abbrev pub interface_with : InterfaceDecl → Option FieldValue → Option ℕ → InterfaceDecl
interface_with d v target = record { access = d.access; field_type = d.field_type; name = d.name; value = v; is = target }

-- in a body scope without a value "the interface is kept with class 0 and no target"; elsewhere "the IS stays, an interface then with class 0"
unfoldable pub is_interface : Input → InterfaceDecl → ℕ → Option (Option FieldValue) → Comp InterfaceDecl
is_interface I d target none = ret (interface_with d none (some target))
is_interface I d target (some none) = ret (interface_with d none none)
is_interface I d target (some (some v)) = do
  v' ← clone I v
  ret (interface_with d (some v') none)

unfoldable pub copy_target : Input → Copier → Env → ℕ → InterfaceDecl → Option ℕ → Option FieldValue → Comp InterfaceDecl
copy_target I c env new d (some target) v = do
  associate I env (record { interface = target; node = new; field = d.name })
  is_interface I d target (is_value env target)
copy_target I c env new d none none = ret (interface_with d none none)
copy_target I c env new d none (some v) = do
  v' ← value I c v
  ret (interface_with d (some v') none)

-- charged: a kept "interface"
unfoldable pub copy_interface : Input → Copier → Env → ℕ → InterfaceDecl → Comp InterfaceDecl
copy_interface I c env new d = paid I (copy_target I c env new d d.is d.value)

-- ---- statements

-- "Route ends not in the map at that moment become none."
abbrev pub remap_route : Bookkeeping → ℕ → Route → Route
remap_route w s r = record { from_node = r.from_node; from_field = r.from_field; to_node = r.to_node; to_field = r.to_field; from_id = and_then r.from_id (lookup w.map s); to_id = and_then r.to_id (lookup w.map s) }

-- charged: a kept "statement"
unfoldable pub copy_route : Input → Env → Route → Comp (Option Statement)
copy_route I env r = paid I (λ st. ok (some (Statement.Route (remap_route st.world env.scope r))) st)

unfoldable pub copy_extern : Input → Env → ℕ → Comp (Option Statement)
copy_extern I env x = do
  n ← paid I (extern_proto I env x)
  ret (some (Statement.ExternProto n))

-- "Node statements keep Route and ExternProto only."
unfoldable pub copy_statement : Input → Env → Statement → Comp (Option Statement)
copy_statement I env (Statement.Node i) = ret none
copy_statement I env (Statement.Proto p) = ret none
copy_statement I env (Statement.ExternProto x) = copy_extern I env x
copy_statement I env (Statement.Route r) = copy_route I env r
copy_statement I env (Statement.Other p) = ret none

-- ---- body order

-- those kept of a list
unfoldable pub somes : {A : Type 0} → List (Option A) → List A
somes [] = []
somes (none ∷ l) = somes l
somes (some a ∷ l) = a ∷ somes l

-- "Body order loses what was dropped, and Field or Statement marks past the last entry; Interface marks all stay."
-- fs and ss: the source's fields and statements that no mark has taken yet, none where dropped
unfoldable pub kept_order : List (Option Field) → List (Option Statement) → List BodyElement → List BodyElement
kept_order fs ss [] = []
kept_order fs ss (BodyElement.Interface ∷ l) = BodyElement.Interface ∷ kept_order fs ss l
kept_order [] ss (BodyElement.Field ∷ l) = kept_order [] ss l
kept_order (none ∷ fs) ss (BodyElement.Field ∷ l) = kept_order fs ss l
kept_order (some f ∷ fs) ss (BodyElement.Field ∷ l) = BodyElement.Field ∷ kept_order fs ss l
kept_order fs [] (BodyElement.Statement ∷ l) = kept_order fs [] l
kept_order fs (none ∷ ss) (BodyElement.Statement ∷ l) = kept_order fs ss l
kept_order fs (some s ∷ ss) (BodyElement.Statement ∷ l) = BodyElement.Statement ∷ kept_order fs ss l

-- ---- the copy

-- charged: a kept "body-order element"
unfoldable pub contents : Input → Copier → Env → ℕ → Node → Comp Node
contents I c env new node = do
  origin ← copy_origin I env node.origin
  fields ← map_m (copy_field I c env new) node.fields
  interface ← map_m (copy_interface I c env new) node.interface
  statements ← map_m (copy_statement I env) node.statements
  charge_each I (kept_order fields statements node.body_order)
  ret (record { type_name = node.type_name; def_name = node.def_name; origin = origin; fields = somes fields; interface = interface; statements = somes statements; body_order = kept_order fields statements node.body_order; instance = none })

unfoldable pub copy_plain : Input → Copier → Env → ℕ → Node → Comp ℕ
copy_plain I c env i node = do
  new ← reserve I env i
  x ← contents I c env new node
  λ st. ok new (with_nodes (set st.nodes new x) st)
