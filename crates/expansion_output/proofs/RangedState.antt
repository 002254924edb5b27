-- A state whose numbers are in range, and what is looked up in it.
use mathlib.Core.List.{List, [], ◌∷◌, ◌++◌, map}
use mathlib.Core.Option.{Option, none, some}
use mathlib.Core.Bool.{Bool, true, false, ◌&&◌}
use Prim.Native.Nat.{ℕ, ◌≤◌}
use native.Mathlib.Omega.{arith}
use lib.ListN.{length}
use lib.Dec.{eqb}
use Rattle.ast.specs.Ast.{FieldBinding, Field, InterfaceDecl, Route, Association, ProtoInstance, Node, Document}
use Rattle.ast.specs.Choice.{choose, and_then, or_else}
use Rattle.ast.specs.Each.{Each}
use Rattle.sheet_roundtrip.specs.Ranges.{IsName, IsPresent, ValueInRange, BindingInRange, FieldInRange, DefaultInRange, InterfaceInRange, RouteInRange, AssociationInRange, InstanceInRange, AnyInstanceInRange, NodeInRange, ExternProtoInRange, InRange}
use Rattle.expansion_definition.specs.Input.{Input, last_field}
use Rattle.expansion_definition.specs.State.{Entry, ExternEntry, Bookkeeping, State, Result, Comp, lookup}
use Rattle.expansion_definition.specs.Values.{Values, value_named}
use Rattle.expansion_definition.specs.Externs.{lookup_extern}
use Rattle.expansion_definition.specs.PlainCopy.{blank_node, remap_route}
use Rattle.expansion_definition.specs.Instances.{associations_of, nested_roots, nested_routes, with_instance}
use Rattle.expansion_definition.specs.Expand.{statements}
use Rattle.expansion_definition.proofs.Outcome.{Outcome, Any}
use Rattle.expansion_output.specs.Input.{IsTarget, NodeTargets, Targets}
use Rattle.expansion_output.proofs.Eachs.{Opt, each_append}

abbrev pub Out : {A : Type 0} → (A → State → Type 0) → Result A → Type 0
Out P m = Outcome Any P m

-- a name that is there is not none's number
pub present : (n : ℕ) → IsName n → IsPresent (some n)
present n h e = omega arith

-- ---- the state

pub record Ranged (I : Input) (st : State) : Type 0 where
  pub mapped : Each (λ e. IsName e.out) st.world.map
  pub nodes : Each NodeInRange st.nodes
  pub extern_protos : Each (ExternProtoInRange true) st.extern_protos
  pub extern_map : Each (λ e. IsName e.out) st.extern_map
  pub is_map : Each (λ x. AssociationInRange x.1) st.is_map
  -- each extern is charged, so that its id is a name
  pub externs_paid : length st.extern_protos ≤ st.charges
  pub capped : st.charges ≤ I.limits.max_rows

pub record Post {A : Type 0} (I : Input) (P : A → Type 0) (a : A) (st : State) : Type 0 where
  pub ranged : Ranged I st
  pub res : P a

-- from a state in range to one, and what it answers is in P
abbrev pub Good : {A : Type 0} → Input → (A → Type 0) → Comp A → Type 0
Good I P c = (st : State) → Ranged I st → Out (Post I P) (c st)

abbrev pub Free : {A : Type 0} → A → Type 0
Free a = Unit {0}

abbrev pub ValuesInRange : Values → Type 0
ValuesInRange vs = Each (λ x. ValueInRange x.1) vs

-- a node or a document with its interfaces' targets
abbrev pub SourceNode : Node → Type 0
SourceNode x = NodeInRange x × NodeTargets x

abbrev pub SourceInterface : InterfaceDecl → Type 0
SourceInterface d = InterfaceInRange d × IsTarget d.is

abbrev pub Source : Document → Type 0
Source x = InRange false x × Targets x

-- What a map answers is a name.
pub lookup_ok : (m : List Entry) (s i : ℕ) → Each (λ e. IsName e.out) m → Opt IsName (lookup m s i)
unfolding lookup
lookup_ok [] s i h = tt
lookup_ok (e ∷ m) s i h = go (eqb e.scope s && eqb e.id i) (lookup_ok m s i h.1)
  where
    go : (b : Bool) → Opt IsName (lookup m s i) → Opt IsName (choose b (some e.out) (lookup m s i))
    go true q = h.0
    go false q = q

pub lookup_extern_ok : (m : List ExternEntry) (d x : ℕ) → Each (λ e. IsName e.out) m → Opt IsName (lookup_extern m d x)
unfolding lookup_extern
lookup_extern_ok [] d x h = tt
lookup_extern_ok (e ∷ m) d x h = go (eqb e.document d && eqb e.id x) (lookup_extern_ok m d x h.1)
  where
    go : (b : Bool) → Opt IsName (lookup_extern m d x) → Opt IsName (choose b (some e.out) (lookup_extern m d x))
    go true q = h.0
    go false q = q

-- What a name has among values in range is in range.
pub found_ok : (t : ℕ) (vs : Values) → ValuesInRange vs → DefaultInRange (value_named t vs)
unfolding value_named
found_ok t [] h = tt
found_ok t (x ∷ l) h = go (eqb x.0 t) (found_ok t l h.1)
  where
    go : (b : Bool) → DefaultInRange (value_named t l) → DefaultInRange (choose b (some x.1) (value_named t l))
    go true q = h.0
    go false q = q

-- So is the last field of a name.
pub last_field_ok : (name : ℕ) (l : List Field) → Each FieldInRange l → Opt BindingInRange (last_field name l)
unfolding last_field
last_field_ok name [] h = tt
last_field_ok name (f ∷ l) h = go (last_field name l) (last_field_ok name l h.1) (eqb f.name name)
  where
    go : (o : Option FieldBinding) → Opt BindingInRange o → (b : Bool) → Opt BindingInRange (or_else o (choose b (some f.binding) none))
    go (some x) q b = q
    go none q true = h.0.binding
    go none q false = tt

-- The associations of one scope are in range, if all are.
pub associations_ok : (s : ℕ) (l : List (ℕ × Association)) → Each (λ x. AssociationInRange x.1) l → Each AssociationInRange (associations_of s l)
unfolding associations_of
associations_ok s [] h = tt
associations_ok s (x ∷ l) h = go (eqb x.0 s) (associations_ok s l h.1)
  where
    go : (b : Bool) → Each AssociationInRange (associations_of s l) → Each AssociationInRange (choose b (x.1 ∷ associations_of s l) (associations_of s l))
    go true q = (h.0, q)
    go false q = q

-- A route's end is one that the map has, or none.
pub end_ok : (m : List Entry) (s : ℕ) → Each (λ e. IsName e.out) m → (end : Option ℕ) → IsPresent (and_then end (lookup m s))
end_ok m s h none = tt
end_ok m s h (some i) = go (lookup m s i) (lookup_ok m s i h)
  where
    go : (o : Option ℕ) → Opt IsName o → IsPresent o
    go none q = tt
    go (some n) q = present n q

-- A route in range stays in range.
pub remap_ok : (w : Bookkeeping) (s : ℕ) → Each (λ e. IsName e.out) w.map → (r : Route) → RouteInRange r → RouteInRange (remap_route w s r)
remap_ok w s h r x = record { from_node = x.from_node; from_field = x.from_field; to_node = x.to_node; to_field = x.to_field; from_id = end_ok w.map s h r.from_id; to_id = end_ok w.map s h r.to_id }

-- The node that is reserved is in range.
pub blank_ok : NodeInRange blank_node
blank_ok = record { type_name = omega arith; def_name = tt; origin = tt; fields = tt; interface = tt; statements = tt; instance = tt }

-- So is a node with an instance's record, with what was nested in it.
pub instance_ok : (def_name : Option ℕ) (x : ProtoInstance) (node : Node) → IsPresent def_name → InstanceInRange x → NodeInRange node → NodeInRange (with_instance def_name x node)
instance_ok def_name x node hd hx h = record { type_name = h.type_name; def_name = name def_name hd; origin = h.origin; fields = h.fields; interface = h.interface; statements = h.statements; instance = nested node.instance h.instance }
  where
    name : (o : Option ℕ) → IsPresent o → IsPresent (or_else o node.def_name)
    name none q = h.def_name
    name (some n) q = q

    nested : (o : Option ProtoInstance) → AnyInstanceInRange o → InstanceInRange (record { proto_name = x.proto_name; extra_roots = x.extra_roots ++ nested_roots o; routes = x.routes ++ nested_routes o; is_map = x.is_map })
    nested none q = record { proto_name = hx.proto_name; extra_roots = each_append IsName x.extra_roots [] hx.extra_roots tt; routes = each_append RouteInRange x.routes [] hx.routes tt; is_map = hx.is_map }
    nested (some y) q = record { proto_name = hx.proto_name; extra_roots = each_append IsName x.extra_roots y.extra_roots hx.extra_roots q.extra_roots; routes = each_append RouteInRange x.routes y.routes hx.routes q.routes; is_map = hx.is_map }
