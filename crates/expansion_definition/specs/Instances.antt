-- An instance (document 01, Copy: `instantiate`).
use Rattle.std.specs.Prelude.{List, [], ◌∷◌, ◌++◌, map, ℕ, suc, length, set, eqb}
use Rattle.std.proofs.Math.Option.{Option, none, some}
use Rattle.std.proofs.Math.ListN.{get_elem?}
use Rattle.ast.specs.Ast.{FieldValue, FieldBinding, Field, InterfaceDecl, Route, Statement, Association, ProtoInstance, Node, ProtoDecl}
use Rattle.ast.specs.Choice.{choose, and_then, or_else}
use Rattle.pick_definition.specs.Picks.{Prototype}
use Rattle.expansion_definition.specs.Input.{Input, last_field}
use Rattle.expansion_definition.specs.Scopes.{Scope}
use Rattle.expansion_definition.specs.State.{State, ok, Comp, ◌>>=◌, ◌>>◌, ret, fail, fold_m, with_world, with_nodes}
use Rattle.expansion_definition.specs.Charges.{charge, paid}
use Rattle.expansion_definition.specs.Values.{Values, value_named, Env, Copier, value, clone}
use Rattle.expansion_definition.specs.Externs.{extern_proto}
use Rattle.expansion_definition.specs.PlainCopy.{remap_route}

-- ---- scopes

-- a scope's entry
unfoldable pub push_scope : Scope → Comp ℕ
push_scope e st = ok (length st.world.scopes) (with_world (record { map = st.world.map; ledger = st.world.ledger; scopes = st.world.scopes ++ (e ∷ []) }) st)

-- charged: "a scope"
unfoldable pub open_scope : Input → Scope → Comp ℕ
open_scope I e = charge I >> push_scope e

-- ---- values

-- "or, with no field, the default": copied in a scope of its own
unfoldable pub take_default : Input → (Env → Copier) → Scope → Option FieldValue → Comp (Option FieldValue)
take_default I f e none = ret none
take_default I f e (some v) = do
  n ← open_scope I e
  v' ← value I (f (record { scope = n; entry = e; is_values = none })) v
  ret (some v')

-- the value that an IS target has, cloned; where it has none, what comes instead
unfoldable pub clone_or : Input → Comp (Option FieldValue) → Option FieldValue → Comp (Option FieldValue)
clone_or I instead none = instead
clone_or I instead (some v) = do
  v' ← clone I v
  ret (some v')

-- "the last field of that name copied in the instance's scope, or the value its IS target has there"
-- Document 02, wish 6: "an instance's field bound by IS to something without a value now takes the inner prototype's default, in a default scope, as if no field of that name were there"
-- e: the scope of the default, if it is taken
unfoldable pub interface_value : Input → (Env → Copier) → Env → Scope → Option FieldValue → Option FieldBinding → Comp (Option FieldValue)
interface_value I f env e default (some (FieldBinding.Value v)) = do
  v' ← value I (f env) v
  ret (some v')
interface_value I f env e default (some (FieldBinding.Is target)) = clone_or I (take_default I f e default) (and_then env.is_values (value_named target))
interface_value I f env e default none = take_default I f e default

-- "A repeated name overwrites only with a value."; charged: "a stored interface value"
unfoldable pub store : Input → ℕ → Values → Option FieldValue → Comp Values
store I name vs none = ret vs
store I name vs (some v) = paid I (ret ((name, v) ∷ vs))

-- "values in interface order"; k is the first interface's index
unfoldable pub values : Input → (Env → Copier) → Env → Prototype → List Field → ℕ → List InterfaceDecl → Values → Comp Values
values I f env p fields k [] vs = ret vs
values I f env p fields k (d ∷ l) vs = do
  v ← interface_value I f env (Scope.Default p k env.scope) d.value (last_field d.name fields)
  vs' ← store I d.name vs v
  values I f env p fields (suc k) l vs'

-- ---- the body

-- what a body gave so far; its routes are not remapped yet
pub record Body : Type 0 where
  pub root : Option ℕ
  pub extra_roots : List ℕ
  pub routes : List Route

abbrev pub add_entry : ℕ → ℕ → ℕ → State → State
add_entry s i o st = with_world (record { map = record { scope = s; id = i; out = o } ∷ st.world.map; ledger = st.world.ledger; scopes = st.world.scopes }) st

-- "the first Node is the root, mapped at that moment; others are extra roots"; charged: "an instance's map entry", "an extra root"
-- env and i: the instance's scope and id; o: the Node's copy
unfoldable pub place : Input → Env → ℕ → ℕ → Body → Option ℕ → Comp Body
place I env i o b none = do
  charge I
  λ st. ok (record { root = some o; extra_roots = b.extra_roots; routes = b.routes }) (add_entry env.scope i o st)
place I env i o b (some root) = paid I (ret (record { root = some root; extra_roots = b.extra_roots ++ (o ∷ []); routes = b.routes }))

-- one statement of the body, whose scope is inner; charged: "a body route"
unfoldable pub body_statement : Input → (Env → Copier) → Env → ℕ → Env → Body → Statement → Comp Body
body_statement I f env i inner b (Statement.Node j) = do
  o ← f inner j
  place I env i o b b.root
body_statement I f env i inner b (Statement.Proto p) = ret b
body_statement I f env i inner b (Statement.ExternProto x) = do
  n ← extern_proto I inner x
  ret b
body_statement I f env i inner b (Statement.Route r) = paid I (ret (record { root = b.root; extra_roots = b.extra_roots; routes = b.routes ++ (r ∷ []) }))
body_statement I f env i inner b (Statement.Other p) = ret b

-- "7 body without a root": after the body
unfoldable pub root_of : Prototype → Option ℕ → Comp ℕ
root_of p none = fail 7 p.document p.proto
root_of p (some o) = ret o

-- ---- the record

-- the associations of a scope, in the order met
unfoldable pub associations_of : ℕ → List (ℕ × Association) → List Association
associations_of s [] = []
associations_of s (x ∷ l) = choose (eqb x.0 s) (x.1 ∷ associations_of s l) (associations_of s l)

abbrev pub nested_roots : Option ProtoInstance → List ℕ
nested_roots none = []
nested_roots (some x) = x.extra_roots

abbrev pub nested_routes : Option ProtoInstance → List Route
nested_routes none = []
nested_routes (some x) = x.routes

-- "The instance's DEF name, if any, replaces the root's. Name and associations are the outer's; a nested instance's roots and routes follow the outer's."
abbrev pub with_instance : Option ℕ → ProtoInstance → Node → Node
with_instance def_name x node =
    record {
      type_name = node.type_name;
      def_name = or_else def_name node.def_name;
      origin = node.origin;
      fields = node.fields;
      interface = node.interface;
      statements = node.statements;
      body_order = node.body_order;
      instance = some (record { proto_name = x.proto_name; extra_roots = x.extra_roots ++ nested_roots node.instance; routes = x.routes ++ nested_routes node.instance; is_map = x.is_map });
    }

abbrev pub update : {A : Type 0} → List A → ℕ → (A → A) → Option A → List A
update l n g none = l
update l n g (some x) = set l n (g x)

-- "routes are remapped after the body": the record of the instance whose body was copied in scope n, at the root's copy o
unfoldable pub record_instance : ℕ → Option ℕ → ℕ → Body → ℕ → Comp ℕ
record_instance name def_name n b o st =
    let x : ProtoInstance = record { proto_name = name; extra_roots = b.extra_roots; routes = map (remap_route st.world n) b.routes; is_map = associations_of n st.is_map } in
    ok o (with_nodes (update st.nodes o (with_instance def_name x) (get_elem? st.nodes o)) st)

-- ---- the instance

-- "An instance, after 6: values in interface order"; "Then the body in a fresh scope"; "7 last"; charged: "its record"
unfoldable pub instantiate : Input → (Env → Copier) → Env → ℕ → Node → Prototype → Option ProtoDecl → Comp ℕ
instantiate I f env i node p none = fail 6 p.document p.proto
instantiate I f env i node p (some proto) = do
  vs ← values I f env p node.fields 0 proto.interface []
  n ← open_scope I (Scope.Body p env.scope)
  b ← fold_m (body_statement I f env i (record { scope = n; entry = Scope.Body p env.scope; is_values = some vs })) (record { root = none; extra_roots = []; routes = [] }) proto.body
  o ← root_of p b.root
  charge I
  record_instance proto.name node.def_name n b o
