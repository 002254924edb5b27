-- The expansion that looks for room in the scopes slice before each entry is made, and then has document 01's answer 11 (document 02, wish 7). Nothing else uses it: the definition does not look, and the two are equal (proofs/Room).
-- Below, words is the length of the slice that is lent; an entry is five words. Each function is the definition's of that name, but for the look.
use Rattle.std.specs.Prelude.{◌≡◌, Bool, true, false, List, [], ◌∷◌, ℕ, zero, suc, ◌*◌, ◌≤◌, length, leb}
use Rattle.std.proofs.Math.Option.{Option, none, some}
use Rattle.ast.specs.Ast.{FieldValue, FieldBinding, Field, InterfaceDecl, Statement, Node, ProtoDecl}
use Rattle.ast.specs.Choice.{and_then}
use Rattle.ast.specs.Lookups.{node_at, proto_at}
use Rattle.pick_definition.specs.Picks.{Prototype}
use Rattle.expansion_definition.specs.Input.{Limits, Input, docs, proto_of_origin, last_field}
use Rattle.expansion_definition.specs.Scopes.{Scope}
use Rattle.expansion_definition.specs.State.{State, Comp, ◌>>=◌, ◌>>◌, ret, fail, map_m, fold_m, lookup, start_state}
use Rattle.expansion_definition.specs.Charges.{charge}
use Rattle.expansion_definition.specs.Values.{Values, value_named, Env, src, Copier, value}
use Rattle.expansion_definition.specs.PlainCopy.{copy_plain, somes}
use Rattle.expansion_definition.specs.Instances.{push_scope, open_scope, clone_or, store, body_statement, root_of, record_instance}
use Rattle.expansion_definition.specs.Copy.{mapped_or}
use Rattle.expansion_definition.specs.Expand.{statement, root_env, Answer, answer, expand}

-- "11 the scopes slice holds no further entry"
unfoldable pub push_if : Bool → Scope → Comp ℕ
push_if false e = fail 11 0 0
push_if true e = push_scope e

-- the look: for one more entry than there are
unfoldable pub push_in : ℕ → Scope → Comp ℕ
push_in words e st = push_if (leb (5 * suc (length st.world.scopes)) words) e st

unfoldable pub open_in : ℕ → Input → Scope → Comp ℕ
open_in words I e = charge I >> push_in words e

unfoldable pub take_default_in : ℕ → Input → (Env → Copier) → Scope → Option FieldValue → Comp (Option FieldValue)
take_default_in words I f e none = ret none
take_default_in words I f e (some v) = do
  n ← open_in words I e
  v' ← value I (f (record { scope = n; entry = e; is_values = none })) v
  ret (some v')

unfoldable pub interface_value_in : ℕ → Input → (Env → Copier) → Env → Scope → Option FieldValue → Option FieldBinding → Comp (Option FieldValue)
interface_value_in words I f env e default (some (FieldBinding.Value v)) = do
  v' ← value I (f env) v
  ret (some v')
interface_value_in words I f env e default (some (FieldBinding.Is target)) = clone_or I (take_default_in words I f e default) (and_then env.is_values (value_named target))
interface_value_in words I f env e default none = take_default_in words I f e default

unfoldable pub values_in : ℕ → Input → (Env → Copier) → Env → Prototype → List Field → ℕ → List InterfaceDecl → Values → Comp Values
values_in words I f env p fields k [] vs = ret vs
values_in words I f env p fields k (d ∷ l) vs = do
  v ← interface_value_in words I f env (Scope.Default p k env.scope) d.value (last_field d.name fields)
  vs' ← store I d.name vs v
  values_in words I f env p fields (suc k) l vs'

unfoldable pub instantiate_in : ℕ → Input → (Env → Copier) → Env → ℕ → Node → Prototype → Option ProtoDecl → Comp ℕ
instantiate_in words I f env i node p none = fail 6 p.document p.proto
instantiate_in words I f env i node p (some proto) = do
  vs ← values_in words I f env p node.fields 0 proto.interface []
  n ← open_in words I (Scope.Body p env.scope)
  b ← fold_m (body_statement I f env i (record { scope = n; entry = Scope.Body p env.scope; is_values = some vs })) (record { root = none; extra_roots = []; routes = [] }) proto.body
  o ← root_of p b.root
  charge I
  record_instance proto.name node.def_name n b o

unfoldable pub copy_node_in : ℕ → Input → (Env → Copier) → Env → ℕ → Node → Option Prototype → Comp ℕ
copy_node_in words I f env i node none = copy_plain I (f env) env i node
copy_node_in words I f env i node (some p) = instantiate_in words I f env i node p (proto_at (docs I) p.document p.proto)

unfoldable pub copy_in : ℕ → Input → ℕ → Env → Copier
copy_in words I zero env i st = mapped_or env i (λ node. fail 9 0 0) (lookup st.world.map env.scope i) (node_at (docs I) (src env) i) st
copy_in words I (suc left) env i st =
    mapped_or env i (λ node. copy_node_in words I (copy_in words I left) env i node (proto_of_origin I (src env) node.origin)) (lookup st.world.map env.scope i) (node_at (docs I) (src env) i) st

unfoldable pub statements_in : ℕ → Input → Comp (List Statement)
statements_in words I = do
  charge I
  charge I
  open_in words I Scope.Root
  l ← map_m (statement I (copy_in words I I.limits.max_depth root_env) root_env) I.root.statements
  ret (somes l)

unfoldable pub expand_in : ℕ → Input → Answer
expand_in words I = answer I (statements_in words I start_state)

-- "the slice has K entries": document 01's "scopes 5 × K"
abbrev pub HasEntries : ℕ → Limits → Type 0
HasEntries words L = 5 * L.max_rows ≤ words

-- "Each scope is charged before its entry is made and the slice has K entries, so it can't fill.": of every slice with these entries
pub record NeverFull (words : ℕ) (I : Input) : Type 0 where
  -- at each entry, in any state with no more scopes than charges
  pub entry : (e : Scope) (st : State) → length st.world.scopes ≤ st.charges → open_in words I e st ≡ open_scope I e st
  -- "over the whole expansion": accepted or refused, the answer is the same
  pub whole : expand_in words I ≡ expand I
