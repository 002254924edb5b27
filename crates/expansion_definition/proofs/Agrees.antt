-- The order of the steps copies, of each node, the ids that Reached leads to.
use mathlib.Core.Path.{◌≡◌, refl, ap}
use mathlib.Core.Bool.{Bool, true, false}
use mathlib.Core.List.{List, [], ◌∷◌, ◌++◌}
use mathlib.Core.Option.{Option, none, some}
use Prim.Native.Nat.{ℕ, suc}
use Rattle.ast.specs.Ast.{FieldValue, FieldBinding, Field, InterfaceDecl, Node, ProtoDecl}
use Rattle.pick_definition.specs.Picks.{Prototype}
use Rattle.expansion_steps.specs.Steps.{Action, copy_id, open_default, copies}
use Rattle.expansion_steps.proofs.Laws.{copies_map}
use Rattle.expansion_definition.specs.Input.{Input, proto_of_origin, last_field}
use Rattle.expansion_definition.specs.Scopes.{scope_document}
use Rattle.ast.specs.Lists.{flat}
use Rattle.ast.specs.Ids.{data_ids}
use Rattle.expansion_definition.specs.Reached.{Known, decl_of, plain_nexts, given_ids, instance_nexts, nexts_by, nexts_of, gives, default_action, value_actions, interface_actions, instance_actions, actions_by, actions_of, node_in_scope, graph}

copies_append : (l k : List (Action Known)) → copies (l ++ k) ≡ copies l ++ copies k
copies_append [] k = refl
copies_append (copy_id i ∷ l) k = ap (λ (r : List ℕ). i ∷ r) (copies_append l k)
copies_append (open_default b ∷ l) k = copies_append l k

-- A default is copied in a scope of its own.
default_agrees : (e : ℕ → Known) (default : Option FieldValue) → copies (default_action e default) ≡ []
default_agrees e none = refl
default_agrees e (some v) = refl

-- Whether or not an IS gives a value, it has no ids.
value_agrees : (names : List ℕ) (e : ℕ → Known) (default : Option FieldValue) (given : Option FieldBinding) → copies (value_actions (gives names given) e default given) ≡ given_ids given
value_agrees names e default none = default_agrees e default
value_agrees names e default (some (FieldBinding.Value v)) = copies_map Known (data_ids v.«data»)
value_agrees names e default (some (FieldBinding.Is t)) = is (gives names (some (FieldBinding.Is t)))
  where
    is : (b : Bool) → copies (value_actions b e default (some (FieldBinding.Is t))) ≡ []
    is true = refl
    is false = default_agrees e default

interface_agrees : (names : List ℕ) (p : Prototype) (fields : List Field) (k : ℕ) (l : List InterfaceDecl) → copies (interface_actions names p fields k l) ≡ flat (λ d. given_ids (last_field d.name fields)) l
interface_agrees names p fields k [] = refl
interface_agrees names p fields k (d ∷ l) = simp (copies_append, value_agrees, interface_agrees names p fields (suc k) l)

instance_agrees : (names : List ℕ) (p : Prototype) (fields : List Field) (decl : Option ProtoDecl) → copies (instance_actions names p fields decl) ≡ instance_nexts fields decl
instance_agrees names p fields none = refl
instance_agrees names p fields (some decl) = interface_agrees names p fields 0 decl.interface

node_agrees : (I : Input) (names : List ℕ) (node : Node) (p : Option Prototype) → copies (actions_by I names node p) ≡ nexts_by I node p
node_agrees I names node none = copies_map Known (plain_nexts node)
node_agrees I names node (some p) = instance_agrees names p node.fields (decl_of I p)

lookup_agrees : (I : Input) (s : Known) (node : Option Node) → copies (actions_of I s node) ≡ nexts_of I (scope_document s.entry) node
lookup_agrees I s none = refl
lookup_agrees I s (some node) = node_agrees I s.names node (proto_of_origin I (scope_document s.entry) node.origin)

pub agrees : (I : Input) (s : Known) (i : ℕ) → copies ((graph I).actions s i) ≡ (graph I).nexts s i
agrees I s i = lookup_agrees I s (node_in_scope I s.entry i)
