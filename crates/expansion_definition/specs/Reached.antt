-- Reached (document 01, Modules: Reached), and the order of the steps, as a graph of scopes.
-- All of it is taken from the documents and what is known of a scope when it opens; nothing is taken from the ledger.
use Rattle.std.specs.Prelude.{Bool, true, false, ◌||◌, List, [], ◌∷◌, ◌++◌, map, ℕ, suc}
use Rattle.std.proofs.Math.Option.{Option, none, some}
use Rattle.std.proofs.Math.ListN.{get_elem?}
use Rattle.ast.specs.Ast.{FieldValue, FieldBinding, Field, InterfaceDecl, Node, ProtoDecl}
use Rattle.ast.specs.Choice.{choose, and_then}
use Rattle.ast.specs.Lookups.{node_at, proto_at}
use Rattle.pick_definition.specs.Picks.{Prototype, member}
use Rattle.expansion_steps.specs.Steps.{Kind, no_node, plain_node, instance_node, Action, copy_id, open_default, Graph}
use Rattle.expansion_definition.specs.Input.{Input, docs, proto_of_origin, last_field}
use Rattle.expansion_definition.specs.Scopes.{Scope, scope_document, is_body}
use Rattle.ast.specs.Lists.{flat}
use Rattle.ast.specs.Ids.{option_ids, binding_ids, statement_ids}

-- ---- scopes

-- what is known of a scope when it opens: its entry, and the names that have a value in it, which an IS there finds
pub record Known : Type 0 where
  pub entry : Scope
  pub names : List ℕ

abbrev pub known_entry : Known → Scope
known_entry s = s.entry

-- ---- starts

abbrev pub body_ids : Option ProtoDecl → List ℕ
body_ids none = []
body_ids (some p) = flat statement_ids p.body

abbrev pub default_ids : ℕ → Option ProtoDecl → List ℕ
default_ids k none = []
default_ids k (some p) = option_ids (and_then (get_elem? p.interface k) (λ d. d.value))

abbrev pub decl_of : Input → Prototype → Option ProtoDecl
decl_of I p = proto_at (docs I) p.document p.proto

-- "Starts: the Node statements of the top or body, or the default's ids."
abbrev pub starts : Input → Scope → List ℕ
starts I Scope.Root = flat statement_ids I.root.statements
starts I (Scope.Body p n) = body_ids (decl_of I p)
starts I (Scope.Default p k n) = default_ids k (decl_of I p)

-- ---- closure

-- "ids of its value fields, and of interfaces with a value and no IS"
abbrev pub interface_ids : Option ℕ → Option FieldValue → List ℕ
interface_ids none v = option_ids v
interface_ids (some target) v = []

abbrev pub plain_nexts : Node → List ℕ
plain_nexts node = flat (λ f. binding_ids f.binding) node.fields ++ flat (λ d. interface_ids d.is d.value) node.interface

-- "the ids of the last field of that name, if a value"
abbrev pub given_ids : Option FieldBinding → List ℕ
given_ids none = []
given_ids (some b) = binding_ids b

-- "for each interface that its PROTO declares (for an ExternProto, the picked PROTO)"
abbrev pub instance_nexts : List Field → Option ProtoDecl → List ℕ
instance_nexts fields none = []
instance_nexts fields (some p) = flat (λ d. given_ids (last_field d.name fields)) p.interface

-- "From a plain node"; "From an instance"
abbrev pub nexts_by : Input → Node → Option Prototype → List ℕ
nexts_by I node none = plain_nexts node
nexts_by I node (some p) = instance_nexts node.fields (decl_of I p)

abbrev pub nexts_of : Input → ℕ → Option Node → List ℕ
nexts_of I d none = []
nexts_of I d (some node) = nexts_by I node (proto_of_origin I d node.origin)

-- ---- values: names are those that have a value in the instance's scope

-- whether an instance's field gives a value: a value does, an IS where its target has one there
abbrev pub gives : List ℕ → Option FieldBinding → Bool
gives names none = false
gives names (some (FieldBinding.Value v)) = true
gives names (some (FieldBinding.Is target)) = member target names

abbrev pub is_given : Option FieldValue → Bool
is_given none = false
is_given (some v) = true

-- the name of an interface that has a value in the body: its field gives one, or there is a default
abbrev pub name_if_valued : List ℕ → List Field → InterfaceDecl → List ℕ
name_if_valued names fields d = choose (gives names (last_field d.name fields) || is_given d.value) (d.name ∷ []) []

abbrev pub body_names : List ℕ → List Field → Option ProtoDecl → List ℕ
body_names names fields none = []
body_names names fields (some p) = flat (name_if_valued names fields) p.interface

-- the scopes that an instance opens, for its own scope's number; in a default scope no name has a value
abbrev pub body_scope : Prototype → List ℕ → ℕ → Known
body_scope p names n = record { entry = Scope.Body p n; names = names }

abbrev pub default_scope : Prototype → ℕ → ℕ → Known
default_scope p k n = record { entry = Scope.Default p k n; names = [] }

-- ---- plain nodes and instances

abbrev pub kind_by : Input → List ℕ → Node → Option Prototype → Kind Known
kind_by I names node none = plain_node
kind_by I names node (some p) = instance_node (body_scope p (body_names names node.fields (decl_of I p)))

abbrev pub node_kind : Input → Known → Option Node → Kind Known
node_kind I s none = no_node
node_kind I s (some node) = kind_by I s.names node (proto_of_origin I (scope_document s.entry) node.origin)

-- ---- the order of the steps: an instance's values, "in interface order", copy ids or open a default's scope

abbrev pub default_action : (ℕ → Known) → Option FieldValue → List (Action Known)
default_action e none = []
default_action e (some v) = open_default e ∷ []

-- A default scope is opened exactly where no field gives a value and there is a default; where a field does, its ids are copied.
abbrev pub value_actions : Bool → (ℕ → Known) → Option FieldValue → Option FieldBinding → List (Action Known)
value_actions true e default given = map copy_id (given_ids given)
value_actions false e default given = default_action e default

-- k is the first interface's index
abbrev pub interface_actions : List ℕ → Prototype → List Field → ℕ → List InterfaceDecl → List (Action Known)
interface_actions names p fields k [] = []
interface_actions names p fields k (d ∷ l) =
    value_actions (gives names (last_field d.name fields)) (default_scope p k) d.value (last_field d.name fields) ++ interface_actions names p fields (suc k) l

abbrev pub instance_actions : List ℕ → Prototype → List Field → Option ProtoDecl → List (Action Known)
instance_actions names p fields none = []
instance_actions names p fields (some decl) = interface_actions names p fields 0 decl.interface

abbrev pub actions_by : Input → List ℕ → Node → Option Prototype → List (Action Known)
actions_by I names node none = map copy_id (plain_nexts node)
actions_by I names node (some p) = instance_actions names p node.fields (decl_of I p)

abbrev pub actions_of : Input → Known → Option Node → List (Action Known)
actions_of I s none = []
actions_of I s (some node) = actions_by I s.names node (proto_of_origin I (scope_document s.entry) node.origin)

-- ---- the graph

abbrev pub node_in_scope : Input → Scope → ℕ → Option Node
node_in_scope I e i = node_at (docs I) (scope_document e) i

-- At the top no name has a value. Where the steps lead is a matter of the entry alone; the names rule which defaults are taken.
abbrev pub graph : Input → Graph
graph I = record {
  Scope = Known;
  root = record { entry = Scope.Root; names = [] };
  is_body = λ s. is_body s.entry;
  starts = λ s. starts I s.entry;
  kind = λ s i. node_kind I s (node_in_scope I s.entry i);
  nexts = λ s i. nexts_of I (scope_document s.entry) (node_in_scope I s.entry i);
  actions = λ s i. actions_of I s (node_in_scope I s.entry i);
}
