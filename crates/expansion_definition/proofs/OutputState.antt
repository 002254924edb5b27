-- A node of an output with n nodes, and a state whose output is in order so far.
use mathlib.Core.Path.{◌≡◌, ap, sym, subst}
use mathlib.Core.Logic.{◌⊎◌, inl, inr}
use mathlib.Core.List.Memᴰ
use mathlib.Core.List.{List, [], ◌∷◌, ◌++◌, map, Memᴰ}
use mathlib.Core.Option.{Option, none, some}
use mathlib.Core.Bool.{Bool, true, false, ◌&&◌}
use Prim.Native.Nat.{ℕ, zero, suc, ◌≤◌, ◌<◌}
use native.Mathlib.Nat.{le_trans}
use native.Mathlib.Omega.{arith}
use lib.ListN.{length, get_elem?, set}
use lib.Dec.{eqb}
use Rattle.ast.specs.Ast.{Field, InterfaceDecl, Route, Statement, Association, ProtoInstance, Node, ExternProtoDecl}
use Rattle.ast.specs.Choice.{choose}
use Rattle.ast.specs.Expanded.{OriginKept, InterfaceKept}
use Rattle.expansion_definition.specs.Input.{Input}
use Rattle.ast.specs.Ids.{option_ids, binding_ids}
use Rattle.expansion_definition.specs.State.{Entry, State, Result, Comp, lookup}
use Rattle.expansion_definition.specs.Values.{value}
use Rattle.expansion_definition.specs.PlainCopy.{somes}
use Rattle.expansion_definition.specs.Instances.{values}
use Rattle.expansion_definition.specs.Expand.{statements}
use Rattle.expansion_definition.specs.Expanded.{Supplied}
use Rattle.expansion_definition.proofs.Outcome.{Outcome, Any}

abbrev pub Out : {A : Type 0} → (A → State → Type 0) → Result A → Type 0
Out P m = Outcome Any P m

-- P of every element
abbrev pub All : {A : Type 0} → (A → Type 0) → List A → Type 0
All P l = (a : _) → Memᴰ a l → P a

-- Nothing is not something.
pub none_some : {A : Type 0} {a : A} → ◌≡◌ {A = Option A} none (some a) → ⊥
none_some e = let z : ◌≡◌ {A = ℕ} 0 1 = cc in omega arith

-- Something is one thing.
pub some_some : {A : Type 0} (a b : A) → ◌≡◌ {A = Option A} (some a) (some b) → a ≡ b
some_some a b e = cc

-- ---- every node id below n

abbrev pub IdsBelow : ℕ → List ℕ → Type 0
IdsBelow n l = (i : ℕ) → Memᴰ i l → i < n

abbrev pub EndBelow : ℕ → Option ℕ → Type 0
EndBelow n end = (i : ℕ) → end ≡ some i → i < n

pub record RouteBelow (n : ℕ) (r : Route) : Type 0 where
  pub from_id : EndBelow n r.from_id
  pub to_id : EndBelow n r.to_id

pub record InstanceBelow (n : ℕ) (x : ProtoInstance) : Type 0 where
  pub extra_roots : IdsBelow n x.extra_roots
  pub routes : (r : Route) → Memᴰ r x.routes → RouteBelow n r
  pub is_map : (a : Association) → Memᴰ a x.is_map → a.node < n

-- no Proto statement
abbrev pub TopStatement : ℕ → Statement → Type 0
TopStatement n (Statement.Node i) = i < n
TopStatement n (Statement.Proto p) = ⊥
TopStatement n (Statement.ExternProto x) = Unit {0}
TopStatement n (Statement.Route r) = RouteBelow n r
TopStatement n (Statement.Other p) = Unit {0}

-- "nodes hold only Route and ExternProto statements"
abbrev pub NodeStatement : ℕ → Statement → Type 0
NodeStatement n (Statement.Node i) = ⊥
NodeStatement n (Statement.Proto p) = ⊥
NodeStatement n (Statement.ExternProto x) = Unit {0}
NodeStatement n (Statement.Route r) = RouteBelow n r
NodeStatement n (Statement.Other p) = ⊥

-- a node of an output with n nodes
pub record OutputNode (n : ℕ) (x : Node) : Type 0 where
  pub origin : OriginKept x.origin
  pub fields : (f : Field) → Memᴰ f x.fields → IdsBelow n (binding_ids f.binding)
  pub interface : (d : InterfaceDecl) → Memᴰ d x.interface → IdsBelow n (option_ids d.value) × InterfaceKept d
  pub statements : (s : Statement) → Memᴰ s x.statements → NodeStatement n s
  pub instance : (r : ProtoInstance) → x.instance ≡ some r → InstanceBelow n r

-- ---- more nodes do no harm

pub ids_up : {n m : ℕ} (l : List ℕ) → n ≤ m → IdsBelow n l → IdsBelow m l
ids_up l h f i q = le_trans (f i q) h

pub route_up : {n m : ℕ} {r : Route} → n ≤ m → RouteBelow n r → RouteBelow m r
route_up h x = record { from_id = λ i e. le_trans (x.from_id i e) h; to_id = λ i e. le_trans (x.to_id i e) h }

pub node_statement_up : (n m : ℕ) (s : Statement) → n ≤ m → NodeStatement n s → NodeStatement m s
node_statement_up n m (Statement.Node i) h x = x
node_statement_up n m (Statement.Proto p) h x = x
node_statement_up n m (Statement.ExternProto x) h y = y
node_statement_up n m (Statement.Route r) h x = route_up h x
node_statement_up n m (Statement.Other p) h x = x

pub top_statement_up : (n m : ℕ) (s : Statement) → n ≤ m → TopStatement n s → TopStatement m s
top_statement_up n m (Statement.Node i) h x = le_trans x h
top_statement_up n m (Statement.Proto p) h x = x
top_statement_up n m (Statement.ExternProto x) h y = y
top_statement_up n m (Statement.Route r) h x = route_up h x
top_statement_up n m (Statement.Other p) h x = x

pub instance_up : {n m : ℕ} {x : ProtoInstance} → n ≤ m → InstanceBelow n x → InstanceBelow m x
instance_up {x = x} h y = record { extra_roots = ids_up x.extra_roots h y.extra_roots; routes = λ r q. route_up h (y.routes r q); is_map = λ a q. le_trans (y.is_map a q) h }

-- an interface of an output with n nodes
unfoldable pub InterfaceOk : ℕ → InterfaceDecl → Type 0
InterfaceOk n d = IdsBelow n (option_ids d.value) × InterfaceKept d

pub interface_up : (n m : ℕ) (d : InterfaceDecl) → n ≤ m → InterfaceOk n d → InterfaceOk m d
unfolding InterfaceOk
interface_up n m d h x = (ids_up (option_ids d.value) h x.0, x.1)

pub node_up : {n m : ℕ} {x : Node} → n ≤ m → OutputNode n x → OutputNode m x
unfolding InterfaceOk
node_up {n} {m} h y = record { origin = y.origin; fields = λ f q. ids_up (binding_ids f.binding) h (y.fields f q); interface = λ d q. interface_up n m d h (y.interface d q); statements = λ s q. node_statement_up n m s h (y.statements s q); instance = λ i e. instance_up h (y.instance i e) }

-- ---- the state

abbrev pub size : State → ℕ
size st = length st.nodes

-- an extern whose interfaces have no value, and whose urls are marked as its pick has it
pub record Declares (I : Input) (x : ExternProtoDecl) : Type 0 where
  pub values : (d : InterfaceDecl) → Memᴰ d x.interface → d.value ≡ none
  pub marks : Supplied I x

-- a state whose output is in order so far
pub record Sound (I : Input) (st : State) : Type 0 where
  pub listed : size st ≡ length st.world.ledger
  pub maps : (s j o : ℕ) → lookup st.world.map s j ≡ some o → o < size st
  pub nodes : (x : Node) → Memᴰ x st.nodes → OutputNode (size st) x
  pub is_map : (x : ℕ × Association) → Memᴰ x st.is_map → x.1.node < size st
  pub room : size st ≤ I.limits.max_nodes
  pub externs : (x : ExternProtoDecl) → Memᴰ x st.extern_protos → Declares I x

-- after a step: the state is in order, no node is gone, the answer is in P
pub record Post {A : Type 0} (I : Input) (P : ℕ → A → Type 0) (st : State) (a : A) (st' : State) : Type 0 where
  pub sound : Sound I st'
  pub grow : size st ≤ size st'
  pub res : P (size st') a

-- from m nodes on, and what it answers is in P
abbrev pub Good : {A : Type 0} → Input → ℕ → (ℕ → A → Type 0) → Comp A → Type 0
Good I m P c = (st : State) → m ≤ size st → Sound I st → Out (Post I P st) (c st)

-- nothing is asked of the answer
abbrev pub Free : {A : Type 0} → ℕ → A → Type 0
Free n a = Unit {0}

-- an id of one of n nodes
abbrev pub Below : ℕ → ℕ → Type 0
Below n o = o < n

-- P of what is there, if anything
abbrev pub Opt : {A : Type 0} → (ℕ → A → Type 0) → ℕ → Option A → Type 0
Opt P n none = Unit {0}
Opt P n (some a) = P n a

-- More nodes do no harm to it.
pub opt_up : {A : Type 0} (P : ℕ → A → Type 0) → ((n k : ℕ) (a : A) → n ≤ k → P n a → P k a) → (n k : ℕ) (o : Option A) → n ≤ k → Opt P n o → Opt P k o
opt_up P up n k none h x = tt
opt_up P up n k (some a) h x = up n k a h x

-- What is kept was there.
pub somes_mem : {A : Type 0} (l : List (Option A)) (a : A) → Memᴰ a (somes l) → Memᴰ (some a) l
unfolding somes
somes_mem [] a x = absurd (Memᴰ.not-nil x)
somes_mem (none ∷ l) a x = Memᴰ.tail (somes_mem l a x)
somes_mem (some b ∷ l) a x = at (Memᴰ.cases_cons x) (somes_mem l a)
  where
    at : (a ≡ b) ⊎ Memᴰ a (somes l) → (Memᴰ a (somes l) → Memᴰ (some a) l) → Memᴰ (some a) (some b ∷ l)
    at (inl e) k = Memᴰ.head (ap some e)
    at (inr y) k = Memᴰ.tail (k y)

-- An element of a list with one replaced.
pub set_mem : {A : Type 0} (l : List A) (n : ℕ) (a c : A) → Memᴰ c (set l n a) → (c ≡ a) ⊎ Memᴰ c l
set_mem [] n a c m = inr m
set_mem (x ∷ l) zero a c m = at (Memᴰ.cases_cons m)
  where
    at : (c ≡ a) ⊎ Memᴰ c l → (c ≡ a) ⊎ Memᴰ c (x ∷ l)
    at (inl e) = inl e
    at (inr h) = inr (Memᴰ.tail h)
set_mem (x ∷ l) (suc n) a c m = at (Memᴰ.cases_cons m) (set_mem l n a c)
  where
    at : (c ≡ x) ⊎ Memᴰ c (set l n a) → (Memᴰ c (set l n a) → (c ≡ a) ⊎ Memᴰ c l) → (c ≡ a) ⊎ Memᴰ c (x ∷ l)
    at (inl e) f = inr (Memᴰ.head e)
    at (inr h) f = up (f h)
      where
        up : (c ≡ a) ⊎ Memᴰ c l → (c ≡ a) ⊎ Memᴰ c (x ∷ l)
        up (inl e) = inl e
        up (inr q) = inr (Memᴰ.tail q)

-- What stands at a place is in the list.
pub get_mem : {A : Type 0} (l : List A) (n : ℕ) (x : A) → get_elem? l n ≡ some x → Memᴰ x l
get_mem [] n x e = absurd (none_some e)
get_mem (a ∷ l) zero x e = Memᴰ.head (some_some x a (sym e))
get_mem (a ∷ l) (suc n) x e = Memᴰ.tail (get_mem l n x e)

-- What holds of two lists' elements holds of those of the two behind one another.
pub both : {A : Type 0} {P : A → Type 0} (l k : List A) → All P l → All P k → All P (l ++ k)
both {P = P} l k f g a q = at (Memᴰ.append_cases l q)
  where
    at : Memᴰ a l ⊎ Memᴰ a k → P a
    at (inl x) = f a x
    at (inr x) = g a x

-- What holds of x and of a list's elements.
pub cons : {A : Type 0} {P : A → Type 0} (x : A) (l : List A) → P x → All P l → All P (x ∷ l)
cons {P = P} x l h f a q = at (Memᴰ.cases_cons q)
  where
    at : (a ≡ x) ⊎ Memᴰ a l → P a
    at (inl e) = subst P (sym e) h
    at (inr y) = f a y

-- Nothing is in an empty list.
pub nothing : {A B : Type 0} {a : A} → Memᴰ a [] → B
nothing q = absurd (Memᴰ.not-nil q)

-- What is found is the newest entry's, or was found before.
pub lookup_cons : (e : Entry) (m : List Entry) (s j o : ℕ) → lookup (e ∷ m) s j ≡ some o → (o ≡ e.out) ⊎ (lookup m s j ≡ some o)
unfolding lookup
lookup_cons e m s j o = go (eqb e.scope s && eqb e.id j)
  where
    go : (b : Bool) → choose b (some e.out) (lookup m s j) ≡ some o → (o ≡ e.out) ⊎ (lookup m s j ≡ some o)
    go true q = inl (some_some o e.out (sym q))
    go false q = inr q
