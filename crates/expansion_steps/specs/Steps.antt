-- The steps of an expansion as a relation between worlds, over any graph of scopes.
-- Nothing here knows of sheets, fields, charges or depth.
use Rattle.std.specs.Prelude.{◌≡◌, Bool, true, false, ℕ, length}
use mathlib.Core.List.{List, [], ◌∷◌, ◌++◌, map, Memᴰ}

-- what a node id is in a scope: no node, a plain node, or an instance and the body scope that it opens, for its own scope's number
pub data Kind (S : Type 0) : Type 0 where
  no_node : Kind S
  plain_node : Kind S
  instance_node : (ℕ → S) → Kind S

-- what copying a node asks for: the copy of an id, or a default scope to be opened, for the node's scope's number, and its starts copied there
pub data Action (S : Type 0) : Type 0 where
  copy_id : ℕ → Action S
  open_default : (ℕ → S) → Action S

-- what the input says: of a scope, whether it is a body's, and the ids that it starts from; of an id in a scope, what it is, where its steps lead, and what copying it asks for, in order
pub record Graph : Type 1 where
  pub Scope : Type 0
  pub root : Scope
  pub is_body : Scope → Bool
  pub starts : Scope → List ℕ
  pub kind : Scope → ℕ → Kind Scope
  pub nexts : Scope → ℕ → List ℕ
  pub actions : Scope → ℕ → List (Action Scope)

abbrev pub Plain : (G : Graph) → G.Scope → ℕ → Type 0
Plain G e j = G.kind e j ≡ plain_node

abbrev pub Instance : (G : Graph) → G.Scope → ℕ → Type 0
Instance G e j = (b : ℕ → G.Scope) × (G.kind e j ≡ instance_node b)

-- the ids that actions copy in the node's own scope
abbrev pub copies : {S : Type 0} → List (Action S) → List ℕ
copies [] = []
copies (copy_id i ∷ l) = i ∷ copies l
copies (open_default b ∷ l) = copies l

-- the default scopes that actions open, for the node's scope's number
abbrev pub defaults : {S : Type 0} → List (Action S) → List (ℕ → S)
defaults [] = []
defaults (copy_id i ∷ l) = defaults l
defaults (open_default b ∷ l) = b ∷ defaults l

-- ---- reached

-- the least set that holds the ids of ss and is closed under the steps of the scope e
pub data Reached (G : Graph) (e : G.Scope) (ss : List ℕ) : ℕ → Type 0 where
  start : {j : ℕ} → Memᴰ j ss → Reached G e ss j
  step : {i j : ℕ} → Reached G e ss i → Memᴰ j (G.nexts e i) → Reached G e ss j

abbrev pub ReachedIn : (G : Graph) → G.Scope → ℕ → Type 0
ReachedIn G e j = Reached G e (G.starts e) j

-- one or more steps lead from j back to it
abbrev pub ReachesItself : (G : Graph) → G.Scope → ℕ → Type 0
ReachesItself G e j = Reached G e (G.nexts e j) j

-- ---- worlds

-- pairs are a scope's number and a source id: those mapped, newest first; those copied as plain nodes, in the order of the output; the instances that opened a body scope, newest first. The scopes stand in the order opened.
pub record World (S : Type 0) : Type 0 where
  pub mapped : List (ℕ × ℕ)
  pub ledger : List (ℕ × ℕ)
  pub openers : List (ℕ × ℕ)
  pub scopes : List S

module _ {S : Type 0} where
  abbrev pub add_mapped : ℕ → ℕ → World S → World S
  add_mapped s j w = record { mapped = (s, j) ∷ w.mapped; ledger = w.ledger; openers = w.openers; scopes = w.scopes }

  abbrev pub add_plain : ℕ → ℕ → World S → World S
  add_plain s j w = record { mapped = (s, j) ∷ w.mapped; ledger = w.ledger ++ ((s, j) ∷ []); openers = w.openers; scopes = w.scopes }

  abbrev pub add_default : S → World S → World S
  add_default e w = record { mapped = w.mapped; ledger = w.ledger; openers = w.openers; scopes = w.scopes ++ (e ∷ []) }

  abbrev pub add_body : ℕ → ℕ → S → World S → World S
  add_body s j e w = record { mapped = w.mapped; ledger = w.ledger; openers = (s, j) ∷ w.openers; scopes = w.scopes ++ (e ∷ []) }

  abbrev pub first_world : S → World S
  first_world e = record { mapped = []; ledger = []; openers = []; scopes = e ∷ [] }

  abbrev pub Mapped : World S → ℕ → ℕ → Type 0
  Mapped w s j = Memᴰ (s, j) w.mapped

  abbrev pub Listed : World S → ℕ → ℕ → Type 0
  Listed w s j = Memᴰ (s, j) w.ledger

  abbrev pub Opener : World S → ℕ → ℕ → Type 0
  Opener w s j = Memᴰ (s, j) w.openers

  abbrev pub count : World S → ℕ
  count w = length w.scopes

-- ---- the steps

-- in scope number n, whose entry is e: copy one id, or do actions in order
pub data Task (S : Type 0) : Type 0 where
  one : ℕ → S → ℕ → Task S
  all : ℕ → S → List (Action S) → Task S

pub data Run (G : Graph) : Task G.Scope → World G.Scope → World G.Scope → Type 0 where
  -- a mapped id answers
  mapped_step : {n id : ℕ} {e : G.Scope} {w : World G.Scope} → Mapped w n id → Run G (one n e id) w w
  -- a plain node: its map and ledger entries, then its contents
  plain_step : {n id : ℕ} {e : G.Scope} {w w' : World G.Scope} → (Mapped w n id → ⊥) → Plain G e id
      → Run G (all n e (G.actions e id)) (add_plain n id w) w' → Run G (one n e id) w w'
  -- an instance: its values; its body's scope, b n; the first root r; the instance's map entry; the other roots
  instance_step : {n id : ℕ} {e : G.Scope} {w w1 w2 w3 : World G.Scope} (b : ℕ → G.Scope) (r : ℕ) (rs : List ℕ)
      → (Mapped w n id → ⊥) → G.kind e id ≡ instance_node b → G.is_body (b n) ≡ true → G.starts (b n) ≡ r ∷ rs
      → Run G (all n e (G.actions e id)) w w1 → Run G (one (count w1) (b n) r) (add_body n id (b n) w1) w2
      → Run G (all (count w1) (b n) (map copy_id rs)) (add_mapped n id w2) w3 → Run G (one n e id) w w3
  no_action : {n : ℕ} {e : G.Scope} {w : World G.Scope} → Run G (all n e []) w w
  then_copy : {n i : ℕ} {e : G.Scope} {l : List (Action G.Scope)} {w w1 w2 : World G.Scope}
      → Run G (one n e i) w w1 → Run G (all n e l) w1 w2 → Run G (all n e (copy_id i ∷ l)) w w2
  -- a default: its scope, b n, and the copies of its starts there
  then_default : {n : ℕ} {e : G.Scope} {l : List (Action G.Scope)} {w w1 w2 : World G.Scope} (b : ℕ → G.Scope) → G.is_body (b n) ≡ false
      → Run G (all (count w) (b n) (map copy_id (G.starts (b n)))) (add_default (b n) w) w1 → Run G (all n e l) w1 w2 → Run G (all n e (open_default b ∷ l)) w w2

-- the whole: the root's scope is open, and its starts are copied
abbrev pub WholeRun : (G : Graph) → World G.Scope → Type 0
WholeRun G w = Run G (all 0 G.root (map copy_id (G.starts G.root))) (first_world G.root) w

-- the scopes that a run opens, in order
unfoldable pub opened : {G : Graph} {t : Task G.Scope} {w w' : World G.Scope} → Run G t w w' → List G.Scope
opened (mapped_step m) = []
opened (plain_step un p r) = opened r
opened (instance_step {n} b r rs un i tb e rv r2 r3) = opened rv ++ (b n ∷ (opened r2 ++ opened r3))
opened no_action = []
opened (then_copy a b) = opened a ++ opened b
opened (then_default {n} b tb x y) = (b n ∷ opened x) ++ opened y
