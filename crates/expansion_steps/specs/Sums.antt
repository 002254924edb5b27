-- What is to hold of the world after a whole run: the ledger, and sums over the scopes.
use Rattle.std.specs.Prelude.{◌≡◌, ◌↔◌, not, ℕ, ◌<◌, length, get_or}
use mathlib.Core.List.{List, Memᴰ}
use Rattle.expansion_steps.specs.Lists.{Nodup, count_if, sum_to}
use Rattle.expansion_steps.specs.Steps.{open_default, Graph, Plain, Instance, ReachedIn, ReachesItself, World, Listed}

-- k is the number of the things with Q: as many as a list has that holds these, each once, and no other
pub record Count {A : Type 0} (Q : A → Type 0) (k : ℕ) : Type 0 where
  pub list : List A
  pub once : Nodup list
  pub exact : (x : A) → Memᴰ x list ↔ Q x
  pub size : length list ≡ k

module _ (G : Graph) where
  -- the entry of scope number s
  abbrev pub entry : List G.Scope → ℕ → G.Scope
  entry scopes s = get_or scopes s G.root

  -- n is the sum, over the scopes, of the things with Q in each
  pub record Sum {A : Type 0} (Q : G.Scope → A → Type 0) (scopes : List G.Scope) (n : ℕ) : Type 0 where
    pub each : ℕ → ℕ
    pub counts : (s : ℕ) → s < length scopes → Count (Q (entry scopes s)) (each s)
    pub total : n ≡ sum_to (length scopes) each

  -- n is the sum, over the scopes, of the ids with P reached in each
  abbrev pub Total : (G.Scope → ℕ → Type 0) → List G.Scope → ℕ → Type 0
  Total P scopes n = Sum (λ e j. P e j × ReachedIn G e j) scopes n

  -- how many of the scopes are bodies'
  abbrev pub bodies : List G.Scope → ℕ
  bodies scopes = count_if G.is_body scopes

  -- of the scopes opened, how many are defaults': no bodies'
  abbrev pub default_scopes : List G.Scope → ℕ
  default_scopes scopes = count_if (λ e. not (G.is_body e)) scopes

  -- no instance reached in any of the scopes reaches itself
  abbrev pub NoLoop : List G.Scope → Type 0
  NoLoop scopes = (s j : ℕ) → s < length scopes → Instance G (entry scopes s) j → ReachedIn G (entry scopes s) j → ReachesItself G (entry scopes s) j → ⊥

  pub record Exact (w : World G.Scope) : Type 0 where
    pub once : Nodup w.ledger
    pub ledger : (s j : ℕ) → Listed w s j ↔ ((s < length w.scopes) × Plain G (entry w.scopes s) j × ReachedIn G (entry w.scopes s) j)
    pub nodes : Total (Plain G) w.scopes (length w.ledger)
    pub pods : NoLoop w.scopes → Total (Instance G) w.scopes (bodies w.scopes)

  -- x is a default scope that a node reached in an open scope asks for
  pub record DefaultOf (w : World G.Scope) (x : G.Scope) : Type 0 where
    pub number : ℕ
    pub lt : number < length w.scopes
    pub node : ℕ
    pub reached : ReachedIn G (entry w.scopes number) node
    pub default : ℕ → G.Scope
    pub asked : Memᴰ (open_default default) (G.actions (entry w.scopes number) node)
    pub is : x ≡ default number
