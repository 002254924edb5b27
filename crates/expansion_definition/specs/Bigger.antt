-- The same documents under bigger limits (document 02, wish 9). This page states; nothing is proved on it.
use Rattle.std.specs.Prelude.{◌≡◌, ℕ, ◌≤◌, ◌<◌}
use Rattle.expansion_definition.specs.Input.{Limits, Input}
use Rattle.expansion_definition.specs.Expand.{Expansion, Answer, expand}

-- "each of N, D and K equal or larger"
pub record Bigger (L L' : Limits) : Type 0 where
  pub max_nodes : L.max_nodes ≤ L'.max_nodes
  pub max_depth : L.max_depth ≤ L'.max_depth
  pub max_rows : L.max_rows ≤ L'.max_rows

-- the same documents under other limits
abbrev pub with_limits : Limits → Input → Input
with_limits L I = record { root = I.root; library = I.library; limits = L }

-- a refusal under L of what is the expansion e under L': the limit that the refusal names is too small
pub data TooSmall (L L' : Limits) (e : Expansion) : ℕ → ℕ → ℕ → Type 0 where
  nodes : L.max_nodes < e.node_count → TooSmall L L' e 8 0 0
  depth : L.max_depth < L'.max_depth → TooSmall L L' e 9 0 0
  rows : L.max_rows < e.charges → TooSmall L L' e 10 0 0

pub record SameFlight (I : Input) (L : Limits) : Type 0 where
  -- "If an expansion is accepted, then with the same sheets and each of N, D and K equal or larger .. it is accepted again. Document, ledger, scopes and all counts are the same."
  pub accepted : (e : Expansion) → expand I ≡ Answer.Expanded e → expand (with_limits L I) ≡ Answer.Expanded e
  -- Beside the wish: what the documents are refused for, 4 to 7, they are refused for again;
  pub refused : (n d i : ℕ) → n ≤ 7 → expand I ≡ Answer.Refused n d i → expand (with_limits L I) ≡ Answer.Refused n d i
  -- and a limit refuses nothing that it could hold: 8 and 10 mean more nodes and more charges than N and K.
  pub exact : (e : Expansion) → expand (with_limits L I) ≡ Answer.Expanded e → (n d i : ℕ) → expand I ≡ Answer.Refused n d i → TooSmall I.limits L e n d i

-- The limits that an expansion needs, which was accepted with depth D: its own counts, and that depth.
pub record Enough (D : ℕ) (e : Expansion) (L : Limits) : Type 0 where
  pub max_nodes : e.node_count ≤ L.max_nodes
  pub max_depth : D ≤ L.max_depth
  pub max_rows : e.charges ≤ L.max_rows

-- Beside the wish: an accepted expansion is the same under all limits that are enough, bigger or not.
abbrev pub WhereEnough : Input → Type 0
WhereEnough I = (e : Expansion) → expand I ≡ Answer.Expanded e → (L : Limits) → Enough I.limits.max_depth e L → expand (with_limits L I) ≡ Answer.Expanded e

-- Beside the wish: any two accepted expansions of the same documents are the same, whatever their limits.
abbrev pub OneFlight : Input → Type 0
OneFlight I = (L : Limits) (e e' : Expansion) → expand I ≡ Answer.Expanded e → expand (with_limits L I) ≡ Answer.Expanded e' → e ≡ e'
