-- Lent words: those that are written, those that stay, and those that are cleared.
use Rattle.std.specs.Prelude.{◌≡◌, List, ◌++◌, ℕ, ◌≤◌, ◌<◌, length, get_or, drop}

-- words written from a slice's start on: those past them stay
abbrev pub over : List ℕ → List ℕ → List ℕ
over new old = new ++ drop (length new) old

-- after is before but for the words from a up to b
pub record Outside (a b : ℕ) (before after : List ℕ) : Type 0 where
  pub long : length after ≡ length before
  pub below : (k : ℕ) → k < a → get_or after k 0 ≡ get_or before k 0
  pub above : (k : ℕ) → b ≤ k → get_or after k 0 ≡ get_or before k 0

-- the words from a up to b are 0, of those up to i
pub record Cleared (a b i : ℕ) (w₀ w : List ℕ) : Type 0 where
  pub stays : Outside a b w₀ w
  pub zero : (k : ℕ) → a ≤ k → k < i → get_or w k 0 ≡ 0
