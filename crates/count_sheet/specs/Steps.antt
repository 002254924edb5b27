-- What the functions of the operation give.
use Rattle.std.specs.Prelude.{◌≡◌, List, ℕ, ◌≤◌, ◌<◌, length, get_or}

-- the first n words are 0 up to the i-th, and those past them stay
pub record Zeroed (n i : ℕ) (t₀ t : List ℕ) : Type 0 where
  pub zero : (j : ℕ) → j < i → get_or t j 0 ≡ 0
  pub kept : (j : ℕ) → n ≤ j → get_or t j 0 ≡ get_or t₀ j 0
  pub long : length t ≡ length t₀
