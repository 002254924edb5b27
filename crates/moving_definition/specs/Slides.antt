-- What the parts of the moving totals ask and give.
use Rattle.std.specs.Prelude.{◌≡◌, false, List, ◌++◌, ℕ, suc, ◌+◌, ◌≤◌, length, drop}
use Rattle.moving_definition.specs.declared.Peak.{Peak}
use Rattle.moving_definition.specs.Moving.{any_over, total, along, largest_of, first_place}

-- the first n counts have a sum below 2^38
pub record Summable (counts : List ℕ) (n : ℕ) : Type 0 where
  pub few : n ≤ 63
  pub upto : n ≤ length counts
  pub small : any_over counts ≡ false

-- n totals of one more than `before` counts each, and room for them
pub record Slidable (counts : List ℕ) (before n room : ℕ) : Type 0 where
  pub few : before ≤ 63
  pub all : n + before ≡ length counts
  pub fits : n ≤ room
  pub small : any_over counts ≡ false

-- of the first i places: the totals are written, the peak is theirs
pub record Slid (counts : List ℕ) (before i : ℕ) (lent after : List ℕ) (p : Peak) : Type 0 where
  pub written : after ≡ along i (total (suc before) counts) ++ drop i lent
  pub largest : p.largest ≡ largest_of (along i (total (suc before) counts))
  pub place : p.place ≡ first_place p.largest (along i (total (suc before) counts))
