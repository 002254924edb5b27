-- An index of a part: some of its elements' rows, in a table of any size.
use Rattle.std.specs.Prelude.{◌≡◌, List, ℕ, ◌*◌, ◌≤◌, ◌<◌, length, drop, get_or}
use Rattle.sheet_rows.specs.declared.row.Row.{Row}
use Rattle.sheet_rows.specs.declared.part.Part.{Part}
use Rattle.sheet_walks.specs.declared.walk.Found.TheVariants.{At}
use Rattle.sheet_walks.specs.Walk.{Nth}

-- each of the first n slots: slot j holds the row of the (j * stride)-th element
pub record Filled (t : Part) (R : List Row) (p stride : ℕ) (slots : List ℕ) (n : ℕ) : Type 0 where
  pub room : n ≤ length slots
  pub slot : (j : ℕ) → j < n → Nth t R p (j * stride) (At (get_or slots j 0))

-- an index has been written to the front of slots; the words after it stay
pub record Indexed (t : Part) (R : List Row) (p stride : ℕ) (before after : List ℕ) (n : ℕ) : Type 0 where
  pub filled : Filled t R p stride after n
  pub kept : drop n after ≡ drop n before
