-- Two calls of Expand with the same sheets, the second with bigger limits (document 02, wish 9). This page states; nothing is proved on it.
use Rattle.std.specs.Prelude.{◌≡◌, ◌*◌, ◌≤◌, ◌<◌, take}
use Rattle.expansion_definition.specs.Bigger.{Bigger}
use Rattle.expansion_operation.specs.Operation.{Call, After}
use Rattle.expansion_operation.specs.Promises.{RoomAndCaps}

-- "with the same sheets"
pub record SameSheets (c c' : Call) : Type 0 where
  pub root : c'.root ≡ c.root
  pub library : c'.library ≡ c.library

-- "and each of N, D and K equal or larger, within their caps, and the slices long enough"
pub record BiggerCall (c c' : Call) : Type 0 where
  pub sheets : SameSheets c c'
  pub limits : Bigger c.limits c'.limits
  pub room : RoomAndCaps c'

-- "it is accepted again. Document, ledger, scopes and all counts are the same.": the answer, and the words written
pub record SameWords (r r' : After) : Type 0 where
  pub answer : r'.answer ≡ r.answer
  pub out : take (8 * r.answer.rows) r'.out ≡ take (8 * r.answer.rows) r.out
  pub ledger : take (3 * r.answer.nodes) r'.ledger ≡ take (3 * r.answer.nodes) r.ledger
  pub scopes : take (5 * r.answer.scopes) r'.scopes ≡ take (5 * r.answer.scopes) r.scopes

-- of the words after both calls
pub record SameFlightOfWords (c : Call) (r r' : After) : Type 0 where
  -- "If an expansion is accepted"
  pub accepted : r.answer.refusal ≡ 0 → SameWords r r'
  -- Beside the wish: what the sheets are refused for, 2 to 7, they are refused for again, with the same places;
  pub refused : 2 ≤ r.answer.refusal → r.answer.refusal ≤ 7 → r'.answer ≡ r.answer
  -- and where bigger limits do accept, 8 and 10 said that the limit was too small: the accepted call counts more than N nodes, or more than K charges.
  pub nodes : r'.answer.refusal ≡ 0 → r.answer.refusal ≡ 8 → c.limits.max_nodes < r'.answer.nodes
  pub rows : r'.answer.refusal ≡ 0 → r.answer.refusal ≡ 10 → c.limits.max_rows < r'.answer.charges

-- a second call with limits that hold what the first, accepted, counts, and at least its depth; its slices are long enough
pub record EnoughCall (c : Call) (r : After) (c' : Call) : Type 0 where
  pub sheets : SameSheets c c'
  pub max_nodes : r.answer.nodes ≤ c'.limits.max_nodes
  pub max_depth : c.limits.max_depth ≤ c'.limits.max_depth
  pub max_rows : r.answer.charges ≤ c'.limits.max_rows
  pub slices : RoomAndCaps c'

-- Beside the wish: an accepted call gives the same under all limits that are enough, bigger or not.
abbrev pub WhereEnoughOfWords : Call → After → Call → After → Type 0
WhereEnoughOfWords c r c' r' = r.answer.refusal ≡ 0 → EnoughCall c r c' → SameWords r r'

-- Beside the wish: any two accepted calls with the same sheets give the same, whatever their limits and slices.
abbrev pub OneFlightOfWords : After → After → Type 0
OneFlightOfWords r r' = r.answer.refusal ≡ 0 → r'.answer.refusal ≡ 0 → SameWords r r'
