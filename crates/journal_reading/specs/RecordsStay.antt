-- What may change of the records below c, besides the words that never do; and of which scopes no instance is recorded.
use Rattle.std.specs.Prelude.{◌≡◌, List, ℕ, ◌<◌, ◌≤◌}
use Rattle.journal_records.specs.Records.{tag_node, tag_route, tag_instance, cell, Fixed}

-- the remapped ends of the routes of recorded instances are the same
pub record EndsKept (c : ℕ) (w w' : List ℕ) : Type 0 where
  pub from : (n q : ℕ) → n < q → q < c → cell w q 0 ≡ tag_instance → cell w n 0 ≡ tag_route → cell w n 1 ≡ cell w q 1 → cell w' n 10 ≡ cell w n 10
  pub to : (n q : ℕ) → n < q → q < c → cell w q 0 ≡ tag_instance → cell w n 0 ≡ tag_route → cell w n 1 ≡ cell w q 1 → cell w' n 11 ≡ cell w n 11

-- and the words of the node of record r
pub record NodeWordsKept (r : ℕ) (w w' : List ℕ) : Type 0 where
  pub keeps : (j : ℕ) → 3 ≤ j → j < 12 → cell w' r j ≡ cell w r j

-- and those of each node below c
pub record RecordsStay (c : ℕ) (w w' : List ℕ) : Type 0 where
  pub fixed : Fixed c w w'
  pub ends : EndsKept c w w'
  pub nodes : (r : ℕ) → r < c → cell w r 0 ≡ tag_node → NodeWordsKept r w w'

-- no instance of scope s is recorded below c
pub record Unrecorded (w : List ℕ) (c s : ℕ) : Type 0 where
  pub apart : (q : ℕ) → q < c → cell w q 0 ≡ tag_instance → cell w q 1 ≡ s → ⊥
