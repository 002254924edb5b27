-- What the lent words say in a walk: five for each node of the document. The first two are the place of its row, the next two how often it has been mentioned,
-- low word first; the fifth words, one after another, are the ids of the nodes reached, in the order of first mention.
use Rattle.std.specs.Prelude.{◌≡◌, List, ℕ, ◌+◌, ◌*◌, ◌≤◌, ◌<◌, length, get_or, eqb}
use Rattle.expansion_steps.specs.Lists.{count_if}
use Rattle.graph_definition.specs.Graph.{distinct}

-- a number in two words
abbrev pub pair_at : List ℕ → ℕ → ℕ
pair_at w a = get_or w a 0 + 4294967296 * get_or w (a + 1) 0

-- how often an id is mentioned
abbrev pub occurs : ℕ → List ℕ → ℕ
occurs i m = count_if (λ j. eqb j i) m

-- the nodes stand at these places, m has been mentioned, and tail nodes are reached
pub record WalkState (n : ℕ) (places m : List ℕ) (tail : ℕ) (w : List ℕ) : Type 0 where
  pub count : n ≡ length places
  pub room : 5 * n ≤ length w
  pub place : (i : ℕ) → i < n → pair_at w (5 * i) ≡ get_or places i 0
  pub mentioned : (i : ℕ) → i < n → pair_at w (5 * i + 2) ≡ occurs i m
  pub tails : tail ≡ length (distinct n m)
  pub queue : (k : ℕ) → k < tail → get_or w (5 * k + 4) 0 ≡ get_or (distinct n m) k 0
