-- The numbers of a case's line.
use Rattle.std.specs.Prelude.{ℕ, List, [], ◌∷◌}
use Rattle.expander_run.specs.Calls.{Outcome, numbers_of}
use Rattle.expander_run.specs.declared.Numbers.{Numbers}

-- refusal, two place numbers, nodes, scopes, charges, rows of out, and the sum over what was lent
abbrev pub answer_numbers : Outcome → ℕ → List ℕ
answer_numbers o s = let n = numbers_of o in n.refusal ∷ n.first_place ∷ n.second_place ∷ n.nodes ∷ n.scopes ∷ n.charges ∷ n.rows ∷ s ∷ []

-- the same of an answer that code holds in numbers, which may be any
abbrev pub line_numbers : Numbers → ℕ → List ℕ
line_numbers n s = n.refusal ∷ n.first_place ∷ n.second_place ∷ n.nodes ∷ n.scopes ∷ n.charges ∷ n.rows ∷ s ∷ []

-- 99, which is no refusal, and the number of a case that is malformed
abbrev pub malformed_numbers : ℕ → List ℕ
malformed_numbers n = 99 ∷ n ∷ 0 ∷ 0 ∷ 0 ∷ 0 ∷ 0 ∷ 0 ∷ []
