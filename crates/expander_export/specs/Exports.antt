-- Expand as C calls it: the result, and every word of every lent slice after a call, from the words before it.
use Rattle.std.specs.Prelude.{◌≡◌, List, [], ◌∷◌, ℕ, ◌≤◌, length, get_or, ltb}
use Rattle.ast.specs.Choice.{choose}
use Rattle.words_lent.specs.Words.{over}
use Rattle.expansion_operation.specs.Operation.{Call, Numbers, After, expand_words}
use Rattle.expansion_operation.specs.Promises.{Answered, Accepted}

-- after a call; of work nothing is said
pub record AfterExpand : Type 0 where
  pub result : ℕ
  pub out : List ℕ
  pub ledger : List ℕ
  pub scopes : List ℕ
  pub answer : List ℕ

-- "refusal, first place, second place, nodes, scopes, charges, rows of out"
abbrev pub number_words : Numbers → List ℕ
number_words n = n.refusal ∷ n.first_place ∷ n.second_place ∷ n.nodes ∷ n.scopes ∷ n.charges ∷ n.rows ∷ []

-- an answer of fewer than seven words is refused with 1, and every word stays
unfoldable pub expand_c : Call → List ℕ → AfterExpand
expand_c c answer =
    let r = expand_words c in
    choose (ltb (length answer) 7)
    (record { result = 1; out = c.out; ledger = c.ledger; scopes = c.scopes; answer = answer })
    (record { result = r.answer.refusal; out = r.out; ledger = r.ledger; scopes = r.scopes; answer = over (number_words r.answer) answer })

-- the numbers that stand in answer
abbrev pub numbers_in : List ℕ → Numbers
numbers_in l = record { refusal = get_or l 0 0; first_place = get_or l 1 0; second_place = get_or l 2 0; nodes = get_or l 3 0; scopes = get_or l 4 0; charges = get_or l 5 0; rows = get_or l 6 0 }

abbrev pub after_in : (out ledger scopes answer : List ℕ) → After
after_in out ledger scopes answer = record { answer = numbers_in answer; out = out; ledger = ledger; scopes = scopes }

-- What a call promises; answer₀: answer before it.

-- the result and every word of the lent slices are the definition's
abbrev pub SaysC : (c : Call) → (answer₀ : List ℕ) → (result : ℕ) → (out ledger scopes answer : List ℕ) → Type 0
SaysC c answer₀ result out ledger scopes answer = record { result = result; out = out; ledger = ledger; scopes = scopes; answer = answer } ≡ expand_c c answer₀

-- which calls are refused, with what, and that everything else is accepted
abbrev pub Demand1C : (c : Call) → (answer₀ : List ℕ) → (result : ℕ) → (out ledger scopes answer : List ℕ) → Type 0
Demand1C c answer₀ result out ledger scopes answer = 7 ≤ length answer₀ → (result ≡ get_or answer 0 0) × Answered c (after_in out ledger scopes answer)

-- what holds of the words of an accepted call
abbrev pub Demand3C : (c : Call) → (result : ℕ) → (out ledger scopes answer : List ℕ) → Type 0
Demand3C c result out ledger scopes answer = result ≡ 0 → Accepted c (after_in out ledger scopes answer)
