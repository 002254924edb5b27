-- The numbers of an answer one by one, and what an export says by its cases.
use mathlib.Core.Path.{◌≡◌, refl, ap, ◌∙◌}
use mathlib.Core.List.{List}
use Prim.Native.Nat.{ℕ, zero, suc, ◌≤◌, ◌<◌}
use lib.ListN.{length, get_or, length-replicate, get_or-replicate}
use borrow.Author.Tests.{lt-ltb, le-ltb}
use Rattle.std.specs.Prelude.{Result}
use Rattle.words_lent.specs.Words.{over}
use Rattle.words_answer.specs.Answer.{Said, unless_refused, numbers_after, refusal_of, words_of, answer_words, exported}

numbers_length : (refusal : ℕ) (numbers : List ℕ) → length (numbers_after refusal numbers) ≡ length numbers
numbers_length zero numbers = refl
numbers_length (suc n) numbers = length-replicate (length numbers) 0

number_at_lem : (refusal : ℕ) (numbers : List ℕ) (i : ℕ) → i < length numbers → get_or (numbers_after refusal numbers) i 0 ≡ unless_refused refusal (get_or numbers i 0)
number_at_lem zero numbers i h = refl
number_at_lem (suc n) numbers i h = get_or-replicate (length numbers) i 0 0 h

-- ---- an export

module _ (short n : ℕ) (lent answer : List ℕ) (s : Said) where
  pub exported_short : length answer < n → record { result = short; lent = lent; answer = answer } ≡ exported short n lent answer s
  unfolding exported
  exported_short h = rw (lt-ltb _ _ h)

  pub exported_told : n ≤ length answer → {result : ℕ} {after : List ℕ} → (result ≡ s.refusal) × (after ≡ over (answer_words s.refusal s.numbers) answer) → record { result = result; lent = s.lent; answer = after } ≡ exported short n lent answer s
  unfolding exported
  exported_told h p = rw (p.0, p.1, le-ltb _ _ h)

  -- what was handed on says what the operation does
  pub exported_said : n ≤ length answer → (k : ℕ) (said : Result (List ℕ) ℕ) → refusal_of said ≡ s.refusal → words_of k said ≡ answer_words s.refusal s.numbers → {result : ℕ} {after : List ℕ} → (result ≡ refusal_of said) × (after ≡ over (words_of k said) answer) → record { result = result; lent = s.lent; answer = after } ≡ exported short n lent answer s
  exported_said h k said d e p = exported_told h (p.0 ∙ d, p.1 ∙ ap (λ (l : List ℕ). over l answer) e)
