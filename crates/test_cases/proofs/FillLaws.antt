-- A turn of the filling: one word more, and the next number.
use Rattle.std.proofs.Common.{◌≡◌, ℕ, ◌+◌, ◌%◌, ◌^◌, ◌<◌, List, length, get_or, set, refl, ◌∙◌, add-one, arith, get_or-set_other, get_or-set_same, below_more}
use Rattle.test_cases.specs.Pattern.{stepped}

module _ (first step : ℕ) where
  -- the words below a place are those of the pattern
  abbrev pub Filled : List ℕ → ℕ → Type 0
  Filled words i = (k : ℕ) → k < i → get_or words k 0 ≡ stepped first step k

  pub first_word : first ≡ stepped first step 0
  unfolding stepped
  first_word = refl

  pub next_word : (i n : ℕ) → n ≡ stepped first step i → (n + step) % 2 ^ 32 ≡ stepped first step (i + 1)
  unfolding stepped
  next_word i n e = rw (add-one, e)

  pub one_more : (words : List ℕ) (i n : ℕ) → i < length words → n ≡ stepped first step i → Filled words i → Filled (set words i n) (i + 1)
  one_more words i n l e f =
      below_more (λ k. get_or (set words i n) k 0 ≡ stepped first step k) i (λ k h. get_or-set_other words i k n 0 (omega arith) ∙ f k h) (get_or-set_same words i n 0 l ∙ e)

  pub none_yet : (words : List ℕ) → Filled words 0
  none_yet words k h = absurd (omega arith)
