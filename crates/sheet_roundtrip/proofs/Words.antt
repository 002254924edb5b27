-- Rows and their words: eight words to a row.
use mathlib.Core.Path.{◌≡◌, refl, ap}
use mathlib.Core.List.{List, [], ◌∷◌}
use Prim.Native.Nat.{ℕ, ◌*◌, ◌-◌}
use native.Mathlib.Omega.{arith}
use lib.ListN.{length}
use Rattle.sheet_rows.specs.declared.row.Row.{Row}
use Rattle.sheet_rows.specs.Rows.{rows, words}

-- the rows of the words of rows
pub rows_words : (R : List Row) → rows (words R) ≡ R
unfolding rows words
rows_words [] = refl
rows_words (r ∷ l) = ap (◌∷◌ r) (rows_words l)

-- the words of the rows of words, if nothing is left over
pub words_rows : (s : List ℕ) (n : ℕ) → length s ≡ 8 * n → words (rows s) ≡ s
unfolding rows words
words_rows [] n h = refl
words_rows (k ∷ []) n h = absurd (omega arith)
words_rows (k ∷ a ∷ []) n h = absurd (omega arith)
words_rows (k ∷ a ∷ b ∷ []) n h = absurd (omega arith)
words_rows (k ∷ a ∷ b ∷ c ∷ []) n h = absurd (omega arith)
words_rows (k ∷ a ∷ b ∷ c ∷ d ∷ []) n h = absurd (omega arith)
words_rows (k ∷ a ∷ b ∷ c ∷ d ∷ e ∷ []) n h = absurd (omega arith)
words_rows (k ∷ a ∷ b ∷ c ∷ d ∷ e ∷ f ∷ []) n h = absurd (omega arith)
words_rows (k ∷ a ∷ b ∷ c ∷ d ∷ e ∷ f ∷ g ∷ l) n h = ap (λ (t : List ℕ). k ∷ a ∷ b ∷ c ∷ d ∷ e ∷ f ∷ g ∷ t) (words_rows l (n - 1) (omega arith))
