-- The rows of a list of words, by their places.
use mathlib.Core.Path.{◌≡◌, refl, sym, ◌∙◌}
use mathlib.Core.List.{List, [], ◌∷◌}
use Prim.Native.Nat.{ℕ, zero, suc, ◌+◌, ◌*◌, ◌≤◌, ◌<◌, ◌/◌}
use native.Mathlib.Omega.{arith}
use lib.ListN.{length, get_or}
use Rattle.sheet_rows.specs.declared.row.Row.{Row}
use Rattle.sheet_rows.specs.Rows.{rows, blank}

-- the words of a row
abbrev pub row_of : List ℕ → ℕ → Row
row_of s p =
    record { kind = get_or s (8 * p) 0; a = get_or s (8 * p + 1) 0; b = get_or s (8 * p + 2) 0; c = get_or s (8 * p + 3) 0; d = get_or s (8 * p + 4) 0; e = get_or s (8 * p + 5) 0; f = get_or s (8 * p + 6) 0; g = get_or s (8 * p + 7) 0 }

abbrev up : ℕ → ℕ
up n = suc (suc (suc (suc (suc (suc (suc (suc n)))))))

skip : (p j : ℕ) → up (8 * p + j) ≡ 8 * suc p + j
skip p j = omega arith

pub skip0 : (p : ℕ) → up (8 * p) ≡ 8 * suc p
skip0 p = omega arith

next : (s : List ℕ) (k a b c d e f g p : ℕ) → row_of s p ≡ row_of (k ∷ a ∷ b ∷ c ∷ d ∷ e ∷ f ∷ g ∷ s) (suc p)
next s k a b c d e f g p i =
    let at : ℕ → ℕ = λ n. get_or (k ∷ a ∷ b ∷ c ∷ d ∷ e ∷ f ∷ g ∷ s) n 0 in
    record { kind = at (skip0 p i); a = at (skip p 1 i); b = at (skip p 2 i); c = at (skip p 3 i); d = at (skip p 4 i); e = at (skip p 5 i); f = at (skip p 6 i); g = at (skip p 7 i) }

-- there are an eighth as many rows as words
pub rows_length : (s : List ℕ) → (8 * length (rows s) ≤ length s) × (length s < 8 * length (rows s) + 8)
unfolding rows
rows_length [] = omega arith
rows_length (k ∷ []) = omega arith
rows_length (k ∷ a ∷ []) = omega arith
rows_length (k ∷ a ∷ b ∷ []) = omega arith
rows_length (k ∷ a ∷ b ∷ c ∷ []) = omega arith
rows_length (k ∷ a ∷ b ∷ c ∷ d ∷ []) = omega arith
rows_length (k ∷ a ∷ b ∷ c ∷ d ∷ e ∷ []) = omega arith
rows_length (k ∷ a ∷ b ∷ c ∷ d ∷ e ∷ f ∷ []) = omega arith
rows_length (k ∷ a ∷ b ∷ c ∷ d ∷ e ∷ f ∷ g ∷ l) = let ih = rows_length l in omega arith

pub rows_count : (s : List ℕ) → length (rows s) ≡ length s / 8
rows_count s = let h = rows_length s in omega arith

-- a row is its eight words
pub row_is : (s : List ℕ) (p : ℕ) → 8 * p + 8 ≤ length s → row_of s p ≡ get_or (rows s) p blank
unfolding rows
row_is [] p h = absurd (omega arith)
row_is (k ∷ []) p h = absurd (omega arith)
row_is (k ∷ a ∷ []) p h = absurd (omega arith)
row_is (k ∷ a ∷ b ∷ []) p h = absurd (omega arith)
row_is (k ∷ a ∷ b ∷ c ∷ []) p h = absurd (omega arith)
row_is (k ∷ a ∷ b ∷ c ∷ d ∷ []) p h = absurd (omega arith)
row_is (k ∷ a ∷ b ∷ c ∷ d ∷ e ∷ []) p h = absurd (omega arith)
row_is (k ∷ a ∷ b ∷ c ∷ d ∷ e ∷ f ∷ []) p h = absurd (omega arith)
row_is (k ∷ a ∷ b ∷ c ∷ d ∷ e ∷ f ∷ g ∷ l) zero h = refl
row_is (k ∷ a ∷ b ∷ c ∷ d ∷ e ∷ f ∷ g ∷ l) (suc p) h = sym (next l k a b c d e f g p) ∙ row_is l p (omega arith)
