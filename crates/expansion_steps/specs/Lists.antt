-- Lists with no element twice, counts and sums.
use mathlib.Core.List.{List, [], ◌∷◌, Memᴰ}
use Rattle.std.specs.Prelude.{Bool, true, false, ℕ, zero, suc, ◌+◌}

-- no element twice
abbrev pub Nodup : {A : Type 0} → List A → Type 0
Nodup [] = Unit {0}
Nodup (x ∷ l) = (Memᴰ x l → ⊥) × Nodup l

abbrev pub one_if : Bool → ℕ
one_if true = 1
one_if false = 0

-- how many elements have f
abbrev pub count_if : {A : Type 0} → (A → Bool) → List A → ℕ
count_if f [] = 0
count_if f (x ∷ l) = one_if (f x) + count_if f l

-- f 0 + … + f (n - 1)
abbrev pub sum_to : ℕ → (ℕ → ℕ) → ℕ
sum_to zero f = 0
sum_to (suc n) f = sum_to n f + f n
