-- Lists by places: what is left past a place.
use mathlib.Core.Path.{◌≡◌, ap, ◌∙◌}
use mathlib.Core.List.{List}
use Prim.Native.Nat.{ℕ, suc, ◌+◌, ◌-◌, ◌≤◌, ◌<◌}
use native.Mathlib.Omega.{arith}
use lib.ListN.{drop}
use lib.Seq.{drop-drop}

-- a loop that is not over has a turn left
pub turn : (n i : ℕ) → i < n → n - i ≡ suc (n - (i + 1))
turn n i h = omega arith

pub over : (n i : ℕ) → n ≤ i → n - i ≡ 0
over n i h = omega arith

module _ {A : Type 0} where
  -- what is left past a place, k further on
  pub hop : (k p q : ℕ) (l : List A) → p + k ≡ q → drop k (drop p l) ≡ drop q l
  hop k p q l h = drop-drop k p l ∙ ap (λ (n : ℕ). drop n l) h
