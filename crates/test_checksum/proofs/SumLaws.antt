-- One number more.
use mathlib.Core.Path.{◌≡◌, refl, sym, ap, ◌∙◌}
use mathlib.Core.List.{List, [], ◌∷◌, ◌++◌}
use Prim.Native.Nat.{ℕ}
use Rattle.test_checksum.specs.Sum.{with, checksum_of}

sum_append : (s : ℕ) (a b : List ℕ) → checksum_of s (a ++ b) ≡ checksum_of (checksum_of s a) b
sum_append s [] b = refl
sum_append s (n ∷ a) b = sum_append (with s n) a b

pub sum_more : (before : ℕ) (l : List ℕ) (s t n : ℕ) → s ≡ checksum_of before l → t ≡ with s n → t ≡ checksum_of before (l ++ (n ∷ []))
sum_more before l s t n p q = q ∙ ap (λ (k : ℕ). with k n) p ∙ sym (sum_append before l (n ∷ []))
