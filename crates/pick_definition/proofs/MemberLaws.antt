-- Whether a base stands in the table.
use mathlib.Core.Path.{◌≡◌, refl, ap}
use mathlib.Core.Bool.{Bool, true, false, ◌||◌}
use mathlib.Core.List.{List, [], ◌∷◌, ◌++◌}
use mathlib.Core.Option.{Option, some}
use Prim.Native.Nat.{ℕ, zero, suc, ◌<◌}
use native.Mathlib.Omega.{arith}
use native.Mathlib.Decide.{ℕ_discrete}
use lib.ListN.{length, get_or, get_elem?, take}
use lib.Dec.{eqb}
use borrow.Author.Tests.{eq-eqb, ne_eqb}
use Rattle.pick_definition.specs.Picks.{Bases, member}

or_true : (b : Bool) → (b || true) ≡ true
or_true true = refl
or_true false = refl

module _ (base : ℕ) where
  -- a base that stands among the first n is known
  pub member_at : (n : ℕ) (l : List ℕ) (j : ℕ) → j < n → j < length l → get_or l j 0 ≡ base → member base (take n l) ≡ true
  unfolding member
  member_at zero l j h i e = absurd (omega arith)
  member_at (suc n) [] j h i e = absurd (omega arith)
  member_at (suc n) (b ∷ l) zero h i e = rw (eq-eqb _ _ e)
  member_at (suc n) (b ∷ l) (suc j) h i e = rw (member_at n l j (omega arith) (omega arith) e) (or_true (eqb b base))

  -- a base that does not is new
  pub member_none : (n : ℕ) (l : List ℕ) → ((k : ℕ) → k < n → get_or l k 0 ≡ base → ⊥) → member base (take n l) ≡ false
  unfolding member
  member_none zero l f = refl
  member_none (suc n) [] f = refl
  member_none (suc n) (b ∷ l) f =
      rw (ne_eqb _ _ (f 0 (omega arith))) (member_none n l (λ k h. f (suc k) (omega arith)))

-- a table with one base more still knows the others
pub member_more : (b base : ℕ) (T : Bases) → member b T ≡ true → member b (T ++ (base ∷ [])) ≡ true
unfolding member
member_more b base [] e = let z : ◌≡◌ {A = ℕ} 0 1 = cc in absurd (omega arith)
member_more b base (x ∷ T) e = go (eqb x b) (member_more b base T) e
  where
    go : (c : Bool) → (member b T ≡ true → member b (T ++ (base ∷ [])) ≡ true) → (c || member b T) ≡ true → (c || member b (T ++ (base ∷ []))) ≡ true
    go true f e = refl
    go false f e = f e

-- and it knows that one
pub member_last : (base : ℕ) (T : Bases) → member base (T ++ (base ∷ [])) ≡ true
unfolding member
member_last base [] = rw (eq-eqb base base refl)
member_last base (x ∷ T) = rw (member_last base T) (or_true (eqb x base))

-- what stands in a table is known by it
pub member_here : (b : ℕ) (T : Bases) (k : ℕ) → get_elem? T k ≡ some b → member b T ≡ true
unfolding member
member_here b [] k e = let z : ◌≡◌ {A = ℕ} 0 1 = cc in absurd (omega arith)
member_here b (x ∷ T) zero e = let z : x ≡ b = cc in rw (eq-eqb x b z)
member_here b (x ∷ T) (suc k) e = rw (member_here b T k e) (or_true (eqb x b))

-- and what it knows stands somewhere
pub member_index : (b : ℕ) (T : Bases) → member b T ≡ true → (k : ℕ) × (get_elem? T k ≡ some b)
unfolding member
member_index b [] e = let z : ◌≡◌ {A = ℕ} 0 1 = cc in absurd (omega arith)
member_index b (x ∷ T) e = go (member_index b T) (ℕ_discrete x b)
  where
    go : (member b T ≡ true → (k : ℕ) × (get_elem? T k ≡ some b)) → Dec (x ≡ b) → (k : ℕ) × (get_elem? (x ∷ T) k ≡ some b)
    go f (yes z) = (0, ap some z)
    go f (no z) = let i = f (rw (ne_eqb x b z) at e) in (suc i.0, i.1)
