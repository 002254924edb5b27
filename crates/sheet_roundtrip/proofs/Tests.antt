-- Tests that hold, and what they tell.
use mathlib.Core.Path.{◌≡◌, refl}
use mathlib.Core.List.{List, [], ◌∷◌}
use mathlib.Core.Logic.{◌⊎◌, inl, inr, ⊎_elim}
use mathlib.Core.Bool.{Bool, true, false, ◌&&◌, ◌||◌}
use Prim.Native.Nat.{ℕ}
use native.Mathlib.Omega.{arith}
use lib.Dec.{eqb}
use borrow.Author.Tests.{eqb-true, leb-true, ltb-true}
use Rattle.ast.proofs.Basics.{and_l, and_r}
use Rattle.ast.specs.Each.{Each}

-- false is not true
pub never : {A : Type 0} → false ≡ true → A
never h = let z : ◌≡◌ {A = ℕ} 0 1 = cc in absurd (omega arith)

-- both hold
pub and_i : {a b : Bool} → a ≡ true → b ≡ true → (a && b) ≡ true
and_i h i = rw (h, i)

-- one of two holds
pub or_e : (a b : Bool) → (a || b) ≡ true → (a ≡ true) ⊎ (b ≡ true)
or_e true b h = inl refl
or_e false b h = inr h

-- the first, where the second does not
pub or_l : (a : Bool) → (a || false) ≡ true → a ≡ true
or_l true h = refl
or_l false h = h

-- the second holds
pub or_i : (a : Bool) {b : Bool} → b ≡ true → (a || b) ≡ true
or_i true h = refl
or_i false h = h

-- what a conjunction of tests of numbers tells
pub ruleset tests = (and_l, and_r, or_l, eqb-true, leb-true, ltb-true)

-- ---- numbers among some

-- a number is among some
abbrev pub among : ℕ → List ℕ → Bool
among k [] = false
among k (j ∷ K) = eqb k j || among k K

-- what holds of each of some holds of one among them
pub by_member : (P : ℕ → Type 0) (K : List ℕ) → Each P K → (k : ℕ) → among k K ≡ true → P k
by_member P [] p k h = never h
by_member P (j ∷ K) p k h = ⊎_elim (λ (e : eqb k j ≡ true). rw (eqb-true k j e) p.0) (λ e. by_member P K p.1 k e) (or_e (eqb k j) (among k K) h)

-- a test of each of some
abbrev pub every : (ℕ → Bool) → List ℕ → Bool
every p [] = true
every p (k ∷ K) = p k && every p K

-- it holds of one among them
pub every_at : (p : ℕ → Bool) (K : List ℕ) → every p K ≡ true → (k : ℕ) → among k K ≡ true → p k ≡ true
every_at p K e = by_member (λ k. p k ≡ true) K (go K e)
  where
    go : (K : List ℕ) → every p K ≡ true → Each (λ k. p k ≡ true) K
    go [] e = tt
    go (k ∷ K) e = (and_l (p k) (every p K) e, go K (and_r (p k) (every p K) e))
