-- The largest of a list and its first place: with one number more behind, and what they are.
use mathlib.Core.Path.{◌≡◌, refl, sym, ap, ◌∙◌}
use mathlib.Core.Bool.{Bool, true, false}
use mathlib.Core.List.{List, [], ◌∷◌, ◌++◌}
use Prim.Native.Nat.{ℕ, zero, suc, ◌+◌, ◌≤◌, ◌<◌, max}
use native.Mathlib.Omega.{arith}
use native.Mathlib.Decide.{ℕ_discrete}
use lib.ListN.{length, get_or}
use lib.Dec.{eqb}
use borrow.Author.Tests.{eq-eqb, ne_eqb}
use Rattle.ast.specs.Choice.{choose}
use Rattle.moving_definition.specs.Moving.{largest_of, first_place}

-- ---- what they are

-- none is larger
pub largest_most : (l : List ℕ) (p : ℕ) → get_or l p 0 ≤ largest_of l
largest_most [] p = omega arith
largest_most (x ∷ l) zero = omega arith
largest_most (x ∷ l) (suc p) = omega (arith, largest_most l p)

module _ (x y : ℕ) (l : List ℕ) where
  place_here : y ≡ x → first_place x (y ∷ l) ≡ 0
  place_here e = rw (eq-eqb y x e)

  place_later : (y ≡ x → ⊥) → first_place x (y ∷ l) ≡ suc (first_place x l)
  place_later h = rw (ne_eqb y x h)

-- none before the place is the number
abbrev NoneBefore : ℕ → List ℕ → Type 0
NoneBefore x l = (p : ℕ) → p < first_place x l → get_or l p 0 ≡ x → ⊥

first_more : (x y : ℕ) (l : List ℕ) → NoneBefore x l → Dec (y ≡ x) → NoneBefore x (y ∷ l)
first_more x y l later (yes z) p h e = omega (arith, place_here x y l z)
first_more x y l later (no z) zero h e = z e
first_more x y l later (no z) (suc p) h e = later p (omega (arith, place_later x y l z)) e

pub place_first : (x : ℕ) (l : List ℕ) (p : ℕ) → p < first_place x l → get_or l p 0 ≡ x → ⊥
place_first x [] p h e = omega arith
place_first x (y ∷ l) p h e = first_more x y l (place_first x l) (ℕ_discrete y x) p h e

-- the largest stands at its place
pub record Stands (x : ℕ) (l : List ℕ) : Type 0 where
  pub within : first_place x l < length l
  pub there : get_or l (first_place x l) 0 ≡ x

some : (l : List ℕ) → (largest_of l ≡ 0 → ⊥) → 0 < length l
some [] n = absurd (n refl)
some (x ∷ l) n = omega arith

stands_more : (y : ℕ) (l : List ℕ) → (0 < length l → Stands (largest_of l) l) → Dec (y ≡ largest_of (y ∷ l)) → Stands (largest_of (y ∷ l)) (y ∷ l)
stands_more y l later (yes z) = let e = place_here (largest_of (y ∷ l)) y l z in record { within = omega arith; there = rw e z }
stands_more y l later (no z) =
    let m : largest_of (y ∷ l) ≡ largest_of l = omega arith in
    let e = place_later (largest_of (y ∷ l)) y l z in
    let r = later (some l (λ n. omega arith)) in
    record { within = rw (e, m) (omega (arith, r.within)); there = rw (e, m) r.there }

pub largest_stands : (l : List ℕ) → 0 < length l → Stands (largest_of l) l
largest_stands [] h = absurd (omega arith)
largest_stands (y ∷ l) h = stands_more y l (largest_stands l) (ℕ_discrete y (largest_of (y ∷ l)))

-- ---- one number more behind

pub largest_more : (l : List ℕ) (x : ℕ) → largest_of (l ++ (x ∷ [])) ≡ max (largest_of l) x
largest_more [] x = omega arith
largest_more (y ∷ l) x = omega (arith, largest_more l x)

-- a new largest stands behind
pub place_new : (l : List ℕ) (x : ℕ) → largest_of l < x → first_place x (l ++ (x ∷ [])) ≡ length l
place_new [] x h = place_here x x [] refl
place_new (y ∷ l) x h = place_later x y (l ++ (x ∷ [])) (λ e. omega arith) ∙ ap suc (place_new l x (omega arith))

-- one that stands in a list keeps its place
abbrev Stays : ℕ → ℕ → List ℕ → Type 0
Stays x z l = first_place x l < length l → first_place x (l ++ (z ∷ [])) ≡ first_place x l

stays_more : (x z y : ℕ) (l : List ℕ) → Stays x z l → Dec (y ≡ x) → Stays x z (y ∷ l)
stays_more x z y l later (yes e) h = place_here x y (l ++ (z ∷ [])) e ∙ sym (place_here x y l e)
stays_more x z y l later (no n) h = place_later x y (l ++ (z ∷ [])) n ∙ ap suc (later (omega (arith, place_later x y l n))) ∙ sym (place_later x y l n)

place_stays : (l : List ℕ) (x z : ℕ) → first_place x l < length l → first_place x (l ++ (z ∷ [])) ≡ first_place x l
place_stays [] x z h = absurd (omega arith)
place_stays (y ∷ l) x z h = stays_more x z y l (place_stays l x z) (ℕ_discrete y x) h

pub place_old : (l : List ℕ) (x : ℕ) → x ≤ largest_of l → first_place (largest_of l) (l ++ (x ∷ [])) ≡ first_place (largest_of l) l
place_old [] x h = place_here 0 x [] (omega arith)
place_old (y ∷ l) x h = place_stays (y ∷ l) (largest_of (y ∷ l)) x (largest_stands (y ∷ l) (omega arith)).within

-- ---- of none, and within

either_upto : (b : Bool) (m n : ℕ) → m ≤ n → choose b 0 (suc m) ≤ suc n
either_upto true m n h = omega arith
either_upto false m n h = omega arith

pub place_upto : (x : ℕ) (l : List ℕ) → first_place x l ≤ length l
place_upto x [] = omega arith
place_upto x (y ∷ l) = either_upto (eqb y x) (first_place x l) (length l) (place_upto x l)

pub none_largest : (l : List ℕ) → length l ≡ 0 → largest_of l ≡ 0
none_largest [] e = refl
none_largest (x ∷ l) e = absurd (omega arith)

pub none_place : (x : ℕ) (l : List ℕ) → length l ≡ 0 → first_place x l ≡ 0
none_place x [] e = refl
none_place x (y ∷ l) e = absurd (omega arith)
