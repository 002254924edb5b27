-- Sums of counts: one count more at either end, the window's move, and that no sum wraps.
use mathlib.Core.Path.{◌≡◌, refl, sym, ap, ◌∙◌}
use mathlib.Core.Bool.{Bool, true, false, ◌||◌}
use mathlib.Core.List.{List, [], ◌∷◌}
use Prim.Native.Nat.{ℕ, zero, suc, ◌+◌, ◌*◌, ◌-◌, ◌≤◌, ◌<◌}
use native.Mathlib.Omega.{arith}
use native.Mathlib.Numerals.{add-one}
use lib.ListN.{length, take, drop, get_or}
use lib.Dec.{ltb}
use Rattle.std.specs.List.{list_any}
use Rattle.std.specs.List as Std
use lib.Seq.{drop-cons, drop-drop, get_or-drop, drop-length}
use borrow.Author.Tests.{ltb-true, ltb-false, lt-ltb, le-ltb}
use Rattle.moving_definition.specs.Moving.{sum, total, any_over}
use Rattle.moving_definition.specs.Promises.{sum_of_last, Moves}

-- ---- one count more

-- behind
pub sum_last : (n : ℕ) (l : List ℕ) → sum (take (suc n) l) ≡ sum (take n l) + get_or l n 0
sum_last zero [] = refl
sum_last (suc n) [] = refl
sum_last zero (x ∷ l) = omega arith
sum_last (suc n) (x ∷ l) = omega (arith, sum_last n l)

-- in front
pub sum_first : (n : ℕ) (l : List ℕ) → sum (take (suc n) l) ≡ get_or l 0 0 + sum (take n (drop 1 l))
sum_first zero [] = refl
sum_first (suc n) [] = refl
sum_first n (x ∷ l) = refl

-- ---- the window: of n counts from p on

module _ (n : ℕ) (counts : List ℕ) (p : ℕ) where
  -- one count added
  pub total_added : total (suc n) counts p ≡ total n counts p + get_or counts (p + n) 0
  unfolding total
  total_added = sum_last n (drop p counts) ∙ rw (get_or-drop p counts n 0)

  -- one count taken away
  pub total_taken : total (suc n) counts p ≡ get_or counts p 0 + total n counts (p + 1)
  unfolding total
  total_taken =
      let e : p + 0 ≡ p = omega arith in
      sum_first n (drop p counts) ∙ rw (get_or-drop p counts 0 0, e, drop-drop 1 p counts)

-- of every width at once
pub moves : (counts : List ℕ) → Moves counts
moves counts w p = omega (arith, total_added w counts p, total_taken w counts p)

-- the plain sum of the last w counts, of every width at once
pub last_plain : (w : ℕ) (counts : List ℕ) (p leg : ℕ) → leg + 1 ≡ p + w → sum_of_last w counts leg ≡ total w counts p
unfolding total
last_plain zero counts p leg e = refl
last_plain (suc zero) counts p leg e = let z : leg ≡ p + 0 = omega arith in rw z (omega (arith, total_added 0 counts p))
last_plain (suc (suc w)) counts p leg e =
    let z : leg ≡ p + suc w = omega arith in
    rw z (omega (arith, total_added (suc w) counts p, last_plain (suc w) counts p (p + suc w - 1) (omega arith)))

-- ---- counts of 32 bits

either_false : (a b : Bool) → (a || b) ≡ false → (a ≡ false) × (b ≡ false)
either_false false false e = (refl, refl)
either_false false true e = (refl, e)
either_false true b e = (e, cc)

pub small_at : (counts : List ℕ) → any_over counts ≡ false → (i : ℕ) → get_or counts i 0 ≤ 4294967295
small_at [] e i = omega arith
small_at (x ∷ l) e zero = ltb-false 4294967295 x (either_false (ltb 4294967295 x) (any_over l) e).0
small_at (x ∷ l) e (suc i) = small_at l (either_false (ltb 4294967295 x) (any_over l) e).1 i

pub sum_small : (n : ℕ) (l : List ℕ) → any_over l ≡ false → sum (take n l) ≤ 4294967295 * n
sum_small zero l e = omega arith
sum_small (suc n) [] e = omega arith
sum_small (suc n) (x ∷ l) e = omega (arith, sum_small n l (either_false (ltb 4294967295 x) (any_over l) e).1, ltb-false 4294967295 x (either_false (ltb 4294967295 x) (any_over l) e).0)

over_drop : (p : ℕ) (l : List ℕ) → any_over l ≡ false → any_over (drop p l) ≡ false
over_drop zero l e = e
over_drop (suc p) [] e = refl
over_drop (suc p) (x ∷ l) e = over_drop p l (either_false (ltb 4294967295 x) (any_over l) e).1

pub total_small : (n : ℕ) (counts : List ℕ) (p : ℕ) → any_over counts ≡ false → total n counts p ≤ 4294967295 * n
unfolding total
total_small n counts p e = sum_small n (drop p counts) (over_drop p counts e)

-- the leg of a count that is over
pub record Over (counts : List ℕ) : Type 0 where
  pub leg : ℕ
  pub within : leg < length counts
  pub large : 4294967295 < get_or counts leg 0

over_more : (x : ℕ) (l : List ℕ) → (any_over l ≡ true → Over l) → (b : Bool) → ltb 4294967295 x ≡ b → (b || any_over l) ≡ true → Over (x ∷ l)
over_more x l later true q e = record { leg = 0; within = omega arith; large = ltb-true 4294967295 x q }
over_more x l later false q e = let r = later e in record { leg = suc r.leg; within = omega (arith, r.within); large = r.large }

pub over_found : (counts : List ℕ) → any_over counts ≡ true → Over counts
over_found [] e = let z : ◌≡◌ {A = ℕ} 0 1 = cc in absurd (omega arith)
over_found (x ∷ l) e = over_more x l (over_found l) (ltb 4294967295 x) refl e

-- ---- as the library's chains say it

pub over_any : (counts : List ℕ) → list_any (λ x. ltb 4294967295 x) counts ≡ any_over counts
over_any [] = refl
over_any (x ∷ l) = ap (λ b. ltb 4294967295 x || b) (over_any l)

sum_on : (a : ℕ) (l : List ℕ) → Std.fold ◌+◌ a l ≡ a + sum l
sum_on a [] = omega arith
sum_on a (x ∷ l) = omega (arith, sum_on (a + x) l)

pub sum_all : (l : List ℕ) → Std.sum l ≡ sum l
sum_all l = sum_on 0 l ∙ omega arith
