-- Numbers below fifteen: what the arms of a `match` over the kinds know.
use mathlib.Core.Path.{◌≡◌}
use Prim.Native.Nat.{ℕ, zero, suc, ◌+◌, ◌≤◌, ◌<◌}
use native.Mathlib.Omega.{arith}
use native.Mathlib.Decide.{dec_lt}

-- P at each of the n numbers from lo on
abbrev pub Each : (ℕ → Type 0) → ℕ → ℕ → Type 0
Each P lo zero = Unit {0}
Each P lo (suc n) = P lo × Each P (suc lo) n

-- what holds at each of n numbers holds at any one of them
pub between : (P : ℕ → Type 0) (n lo k : ℕ) → Each P lo n → lo ≤ k → k < lo + n → P k
between P zero lo k e h i = absurd (omega arith)
between P (suc n) lo k e h i = go (λ (j : suc lo ≤ k). between P n (suc lo) k e.1 j (omega arith)) (dec_lt lo k)
  where
    go : (suc lo ≤ k → P k) → Dec (lo < k) → P k
    go f (yes j) = f j
    go f (no j) = let z : lo ≡ k = omega arith in rw z at e.0
