-- The bytes of a number, in any width: how many, stored one by one, and that different numbers have different bytes.
use mathlib.Core.Path.{◌≡◌, refl, sym, ap, ◌∙◌}
use mathlib.Core.List.{List, [], ◌∷◌, ◌++◌, append-nil}
use Prim.Native.Nat.{ℕ, zero, suc, ◌+◌, ◌-◌, ◌^◌, ◌/◌, ◌%◌, ◌≤◌, ◌<◌}
use native.Mathlib.Omega.{arith}
use native.Mathlib.Decide.{ℕ_discrete}
use native.Mathlib.Nat.{pow-zero, pow-suc}
use lib.ListN.{length, get_or, take, set, length-append, get_or-append}
use lib.Seq.{sets, take_at, get_or_at, drop-length}
use borrow.Author.Tests.{eq-eqb, ne_eqb}
use Rattle.text_decimal.specs.Decimal.{digit_left, before, justified}
use Rattle.text_decimal.proofs.StoreLaws.{sets_last, sets_front}

-- ---- how many

pub before_length : (k n : ℕ) → length (before k n) ≡ k
unfolding before
before_length zero n = refl
before_length (suc k) n = simp length-append (let h = before_length k (n / 10) in omega arith)

pub justified_length : (w n : ℕ) → length (justified w n) ≡ w
unfolding justified
justified_length zero n = refl
justified_length (suc k) n = simp length-append (let h = before_length k (n / 10) in omega arith)

-- ---- stored from right to left

-- each byte before the one stored last
pub before_put : (l : List ℕ) (i n : ℕ) → 0 < i → sets (set l (i - 1) (digit_left n)) 0 (before (i - 1) (n / 10)) ≡ sets l 0 (before i n)
unfolding before
before_put l i n h =
    let e : i ≡ suc (i - 1) = omega arith in
    sym (ap (λ (k : ℕ). sets l 0 (before k n)) e ∙ sets_last l 0 (i - 1) (before (i - 1) (n / 10)) _ (omega (arith, before_length (i - 1) (n / 10))))

pub before_end : (l : List ℕ) (i n : ℕ) → i ≤ 0 → sets l 0 (before i n) ≡ l
unfolding before
before_end l i n h = let e : i ≡ 0 = omega arith in rw e

-- and the last digit, stored first
pub justified_put : (l : List ℕ) (n : ℕ) → 0 < length l → sets (set l (length l - 1) (48 + n % 10)) 0 (before (length l - 1) (n / 10)) ≡ justified (length l) n
unfolding justified
justified_put l n h =
    let k = length l - 1 in
    let e : length l ≡ suc k = omega arith in
    let J = before k (n / 10) ++ ((48 + n % 10) ∷ []) in
    let j : length J ≡ length l = length-append (before k (n / 10)) ((48 + n % 10) ∷ []) ∙ (let b = before_length k (n / 10) in omega arith) in
    sym (sets_last l 0 k (before k (n / 10)) _ (omega (arith, before_length k (n / 10)))) ∙ sets_front l J (length l) j (omega arith) ∙ ap (λ (r : List ℕ). J ++ r) (drop-length l) ∙ append-nil J ∙ sym (ap (λ (w : ℕ). justified w n) e)

-- ---- different numbers have different bytes

-- one byte more: what comes before it, and the byte
record Snoc (a b : List ℕ) (x y : ℕ) : Type 0 where
  pub front : a ≡ b
  pub last : x ≡ y

snoc : (a b : List ℕ) (x y : ℕ) → length a ≡ length b → a ++ (x ∷ []) ≡ b ++ (y ∷ []) → Snoc a b x y
snoc a b x y h e =
    record {
      front = sym (take_at a (x ∷ []) (length a) refl) ∙ ap (λ (l : List ℕ). take (length a) l) e ∙ take_at b (y ∷ []) (length a) (sym h);
      last = sym (get_or_at a x [] 0 (length a) refl) ∙ ap (λ (l : List ℕ). get_or l (length a) 0) e ∙ get_or_at b y [] 0 (length a) (sym h);
    }

digit_tells : (m n : ℕ) → digit_left m ≡ digit_left n → m % 10 ≡ n % 10
unfolding digit_left
digit_tells m n e = go (ℕ_discrete m 0) (ℕ_discrete n 0)
  where
    go : Dec (m ≡ 0) → Dec (n ≡ 0) → m % 10 ≡ n % 10
    go (yes p) (yes q) = omega arith
    go (yes p) (no q) = let z : 32 ≡ 48 + n % 10 = rw (eq-eqb m 0 p, ne_eqb n 0 q) at e in omega arith
    go (no p) (yes q) = let z : 48 + m % 10 ≡ 32 = rw (ne_eqb m 0 p, eq-eqb n 0 q) at e in omega arith
    go (no p) (no q) = let z : 48 + m % 10 ≡ 48 + n % 10 = rw (ne_eqb m 0 p, ne_eqb n 0 q) at e in omega arith

before_tells : (k m n : ℕ) → m < 10 ^ k → n < 10 ^ k → before k m ≡ before k n → m ≡ n
unfolding before
before_tells zero m n p q e = omega (arith, pow-zero 10)
before_tells (suc k) m n p q e =
    let s = snoc (before k (m / 10)) (before k (n / 10)) (digit_left m) (digit_left n) (before_length k (m / 10) ∙ sym (before_length k (n / 10))) e in
    let f = before_tells k (m / 10) (n / 10) (omega (arith, pow-suc 10 k)) (omega (arith, pow-suc 10 k)) s.front in
    omega (arith, digit_tells m n s.last)

pub justified_tells : (w m n : ℕ) → 0 < w → m < 10 ^ w → n < 10 ^ w → justified w m ≡ justified w n → m ≡ n
unfolding justified
justified_tells zero m n h p q e = absurd (omega arith)
justified_tells (suc k) m n h p q e =
    let s = snoc (before k (m / 10)) (before k (n / 10)) (48 + m % 10) (48 + n % 10) (before_length k (m / 10) ∙ sym (before_length k (n / 10))) e in
    let f = before_tells k (m / 10) (n / 10) (omega (arith, pow-suc 10 k)) (omega (arith, pow-suc 10 k)) s.front in
    omega (arith, s.last)

-- ---- the last byte of a number is a digit, and what comes before a short number is spaces

-- a number with few digits has room where there are more
pub wider : (e d n k : ℕ) → e + d ≡ k → n < 10 ^ d → n < 10 ^ k
wider zero d n k h p = let z : d ≡ k = omega arith in rw z at p
wider (suc e) d n k h p = wider e (suc d) n k (omega arith) (omega (arith, pow-suc 10 d))

-- at place i there are d bytes further to the right, and the number has at most so many digits
before_blank : (k n i d : ℕ) → i + suc d ≡ k → n < 10 ^ d → get_or (before k n) i 0 ≡ 32
unfolding before digit_left
before_blank zero n i d h p = absurd (omega arith)
before_blank (suc k) n i zero h p =
    let z : n ≡ 0 = omega (arith, pow-zero 10) in
    get_or_at (before k (n / 10)) (digit_left n) [] 0 i (before_length k (n / 10) ∙ omega arith) ∙ rw (eq-eqb n 0 z)
before_blank (suc k) n i (suc d) h p =
    get_or-append (before k (n / 10)) (digit_left n ∷ []) 0 i (omega (arith, before_length k (n / 10))) ∙
    before_blank k (n / 10) i d (omega arith) (omega (arith, pow-suc 10 d))

pub justified_blank : (k n i d : ℕ) → i + suc d ≡ k → n / 10 < 10 ^ d → get_or (justified (suc k) n) i 0 ≡ 32
unfolding justified
justified_blank k n i d h p =
    get_or-append (before k (n / 10)) ((48 + n % 10) ∷ []) 0 i (omega (arith, before_length k (n / 10))) ∙ before_blank k (n / 10) i d h p

pub justified_last : (k n : ℕ) → get_or (justified (suc k) n) k 0 ≡ 48 + n % 10
unfolding justified
justified_last k n = get_or_at (before k (n / 10)) (48 + n % 10) [] 0 k (before_length k (n / 10))
