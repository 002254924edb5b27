-- Words that stay: of one word that is written, of a part that was lent, of one change after another; words written from a slice's start on.
use mathlib.Core.Path.{◌≡◌, refl, sym, ap, ◌∙◌}
use mathlib.Core.List.{List, ◌++◌}
use Prim.Native.Nat.{ℕ, suc, ◌+◌, ◌-◌, ◌≤◌, ◌<◌}
use native.Mathlib.Numerals.{add-one}
use native.Mathlib.Omega.{arith}
use native.Mathlib.Decide.{dec_lt}
use lib.ListN.{length, get_or, take, drop, set, length-set, length-append, length-drop, get_or-append}
use lib.Seq.{length-take-le, get_or-set_same, get_or-set_other, get_or-append-add, get_or-take, get_or-drop, take_at, drop_at, take-length, paste-suc}
use Rattle.words_lent.specs.Words.{over, Outside}

pub stays : {a b : ℕ} (l : List ℕ) → Outside a b l l
stays l = record { long = refl; below = λ k h. refl; above = λ k h. refl }

pub stays_set : {a b : ℕ} (l : List ℕ) (i v : ℕ) → a ≤ i → i < b → Outside a b l (set l i v)
stays_set l i v h g =
    record { long = length-set l i v; below = λ k e. get_or-set_other l i k v 0 (λ z. omega arith); above = λ k e. get_or-set_other l i k v 0 (λ z. omega arith) }

-- one change after another, within wider bounds
module _ {a b c d : ℕ} {x y z : List ℕ} (lo hi : ℕ) where
  pub stays_on : Outside a b x y → Outside c d y z → lo ≤ a → lo ≤ c → b ≤ hi → d ≤ hi → Outside lo hi x z
  stays_on p q h₁ h₂ h₃ h₄ = record {
    long = q.long ∙ p.long;
    below = λ k e. q.below k (omega arith) ∙ p.below k (omega arith);
    above = λ k e. q.above k (omega arith) ∙ p.above k (omega arith);
  }

pub stays_wide : {a b : ℕ} {x y : List ℕ} (lo hi : ℕ) → Outside a b x y → lo ≤ a → b ≤ hi → Outside lo hi x y
stays_wide lo hi p h₁ h₂ = record { long = p.long; below = λ k e. p.below k (omega arith); above = λ k e. p.above k (omega arith) }

-- ---- a part that was lent comes back at its place

-- the words from the front
pub stays_front : (xs ys : List ℕ) (n : ℕ) → n ≤ length xs → length ys ≡ n → Outside 0 n xs (ys ++ drop n xs)
stays_front xs ys n h e = record {
  long = omega (arith, length-append ys (drop n xs), length-drop n xs);
  below = λ k i. absurd (omega arith);
  above = λ k i. after k (k - n) (omega arith);
}
  where
    after : (k m : ℕ) → k ≡ length ys + m → get_or (ys ++ drop n xs) k 0 ≡ get_or xs k 0
    after k m z = let y : n + m ≡ k = omega arith in rw (z, get_or-append-add ys (drop n xs) m 0, get_or-drop n xs m 0, y, ← z)

-- a word of a part, and those that the part leaves
module _ (xs ys : List ℕ) (p n : ℕ) (h : p + n ≤ length xs) (e : length ys ≡ n) where
  abbrev pub pasted : List ℕ
  pasted = take p xs ++ (ys ++ drop n (drop p xs))

  front : length (take p xs) ≡ p
  front = length-take-le p xs (omega arith)

  pub pasted_at : (k : ℕ) → k < n → get_or pasted (p + k) 0 ≡ get_or ys k 0
  pasted_at k i =
      let z : p + k ≡ length (take p xs) + k = omega (arith, front) in
      rw (z, get_or-append-add (take p xs) (ys ++ drop n (drop p xs)) k 0) (get_or-append ys (drop n (drop p xs)) 0 k (omega arith))

  pasted_past : (k : ℕ) → n ≤ k → get_or pasted (p + k) 0 ≡ get_or xs (p + k) 0
  pasted_past k i =
      let m = k - n in
      let z : p + k ≡ length (take p xs) + k = omega (arith, front) in
      let y : k ≡ length ys + m = omega arith in
      let x : n + m ≡ k = omega arith in
      rw (z, get_or-append-add (take p xs) (ys ++ drop n (drop p xs)) k 0, y, get_or-append-add ys (drop n (drop p xs)) m 0, get_or-drop n (drop p xs) m 0, x, get_or-drop p xs k 0, ← y, ← z)

  -- a word of the part that was kept
  pasted_kept : (m j : ℕ) → drop m ys ≡ drop m (take n (drop p xs)) → m ≤ j → j < n → get_or ys j 0 ≡ get_or xs (p + j) 0
  pasted_kept m j s a b =
      let t = take n (drop p xs) in
      let z : m + (j - m) ≡ j = omega arith in
      let y : get_or ys (m + (j - m)) 0 ≡ get_or t (m + (j - m)) 0 = sym (get_or-drop m ys (j - m) 0) ∙ ap (λ (l : List ℕ). get_or l (j - m) 0) s ∙ get_or-drop m t (j - m) 0 in
      let x : get_or ys j 0 ≡ get_or t j 0 = rw z at y in
      x ∙ get_or-take n (drop p xs) j 0 b ∙ get_or-drop p xs j 0

  -- where the first m words of the part were written and the others were kept
  pub pasted_stays : (m : ℕ) → drop m ys ≡ drop m (take n (drop p xs)) → Outside p (p + m) xs pasted
  pasted_stays m s = record {
    long = omega (arith, length-append (take p xs) (ys ++ drop n (drop p xs)), length-append ys (drop n (drop p xs)), length-drop n (drop p xs), length-drop p xs, front);
    below = λ k i. get_or-append (take p xs) (ys ++ drop n (drop p xs)) 0 k (omega (arith, front)) ∙ get_or-take p xs k 0 i;
    above = λ k i. after k (k - p) (omega arith) (omega arith) (dec_lt (k - p) n);
  }
    where
      after : (k j : ℕ) → k ≡ p + j → m ≤ j → Dec (j < n) → get_or pasted k 0 ≡ get_or xs k 0
      after k j z a (yes b) = rw z (pasted_at j b ∙ pasted_kept m j s a b)
      after k j z a (no b) = rw z (pasted_past j (omega arith))

-- ---- three words, one behind the other

module _ (l : List ℕ) (a x b y c z : ℕ) (p : a < b) (q : b < c) (h : c < length l) where
  abbrev l₁ : List ℕ
  l₁ = set l a x

  abbrev l₂ : List ℕ
  l₂ = set l₁ b y

  abbrev pub three : List ℕ
  three = set l₂ c z

  pub three_first : get_or three a 0 ≡ x
  three_first =
      get_or-set_other l₂ c a z 0 (λ e. omega arith) ∙ get_or-set_other l₁ b a y 0 (λ e. omega arith) ∙ get_or-set_same l a x 0 (omega arith)

  pub three_second : get_or three b 0 ≡ y
  three_second = get_or-set_other l₂ c b z 0 (λ e. omega arith) ∙ get_or-set_same l₁ b y 0 (omega (arith, length-set l a x))

  pub three_third : get_or three c 0 ≡ z
  three_third = get_or-set_same l₂ c z 0 (omega (arith, length-set l a x, length-set l₁ b y))

  pub three_other : (k : ℕ) → (k ≡ a → ⊥) → (k ≡ b → ⊥) → (k ≡ c → ⊥) → get_or three k 0 ≡ get_or l k 0
  three_other k d e f = get_or-set_other l₂ c k z 0 f ∙ get_or-set_other l₁ b k y 0 e ∙ get_or-set_other l a k x 0 d

-- ---- words written from a slice's start on

-- The slice stays as long, begins with what is written, and keeps the rest.
module _ (new old : List ℕ) where
  pub over_length : length new ≤ length old → length (over new old) ≡ length old
  over_length h = omega (arith, length-append new (drop (length new) old), length-drop (length new) old)

  pub over_written : (n : ℕ) → length new ≡ n → take n (over new old) ≡ new
  over_written n e = take_at new (drop (length new) old) n e

  pub over_kept : (n : ℕ) → length new ≡ n → drop n (over new old) ≡ drop n old
  over_kept n e = drop_at new (drop (length new) old) n e ∙ ap (λ (k : ℕ). drop k old) e

-- one by one: the first i of them are written
pub record Putting (old new now : List ℕ) (i : ℕ) : Type 0 where
  pub upto : i ≤ length new
  pub long : length now ≡ length old
  pub same : now ≡ take i new ++ drop i old

pub put_start : {old new : List ℕ} → Putting old new old 0
put_start = record { upto = omega arith; long = refl; same = refl }

put_turn : (old new : List ℕ) (i : ℕ) → i < length old → i < length new → set (take i new ++ drop i old) i (get_or new i 0) ≡ take (i + 1) new ++ drop (i + 1) old
put_turn old new i h k = let e : 0 + i ≡ i = omega arith in let f : 0 + suc i ≡ suc i = omega arith in rw (add-one i) (rw (e, f) at (paste-suc old 0 new i 0 (omega arith) k))

module _ {old new now : List ℕ} {i : ℕ} (p : Putting old new now i) where
  pub put_again : length new ≤ length old → i < length new → Putting old new (set now i (get_or new i 0)) (i + 1)
  put_again h k = record { upto = omega arith; long = rw length-set p.long; same = rw p.same (put_turn old new i (omega arith) k) }

  pub put_end : length new ≤ i → now ≡ over new old
  put_end k = let e : i ≡ length new = omega arith in p.same ∙ rw (e, take-length new)
