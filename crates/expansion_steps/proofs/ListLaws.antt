-- Laws of lists with no element twice, of sums, and of the fibers of a list of pairs.
use mathlib.Core.Path.{◌≡◌, refl, ap, sym, ◌∙◌, subst}
use mathlib.Core.Logic.{◌⊎◌, inl, inr, ⊎_elim}
use mathlib.Core.List.{List, [], ◌∷◌, ◌++◌, map, Memᴰ}
use mathlib.Core.Bool.{Bool, true, false}
use Prim.Native.Nat.{ℕ, zero, suc, ◌+◌, ◌≤◌, ◌<◌, zero-le, suc-le-suc}
use native.Mathlib.Decide.{dec_lt}
use native.Mathlib.Omega.{arith}
use lib.ListN.{length, length-append, length-map}
use Rattle.expansion_steps.specs.Lists.{Nodup, one_if, count_if, sum_to}
use lib.Dec.{T, eqb, eqb→eq, eqb_refl}

-- An element that is not there yet, at the end.
pub nodup_append : {A : Type 0} (l : List A) (x : A) → Nodup l → (Memᴰ x l → ⊥) → Nodup (l ++ (x ∷ []))
nodup_append [] x d h = (mathlib.Core.List.Memᴰ.not-nil, tt)
nodup_append (y ∷ l) x d h = (λ m. at (mathlib.Core.List.Memᴰ.append_cases l m), nodup_append l x d.1 (λ m. h (mathlib.Core.List.Memᴰ.tail m)))
  where
    end : (y ≡ x) ⊎ Memᴰ y [] → ⊥
    end (inl e) = h (mathlib.Core.List.Memᴰ.head (sym e))
    end (inr m) = mathlib.Core.List.Memᴰ.not-nil m

    at : Memᴰ y l ⊎ Memᴰ y (x ∷ []) → ⊥
    at (inl m) = d.0 m
    at (inr m) = end (mathlib.Core.List.Memᴰ.cases_cons m)

-- No element twice, none twice in its image, where equal images come from equal elements.
pub nodup_map : {A B : Type 0} (f : A → B) → ((x y : A) → f x ≡ f y → x ≡ y) → (l : List A) → Nodup l → Nodup (map f l)
nodup_map f inj [] d = tt
nodup_map f inj (x ∷ l) d = (λ m. let y = mathlib.Core.List.Memᴰ.of_map f l m in d.0 (mathlib.Core.List.Memᴰ.cast (inj x y.0 (sym y.2)) y.1), nodup_map f inj l d.1)

-- Two lists with no element in common.
nodup_both : {A : Type 0} (l k : List A) → Nodup l → Nodup k → ((x : A) → Memᴰ x l → Memᴰ x k → ⊥) → Nodup (l ++ k)
nodup_both [] k d c h = c
nodup_both (x ∷ l) k d c h = (λ m. ⊎_elim d.0 (h x (mathlib.Core.List.Memᴰ.head refl)) (mathlib.Core.List.Memᴰ.append_cases l m), nodup_both l k d.1 c (λ y m. h y (mathlib.Core.List.Memᴰ.tail m)))

-- ---- no element twice, and all in another list

module _ {A : Type 0} where
  -- a list without one of its elements
  without : {x : A} {l : List A} → Memᴰ x l → List A
  without (mathlib.Core.List.Memᴰ.head {xs = xs} e) = xs
  without (mathlib.Core.List.Memᴰ.tail {x = y} m) = y ∷ without m

  -- It is one shorter.
  without_length : {x : A} {l : List A} (m : Memᴰ x l) → length l ≡ suc (length (without m))
  unfolding without
  without_length (mathlib.Core.List.Memᴰ.head e) = refl
  without_length (mathlib.Core.List.Memᴰ.tail m) = ap suc (without_length m)

  -- Any other element is still there.
  without_mem : {x : A} {l : List A} (m : Memᴰ x l) (y : A) → (y ≡ x → ⊥) → Memᴰ y l → Memᴰ y (without m)
  unfolding without
  without_mem (mathlib.Core.List.Memᴰ.head {x = z} {xs = zs} e) y ne h = at (mathlib.Core.List.Memᴰ.cases_cons h)
    where
      at : (y ≡ z) ⊎ Memᴰ y zs → Memᴰ y zs
      at (inl q) = absurd (ne (q ∙ sym e))
      at (inr q) = q
  without_mem (mathlib.Core.List.Memᴰ.tail {x = z} {xs = zs} m) y ne h = at (mathlib.Core.List.Memᴰ.cases_cons h) (without_mem m y ne)
    where
      at : (y ≡ z) ⊎ Memᴰ y zs → (Memᴰ y zs → Memᴰ y (without m)) → Memᴰ y (z ∷ without m)
      at (inl q) f = mathlib.Core.List.Memᴰ.head q
      at (inr q) f = mathlib.Core.List.Memᴰ.tail (f q)

  -- A list with no element twice is no longer than one that holds all its elements.
  pub nodup_length : (l k : List A) → Nodup l → ((x : A) → Memᴰ x l → Memᴰ x k) → length l ≤ length k
  nodup_length [] k d f = zero-le
  nodup_length (x ∷ l) k d f =
      let m : Memᴰ x k = f x (mathlib.Core.List.Memᴰ.head refl) in
      rw (without_length m) (suc-le-suc (nodup_length l (without m) d.1 (λ y h. without_mem m y (λ e. d.0 (subst (λ (z : A). Memᴰ z l) e h)) (f y (mathlib.Core.List.Memᴰ.tail h)))))

-- ---- counts

pub count_append : {A : Type 0} (f : A → Bool) (l k : List A) → count_if f (l ++ k) ≡ count_if f l + count_if f k
count_append f [] k = omega arith
count_append f (x ∷ l) k = omega (arith, count_append f l k)

-- Two tests that agree on a list count the same.
pub count_same : {A : Type 0} (f g : A → Bool) (l : List A) → ((x : A) → Memᴰ x l → f x ≡ g x) → count_if f l ≡ count_if g l
count_same f g [] h = refl
count_same f g (x ∷ l) h = omega (arith, ap one_if (h x (mathlib.Core.List.Memᴰ.head refl)), count_same f g l (λ y m. h y (mathlib.Core.List.Memᴰ.tail m)))

pub count_map : {A B : Type 0} (f : B → Bool) (g : A → B) (l : List A) → count_if f (map g l) ≡ count_if (λ x. f (g x)) l
count_map f g [] = refl
count_map f g (x ∷ l) = omega (arith, count_map f g l)

-- ---- sums

-- Equal terms, equal sums.
pub sum_same : (n : ℕ) (f g : ℕ → ℕ) → ((s : ℕ) → s < n → f s ≡ g s) → sum_to n f ≡ sum_to n g
sum_same zero f g h = refl
sum_same (suc n) f g h = omega (arith, sum_same n f g (λ s q. h s (omega arith)), h n (omega arith))

-- A sum of zeros.
sum_zero : (n : ℕ) → sum_to n (λ s. 0) ≡ 0
sum_zero zero = refl
sum_zero (suc n) = omega (arith, sum_zero n)

-- One term one more, the sum one more.
sum_bump : (n a : ℕ) (f g : ℕ → ℕ) → a < n → ((s : ℕ) → (s ≡ a → ⊥) → f s ≡ g s) → f a ≡ suc (g a) → sum_to n f ≡ suc (sum_to n g)
sum_bump zero a f g h same up = absurd (omega arith)
sum_bump (suc n) a f g h same up = go (dec_lt a n) (λ q. sum_bump n a f g q same up)
  where
    go : Dec (a < n) → (a < n → sum_to n f ≡ suc (sum_to n g)) → sum_to n f + f n ≡ suc (sum_to n g + g n)
    go (yes q) ih = omega (arith, ih q, same n (λ e. omega arith))
    go (no q) ih = omega (arith, sum_same n f g (λ s x. same s (λ e. omega arith)), top)
      where
        an : a ≡ n
        an = omega arith

        top : f n ≡ suc (g n)
        top = subst (λ (x : ℕ). f x ≡ suc (g x)) an up

-- ---- fibers

abbrev keep : {A : Type 0} → Bool → A → List A → List A
keep true j l = j ∷ l
keep false j l = l

-- the second parts of the pairs whose first part is s
unfoldable pub fiber : {A : Type 0} → ℕ → List (ℕ × A) → List A
fiber s [] = []
fiber s (x ∷ l) = keep (eqb x.0 s) x.1 (fiber s l)

-- What is in a list with j kept or not.
keep_mem : {A : Type 0} (b : Bool) (i j : A) (l : List A) → Memᴰ j (keep b i l) → (T b × (j ≡ i)) ⊎ Memᴰ j l
keep_mem true i j l m = at (mathlib.Core.List.Memᴰ.cases_cons m)
  where
    at : (j ≡ i) ⊎ Memᴰ j l → (Unit {0} × (j ≡ i)) ⊎ Memᴰ j l
    at (inl e) = inl (tt, e)
    at (inr h) = inr h
keep_mem false i j l m = inr m

-- An element of a fiber is a pair of the list.
pub fiber_out : {A : Type 0} (s : ℕ) (j : A) (l : List (ℕ × A)) → Memᴰ j (fiber s l) → Memᴰ (s, j) l
unfolding fiber
fiber_out s j [] m = absurd (mathlib.Core.List.Memᴰ.not-nil m)
fiber_out s j (x ∷ l) m = at (keep_mem (eqb x.0 s) x.1 j (fiber s l) m) (fiber_out s j l)
  where
    at : (T (eqb x.0 s) × (j ≡ x.1)) ⊎ Memᴰ j (fiber s l) → (Memᴰ j (fiber s l) → Memᴰ (s, j) l) → Memᴰ (s, j) (x ∷ l)
    at (inl h) f = mathlib.Core.List.Memᴰ.head (λ i. (sym (eqb→eq x.0 s h.0) i, h.1 i))
    at (inr h) f = mathlib.Core.List.Memᴰ.tail (f h)

-- An element stays, whether j is kept or not.
keep_tail : {A : Type 0} (b : Bool) (i j : A) (l : List A) → Memᴰ j l → Memᴰ j (keep b i l)
keep_tail true i j l m = mathlib.Core.List.Memᴰ.tail m
keep_tail false i j l m = m

-- What is kept is there.
keep_here : {A : Type 0} (b : Bool) (i j : A) (l : List A) → T b → j ≡ i → Memᴰ j (keep b i l)
keep_here true i j l t e = mathlib.Core.List.Memᴰ.head e
keep_here false i j l t e = absurd t

-- A pair of the list is in its fiber.
pub fiber_in : {A : Type 0} (s : ℕ) (j : A) (l : List (ℕ × A)) → Memᴰ (s, j) l → Memᴰ j (fiber s l)
unfolding fiber
fiber_in s j [] m = absurd (mathlib.Core.List.Memᴰ.not-nil m)
fiber_in {A} s j (x ∷ l) m = at (mathlib.Core.List.Memᴰ.cases_cons m) (fiber_in s j l)
  where
    at : (◌≡◌ {A = ℕ × A} (s, j) x) ⊎ Memᴰ (s, j) l → (Memᴰ (s, j) l → Memᴰ j (fiber s l)) → Memᴰ j (keep (eqb x.0 s) x.1 (fiber s l))
    at (inl e) f = keep_here (eqb x.0 s) x.1 j (fiber s l) (subst (λ (y : ℕ × A). T (eqb y.0 s)) e (eqb_refl s)) (ap (λ (y : ℕ × A). y.1) e)
    at (inr h) f = keep_tail (eqb x.0 s) x.1 j (fiber s l) (f h)

-- No pair twice, nothing twice in a fiber.
pub fiber_nodup : {A : Type 0} (s : ℕ) (l : List (ℕ × A)) → Nodup l → Nodup (fiber s l)
unfolding fiber
fiber_nodup s [] d = tt
fiber_nodup {A} s (x ∷ l) d = go (eqb x.0 s) (eqb→eq x.0 s) (fiber_nodup s l d.1)
  where
    go : (b : Bool) → (T b → x.0 ≡ s) → Nodup (fiber s l) → Nodup (keep b x.1 (fiber s l))
    go false f n = n
    go true f n = (λ m. d.0 (subst (λ (y : ℕ). Memᴰ {A = ℕ × A} (y, x.1) l) (sym (f tt)) (fiber_out s x.1 l m)), n)

-- A list of pairs is as long as its fibers together.
pub fiber_sum : {A : Type 0} (n : ℕ) (l : List (ℕ × A)) → ((x : ℕ × A) → Memᴰ x l → x.0 < n) → length l ≡ sum_to n (λ s. length (fiber s l))
unfolding fiber
fiber_sum n [] h = sym (sum_zero n)
fiber_sum n (x ∷ l) h =
    ap suc (fiber_sum n l (λ y m. h y (mathlib.Core.List.Memᴰ.tail m)))
    ∙ sym (sum_bump n x.0 (λ s. length (keep (eqb x.0 s) x.1 (fiber s l))) (λ s. length (fiber s l)) (h x (mathlib.Core.List.Memᴰ.head refl)) other here)
  where
    other : (s : ℕ) → (s ≡ x.0 → ⊥) → length (keep (eqb x.0 s) x.1 (fiber s l)) ≡ length (fiber s l)
    other s ne = go (eqb x.0 s) (eqb→eq x.0 s)
      where
        go : (b : Bool) → (T b → x.0 ≡ s) → length (keep b x.1 (fiber s l)) ≡ length (fiber s l)
        go true f = absurd (ne (sym (f tt)))
        go false f = refl

    here : length (keep (eqb x.0 x.0) x.1 (fiber x.0 l)) ≡ suc (length (fiber x.0 l))
    here = go (eqb x.0 x.0) (eqb_refl x.0)
      where
        go : (b : Bool) → T b → length (keep b x.1 (fiber x.0 l)) ≡ suc (length (fiber x.0 l))
        go true t = refl
        go false t = absurd t

-- ---- what the pairs of a list have: for each pair (s, j), each element of f s j, with it

module _ {A : Type 0} (f : ℕ → ℕ → List A) where
  abbrev tagged : ℕ → ℕ → A → ℕ × (ℕ × A)
  tagged s j a = (s, (j, a))

  unfoldable pub spread : List (ℕ × ℕ) → List (ℕ × (ℕ × A))
  spread [] = []
  spread (x ∷ l) = map (tagged x.0 x.1) (f x.0 x.1) ++ spread l

  -- how many these are
  abbrev pub spread_size : List (ℕ × ℕ) → ℕ
  spread_size [] = 0
  spread_size (x ∷ l) = length (f x.0 x.1) + spread_size l

  pub spread_length : (l : List (ℕ × ℕ)) → length (spread l) ≡ spread_size l
  unfolding spread
  spread_length [] = refl
  spread_length (x ∷ l) = omega (arith, length-append (map (tagged x.0 x.1) (f x.0 x.1)) (spread l), length-map (f x.0 x.1) (tagged x.0 x.1), spread_length l)

  -- An element comes from its pair.
  pub spread_out : (l : List (ℕ × ℕ)) (y : ℕ × (ℕ × A)) → Memᴰ y (spread l) → Memᴰ (y.0, y.1.0) l × Memᴰ y.1.1 (f y.0 y.1.0)
  unfolding spread
  spread_out [] y m = absurd (mathlib.Core.List.Memᴰ.not-nil m)
  spread_out (x ∷ l) y m = ⊎_elim (λ k. here (mathlib.Core.List.Memᴰ.of_map (tagged x.0 x.1) (f x.0 x.1) k)) (λ k. let z = spread_out l y k in (mathlib.Core.List.Memᴰ.tail z.0, z.1)) (mathlib.Core.List.Memᴰ.append_cases (map (tagged x.0 x.1) (f x.0 x.1)) m)
    where
      here : (a : A) × Memᴰ a (f x.0 x.1) × (tagged x.0 x.1 a ≡ y) → Memᴰ (y.0, y.1.0) (x ∷ l) × Memᴰ y.1.1 (f y.0 y.1.0)
      here h = subst (λ (z : ℕ × (ℕ × A)). Memᴰ (z.0, z.1.0) (x ∷ l) × Memᴰ z.1.1 (f z.0 z.1.0)) h.2 (mathlib.Core.List.Memᴰ.head refl, h.1)

  -- And each of a pair is there.
  pub spread_in : (l : List (ℕ × ℕ)) (s j : ℕ) (a : A) → Memᴰ (s, j) l → Memᴰ a (f s j) → Memᴰ (s, (j, a)) (spread l)
  unfolding spread
  spread_in [] s j a m k = absurd (mathlib.Core.List.Memᴰ.not-nil m)
  spread_in (x ∷ l) s j a m k = ⊎_elim (λ e. mathlib.Core.List.Memᴰ.append_left (spread l) (subst (λ (z : ℕ × ℕ). Memᴰ (s, (j, a)) (map (tagged z.0 z.1) (f z.0 z.1))) e (mathlib.Core.List.Memᴰ.map (tagged s j) k))) (λ h. mathlib.Core.List.Memᴰ.append_right (map (tagged x.0 x.1) (f x.0 x.1)) (spread_in l s j a h k)) (mathlib.Core.List.Memᴰ.cases_cons m)

  -- No pair twice and nothing twice of a pair, nothing twice.
  pub spread_nodup : ((s j : ℕ) → Nodup (f s j)) → (l : List (ℕ × ℕ)) → Nodup l → Nodup (spread l)
  unfolding spread
  spread_nodup o [] d = tt
  spread_nodup o (x ∷ l) d =
      nodup_both (map (tagged x.0 x.1) (f x.0 x.1)) (spread l) (nodup_map (tagged x.0 x.1) (λ a b q. ap (λ (z : ℕ × (ℕ × A)). z.1.1) q) (f x.0 x.1) (o x.0 x.1)) (spread_nodup o l d.1)
      (λ y m k. let z = mathlib.Core.List.Memᴰ.of_map (tagged x.0 x.1) (f x.0 x.1) m in d.0 (subst (λ (u : ℕ × (ℕ × A)). Memᴰ (u.0, u.1.0) l) (sym z.2) (spread_out l y k).0))
