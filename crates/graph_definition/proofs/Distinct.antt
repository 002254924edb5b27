-- The nodes that mentions lead to, each once.
use mathlib.Core.Path.{◌≡◌, refl, sym, ap, subst, ◌∙◌}
use mathlib.Core.Bool.{Bool, true, false, not, ◌&&◌, ◌||◌}
use mathlib.Core.Logic.{◌⊎◌, inl, inr, ⊎_elim}
use mathlib.Core.List.Memᴰ
use mathlib.Core.List.{List, [], ◌∷◌, ◌++◌, append_assoc, append-nil, Memᴰ}
use Prim.Native.Nat.{ℕ, zero, suc, ◌+◌, ◌≤◌, ◌<◌}
use native.Mathlib.Omega.{arith}
use native.Mathlib.Decide.{ℕ_discrete, dec_lt}
use lib.ListN.{length, get_or, length-append}
use lib.Dec.{ltb, eqb}
use borrow.Author.Tests.{ltb-true, ltb-false, eqb-true, eqb-false, not-true, not-false, eq-eqb, ne_eqb, lt-ltb, le-ltb}
use Rattle.ast.specs.Choice.{choose}
use Rattle.expansion_steps.specs.Lists.{Nodup}
use Rattle.expansion_steps.proofs.ListLaws.{nodup_append, nodup_length}
use Rattle.graph_definition.specs.Graph.{among, noted, noted_all, distinct}

-- ---- in a list or not

pub among_yes : (i : ℕ) (l : List ℕ) → among i l ≡ true → Memᴰ i l
unfolding among
among_yes i [] e = absurd (let z : ◌≡◌ {A = ℕ} 0 1 = cc in omega arith)
among_yes i (j ∷ l) e = go (eqb i j) refl e (among_yes i l)
  where
    go : (b : Bool) → eqb i j ≡ b → (b || among i l) ≡ true → (among i l ≡ true → Memᴰ i l) → Memᴰ i (j ∷ l)
    go true q h f = Memᴰ.head (eqb-true i j q)
    go false q h f = Memᴰ.tail (f h)

pub among_no : (i : ℕ) (l : List ℕ) → among i l ≡ false → Memᴰ i l → ⊥
unfolding among
among_no i [] e m = Memᴰ.not-nil m
among_no i (j ∷ l) e m = go (eqb i j) refl e (Memᴰ.cases_cons m) (among_no i l)
  where
    go : (b : Bool) → eqb i j ≡ b → (b || among i l) ≡ false → (i ≡ j) ⊎ Memᴰ i l → (among i l ≡ false → Memᴰ i l → ⊥) → ⊥
    go true q h o f = let z : ◌≡◌ {A = ℕ} 0 1 = cc in omega arith
    go false q h (inl p) f = eqb-false i j q p
    go false q h (inr p) f = f h p

-- ---- one mention more

-- r is l with i noted: at its end, or there already, or no node
pub data Noted (n : ℕ) (l : List ℕ) (i : ℕ) (r : List ℕ) : Type 0 where
  fresh : i < n → (Memᴰ i l → ⊥) → r ≡ l ++ (i ∷ []) → Noted n l i r
  stays : (i < n → Memᴰ i l) → r ≡ l → Noted n l i r

pub noted_is : (n : ℕ) (l : List ℕ) (i : ℕ) → Noted n l i (noted n l i)
unfolding noted
noted_is n l i = go (ltb i n) (among i l) refl refl
  where
    go : (a b : Bool) → ltb i n ≡ a → among i l ≡ b → Noted n l i (choose (a && not b) (l ++ (i ∷ [])) l)
    go true false p q = fresh (ltb-true i n p) (among_no i l q) refl
    go true true p q = stays (λ h. among_yes i l q) refl
    go false b p q = stays (λ h. absurd (omega (arith, ltb-false i n p))) refl

-- ---- all

module _ (n : ℕ) where
  pub all_append : (l a b : List ℕ) → noted_all n l (a ++ b) ≡ noted_all n (noted_all n l a) b
  unfolding noted_all
  all_append l [] b = refl
  all_append l (i ∷ a) b = all_append (noted n l i) a b

  pub distinct_snoc : (m : List ℕ) (i : ℕ) → distinct n (m ++ (i ∷ [])) ≡ noted n (distinct n m) i
  unfolding noted_all
  distinct_snoc m i = all_append [] m (i ∷ [])

  -- a list with what its mentions add to it
  pub record More (l r : List ℕ) : Type 0 where
    pub more : List ℕ
    pub is : r ≡ l ++ more

  noted_more : (l : List ℕ) (i : ℕ) → More l (noted n l i)
  noted_more l i = go (noted_is n l i)
    where
      go : {r : List ℕ} → Noted n l i r → More l r
      go (fresh a b e) = record { more = i ∷ []; is = e }
      go (stays a e) = record { more = []; is = e ∙ sym (append-nil l) }

  more_on : {a b c : List ℕ} → More a b → More b c → More a c
  more_on {a} x y = record { more = x.more ++ y.more; is = y.is ∙ ap (λ l. l ++ y.more) x.is ∙ append_assoc a x.more y.more }

  pub all_more : (l m : List ℕ) → More l (noted_all n l m)
  unfolding noted_all
  all_more l [] = record { more = []; is = sym (append-nil l) }
  all_more l (i ∷ m) = more_on (noted_more l i) (all_more (noted n l i) m)

  pub distinct_more : (m t : List ℕ) → More (distinct n m) (distinct n (m ++ t))
  distinct_more m t = rw (all_append [] m t) (all_more (distinct n m) t)

  -- each once
  noted_once : (l : List ℕ) (i : ℕ) → Nodup l → Nodup (noted n l i)
  noted_once l i d = go (noted_is n l i)
    where
      go : {r : List ℕ} → Noted n l i r → Nodup r
      go (fresh a b e) = rw e (nodup_append l i d b)
      go (stays a e) = rw e d

  all_once : (l m : List ℕ) → Nodup l → Nodup (noted_all n l m)
  unfolding noted_all
  all_once l [] d = d
  all_once l (i ∷ m) d = all_once (noted n l i) m (noted_once l i d)

  pub distinct_once : (m : List ℕ) → Nodup (distinct n m)
  distinct_once m = all_once [] m tt

  -- each is a node, and mentioned
  noted_from : (l : List ℕ) (i j : ℕ) → Memᴰ j (noted n l i) → Memᴰ j l ⊎ ((j ≡ i) × (j < n))
  noted_from l i j m = go (noted_is n l i) m
    where
      end : i < n → Memᴰ j l ⊎ Memᴰ j (i ∷ []) → Memᴰ j l ⊎ ((j ≡ i) × (j < n))
      end h (inl k) = inl k
      end h (inr k) = let e : j ≡ i = Memᴰ.eq_of_singleton k in inr (e, omega arith)

      go : {r : List ℕ} → Noted n l i r → Memᴰ j r → Memᴰ j l ⊎ ((j ≡ i) × (j < n))
      go (fresh a b e) k = end a (Memᴰ.append_cases l (rw e at k))
      go (stays a e) k = inl (rw e at k)

  all_from : (l m : List ℕ) (j : ℕ) → Memᴰ j (noted_all n l m) → Memᴰ j l ⊎ (Memᴰ j m × (j < n))
  unfolding noted_all
  all_from l [] j k = inl k
  all_from l (i ∷ m) j k = go (all_from (noted n l i) m j k)
    where
      at : Memᴰ j l ⊎ ((j ≡ i) × (j < n)) → Memᴰ j l ⊎ (Memᴰ j (i ∷ m) × (j < n))
      at (inl h) = inl h
      at (inr h) = inr (Memᴰ.head h.0, h.1)

      go : Memᴰ j (noted n l i) ⊎ (Memᴰ j m × (j < n)) → Memᴰ j l ⊎ (Memᴰ j (i ∷ m) × (j < n))
      go (inl h) = at (noted_from l i j h)
      go (inr h) = inr (Memᴰ.tail h.0, h.1)

  pub distinct_from : (m : List ℕ) (j : ℕ) → Memᴰ j (distinct n m) → Memᴰ j m × (j < n)
  distinct_from m j k = go (all_from [] m j k)
    where
      go : Memᴰ j [] ⊎ (Memᴰ j m × (j < n)) → Memᴰ j m × (j < n)
      go (inl h) = absurd (Memᴰ.not-nil h)
      go (inr h) = h

  -- each node that is mentioned is there
  noted_here : (l : List ℕ) (i : ℕ) → i < n → Memᴰ i (noted n l i)
  noted_here l i h = go (noted_is n l i)
    where
      go : {r : List ℕ} → Noted n l i r → Memᴰ i r
      go (fresh a b e) = rw e (Memᴰ.append_right l (Memᴰ.head refl))
      go (stays a e) = rw e (a h)

  more_mem : {l r : List ℕ} {j : ℕ} → More l r → Memᴰ j l → Memᴰ j r
  more_mem x m = rw x.is (Memᴰ.append_left x.more m)

  all_to : (l m : List ℕ) (j : ℕ) → j < n → Memᴰ j m → Memᴰ j (noted_all n l m)
  unfolding noted_all
  all_to l [] j h k = absurd (Memᴰ.not-nil k)
  all_to l (i ∷ m) j h k = go (Memᴰ.cases_cons k) (all_to (noted n l i) m j h)
    where
      go : (j ≡ i) ⊎ Memᴰ j m → (Memᴰ j m → Memᴰ j (noted_all n (noted n l i) m)) → Memᴰ j (noted_all n (noted n l i) m)
      go (inl e) f = more_mem (all_more (noted n l i) m) (Memᴰ.cast e (noted_here l i (omega arith)))
      go (inr q) f = f q

  pub distinct_to : (m : List ℕ) (j : ℕ) → j < n → Memᴰ j m → Memᴰ j (distinct n m)
  distinct_to m j h k = all_to [] m j h k

-- ---- at most n nodes

up_to : ℕ → List ℕ
up_to zero = []
up_to (suc n) = n ∷ up_to n

up_to_length : (n : ℕ) → length (up_to n) ≡ n
unfolding up_to
up_to_length zero = refl
up_to_length (suc n) = ap suc (up_to_length n)

up_to_mem : (n i : ℕ) → i < n → Memᴰ i (up_to n)
unfolding up_to
up_to_mem zero i h = absurd (omega arith)
up_to_mem (suc n) i h = go (ℕ_discrete i n) (up_to_mem n i)
  where
    go : Dec (i ≡ n) → (i < n → Memᴰ i (up_to n)) → Memᴰ i (n ∷ up_to n)
    go (yes e) f = Memᴰ.head e
    go (no e) f = Memᴰ.tail (f (omega arith))

pub once_length : (n : ℕ) (l : List ℕ) → Nodup l → ((i : ℕ) → Memᴰ i l → i < n) → length l ≤ n
once_length n l d h = rw (up_to_length n) at (nodup_length l (up_to n) d (λ i m. up_to_mem n i (h i m)))

pub distinct_length : (n : ℕ) (m : List ℕ) → length (distinct n m) ≤ n
distinct_length n m = once_length n (distinct n m) (distinct_once n m) (λ i k. (distinct_from n m i k).1)

-- an element by its place
pub mem_at : (l : List ℕ) (k : ℕ) → k < length l → Memᴰ (get_or l k 0) l
mem_at [] k h = absurd (omega arith)
mem_at (x ∷ l) zero h = Memᴰ.head refl
mem_at (x ∷ l) (suc k) h = Memᴰ.tail (mem_at l k (omega arith))

pub distinct_below : (n : ℕ) (m : List ℕ) (k : ℕ) → k < length (distinct n m) → get_or (distinct n m) k 0 < n
distinct_below n m k h = (distinct_from n m (get_or (distinct n m) k 0) (mem_at (distinct n m) k h)).1
