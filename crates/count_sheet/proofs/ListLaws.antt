-- Lists of protocols and of names.
use mathlib.Core.Path.{◌≡◌, refl, sym, ap, subst, ◌∙◌}
use mathlib.Core.Bool.{Bool, true, false, ◌&&◌, ◌||◌}
use mathlib.Core.Logic.{◌⊎◌, inl, inr}
use mathlib.Core.List.Memᴰ
use mathlib.Core.List.{List, [], ◌∷◌, Memᴰ}
use Prim.Native.Nat.{ℕ, zero, suc, ◌+◌, ◌-◌, ◌≤◌, ◌<◌}
use native.Mathlib.Numerals.{add-one}
use native.Mathlib.Omega.{arith}
use native.Mathlib.Decide.{ℕ_discrete}
use lib.ListN.{length, get_or, take, drop, drop_of_length-le, length-drop}
use lib.Seq.{drop-cons, take-length}
use lib.Dec.{eqb}
use borrow.Author.Tests.{eqb-true, eqb-false, eq-eqb, ne_eqb}
use Rattle.std.specs.List.{list_all, list_any}
use Rattle.graph_definition.specs.Graph.{among}
use Rattle.graph_definition.proofs.Distinct.{among_yes, among_no, mem_at}
use Rattle.count_documents.specs.Steps.{Apart}
use Rattle.count_sheet.specs.Sheet.{are_protocols, repeats}

never : {A : Type 0} → true ≡ false → A
never e = absurd (let z : ◌≡◌ {A = ℕ} 0 1 = cc in omega arith)

-- ---- protocols, one after another

pub protocols_all : (ps : List ℕ) → list_all (λ p. eqb p 1 || eqb p 2) ps ≡ are_protocols ps
unfolding are_protocols
protocols_all [] = refl
protocols_all (p ∷ ps) = ap (λ b. (eqb p 1 || eqb p 2) && b) (protocols_all ps)

abbrev OneOrTwo : List ℕ → Type 0
OneOrTwo ps = (i : ℕ) → i < length ps → (get_or ps i 0 ≡ 1) ⊎ (get_or ps i 0 ≡ 2)

pub protocols_are : (ps : List ℕ) → are_protocols ps ≡ true → OneOrTwo ps
unfolding are_protocols
protocols_are [] e = λ i h. absurd (omega arith)
protocols_are (p ∷ ps) e = go (eqb p 1) (eqb p 2) refl refl e (protocols_are ps)
  where
    pick : (p ≡ 1) ⊎ (p ≡ 2) → OneOrTwo ps → OneOrTwo (p ∷ ps)
    pick x f zero h = x
    pick x f (suc i) h = f i (omega arith)

    go : (a b : Bool) → eqb p 1 ≡ a → eqb p 2 ≡ b → ((a || b) && are_protocols ps) ≡ true → (are_protocols ps ≡ true → OneOrTwo ps) → OneOrTwo (p ∷ ps)
    go true b x y z f = pick (inl (eqb-true p 1 x)) (f z)
    go false true x y z f = pick (inr (eqb-true p 2 y)) (f z)
    go false false x y z f = never (sym z)

pub are_protocols_lem : (ps : List ℕ) → OneOrTwo ps → are_protocols ps ≡ true
unfolding are_protocols
are_protocols_lem [] h = refl
are_protocols_lem (p ∷ ps) h = go (h 0 (omega arith)) (are_protocols_lem ps (λ i q. h (suc i) (omega arith)))
  where
    go : (p ≡ 1) ⊎ (p ≡ 2) → are_protocols ps ≡ true → ((eqb p 1 || eqb p 2) && are_protocols ps) ≡ true
    go (inl e) f = rw (eq-eqb p 1 e) f
    go (inr e) f = rw (ne_eqb p 1 (λ q. omega arith), eq-eqb p 2 e) f

-- ---- names

eqb_swap : (a b : ℕ) → eqb a b ≡ eqb b a
eqb_swap a b = go (ℕ_discrete a b)
  where
    go : Dec (a ≡ b) → eqb a b ≡ eqb b a
    go (yes e) = eq-eqb a b e ∙ sym (eq-eqb b a (sym e))
    go (no n) = ne_eqb a b n ∙ sym (ne_eqb b a (λ e. n (sym e)))

any_among : (x : ℕ) (l : List ℕ) → list_any (λ y. eqb y x) l ≡ among x l
unfolding among
any_among x [] = refl
any_among x (y ∷ l) = rw (eqb_swap y x, any_among x l)

-- a name among those after it
pub among_after : (ns : List ℕ) (i : ℕ) {b : Bool} → b ≡ list_any (λ y. eqb y (get_or ns i 0)) (take (length ns - (i + 1)) (drop (i + 1) ns)) → b ≡ among (get_or ns i 0) (drop (i + 1) ns)
among_after ns i e =
    let z : length ns - (i + 1) ≡ length (drop (i + 1) ns) = omega (arith, length-drop (i + 1) ns) in
    e ∙ any_among (get_or ns i 0) _ ∙ ap (among (get_or ns i 0)) (rw z (take-length (drop (i + 1) ns)))

module _ (ns : List ℕ) (i : ℕ) where
  pub repeats_end : length ns ≤ i → repeats (drop i ns) ≡ false
  unfolding repeats
  repeats_end h = rw (drop_of_length-le ns h)

  module _ (h : i < length ns) {b : Bool} (e : b ≡ among (get_or ns i 0) (drop (i + 1) ns)) where
    pub repeats_here : b ≡ true → true ≡ repeats (drop i ns)
    unfolding repeats
    repeats_here t = rw (drop-cons ns i 0 h, sym (ap (λ k. among (get_or ns i 0) (drop k ns)) (add-one i)) ∙ sym e ∙ t)

    pub repeats_next : b ≡ false → repeats (drop i ns) ≡ repeats (drop (i + 1) ns)
    unfolding repeats
    repeats_next t = rw (drop-cons ns i 0 h, sym (ap (λ k. among (get_or ns i 0) (drop k ns)) (add-one i)) ∙ sym e ∙ t, add-one i)

place_of : (x : ℕ) (l : List ℕ) → Memᴰ x l → (j : ℕ) × (j < length l) × (get_or l j 0 ≡ x)
place_of x [] m = absurd (Memᴰ.not-nil m)
place_of x (y ∷ l) m = go (Memᴰ.cases_cons m) (place_of x l)
  where
    go : (x ≡ y) ⊎ Memᴰ x l → (Memᴰ x l → (j : ℕ) × (j < length l) × (get_or l j 0 ≡ x)) → (j : ℕ) × (j < suc (length l)) × (get_or (y ∷ l) j 0 ≡ x)
    go (inl e) f = (0, omega arith, sym e)
    go (inr q) f = let z = f q in (suc z.0, omega (arith, z.1), z.2)

pub names_apart : (ns : List ℕ) → repeats ns ≡ false → Apart ns
unfolding repeats
names_apart [] e = λ i j a b q. absurd (omega arith)
names_apart (x ∷ ns) e = go (among x ns) refl e (names_apart ns)
  where
    pick : (among x ns ≡ false) → Apart ns → Apart (x ∷ ns)
    pick n f zero zero a b q = refl
    pick n f zero (suc j) a b q = absurd (among_no x ns n (Memᴰ.cast q (mem_at ns j (omega arith))))
    pick n f (suc i) zero a b q = absurd (among_no x ns n (Memᴰ.cast (sym q) (mem_at ns i (omega arith))))
    pick n f (suc i) (suc j) a b q = ap suc (f i j (omega arith) (omega arith) q)

    go : (a : Bool) → among x ns ≡ a → (a || repeats ns) ≡ false → (repeats ns ≡ false → Apart ns) → Apart (x ∷ ns)
    go true p q f = never q
    go false p q f = pick p (f q)

pub apart_names : (ns : List ℕ) → Apart ns → repeats ns ≡ false
unfolding repeats
apart_names [] h = refl
apart_names (x ∷ ns) h = go (among x ns) refl (apart_names ns (λ i j a b q. let e : suc i ≡ suc j = h (suc i) (suc j) (omega arith) (omega arith) q in omega arith))
  where
    go : (a : Bool) → among x ns ≡ a → repeats ns ≡ false → (a || repeats ns) ≡ false
    go true p f = let z = place_of x ns (among_yes x ns p) in absurd (let e : 0 ≡ suc z.0 = h 0 (suc z.0) (omega arith) (omega (arith, z.1)) (sym z.2) in omega arith)
    go false p f = f
