-- Rows that a walk passes: what is left of a list from the row after them is what was left before.
use mathlib.Core.Path.{◌≡◌, refl, sym, ap, subst, ◌∙◌}
use mathlib.Core.Bool.{Bool, true, false, cond, ◌||◌}
use mathlib.Core.List.{List, [], ◌∷◌}
use Prim.Native.Nat.{ℕ, zero, suc, ◌+◌, ◌-◌, ◌≤◌, ◌<◌}
use native.Mathlib.Omega.{arith}
use native.Mathlib.Numerals.{add-one}
use lib.ListN.{length, get_or, take, drop, length-drop}
use lib.Seq.{get_or-drop}
use lib.Dec.{eqb}
use borrow.Author.Tests.{eq-eqb, ne_eqb}
use Rattle.sheet_rows.specs.declared.row.Row.{Row}
use Rattle.sheet_rows.specs.declared.part.Part.{Part}
use Rattle.sheet_rows.specs.declared.part.Part.TheVariants.{Interfaces}
use Rattle.sheet_rows.specs.Rows.{blank}
use Rattle.sheet_rows.specs.Parse.{elements, kind_of, passes}
use Rattle.sheet_walks.specs.Walk.{Stands}
use Rattle.sheet_walks.proofs.WalkLaws.{elements_take, elements_pass, elements_stop}
use Rattle.source_skips.specs.declared.Aim.{Aim}
use Rattle.source_skips.specs.declared.Aim.TheVariants.{Interface}
use Rattle.source_skips.specs.Skips.{passable, Passed, interfaces_in, interfaces_from}

-- ---- one row after the other

pub pass_on : {aim : Aim} {R : List Row} {p q : ℕ} (P : ℕ → Type 0) → Passed aim R p q → q ≤ length R → ((i : ℕ) → p ≤ i → i < q → i < length R → passable aim (get_or R i blank) ≡ true → P i → P (i + 1)) → P p → P q
pass_on {aim} {R} {p} {q} P x h step start =
    let z : p + (q - p) ≡ q = omega (arith, x.from) in
    subst P z (go (q - p) (omega (arith, x.from)))
  where
    go : (n : ℕ) → p + n ≤ q → P (p + n)
    go zero l = let z : p ≡ p + 0 = omega arith in subst P z start
    go (suc n) l =
        let z : p + n + 1 ≡ p + suc n = omega arith in
        subst P z (step (p + n) (omega arith) (omega arith) (omega arith) (x.idle (p + n) (omega arith) (omega arith) (omega arith)) (go n (omega arith)))

-- a kind that a test takes is none that it doesn't
pub not_kind : (f : ℕ → Bool) {k n : ℕ} → f n ≡ false → f k ≡ true → k ≡ n → ⊥
not_kind f a b e = let z : true ≡ false = sym b ∙ ap f e ∙ a in let y : ◌≡◌ {A = ℕ} 0 1 = cc in omega arith

pub or_first_lem : (b : Bool) → (b || false) ≡ true → b ≡ true
or_first_lem true e = refl
or_first_lem false e = e

-- ---- interfaces counted

in_more : (l : List Row) (n : ℕ) → n < length l → interfaces_in (take (suc n) l) ≡ interfaces_in (take n l) + cond (eqb (get_or l n blank).kind 4) 1 0
unfolding interfaces_in
in_more [] n h = absurd (omega arith)
in_more (r ∷ l) zero h = omega arith
in_more (r ∷ l) (suc n) h = omega (arith, in_more l n (omega arith))

module _ (R : List Row) {p q : ℕ} (l : p ≤ q) (h : q < length R) where
  counted : interfaces_from R p (q + 1) ≡ interfaces_from R p q + cond (eqb (get_or R q blank).kind 4) 1 0
  counted =
      let z : q + 1 - p ≡ suc (q - p) = omega arith in
      let y : p + (q - p) ≡ q = omega arith in
      let g : get_or (drop p R) (q - p) blank ≡ get_or R q blank = get_or-drop p R (q - p) blank ∙ ap (λ (i : ℕ). get_or R i blank) y in
      rw (z) (in_more (drop p R) (q - p) (omega (arith, length-drop p R)) ∙ ap (λ (r : Row). interfaces_in (take (q - p) (drop p R)) + cond (eqb r.kind 4) 1 0) g)

  pub between_more : (get_or R q blank).kind ≡ 4 → interfaces_from R p (q + 1) ≡ interfaces_from R p q + 1
  between_more e = counted ∙ rw (eq-eqb _ _ e)

  pub between_same : ((get_or R q blank).kind ≡ 4 → ⊥) → interfaces_from R p (q + 1) ≡ interfaces_from R p q
  between_same n = counted ∙ rw (ne_eqb _ _ n) (omega arith)

pub between_none : (R : List Row) (p : ℕ) → interfaces_from R p p ≡ 0
unfolding interfaces_in
between_none R p = let z : p - p ≡ 0 = omega arith in rw z

-- ---- the rows before an element that is found are no such elements, and are passed

module _ {t : Part} {R : List Row} {p q : ℕ} (s : Stands t R p q) (h : p < q) where
  same_rows : drop p R ≡ drop q R → ⊥
  same_rows e = omega (arith, ap length e, length-drop p R, length-drop q R, s.below)

  head_of : {A : Type 0} {x y : A} {l m : List A} → ◌≡◌ {A = List A} (x ∷ l) (y ∷ m) → x ≡ y
  head_of {x = x} e = ap (λ l. get_or l 0 x) e

  none_some : {A : Type 0} {x : A} {l : List A} → ◌≡◌ {A = List A} [] (x ∷ l) → ⊥
  none_some e = omega (arith, ap length e)

  pub found_not : (get_or R p blank).kind ≡ kind_of t → ⊥
  found_not e = same_rows (head_of (sym (elements_take t R p (omega (arith, s.below)) e) ∙ s.here))

  found_passes : (b : Bool) → passes t (get_or R p blank).kind ≡ b → b ≡ true
  found_passes true e = refl
  found_passes false e = absurd (none_some (sym (elements_stop t R p (omega (arith, s.below)) found_not e) ∙ s.here))

  pub found_pass : elements t (drop p R) ≡ elements t (drop (suc p) R)
  found_pass = elements_pass t R p (omega (arith, s.below)) found_not (found_passes _ refl)

  pub found_next : Stands t R (p + 1) q
  found_next = record { from = omega arith; below = s.below; kind = s.kind; here = rw (add-one p) (sym found_pass ∙ s.here) }

-- P of each row up to one that is found
pub found_on : {t : Part} {R : List Row} {p q : ℕ} (P : ℕ → Type 0) → Stands t R p q → ((i : ℕ) → i < q → Stands t R i q → P i → P (i + 1)) → P p → P q
found_on {t} {R} {p} {q} P s step start =
    let z : p + (q - p) ≡ q = omega (arith, s.from) in
    subst P z (go (q - p) (omega (arith, s.from))).1
  where
    go : (n : ℕ) → p + n ≤ q → Stands t R (p + n) q × P (p + n)
    go zero l = let z : p ≡ p + 0 = omega arith in (subst (λ (i : ℕ). Stands t R i q) z s, subst P z start)
    go (suc n) l =
        let z : p + n + 1 ≡ p + suc n = omega arith in
        let y = go n (omega arith) in
        (subst (λ (i : ℕ). Stands t R i q) z (found_next y.0 (omega arith)), subst P z (step (p + n) (omega arith) y.0 y.1))

-- ---- interfaces: rows of none are passed

pub interfaces_passed : {R : List Row} {p q : ℕ} → Passed Interface R p q → q ≤ length R → elements Interfaces (drop p R) ≡ elements Interfaces (drop q R)
interfaces_passed {R} {p} x h =
    pass_on (λ i. elements Interfaces (drop p R) ≡ elements Interfaces (drop i R)) x h
    (λ i a b l e y. y ∙ rw (add-one i) (elements_pass Interfaces R i l (not_kind (passes Interfaces) refl e) e)) refl
