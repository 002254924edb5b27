-- One step of a walk over a part of a sheet, at a place.
use mathlib.Core.Path.{◌≡◌, refl, sym, ap, subst, ◌∙◌}
use mathlib.Core.List.{List, [], ◌∷◌, map}
use mathlib.Core.Option.{none}
use mathlib.Core.Bool.{true, false}
use Prim.Native.Nat.{ℕ, zero, suc, ◌+◌, ◌≤◌, ◌<◌}
use lib.ListN.{length, get_or, drop, get_elem?, drop_of_length-le}
use lib.Seq.{drop-cons, drop-drop}
use native.Mathlib.Nat.{zero-add, suc-add}
use native.Mathlib.Numerals.{add-one}
use borrow.Author.Tests.{eq-eqb, ne_eqb}
use Rattle.sheet_rows.specs.declared.row.Row.{Row}
use Rattle.sheet_rows.specs.declared.part.Part.{Part}
use Rattle.ast.specs.Choice.{map_o}
use Rattle.sheet_rows.specs.Rows.{blank, front, rest}
use native.Mathlib.Omega.{arith}
use Rattle.sheet_walks.specs.declared.walk.Found.{Found}
use Rattle.sheet_walks.specs.declared.walk.Found.TheVariants.{At, Nothing}
use Rattle.sheet_rows.specs.Parse.{elements, kind_of, passes}
use Rattle.sheet_walks.specs.Walk.{Stands, Sought, Past, From, Nth, Child, rows_at, Below}

module _ (t : Part) (R : List Row) (p : ℕ) where
  elements_at : p < length R → elements t (drop p R) ≡ elements t (get_or R p blank ∷ drop (suc p) R)
  elements_at h = ap (elements t) (drop-cons R p blank h)

  pub elements_take : p < length R → (get_or R p blank).kind ≡ kind_of t → elements t (drop p R) ≡ drop p R ∷ elements t (drop (suc p) R)
  unfolding elements
  elements_take h e = rw (drop-cons R p blank h, eq-eqb _ _ e)

  pub elements_pass : p < length R → ((get_or R p blank).kind ≡ kind_of t → ⊥) → passes t (get_or R p blank).kind ≡ true → elements t (drop p R) ≡ elements t (drop (suc p) R)
  unfolding elements
  elements_pass h n e = elements_at h ∙ rw (ne_eqb _ _ n, e)

  pub elements_stop : p < length R → ((get_or R p blank).kind ≡ kind_of t → ⊥) → passes t (get_or R p blank).kind ≡ false → elements t (drop p R) ≡ []
  unfolding elements
  elements_stop h n e = elements_at h ∙ rw (ne_eqb _ _ n, e)

  pub elements_end : length R ≤ p → elements t (drop p R) ≡ []
  unfolding elements
  elements_end h = ap (elements t) (drop_of_length-le R h)

  -- the same, as a loop meets them: the row that was read, and the place after it
  module _ {r : Row} (h : p < length R) (is : r ≡ get_or R p blank) where
    pub walk_take : r.kind ≡ kind_of t → elements t (drop p R) ≡ drop p R ∷ elements t (drop (suc p) R)
    walk_take e = elements_take h (sym (ap (λ (x : Row). x.kind) is) ∙ e)

    pub walk_pass : (r.kind ≡ kind_of t → ⊥) → passes t r.kind ≡ true → elements t (drop p R) ≡ elements t (drop (p + 1) R)
    walk_pass n e = rw (add-one p) (elements_pass h (rw is at n) (rw is at e))

    pub walk_stop : (r.kind ≡ kind_of t → ⊥) → passes t r.kind ≡ false → elements t (drop p R) ≡ []
    walk_stop n e = elements_stop h (rw is at n) (rw is at e)

-- ---- what stands at a place

pub front_drop : (R : List Row) (p : ℕ) → front (drop p R) ≡ get_or R p blank
front_drop [] zero = refl
front_drop [] (suc p) = refl
front_drop (r ∷ R) zero = refl
front_drop (r ∷ R) (suc p) = front_drop R p

pub rest_drop : (R : List Row) (p : ℕ) → rest (drop p R) ≡ drop (p + 1) R
rest_drop R p = rw (add-one p) (go R p)
  where
    go : (R : List Row) (p : ℕ) → rest (drop p R) ≡ drop (suc p) R
    go [] zero = refl
    go [] (suc p) = refl
    go (r ∷ R) zero = refl
    go (r ∷ R) (suc p) = go R p

-- ---- the law of a walk: what is read at each element of a part, from a place on, is what is read at the first, and then from the place after it

module _ {A : Type 0} (f : List Row → A) where
  abbrev pub each : Part → List Row → List A
  each t l = map f (elements t l)

  pub each_at : {t : Part} {R : List Row} {p q : ℕ} → Stands t R p q → each t (drop p R) ≡ f (drop q R) ∷ each t (drop (q + 1) R)
  each_at {q = q} s = rw (add-one q) (ap (map f) s.here)

  pub each_none : (t : Part) (R : List Row) (p : ℕ) → elements t (drop p R) ≡ [] → each t (drop p R) ≡ []
  each_none t R p e = ap (map f) e

  pub at_map : (l : List (List Row)) (n : ℕ) → get_elem? (map f l) n ≡ map_o f (get_elem? l n)
  at_map [] n = refl
  at_map (x ∷ l) zero = refl
  at_map (x ∷ l) (suc n) = at_map l n

-- ---- what a search has found, by its answer

module _ (t : Part) (R : List Row) (p : ℕ) {x : Found} (s : Sought t R p x) where
  pub stands : {q : ℕ} → x ≡ At q → Stands t R p q
  stands e = subst (Sought t R p) e s

  pub missing : x ≡ Nothing → elements t (drop p R) ≡ []
  missing e = subst (Sought t R p) e s

-- ---- the n-th

pub at_drop : {A : Type 0} (l : List A) (m k : ℕ) → get_elem? (drop m l) k ≡ get_elem? l (m + k)
at_drop l zero k = rw (zero-add k)
at_drop [] (suc m) k = refl
at_drop (x ∷ l) (suc m) k = rw (suc-add m k) (at_drop l m k)

-- from an element on are the elements from it
pub from_here : (t : Part) (R : List Row) (p q : ℕ) → Stands t R p q → elements t (drop q R) ≡ elements t (drop p R)
from_here t R p q s = elements_take t R q s.below s.kind ∙ sym s.here

-- past an element is the rest of the elements
pub past_one : (t : Part) (R : List Row) (p q m : ℕ) (H : List (List Row)) → Stands t R p q → elements t (drop p R) ≡ drop m H → elements t (drop (q + 1) R) ≡ drop (m + 1) H
past_one t R p q m H s e = rw (add-one q) (ap (drop 1) (sym s.here ∙ e) ∙ drop-drop 1 m H)

pub nth_past : (t : Part) (R : List Row) (p at n : ℕ) (x : Found) → Sought t R at x → elements t (drop at R) ≡ drop n (elements t (drop p R)) → Past t R p n x
nth_past t R p at n (At q) s e = past_one t R at q n (elements t (drop p R)) s e
nth_past t R p at n Nothing s e = tt

pub nth_from : (t : Part) (R : List Row) (p at n : ℕ) (x : Found) → Sought t R at x → elements t (drop at R) ≡ drop n (elements t (drop p R)) → From t R p n x
nth_from t R p at n (At q) s e = from_here t R at q s ∙ e
nth_from t R p at n Nothing s e = tt

pub nth_none : (t : Part) (R : List Row) (p n : ℕ) → elements t (drop p R) ≡ [] → get_elem? (elements t (drop p R)) n ≡ none
nth_none t R p n e = ap (λ (l : List (List Row)). get_elem? l n) e

pub first_is : (t : Part) (R : List Row) (p : ℕ) (x : Found) → Sought t R p x → get_elem? (elements t (drop p R)) 0 ≡ rows_at R x
first_is t R p (At q) s = ap (λ (l : List (List Row)). get_elem? l 0) s.here
first_is t R p Nothing s = ap (λ (l : List (List Row)). get_elem? l 0) s

pub first_below : (t : Part) (R : List Row) (p : ℕ) (x : Found) → Sought t R p x → Below R x
first_below t R p (At q) s = s.below
first_below t R p Nothing s = tt

-- an element, and those after it
pub one_more : (t : Part) (R : List Row) {p q : ℕ} → Stands t R p q → length (elements t (drop p R)) ≡ length (elements t (drop (q + 1) R)) + 1
one_more t R {q = q} s = rw (add-one q, s.here) (omega arith)

-- ---- a part of what stands at a row

pub child_of : (t : Part) (R : List Row) (p n : ℕ) (x : Found) → Nth t R (p + 1) n x → Child t R p n x
child_of t R p n x s = record { is = rw (rest_drop R p) s.is; below = s.below }

pub child_none : (t : Part) (R : List Row) (p n : ℕ) → length R ≤ p → Child t R p n Nothing
child_none t R p n h = record { is = rw (rest_drop R p) (nth_none t R (p + 1) n (elements_end t R (p + 1) (omega arith))); below = tt }
