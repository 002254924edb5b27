-- An index of a part: one slot more, and a lookup from a slot.
use mathlib.Core.Path.{◌≡◌, refl, sym, ap, subst, ◌∙◌}
use mathlib.Core.List.{List}
use Prim.Native.Nat.{ℕ, ◌+◌, ◌-◌, ◌*◌, ◌<◌}
use native.Mathlib.Nat.{zero-mul}
use native.Mathlib.Omega.{arith}
use native.Mathlib.Decide.{ℕ_discrete}
use lib.ListN.{length, get_or, drop, set, get_elem?, length-set}
use lib.Seq.{drop-drop, drop-set-lt, get_or-set_same, get_or-set_other}
use Rattle.sheet_rows.specs.declared.row.Row.{Row}
use Rattle.sheet_rows.specs.declared.part.Part.{Part}
use Rattle.sheet_rows.specs.Parse.{elements}
use Rattle.sheet_walks.specs.declared.walk.Found.{Found}
use Rattle.sheet_walks.specs.declared.walk.Found.TheVariants.{At, Nothing}
use Rattle.sheet_walks.specs.Walk.{Nth, Past, From, Stands}
use Rattle.sheet_index.specs.Index.{Indexed}
use Rattle.sheet_walks.proofs.WalkLaws.{at_drop, from_here, first_is, past_one}

-- a lookup from a place where the elements from the m-th on are found
pub nth_shift : (t : Part) (R : List Row) (p slot m k n : ℕ) (x : Found) → elements t (drop slot R) ≡ drop m (elements t (drop p R)) → m + k ≡ n → Nth t R slot k x → Nth t R p n x
nth_shift t R p slot m k n x e z s =
    let H = elements t (drop p R) in
    record { is = ap (get_elem? H) (sym z) ∙ sym (at_drop H m k) ∙ ap (λ (l : List (List Row)). get_elem? l k) (sym e) ∙ s.is; below = s.below; here = here x s.here; past = past x s.past }
  where
    shift : (i j : ℕ) → m + i ≡ j → drop i (elements t (drop slot R)) ≡ drop j (elements t (drop p R))
    shift i j y = ap (drop i) e ∙ drop-drop i m (elements t (drop p R)) ∙ ap (λ (v : ℕ). drop v (elements t (drop p R))) y

    here : (x : Found) → From t R slot k x → From t R p n x
    here (At q) h = h ∙ shift k n z
    here Nothing h = tt

    past : (x : Found) → Past t R slot k x → Past t R p n x
    past (At q) h = h ∙ shift (k + 1) (n + 1) (omega arith)
    past Nothing h = tt

-- the n-th, where what is found is the first from a place that stands for it
nth_first : (t : Part) (R : List Row) (p q : ℕ) → Stands t R p q → Nth t R p 0 (At q)
nth_first t R p q s = record { is = first_is t R p (At q) s; below = s.below; here = from_here t R p q s; past = past_one t R p q 0 (elements t (drop p R)) s refl }

module _ (t : Part) (R : List Row) (p stride : ℕ) (slots₀ slots : List ℕ) (n : ℕ) where
  pub fill_none : Indexed t R p stride slots slots 0
  fill_none = record { filled = record { room = omega arith; slot = λ j h. absurd (omega arith) }; kept = refl }

  pub fill_more : (q : ℕ) → n < length slots → Nth t R p (n * stride) (At q) → Indexed t R p stride slots₀ slots n → Indexed t R p stride slots₀ (set slots n q) (n + 1)
  fill_more q h e s = record { filled = record { room = simp length-set (omega arith); slot = λ j i. go j i (ℕ_discrete j n) }; kept = drop-set-lt (n + 1) slots n q (omega arith) ∙ more }
    where
      go : (j : ℕ) → j < n + 1 → Dec (j ≡ n) → Nth t R p (j * stride) (At (get_or (set slots n q) j 0))
      go j i (yes z) = rw (z, get_or-set_same slots n q 0 h) e
      go j i (no z) = rw (get_or-set_other slots n j q 0 z) (s.filled.slot j (omega arith))

      more : drop (n + 1) slots ≡ drop (n + 1) slots₀
      more = sym (drop-drop 1 n slots) ∙ ap (drop 1) s.kept ∙ drop-drop 1 n slots₀

  -- the first
  pub ready_first : {q : ℕ} → n ≡ 0 → Stands t R p q → Nth t R p (n * stride) (At q)
  ready_first {q} h s = rw (h, zero-mul stride) (nth_first t R p q s)

  -- as many elements further as a slot stands for
  pub ready_next : {q : ℕ} {x : Found} → Nth t R p (n * stride) (At q) → ¬ (stride ≡ 0) → Nth t R (q + 1) (stride - 1) x → (r : ℕ) → x ≡ At r → Nth t R p ((n + 1) * stride) (At r)
  ready_next {q} {x} e z s r i = nth_shift t R p (q + 1) (n * stride + 1) (stride - 1) ((n + 1) * stride) (At r) e.past (omega arith) (subst (Nth t R (q + 1) (stride - 1)) i s)
