-- The shape of a row, by its kind.
use mathlib.Core.Path.{◌≡◌, sym, ap, ◌∙◌}
use mathlib.Core.Bool.{Bool, false}
use Prim.Native.Nat.{ℕ, ◌≤◌}
use lib.ListN.{get_or, get_or-eq_default}
use Rattle.sheet_rows.specs.declared.row.Row.{Row}
use Rattle.sheet_shape.specs.Shape.{shape_fits, shapes}

-- a shape by its number
pub shape_at : {x : Bool} (m : Bool) (r : Row) (k : ℕ) → r.kind ≡ k → x ≡ get_or (shapes m) k (λ (s : Row). false) r → x ≡ shape_fits m r
unfolding shape_fits
shape_at m r k h e = e ∙ ap (λ (n : ℕ). get_or (shapes m) n (λ (s : Row). false) r) (sym h)

pub shape_none : (m : Bool) (r : Row) → 15 ≤ r.kind → false ≡ shape_fits m r
unfolding shape_fits
shape_none m r h = ap (λ (f : Row → Bool). f r) (sym (get_or-eq_default (shapes m) (λ (s : Row). false) h))
