-- A loop over the elements of a part of a sheet.
use mathlib.Core.Path.{◌≡◌, ◌∙◌}
use mathlib.Core.List.{List, []}
use Prim.Native.Nat.{ℕ}
use lib.ListN.{drop}
use Rattle.std.specs.Prelude.{Some}
use Rattle.sheet_rows.specs.declared.row.Row.{Row}
use Rattle.sheet_rows.specs.declared.part.Part.{Part}
use Rattle.sheet_rows.specs.Rows.{rows}
use Rattle.sheet_rows.specs.Parse.{elements}
use Rattle.sheet_walks.specs.declared.walk.PartElements.{PartElements}
use Rattle.sheet_walks.specs.Walk.{Stands, Steps}

-- what the loop goes over
pub record Over (t : Part) (R : List Row) (s : PartElements) : Type 0 where
  pub part : s.part ≡ t
  pub sheet : rows s.sheet.now ≡ R

module _ {t : Part} {R : List Row} {s : PartElements} (o : Over t R s) where
  -- no element is left
  pub over_none : elements s.part (drop s.next (rows s.sheet.now)) ≡ [] → elements t (drop s.next R) ≡ []
  over_none e = rw (o.part, o.sheet) at e

  -- the next element
  pub over_at : {q : ℕ} → Stands s.part (rows s.sheet.now) s.next q → Stands t R s.next q
  over_at h = rw (o.part, o.sheet) at h

  -- the walk after it
  pub over_next : {u : PartElements} {q : ℕ} → Steps s.part (rows s.sheet.now) s.next (Some q) u.part (rows u.sheet.now) u.next → Over t R u
  over_next h = record { part = h.2 ∙ o.part; sheet = h.3 ∙ o.sheet }
