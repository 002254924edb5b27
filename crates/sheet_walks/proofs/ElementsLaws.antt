-- The elements of a part, one after another, as an iterator gives them.
use mathlib.Core.Path.{◌≡◌, ap}
use mathlib.Core.Bool.{Bool, true, false}
use mathlib.Core.List.{List, [], ◌∷◌, map}
use Prim.Native.Nat.{ℕ, suc, ◌≤◌}
use native.Mathlib.Numerals.{add-one}
use native.Mathlib.Omega.{arith}
use lib.ListN.{length, drop, length-map}
use lib.Dec.{eqb}
use Rattle.std.specs.Prelude.{Option, Some, None}
use Rattle.std.proofs.lemmas.Iterator.{YieldsList}
use Rattle.std.proofs.lemmas.Iterator.Consumers.{YieldsList-from_shown}
use Rattle.ast.specs.Choice.{choose}
use Rattle.sheet_rows.specs.declared.row.Row.{Row}
use Rattle.sheet_rows.specs.declared.part.Part.{Part}
use Rattle.sheet_rows.specs.Rows.{rows}
use Rattle.sheet_rows.specs.Parse.{elements, kind_of, passes}
use Rattle.sheet_walks.specs.declared.walk.PartElements.{PartElements}
use Rattle.sheet_walks.specs.Walk.{Steps}

-- no more elements than rows
pub elements_few : (t : Part) (R : List Row) → length (elements t R) ≤ length R
unfolding elements
elements_few t [] = omega arith
elements_few t (r ∷ l) = go (eqb r.kind (kind_of t)) (passes t r.kind) (elements_few t l)
  where
    go : (a b : Bool) → length (elements t l) ≤ length l → length (choose a ((r ∷ l) ∷ elements t l) (choose b (elements t l) [])) ≤ suc (length l)
    go true b h = omega arith
    go false true h = omega arith
    go false false h = omega arith

-- those left
abbrev pub left : PartElements → List (List Row)
left s = elements s.part (drop s.next (rows s.sheet.now))

abbrev Gives : PartElements → Option ℕ → PartElements → Type 0
Gives s r t = Steps s.part (rows s.sheet.now) s.next r t.part (rows t.sheet.now) t.next

-- it gives them all
pub yields : (s : PartElements) → YieldsList Gives (λ _. tt {0}) s (map (λ _. tt {0}) (left s))
yields s = YieldsList-from_shown Gives (λ _. tt {0}) (λ (u : PartElements). map (λ _. tt {0}) (left u)) none more s
  where
    none : (s t : PartElements) → Gives s None t → length (map (λ _. tt {0}) (left s)) ≡ 0
    none s t g = ap (λ (l : List (List Row)). length (map (λ _. tt {0}) l)) g.0

    more : (s : PartElements) (q : ℕ) (t : PartElements) → Gives s (Some q) t → map (λ _. tt {0}) (left s) ≡ tt {0} ∷ map (λ _. tt {0}) (left t)
    more s q t g = rw (g.2, g.3, g.1, add-one q) (ap (map (λ _. tt {0})) g.0.here)

pub many : (s : PartElements) → length (map (λ _. tt {0}) (left s)) ≡ length (left s)
many s = length-map (left s) (λ _. tt {0})
