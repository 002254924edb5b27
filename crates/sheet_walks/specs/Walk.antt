-- What a walk over a part of a sheet finds.
use Rattle.std.specs.Prelude.{◌≡◌, Bool, true, false, List, [], ◌∷◌, ℕ, suc, ◌+◌, ◌≤◌, ◌<◌, length, get_or, drop}
use Rattle.std.specs.Prelude as std
use Rattle.std.proofs.Math.Option.{Option, none, some}
use Rattle.std.proofs.Math.ListN.{get_elem?}
use Rattle.sheet_rows.specs.declared.row.Row.{Row}
use Rattle.sheet_rows.specs.declared.part.Part.{Part}
use Rattle.sheet_rows.specs.declared.part.Part.TheVariants.{Interfaces, Statements, BodyOrder}
use Rattle.sheet_rows.specs.Rows.{blank, rest}
use Rattle.sheet_rows.specs.Parse.{kind_of, elements}
use Rattle.sheet_walks.specs.declared.walk.Found.{Found}
use Rattle.sheet_walks.specs.declared.walk.Found.TheVariants.{At, Nothing}

-- the next element from row p on stands at q, and the walk goes on after it
pub record Stands (t : Part) (R : List Row) (p q : ℕ) : Type 0 where
  pub from : p ≤ q
  pub below : q < length R
  pub kind : (get_or R q blank).kind ≡ kind_of t
  pub here : elements t (drop p R) ≡ drop q R ∷ elements t (drop (suc q) R)

abbrev pub Sought : Part → List Row → ℕ → Found → Type 0
Sought t R p (At q) = Stands t R p q
Sought t R p Nothing = elements t (drop p R) ≡ []

-- one element after another: from row p on the next stands at q, and the walk goes on after it; or there is none
abbrev pub Steps : Part → List Row → ℕ → std.Option ℕ → Part → List Row → ℕ → Type 0
Steps t R p (std.Some q) t' R' p' = Stands t R p q × (p' ≡ q + 1) × (t' ≡ t) × (R' ≡ R)
Steps t R p std.None t' R' p' = (elements t (drop p R) ≡ []) × (p' ≡ p) × (t' ≡ t) × (R' ≡ R)

-- from row p on stand no interfaces, no statements and no body order of a node
pub record Bare (R : List Row) (p : ℕ) : Type 0 where
  pub interface : elements Interfaces (drop p R) ≡ []
  pub statements : elements Statements (drop p R) ≡ []
  pub body_order : elements BodyOrder (drop p R) ≡ []

-- b says whether it is so
pub record Bared (R : List Row) (p : ℕ) (b : Bool) : Type 0 where
  pub yes : b ≡ true → Bare R p
  pub no : b ≡ false → Bare R p → ⊥

-- the rows from a found place on
abbrev pub rows_at : List Row → Found → Option (List Row)
rows_at R (At q) = some (drop q R)
rows_at R Nothing = none

abbrev pub Below : List Row → Found → Type 0
Below R (At q) = q < length R
Below R Nothing = Unit {0}

-- past a found element are the elements after the n-th
abbrev pub Past : Part → List Row → ℕ → ℕ → Found → Type 0
Past t R p n (At q) = elements t (drop (q + 1) R) ≡ drop (n + 1) (elements t (drop p R))
Past t R p n Nothing = Unit {0}

-- from a found element on are the elements from the n-th
abbrev pub From : Part → List Row → ℕ → ℕ → Found → Type 0
From t R p n (At q) = elements t (drop q R) ≡ drop n (elements t (drop p R))
From t R p n Nothing = Unit {0}

-- the n-th element from row p on
pub record Nth (t : Part) (R : List Row) (p n : ℕ) (x : Found) : Type 0 where
  pub is : get_elem? (elements t (drop p R)) n ≡ rows_at R x
  pub below : Below R x
  pub here : From t R p n x
  pub past : Past t R p n x

-- the n-th element of a part of what stands at a row
pub record Child (t : Part) (R : List Row) (of n : ℕ) (x : Found) : Type 0 where
  pub is : get_elem? (elements t (rest (drop of R))) n ≡ rows_at R x
  pub below : Below R x
