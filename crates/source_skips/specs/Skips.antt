-- Rows that a walk may pass over, since they neither are what it looks for nor end it; and tables by which it passes a run of
-- them at once: for each 32 rows of a sheet where such a run ends.
use Rattle.std.specs.Prelude.{◌≡◌, Bool, true, false, cond, ◌&&◌, ◌||◌, List, [], ◌∷◌, ℕ, ◌+◌, ◌-◌, ◌*◌, ◌/◌, ◌≤◌, ◌<◌, length, get_or, take, drop, leb, eqb}
use Rattle.ast.specs.Choice.{choose}
use Rattle.sheet_rows.specs.declared.row.Row.{Row}
use Rattle.sheet_rows.specs.declared.part.Part.TheVariants.{Interfaces, Statements, BodyOrder}
use Rattle.sheet_rows.specs.Rows.{blank, rows}
use Rattle.sheet_rows.specs.Parse.{passes}
use Rattle.sheet_lookup.specs.Lookup.{sheet_of}
use Rattle.words_lent.specs.Words.{Outside}
use Rattle.source_skips.specs.declared.Aim.{Aim}
use Rattle.source_skips.specs.declared.Aim.TheVariants.{End, Body, Kept, Default, Interface}

-- what a walk looks for: the end of a prototype, or the body order of a node; of a body the Node, ExternProto and Route statements; of a
-- node the ExternProto and Route statements; of a prototype the interfaces with a value; the interfaces. A row that it may pass:
abbrev pub passable : Aim → Row → Bool
passable End r = passes BodyOrder r.kind
passable Body r = passes Statements r.kind || eqb r.kind 5 && (eqb r.a 1 || leb 4 r.a)
passable Kept r = passes Statements r.kind || eqb r.kind 5 && (leb r.a 1 || leb 4 r.a)
passable Default r = passes Interfaces r.kind || eqb r.kind 4 && eqb r.f 0
passable Interface r = passes Interfaces r.kind

-- the rows of R from p up to q may be passed
abbrev pub Idle : Aim → List Row → ℕ → ℕ → Type 0
Idle aim R p q = (i : ℕ) → p ≤ i → i < q → i < length R → passable aim (get_or R i blank) ≡ true

-- a walk from p on has passed the rows up to q
pub record Passed (aim : Aim) (R : List Row) (p q : ℕ) : Type 0 where
  pub from : p ≤ q
  pub idle : Idle aim R p q

-- and can't pass the row at q
pub record Arrived (aim : Aim) (R : List Row) (p q : ℕ) : Type 0 where
  pub passed : Passed aim R p q
  pub within : p ≤ length R → q ≤ length R
  pub stop : q < length R → passable aim (get_or R q blank) ≡ false

-- how many of some rows are interfaces
unfoldable pub interfaces_in : List Row → ℕ
interfaces_in [] = 0
interfaces_in (r ∷ l) = cond (eqb r.kind 4) 1 0 + interfaces_in l

-- how many rows from p up to q are interfaces
abbrev pub interfaces_from : List Row → ℕ → ℕ → ℕ
interfaces_from R p q = interfaces_in (take (q - p) (drop p R))

-- ---- the tables

-- n words of w, from a place on, say how far the rows from each 32nd on may be passed
pub record Table (aim : Aim) (R : List Row) (w : List ℕ) (at n : ℕ) : Type 0 where
  pub upto : (b : ℕ) → b < n → get_or w (at + b) 0 ≤ length R
  pub idle : (b : ℕ) → b < n → Idle aim R (32 * b) (get_or w (at + b) 0)

-- n words of w say how many interfaces stand before each 32nd row
pub record Tally (R : List Row) (w : List ℕ) (at n : ℕ) : Type 0 where
  pub is : (b : ℕ) → b < n → get_or w (at + b) 0 ≡ interfaces_in (take (32 * b) R)

-- how many words a table of a sheet has
abbrev pub blocks : List ℕ → ℕ
blocks sheet = length sheet / 256 + 1

-- a table has words for the root and then for the library
abbrev pub both : List ℕ → List ℕ → ℕ
both root library = blocks root + blocks library

abbrev pub place_of : Aim → ℕ
place_of End = 0
place_of Body = 1
place_of Kept = 2
place_of Default = 3
place_of Interface = 4

-- the words of the j-th table for the sheet of a document's number
abbrev pub table_at : List ℕ → (at many j number : ℕ) → ℕ
table_at root at many j number = at + j * many + choose (eqb number 0) 0 (blocks root)

-- the tables stand from a place on, or there are none
pub record Skips (root library w : List ℕ) (at many : ℕ) : Type 0 where
  pub all : 0 < many → many ≡ both root library
  pub tables : 0 < many → (aim : Aim) (number : ℕ) → Table aim (rows (sheet_of root library number)) w (table_at root at many (place_of aim) number) (blocks (sheet_of root library number))
  pub tally : 0 < many → (number : ℕ) → Tally (rows (sheet_of root library number)) w (table_at root at many 5 number) (blocks (sheet_of root library number))

-- the tables have been written
pub record Written (root library w₀ w : List ℕ) (at many : ℕ) : Type 0 where
  pub skips : Skips root library w at many
  pub stays : Outside at (at + 6 * many) w₀ w
