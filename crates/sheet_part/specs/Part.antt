-- A part of one of two sheets.
use Rattle.std.specs.Prelude.{◌≡◌, List, [], ℕ, ◌+◌, ◌-◌, ◌*◌, ◌/◌, ◌≤◌, length, take, drop, leb}
use Rattle.std.proofs.Math.Option.{Option, none, some}
use Rattle.ast.specs.Ast.{ProtoDecl}
use Rattle.ast.specs.Choice.{choose}
use Rattle.sheet_rows.specs.declared.row.Row.{Row}
use Rattle.sheet_rows.specs.declared.part.Part.{Part}
use Rattle.sheet_rows.specs.declared.part.Part.TheVariants.{Interfaces, Statements, Ids}
use Rattle.sheet_rows.specs.Rows.{rows}
use Rattle.sheet_rows.specs.Parse.{elements, proto_of}

-- the words of the rows from one to another, or none where they are not rows of the sheet
abbrev pub part_of : List ℕ → ℕ → ℕ → List ℕ
part_of s from to =
    choose (leb from to) (choose (leb to (length s / 8)) (take (8 * to - 8 * from) (drop (8 * from) s)) []) []

-- a part has no element from these rows on
abbrev pub Ends : Part → List Row → Type 0
Ends t l = elements t l ≡ []

-- nothing of a prototype comes from these rows on: no interface, no id, no body statement
pub record Cut (l : List Row) : Type 0 where
  pub interfaces : Ends Interfaces l
  pub statements : Ends Statements l
  pub ids : Ends Ids l

-- the prototype whose rows go on at `from` ends before row `to`
pub record ProtoEnd (R : List Row) (from to : ℕ) : Type 0 where
  pub after : from ≤ to
  pub within : from ≤ length R → to ≤ length R
  pub cut : Cut (drop to R)

-- w has the rows of a sheet from a prototype's up to its end
pub record ProtoPart (sheet : List ℕ) (from : ℕ) (w : List ℕ) : Type 0 where
  pub to : ℕ
  pub part : w ≡ part_of sheet from to
  pub end : ProtoEnd (rows sheet) (from + 1) to

-- words that say a prototype: read by themselves they are it; of no prototype there are none
abbrev pub Says : Option ProtoDecl → List ℕ → Type 0
Says none w = w ≡ []
Says (some p) w = proto_of (rows w) ≡ p

-- "A prototype's rows are handed back as a part of the root sheet or of the library"
pub record HandedBack (p : Option ProtoDecl) (sheet w : List ℕ) : Type 0 where
  pub from : ℕ
  pub to : ℕ
  pub part : w ≡ part_of sheet from to
  pub says : Says p w
