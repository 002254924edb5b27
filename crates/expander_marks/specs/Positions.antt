-- Where the filter over body order stands at each mark (document 02, wish 3). This page states; nothing is proved on it.
use Rattle.std.specs.Prelude.{◌≡◌, Bool, true, false, List, [], ◌∷◌, ◌++◌, map, ℕ, suc, ◌+◌, ◌<◌, length, get_or, drop}
use Rattle.std.proofs.Math.Option.{Option}
use Rattle.ast.specs.Ast.{Field, Statement, BodyElement}
use Rattle.ast.specs.Choice.{choose}
use Rattle.sheet_rows.specs.declared.row.Row.{Row}
use Rattle.sheet_rows.specs.declared.part.Part.TheVariants.{BodyOrder}
use Rattle.sheet_rows.specs.Rows.{blank}
use Rattle.sheet_rows.specs.Parse.{elements, body_element_of, node_of}
use Rattle.expansion_definition.specs.PlainCopy.{kept_order}

-- ---- "is to advance its field and statement positions by adding 0 or 1, computed from the element's kind"

abbrev pub field_step : BodyElement → ℕ
field_step BodyElement.Field = 1
field_step BodyElement.Interface = 0
field_step BodyElement.Statement = 0

abbrev pub statement_step : BodyElement → ℕ
statement_step BodyElement.Field = 0
statement_step BodyElement.Interface = 0
statement_step BodyElement.Statement = 1

-- ---- "at each mark the two positions are the counts of Field and of Statement marks before it"

-- how many Field marks, and how many Statement marks, are among some marks
abbrev pub field_marks : List BodyElement → ℕ
field_marks [] = 0
field_marks (BodyElement.Field ∷ l) = suc (field_marks l)
field_marks (BodyElement.Interface ∷ l) = field_marks l
field_marks (BodyElement.Statement ∷ l) = field_marks l

abbrev pub statement_marks : List BodyElement → ℕ
statement_marks [] = 0
statement_marks (BodyElement.Field ∷ l) = statement_marks l
statement_marks (BodyElement.Interface ∷ l) = statement_marks l
statement_marks (BodyElement.Statement ∷ l) = suc (statement_marks l)

-- the marks from a row on
abbrev pub marks_from : List Row → ℕ → List BodyElement
marks_from R at = map body_element_of (elements BodyOrder (drop at R))

-- a mark stands at a row
pub record MarkAt (R : List Row) (at : ℕ) : Type 0 where
  pub below : at < length R
  pub kind : (get_or R at blank).kind ≡ 6

-- the body order of the node at a row is what stands before the mark at another, and the marks from there on
pub record AtMark (R : List Row) (node at field statement : ℕ) : Type 0 where
  pub before : List BodyElement
  pub whole : (node_of (drop node R)).body_order ≡ before ++ marks_from R at
  pub fields : field ≡ field_marks before
  pub statements : statement ≡ statement_marks before

-- past a mark: 0 or 1 is added to each, and so it is at the next mark
pub record Stepped (R : List Row) (node at field statement field' statement' : ℕ) : Type 0 where
  pub fields : field' ≡ field + field_step (body_element_of (drop at R))
  pub statements : statement' ≡ statement + statement_step (body_element_of (drop at R))
  pub next : AtMark R node (at + 1) field' statement'

-- ---- "what is kept stays the same"

-- by the positions: an Interface mark, and a Field or Statement mark whose entry is kept; past the last entry none is
abbrev pub kept_by : List Bool → List Bool → BodyElement → ℕ → ℕ → Bool
kept_by fields statements BodyElement.Field f s = get_or fields f false
kept_by fields statements BodyElement.Interface f s = true
kept_by fields statements BodyElement.Statement f s = get_or statements s false

abbrev pub by_positions : List Bool → List Bool → ℕ → ℕ → List BodyElement → List BodyElement
by_positions fields statements f s [] = []
by_positions fields statements f s (m ∷ l) =
    choose (kept_by fields statements m f s)
    (m ∷ by_positions fields statements (f + field_step m) (s + statement_step m) l)
    (by_positions fields statements (f + field_step m) (s + statement_step m) l)

-- what there is of an option
abbrev pub is_some : {A : Type 0} → Option A → Bool
is_some Option.none = false
is_some (Option.some a) = true

-- the definition keeps the same
abbrev pub SameKept : Type 0
SameKept = (fs : List (Option Field)) (ss : List (Option Statement)) (l : List BodyElement) → kept_order fs ss l ≡ by_positions (map is_some fs) (map is_some ss) 0 0 l
