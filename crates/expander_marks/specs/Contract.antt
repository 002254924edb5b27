-- What the functions of the filter ask and give.
use Rattle.std.specs.Prelude.{◌≡◌, Bool, true, false, List, map, ℕ, ◌+◌, ◌≤◌, ◌<◌, get_or, drop, eqb}
use Rattle.std.specs.Int.{from_bool}
use Rattle.std.proofs.Math.Option.{Option}
use Rattle.ast.specs.Ast.{Field, Statement}
use Rattle.sheet_rows.specs.declared.row.Row.{Row}
use Rattle.sheet_rows.specs.Parse.{body_element_of, node_of}
use Rattle.expansion_definition.specs.State.{◌>>◌, ret}
use Rattle.expansion_definition.specs.Charges.{charge_each}
use Rattle.expansion_definition.specs.Values.{Values}
use Rattle.expansion_definition.specs.PlainCopy.{kept_order}
use Rattle.journal_records.specs.Records.{tag_order}
use Rattle.journal_reading.specs.Reading.{order_at}
use Rattle.journal_reading.specs.WellFormed.{HandleAt}
use Rattle.refine_records.specs.declared.Limits.{Limits}
use Rattle.refine_records.specs.declared.Counts.{Counts}
use Rattle.refine_records.specs.declared.Env as code
use Rattle.refine_records.specs.Sound.{Source, input_of, env_of}
use Rattle.refine_records.specs.Does.{Answer, IfDone, Does}
use Rattle.expander_marks.specs.declared.Reach.{Reach}
use Rattle.expander_marks.specs.declared.Run.{Run}
use Rattle.expander_marks.specs.declared.Filter.{Filter}
use Rattle.expander_marks.specs.Positions.{kept_by, Stepped, is_some}
use Rattle.expander_marks.specs.Kept.{kept_statement, kept_field, kept_fields, kept_statements}

-- ---- which entries are kept; K p tells it of those from row p on, and n is the number of rows

-- those kept, one after another, from a row on; the next one is not kept, or there is none
pub record RunFrom (K : ℕ → List Bool) (n from : ℕ) (x : Run) : Type 0 where
  pub all : (j : ℕ) → j < x.count → get_or (K from) j false ≡ true
  pub stop : get_or (K from) x.count false ≡ false
  pub rest : K x.row ≡ drop x.count (K from)
  pub past : K (x.row + 1) ≡ drop (x.count + 1) (K from)
  pub few : x.count ≤ n
  pub low : x.row ≤ n

-- those from position p up to `upto` are kept, and the next ones stand from a row on
pub record Ahead (K : ℕ → List Bool) (first p : ℕ) (x : Reach) : Type 0 where
  pub from : p ≤ x.upto
  pub all : (j : ℕ) → p ≤ j → j < x.upto → get_or (K first) j false ≡ true
  pub rest : K x.row ≡ drop x.upto (K first)

-- as many rows as a sheet can have: an eighth of the words that a length counts
abbrev pub most_rows : ℕ
most_rows = 2305843009213693951

pub record Fits (p : ℕ) (r : Run) : Type 0 where
  pub position : p ≤ most_rows
  pub count : r.count ≤ most_rows
  pub row : r.row ≤ most_rows

-- after a run from a position on: past it, and past one that is not kept
abbrev pub reach_after : ℕ → Run → Reach
reach_after p r = record { upto = p + r.count + from_bool (eqb r.count 0); row = r.row + from_bool (eqb r.count 0) }

-- so it is of the fields and of the statements of the node at a row
pub record Knows (vs : Option Values) (R : List Row) (node : ℕ) (x : Filter) : Type 0 where
  pub fields : Ahead (kept_fields vs R) (node + 1) x.positions.field x.fields
  pub statements : Ahead (kept_statements R) (node + 1) x.positions.statement x.statements

-- ---- a mark: whether it is kept, and the filter at the next
pub record Takes (vs : Option Values) (R : List Row) (node at : ℕ) (x y : Filter) (b : Bool) : Type 0 where
  pub kept : b ≡ kept_by (kept_fields vs R (node + 1)) (kept_statements R (node + 1)) (body_element_of (drop at R)) x.positions.field x.positions.statement
  pub step : Stepped R node at x.positions.field x.positions.statement y.positions.field y.positions.statement
  pub known : Knows vs R node y

-- ---- for all fields and statements that are kept as the source says; the value is the order's handle
pub record Ordered (L : Limits) (R : List Row) (w : List ℕ) (t : Counts) (e : code.Env) (node : ℕ) (w' : List ℕ) (a : Answer) : Type 0 where
  pub does : (S : Source) (young : ℕ) (fs : List (Option Field)) (ss : List (Option Statement))
      → map is_some fs ≡ map (kept_field (env_of w e).is_values) (node_of (drop node R)).fields
      → map is_some ss ≡ map kept_statement (node_of (drop node R)).statements
      → Does S L young (λ u v p. order_at u v)
      (charge_each (input_of S L) (kept_order fs ss (node_of (drop node R)).body_order) >> ret (kept_order fs ss (node_of (drop node R)).body_order))
      w t w' a
  pub done : IfDone (λ t' v p. HandleAt w' t'.charges tag_order v) a
