-- Words and rows written, with everything else kept.
use Rattle.std.specs.Prelude.{◌≡◌, List, ◌++◌, ℕ, ◌+◌, ◌*◌, ◌≤◌, length, take, drop}
use Rattle.sheet_rows.specs.declared.row.Row.{Row}
use Rattle.sheet_rows.specs.Rows.{words}

-- the most rows that an expansion has
abbrev pub most : ℕ
most = 16777216

-- the text stands from word p on, and nothing else is changed
pub record Pasted (text o o' : List ℕ) (p : ℕ) : Type 0 where
  pub long : length o' ≡ length o
  pub same : o' ≡ take p o ++ (text ++ drop (p + length text) o)

-- R fits below row e
pub record RowsFit (R : List Row) (o : List ℕ) (e : ℕ) : Type 0 where
  pub fits : length R ≤ e
  pub inside : 8 * e ≤ length o
  pub few : e ≤ most

-- R stands from row p up to row e, and nothing else is changed
pub record Wrote (R : List Row) (o o' : List ℕ) (e p : ℕ) : Type 0 where
  pub sum : p + length R ≡ e
  pub pasted : Pasted (words R) o o' (8 * p)
