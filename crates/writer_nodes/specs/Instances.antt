-- What is needed of the journal, and the rows of nested instances.
use Rattle.std.specs.Prelude.{◌≡◌, List, ℕ, ◌*◌, ◌<◌, ◌≤◌, length}
use Rattle.sheet_rows.specs.declared.row.Row.{Row}
use Rattle.ast.specs.Lists.{flat}
use Rattle.journal_records.specs.Records.{tag_node, cell}
use Rattle.journal_records.specs.Logs.{scan}
use Rattle.journal_lists.specs.Owned.{Owned}
use Rattle.journal_reading.specs.WellFormed.{AllWellFormed}
use Rattle.writer_lists.specs.declared.Kind.{Kind}
use Rattle.writer_lists.specs.declared.Kind.TheVariants.{Fields, Interfaces, Statements, Order, Roots, Routes, Associations}
use Rattle.writer_lists.specs.Lists.{list_rows}

-- the first c records can be written out
pub record Legible (w : List ℕ) (c : ℕ) : Type 0 where
  pub records : c * 12 ≤ length w
  pub fair : AllWellFormed w c
  pub owned : Owned w c

-- record r is one of them, and a node
pub record NodeIn (w : List ℕ) (c r : ℕ) : Type 0 where
  pub legible : Legible w c
  pub below : r < c
  pub tag : cell w r 0 ≡ tag_node

-- the word of an instance that is the handle of its extra roots, or of its routes
abbrev pub own_word : Kind → ℕ
own_word Fields = 4
own_word Interfaces = 4
own_word Statements = 4
own_word Order = 4
own_word Roots = 3
own_word Routes = 4
own_word Associations = 4

-- the rows of a list of an instance and of those nested in it, the outer's first
unfoldable pub nested_rows : Kind → List ℕ → ℕ → List Row
nested_rows k w h = flat (λ r. list_rows k w (cell w r (own_word k))) (scan (λ r. r) (λ r. cell w r 8) h h)
