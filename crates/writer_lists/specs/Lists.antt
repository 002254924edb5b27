-- The rows of the journal's lists.
use Rattle.std.specs.Prelude.{List, [], ◌∷◌, ℕ, ◌+◌, ◌*◌, ◌<◌, ◌≤◌, length, eqb}
use Rattle.ast.specs.Choice.{choose}
use Rattle.sheet_rows.specs.declared.row.Row.{Row}
use Rattle.ast.specs.Lists.{flat}
use Rattle.sheet_rows.specs.Print.{id_row, field_rows, interface_rows, statement_row, body_element_row, route_row, association_row}
use Rattle.journal_records.specs.Records.{cell}
use Rattle.journal_records.specs.Lists.{clip}
use Rattle.writer_lists.specs.declared.Kind.{Kind}
use Rattle.writer_lists.specs.declared.Kind.TheVariants.{Fields, Interfaces, Statements, Order, Roots, Routes, Associations}
use Rattle.writer_lists.specs.Cells.{cell_chain, field_cells, interface_cells, statement_cells, order_cells, root_cell, route_cells, association_cells}

-- the rows of a list, each record's printed by g
unfoldable pub chain_rows : (ℕ → List Row) → List ℕ → ℕ → List Row
chain_rows g w h = flat g (cell_chain (λ r. r) w h h)

-- the rows of a value's ids
abbrev pub id_rows : List ℕ → ℕ → List Row
id_rows w h = chain_rows (λ r. id_row (cell w r 1) ∷ []) w h

-- the rows of a record, by the list that it stands in
abbrev pub record_rows : Kind → List ℕ → ℕ → List Row
record_rows Fields w r = field_rows (field_cells w r)
record_rows Interfaces w r = interface_rows (interface_cells w r)
record_rows Statements w r = statement_row (statement_cells w r) ∷ []
record_rows Order w r = body_element_row (order_cells w r) ∷ []
record_rows Roots w r = id_row (root_cell w r) ∷ []
record_rows Routes w r = route_row (route_cells w r) ∷ []
record_rows Associations w r = association_row (association_cells w r) ∷ []

unfoldable pub list_rows : Kind → List ℕ → ℕ → List Row
list_rows k w h = chain_rows (record_rows k w) w h

-- the handle of the ids that a record's first row is followed by
unfoldable pub ids_handle : Kind → List ℕ → ℕ → ℕ
ids_handle Fields w r = choose (eqb (cell w r 2) 1) 0 (choose (eqb (cell w r 6) 2) (clip r (cell w r 7)) 0)
ids_handle Interfaces w r = choose (eqb (cell w r 6) 2) (clip r (cell w r 7)) 0
ids_handle Statements w r = 0
ids_handle Order w r = 0
ids_handle Roots w r = 0
ids_handle Routes w r = 0
ids_handle Associations w r = 0

-- word j of record r is the handle of a list within w
pub record ListAt (w : List ℕ) (r j : ℕ) : Type 0 where
  pub inside : r * 12 + 12 ≤ length w
  pub word : j < 12
  pub list : cell w r j * 12 ≤ length w
