-- Lists and their records, read by the words as they stand. Where a record has the tag of its list, so it is read for the state.
use Rattle.std.specs.Prelude.{List, [], ℕ}
use Rattle.ast.specs.Ast.{FieldValue, Field, InterfaceDecl, Route, Statement, BodyElement, Association}
use Rattle.journal_records.specs.Records.{cell}
use Rattle.journal_records.specs.Logs.{scan, rev_onto}
use Rattle.journal_reading.specs.Reading.{value_from, field_from, interface_from, statement_from, order_from, route_from, association_from}

-- the list whose last record is h, oldest first; only records below top are looked at
abbrev pub cell_chain : {A : Type 0} → (ℕ → A) → List ℕ → ℕ → ℕ → List A
cell_chain d w top h = rev_onto (scan d (λ r. cell w r 8) top h) []

abbrev pub cell_ids : List ℕ → ℕ → ℕ → List ℕ
cell_ids w top h = cell_chain (λ r. cell w r 1) w top h

abbrev pub value_cells : List ℕ → ℕ → FieldValue
value_cells w r = value_from (cell w r) (cell_ids w r (cell w r 7))

abbrev pub field_cells : List ℕ → ℕ → Field
field_cells w r = field_from (cell w r) (value_cells w r)

abbrev pub interface_cells : List ℕ → ℕ → InterfaceDecl
interface_cells w r = interface_from (cell w r) (value_cells w r)

abbrev pub statement_cells : List ℕ → ℕ → Statement
statement_cells w r = statement_from (cell w r)

abbrev pub order_cells : List ℕ → ℕ → BodyElement
order_cells w r = order_from (cell w r)

abbrev pub root_cell : List ℕ → ℕ → ℕ
root_cell w r = cell w r 2

abbrev pub route_cells : List ℕ → ℕ → Route
route_cells w r = route_from (cell w r) (cell w r 10) (cell w r 11)

abbrev pub association_cells : List ℕ → ℕ → Association
association_cells w r = association_from (cell w r)
