-- The rows of a node: its first row, its lists, its instance.
use mathlib.Core.Path.{◌≡◌, ap, ◌∙◌}
use mathlib.Core.List.{List, [], ◌∷◌, ◌++◌, map, append_assoc}
use Prim.Native.Nat.{ℕ, zero, suc, ◌+◌, ◌<◌, ◌≤◌}
use native.Mathlib.Omega.{arith}
use lib.ListN.{length, length-append}
use Rattle.sheet_rows.specs.declared.row.Row.{Row}
use Rattle.sheet_rows.specs.Rows.{front}
use Rattle.sheet_rows.specs.Parse.{optional, origin_of}
use Rattle.ast.specs.Lists.{flat}
use Rattle.sheet_rows.specs.Print.{row, field_rows, interface_rows, statement_row, body_element_row, node_row, node_rows, any_instance_rows}
use Rattle.journal_records.specs.Records.{tag_field, tag_interface, tag_statement, tag_order, cell}
use Rattle.journal_reading.specs.Reading.{fields_at, interfaces_at, statements_at, order_at, node_by, node_rec, instance_at}
use Rattle.journal_reading.specs.WellFormed.{HandleAt, NodeClosed}
use Rattle.writer_lists.specs.declared.Kind.TheVariants.{Fields, Interfaces, Statements, Order}
use Rattle.writer_lists.specs.Writing.{RowsFit}
use Rattle.writer_lists.specs.Cells.{field_cells, interface_cells, statement_cells, order_cells}
use Rattle.writer_lists.specs.Lists.{list_rows}
use Rattle.writer_nodes.specs.Instances.{Legible, NodeIn}
use Rattle.writer_lists.proofs.Writing.{backwards, Stage, begin}
use Rattle.writer_lists.proofs.Chains.{chain_each, chain_rows_lem}
use Rattle.writer_lists.proofs.Records.{or_none_lem}
use Rattle.writer_nodes.proofs.Tagged.{fields_read, interfaces_read, statements_read, order_read}

-- ---- the lists of a node are those of the journal

module _ {w : List ℕ} {c : ℕ} (L : Legible w c) {h : ℕ} where
  fields_rows : HandleAt w c tag_field h → flat field_rows (fields_at w h) ≡ list_rows Fields w h
  unfolding list_rows
  fields_rows x = ap (flat field_rows) (fields_read L.fair x) ∙ chain_each w (field_cells w) h field_rows

  interfaces_rows : HandleAt w c tag_interface h → flat interface_rows (interfaces_at w h) ≡ list_rows Interfaces w h
  unfolding list_rows
  interfaces_rows x = ap (flat interface_rows) (interfaces_read L.fair x) ∙ chain_each w (interface_cells w) h interface_rows

  -- the statements, of a node or at the top
  pub statements_rows : HandleAt w c tag_statement h → map statement_row (statements_at w h) ≡ list_rows Statements w h
  unfolding list_rows
  statements_rows x = ap (map statement_row) (statements_read L.fair x) ∙ chain_rows_lem w (statement_cells w) h statement_row

  order_rows : HandleAt w c tag_order h → map body_element_row (order_at w h) ≡ list_rows Order w h
  unfolding list_rows
  order_rows x = ap (map body_element_row) (order_read L.fair x) ∙ chain_rows_lem w (order_cells w) h body_element_row

-- ---- the first row

origin_plain : (t n x i : ℕ) → x ≡ 0 → row 2 t n 0 0 0 0 0 ≡ node_row t (optional n) (origin_of (row 2 0 0 x i 0 0 0 ∷ []))
unfolding origin_of
origin_plain t n x i e = rw (e, or_none_lem n)

origin_id : (t n x i : ℕ) → 0 < x → x < 3 → row 2 t n x i 0 0 0 ≡ node_row t (optional n) (origin_of (row 2 0 0 x i 0 0 0 ∷ []))
unfolding origin_of
origin_id t n zero i a b = absurd (omega arith)
origin_id t n (suc zero) i a b = rw (or_none_lem n)
origin_id t n (suc (suc zero)) i a b = rw (or_none_lem n)
origin_id t n (suc (suc (suc x))) i a b = absurd (omega arith)

origin_other : (t n x i : ℕ) → 3 ≤ x → row 2 t n 3 0 0 0 0 ≡ node_row t (optional n) (origin_of (row 2 0 0 x i 0 0 0 ∷ []))
unfolding origin_of
origin_other t n zero i a = absurd (omega arith)
origin_other t n (suc zero) i a = absurd (omega arith)
origin_other t n (suc (suc zero)) i a = absurd (omega arith)
origin_other t n (suc (suc (suc x))) i a = rw (or_none_lem n)

module _ (w : List ℕ) (r : ℕ) where
  -- of a built-in node
  pub first_plain : cell w r 5 ≡ 0 → row 2 (cell w r 3) (cell w r 4) 0 0 0 0 0 ≡ front (node_rows (node_rec w r))
  unfolding node_by
  first_plain e = origin_plain (cell w r 3) (cell w r 4) (cell w r 5) (cell w r 6) e

  -- of a node with a prototype
  pub first_id : 0 < cell w r 5 → cell w r 5 < 3 → row 2 (cell w r 3) (cell w r 4) (cell w r 5) (cell w r 6) 0 0 0 ≡ front (node_rows (node_rec w r))
  unfolding node_by
  first_id a b = origin_id (cell w r 3) (cell w r 4) (cell w r 5) (cell w r 6) a b

  -- of an unknown node
  pub first_other : 3 ≤ cell w r 5 → row 2 (cell w r 3) (cell w r 4) 3 0 0 0 0 ≡ front (node_rows (node_rec w r))
  unfolding node_by
  first_other a = origin_other (cell w r 3) (cell w r 4) (cell w r 5) (cell w r 6) a

  -- ---- all rows

  regroup : (h : Row) (a b c d e : List Row) → h ∷ (a ++ (b ++ (c ++ (d ++ e)))) ≡ backwards (e ∷ d ∷ c ∷ b ∷ a ∷ (h ∷ []) ∷ [])
  unfolding backwards
  regroup h a b c d e = simp append_assoc

  abbrev pub parts : List (List Row)
  parts =
      any_instance_rows (instance_at w (cell w r 11)) ∷ list_rows Order w (cell w r 10) ∷ list_rows Statements w (cell w r 9) ∷ list_rows Interfaces w (cell w r 8) ∷ list_rows Fields w (cell w r 7)
      ∷ (front (node_rows (node_rec w r)) ∷ []) ∷ []

module _ {w : List ℕ} {c r : ℕ} (n : NodeIn w c r) where
  -- the handles of its lists
  pub node_closed : NodeClosed w c r
  node_closed = (n.legible.fair.each r n.below).node n.tag

  node_shape : node_rows (node_rec w r) ≡ backwards (parts w r)
  unfolding node_by
  node_shape =
      let x : NodeClosed w c r = node_closed in
      let L : Legible w c = n.legible in
      rw (fields_rows L x.fields, interfaces_rows L x.interface, statements_rows L x.statements, order_rows L x.body_order)
      (regroup w r (front (node_rows (node_rec w r))) (list_rows Fields w (cell w r 7)) (list_rows Interfaces w (cell w r 8)) (list_rows Statements w (cell w r 9)) (list_rows Order w (cell w r 10)) (any_instance_rows (instance_at w (cell w r 11))))

  -- its blocks, to be written from the last on
  pub node_stage : {o : List ℕ} {e : ℕ} → RowsFit (node_rows (node_rec w r)) o e → Stage (node_rows (node_rec w r)) (parts w r) o o e e
  node_stage m = begin m node_shape

  -- so many rows it has
  pub node_length : length (node_rows (node_rec w r))
      ≡ 1 + length (list_rows Fields w (cell w r 7)) + length (list_rows Interfaces w (cell w r 8)) + length (list_rows Statements w (cell w r 9)) + length (list_rows Order w (cell w r 10)) + length (any_instance_rows (instance_at w (cell w r 11)))
  unfolding backwards
  node_length = ap length node_shape ∙ simp length-append (omega arith)
