-- The rows of a record: its first row, and those of its ids.
use mathlib.Core.Path.{◌≡◌, refl, sym, ap, ◌∙◌}
use mathlib.Core.List.{List, [], ◌∷◌}
use Prim.Native.Nat.{ℕ, zero, suc, min, ◌+◌, ◌-◌, ◌≤◌}
use native.Mathlib.Omega.{arith}
use native.Mathlib.Decide.{ℕ_discrete}
use lib.ListN.{length, length-map}
use borrow.Author.Tests.{eq-eqb, ne_eqb}
use Rattle.sheet_rows.specs.Rows.{none#, front}
use Rattle.sheet_rows.specs.Parse.{optional, statement_of, route_of, body_element_of}
use Rattle.sheet_rows.specs.Print.{row, or_none, id_row, statement_row, body_element_row}
use Rattle.journal_records.specs.Records.{cell}
use Rattle.writer_lists.specs.declared.Kind.{Kind}
use Rattle.writer_lists.specs.declared.Kind.TheVariants.{Fields, Interfaces, Statements, Order, Roots, Routes, Associations}
use Rattle.writer_lists.specs.Writing.{RowsFit, Wrote}
use Rattle.writer_lists.specs.Cells.{cell_ids}
use Rattle.journal_records.specs.Lists.{clip, HandleBelow}
use Rattle.writer_lists.specs.Lists.{id_rows, record_rows, ids_handle}
use Rattle.writer_lists.proofs.Writing.{Stage, begin_one, split}
use Rattle.writer_lists.proofs.Chains.{chain_end, ids_rows}

-- a number at a bound or above is cut off there
cut : (x top : ℕ) → top ≤ x → min x top ≡ top
cut x top le = omega arith

-- a number or none is written as it is read
pub or_none_lem : (n : ℕ) → or_none (optional n) ≡ n
or_none_lem n = go (ℕ_discrete n none#)
  where
    go : Dec (n ≡ none#) → or_none (optional n) ≡ n
    go (yes h) = rw (eq-eqb _ _ h) (sym h)
    go (no h) = rw (ne_eqb _ _ h)

-- ---- rows whose first column is a choice

-- a statement that is no ROUTE
other_row : (x b c d e f g : ℕ) → (x ≡ 3 → ⊥) → row 5 (min x 4) b 0 0 0 0 0 ≡ statement_row (statement_of (row 5 x b c d e f g ∷ []))
unfolding statement_of
other_row zero b c d e f g n = refl
other_row (suc zero) b c d e f g n = refl
other_row (suc (suc zero)) b c d e f g n = refl
other_row (suc (suc (suc zero))) b c d e f g n = absurd (n refl)
other_row (suc (suc (suc (suc x)))) b c d e f g n = ap (λ (k : ℕ). row 5 k b 0 0 0 0 0) (cut (suc (suc (suc (suc x)))) 4 (omega arith))

mark_row : (x : ℕ) → row 6 (min x 2) 0 0 0 0 0 0 ≡ body_element_row (body_element_of (row 6 x 0 0 0 0 0 0 ∷ []))
unfolding body_element_of
mark_row zero = refl
mark_row (suc zero) = refl
mark_row (suc (suc x)) = ap (λ (k : ℕ). row 6 k 0 0 0 0 0 0) (cut (suc (suc x)) 2 (omega arith))

-- ---- the ids of a record

ids_none : (w : List ℕ) → id_rows w 0 ≡ []
ids_none w = chain_end (λ r. id_row (cell w r 1) ∷ []) w {h = 0} refl

ids_length : (w : List ℕ) (r g : ℕ) → length (id_rows w (clip r g)) ≡ length (cell_ids w r g)
ids_length w r g = sym (ap length (ids_rows w r g)) ∙ length-map (cell_ids w r g) id_row

module _ (w : List ℕ) (r : ℕ) where
  -- a record's rows are its first row and those of its ids
  pub record_shape : (k : Kind) → record_rows k w r ≡ front (record_rows k w r) ∷ id_rows w (ids_handle k w r)
  unfolding ids_handle
  record_shape Fields = go (ℕ_discrete (cell w r 2) 1) (ℕ_discrete (cell w r 6) 2)
    where
      go : Dec (cell w r 2 ≡ 1) → Dec (cell w r 6 ≡ 2) → record_rows Fields w r ≡ front (record_rows Fields w r) ∷ id_rows w (ids_handle Fields w r)
      go (yes a) b = rw (eq-eqb _ _ a, ids_none w)
      go (no a) (yes b) = rw (ne_eqb _ _ a, eq-eqb _ _ b, ids_rows w r (cell w r 7))
      go (no a) (no b) = rw (ne_eqb _ _ a, ne_eqb _ _ b, ids_none w)
  record_shape Interfaces = go (ℕ_discrete (cell w r 6) 0) (ℕ_discrete (cell w r 6) 2)
    where
      go : Dec (cell w r 6 ≡ 0) → Dec (cell w r 6 ≡ 2) → record_rows Interfaces w r ≡ front (record_rows Interfaces w r) ∷ id_rows w (ids_handle Interfaces w r)
      go (yes a) b = rw (a, ids_none w)
      go (no a) (yes b) = rw (ne_eqb _ _ a, eq-eqb _ _ b, ids_rows w r (cell w r 7))
      go (no a) (no b) = rw (ne_eqb _ _ a, ne_eqb _ _ b, ids_none w)
  record_shape Statements = rw (ids_none w)
  record_shape Order = rw (ids_none w)
  record_shape Roots = rw (ids_none w)
  record_shape Routes = rw (ids_none w)
  record_shape Associations = rw (ids_none w)

  -- so it has one row more than ids
  pub record_length : (k : Kind) → length (record_rows k w r) ≡ 1 + length (id_rows w (ids_handle k w r))
  record_length k = ap length (record_shape k) ∙ omega arith

  interface_clip : cell w r 6 ≡ 2 → ids_handle Interfaces w r ≡ clip r (cell w r 7)
  unfolding ids_handle
  interface_clip b = rw (eq-eqb _ _ b)

  -- a list of nodes has its ids below
  pub interface_ids_lem : cell w r 6 ≡ 2 → {h : ℕ} → HandleBelow (clip r (cell w r 7)) r h → HandleBelow (ids_handle Interfaces w r) r h
  interface_ids_lem b x = rw (interface_clip b) x

  -- another value has none
  pub interface_no_ids : (cell w r 6 ≡ 2 → ⊥) → HandleBelow (ids_handle Interfaces w r) r 0
  unfolding ids_handle
  interface_no_ids b = record { same = rw (ne_eqb _ _ b); low = omega arith }

  -- ---- the first row

  module _ (a : cell w r 2 ≡ 1) where
    -- of a field that IS another
    pub field_is : row 3 (cell w r 1) 1 (cell w r 3) (cell w r 4) 0 0 0 ≡ front (record_rows Fields w r)
    field_is = rw (eq-eqb _ _ a)

    -- which has no ids
    pub field_is_ids : HandleBelow (ids_handle Fields w r) r 0
    unfolding ids_handle
    field_is_ids = record { same = rw (eq-eqb _ _ a); low = omega arith }

  module _ (a : cell w r 2 ≡ 1 → ⊥) where
    same_ids : ids_handle Fields w r ≡ ids_handle Interfaces w r
    unfolding ids_handle
    same_ids = rw (ne_eqb _ _ a)

    -- the ids of a field are those of its value
    pub field_ids_lem : {h : ℕ} → HandleBelow (ids_handle Interfaces w r) r h → HandleBelow (ids_handle Fields w r) r h
    field_ids_lem b = rw same_ids b

    -- of a field with nodes
    pub field_nodes : cell w r 6 ≡ 2 → {n : ℕ} → n ≡ length (id_rows w (ids_handle Fields w r)) → row 3 (cell w r 1) 0 0 (cell w r 4) (cell w r 5) 2 n ≡ front (record_rows Fields w r)
    field_nodes b {n} e =
        let z : n ≡ length (cell_ids w r (cell w r 7)) = e ∙ rw (same_ids, interface_clip b) (ids_length w r (cell w r 7)) in
        rw (z, ne_eqb _ _ a, eq-eqb _ _ b)

    -- of a field with a payload
    pub field_payload : (cell w r 6 ≡ 2 → ⊥) → row 3 (cell w r 1) 0 0 (cell w r 4) (cell w r 5) 1 (cell w r 7) ≡ front (record_rows Fields w r)
    field_payload b = rw (ne_eqb _ _ a, ne_eqb _ _ b)

  -- of an interface with no value
  pub interface_none : cell w r 6 ≡ 0 → row 4 (cell w r 1) (cell w r 2) (cell w r 3) (cell w r 4) 0 0 0 ≡ front (record_rows Interfaces w r)
  interface_none a = rw (a, or_none_lem (cell w r 4))

  module _ (a : cell w r 6 ≡ 0 → ⊥) where
    -- of an interface with nodes
    pub interface_nodes : cell w r 6 ≡ 2 → {n : ℕ} → n ≡ length (id_rows w (ids_handle Interfaces w r)) → row 4 (cell w r 1) (cell w r 2) (cell w r 3) (cell w r 4) (cell w r 5) 2 n ≡ front (record_rows Interfaces w r)
    interface_nodes b {n} e =
        let z : n ≡ length (cell_ids w r (cell w r 7)) = e ∙ rw (interface_clip b) (ids_length w r (cell w r 7)) in
        rw (z, ne_eqb _ _ a, eq-eqb _ _ b, or_none_lem (cell w r 4))

    -- of an interface with a payload
    pub interface_payload : (cell w r 6 ≡ 2 → ⊥) → row 4 (cell w r 1) (cell w r 2) (cell w r 3) (cell w r 4) (cell w r 5) 1 (cell w r 7) ≡ front (record_rows Interfaces w r)
    interface_payload b = rw (ne_eqb _ _ a, ne_eqb _ _ b, or_none_lem (cell w r 4))

  -- of a ROUTE
  pub statement_route : cell w r 1 ≡ 3 → row 5 3 (cell w r 2) (cell w r 3) (cell w r 4) (cell w r 5) (cell w r 6) (cell w r 7) ≡ front (record_rows Statements w r)
  unfolding statement_of route_of
  statement_route a = rw (a, or_none_lem (cell w r 6), or_none_lem (cell w r 7))

  -- of any other statement
  pub statement_other : (cell w r 1 ≡ 3 → ⊥) → row 5 (min (cell w r 1) 4) (cell w r 2) 0 0 0 0 0 ≡ front (record_rows Statements w r)
  statement_other a = other_row (cell w r 1) (cell w r 2) (cell w r 3) (cell w r 4) (cell w r 5) (cell w r 6) (cell w r 7) a

  -- of a mark in the body order
  pub order_row : row 6 (min (cell w r 1) 2) 0 0 0 0 0 0 ≡ front (record_rows Order w r)
  order_row = mark_row (cell w r 1)

  -- of a remapped route
  pub route_row_lem : row 5 3 (cell w r 2) (cell w r 3) (cell w r 4) (cell w r 5) (cell w r 10) (cell w r 11) ≡ front (record_rows Routes w r)
  route_row_lem = rw (or_none_lem (cell w r 10), or_none_lem (cell w r 11))

  -- ---- a record written, its ids first

  module _ (k : Kind) {h : ℕ} (b : HandleBelow (ids_handle k w r) r h) where
    ids_same : id_rows w h ≡ id_rows w (ids_handle k w r)
    ids_same = ap (id_rows w) b.same

    -- its ids, and then its first row
    pub record_stage : {o : List ℕ} {e : ℕ} → RowsFit (record_rows k w r) o e → Stage (record_rows k w r) (id_rows w h ∷ (front (record_rows k w r) ∷ []) ∷ []) o o e e
    record_stage m = split (record_shape k ∙ rw ids_same) (begin_one m)

    -- so many rows it has
    pub record_count : {n : ℕ} → n ≡ length (id_rows w h) → 1 + n ≡ length (record_rows k w r)
    record_count e = omega (arith, e, ap length ids_same, record_length k)

    -- its ids are fewer than its rows
    pub record_few : {n : ℕ} → length (record_rows k w r) ≤ n → length (id_rows w h) ≤ n
    record_few le = omega (arith, ap length ids_same, record_length k)

    -- the count in its first row is what its ids took
    pub record_ids : {o o' : List ℕ} {e q : ℕ} → Wrote (id_rows w h) o o' e q → e - q ≡ length (id_rows w (ids_handle k w r))
    record_ids u = omega (arith, u.sum, ap length ids_same)
