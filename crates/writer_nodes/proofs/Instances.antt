-- The rows of an instance and of those nested in it.
use mathlib.Core.Path.{◌≡◌, refl, sym, ap, ◌∙◌}
use mathlib.Core.List.{List, [], ◌∷◌, ◌++◌, map}
use Prim.Native.Nat.{ℕ, ◌+◌, ◌-◌, ◌<◌, ◌≤◌}
use native.Mathlib.Omega.{arith}
use lib.ListN.{length, length-append, length-map}
use Rattle.ast.proofs.Basics.{map_append}
use Rattle.sheet_rows.specs.declared.row.Row.{Row}
use Rattle.ast.specs.Lists.{flat}
use Rattle.sheet_rows.specs.Print.{row, id_row, route_row, association_row, any_instance_rows}
use Rattle.journal_records.specs.Records.{tag_root, tag_route, tag_association, tag_instance, cell}
use Rattle.journal_records.specs.Logs.{scan}
use Rattle.journal_lists.specs.Owned.{owned_by}
use Rattle.journal_records.proofs.Lists.{last_low}
use Rattle.journal_reading.specs.Reading.{fixed_word, InstanceRead, instance_rec, merged_roots, merged_routes, merged, instances_at, instance_at}
use Rattle.journal_reading.specs.WellFormed.{HandleAt, InstanceClosed}
use Rattle.journal_reading.proofs.Words.{kept_is}
use Rattle.journal_reading.proofs.Chains.{scan_on}
use Rattle.writer_lists.specs.declared.Kind.{Kind}
use Rattle.writer_lists.specs.declared.Kind.TheVariants.{Fields, Interfaces, Statements, Order, Roots, Routes, Associations}
use Rattle.writer_lists.specs.Writing.{RowsFit, Wrote}
use Rattle.writer_lists.specs.Cells.{cell_chain, root_cell, route_cells, association_cells}
use Rattle.journal_records.specs.Lists.{clip, HandleBelow}
use Rattle.journal_records.proofs.Handles.{clip_in, scan_step, some_below}
use Rattle.writer_lists.specs.Lists.{list_rows, ListAt}
use Rattle.writer_nodes.specs.Instances.{Legible, own_word, nested_rows}
use Rattle.writer_lists.proofs.Writing.{backwards, Stage, begin, begin_one, split}
use Rattle.writer_lists.proofs.Walks.{Summing, sum_room, sum_again}
use Rattle.writer_lists.proofs.Chains.{scan_map, chain_rows_lem}
use Rattle.writer_nodes.proofs.Tagged.{roots_read, routes_read, map_read}

-- the last record, and the list before it
scan_back : {A : Type 0} (d : ℕ → A) (p : ℕ → ℕ) (h v : ℕ) → 0 < h → v ≡ clip (h - 1) (p (h - 1)) → scan d p h h ≡ d (h - 1) ∷ scan d p v v
scan_back d p h v lt e = let z : h ≡ (h - 1) + 1 = omega arith in ap (λ (k : ℕ). scan d p k k) z ∙ scan_step d p (h - 1) v e

-- ---- where an instance's handles lead

own_small : (k : Kind) → own_word k < 12
own_small Fields = omega arith
own_small Interfaces = omega arith
own_small Statements = omega arith
own_small Order = omega arith
own_small Roots = omega arith
own_small Routes = omega arith
own_small Associations = omega arith

module _ {w : List ℕ} {c : ℕ} where
  -- a handle that is at most c is of a list within the words
  pub list_of : {r : ℕ} → Legible w c → r < c → (j : ℕ) → j < 12 → cell w r j ≤ c → ListAt w r j
  list_of L lt j w12 le = record { inside = omega (arith, L.records); word = w12; list = omega (arith, L.records) }

  closed : {r : ℕ} → Legible w c → r < c → cell w r 0 ≡ tag_instance → InstanceClosed w r
  closed {r} L lt e = (L.fair.each r lt).instance e

  module _ {h : ℕ} (L : Legible w c) (i : HandleAt w c tag_instance h) (lt : 0 < h) where
    abbrev x : InstanceClosed w (h - 1)
    x = closed L (omega (arith, i.low)) (i.tag lt)

    routes_low : cell w (h - 1) 4 ≤ c
    routes_low = omega (arith, x.routes, last_low (owned_by w tag_route (cell w (h - 1) 1)) (h - 1), i.low)

    own_low : (k : Kind) → cell w (h - 1) (own_word k) ≤ c
    own_low Fields = routes_low
    own_low Interfaces = routes_low
    own_low Statements = routes_low
    own_low Order = routes_low
    own_low Roots = omega (arith, x.roots, last_low (owned_by w tag_root (cell w (h - 1) 1)) (h - 1), i.low)
    own_low Routes = routes_low
    own_low Associations = routes_low

    -- its extra roots, or its routes
    pub own_list : (k : Kind) → ListAt w (h - 1) (own_word k)
    own_list k = list_of L (omega (arith, i.low)) (own_word k) (own_small k) (own_low k)

    -- its associations
    pub map_list : ListAt w (h - 1) 5
    map_list = list_of L (omega (arith, i.low)) 5 (omega arith) (omega (arith, x.is_map, last_low (owned_by w tag_association (cell w (h - 1) 1)) (h - 1), i.low))

    nested : HandleAt w (h - 1) tag_instance (cell w (h - 1) 8)
    nested = let e : cell w (h - 1) 0 ≡ tag_instance = i.tag lt in rw e at ((L.fair.each (h - 1) (omega (arith, i.low))).linked (rw e))

    -- the nested one is an instance, or none
    pub instance_next : {v : ℕ} → HandleBelow (clip (h - 1) (cell w (h - 1) 8)) (h - 1) v → HandleAt w c tag_instance v
    instance_next b = rw (b.same ∙ clip_in (h - 1) (cell w (h - 1) 8) nested.low) (record { low = omega (arith, nested.low, i.low); tag = nested.tag })

  -- the instance that a walk comes to
  module _ {h r : ℕ} (L : Legible w c) (i : HandleAt w c tag_instance h) (e : h ≡ r + 1) where
    pub own_here : (k : Kind) → ListAt w r (own_word k)
    own_here k = let z : h - 1 ≡ r = omega arith in rw z at (own_list L i (omega arith) k)

    pub instance_on : {v : ℕ} → HandleBelow (clip r (cell w r 8)) r v → HandleAt w c tag_instance v
    instance_on b = let z : r ≡ h - 1 = omega arith in instance_next L i (omega arith) (rw z at b)

-- ---- instances read by their words

abbrev instance_cells : List ℕ → ℕ → InstanceRead
instance_cells w r =
    record { name = cell w r 2; extra_roots = cell_chain (root_cell w) w (cell w r 3) (cell w r 3); routes = cell_chain (route_cells w) w (cell w r 4) (cell w r 4); is_map = cell_chain (association_cells w) w (cell w r 5) (cell w r 5) }

module _ {w : List ℕ} {c : ℕ} (L : Legible w c) where
  instance_read : (r : ℕ) → r < c → cell w r 0 ≡ tag_instance → instance_rec w r ≡ instance_cells w r
  instance_read r lt e =
      let x : InstanceClosed w r = closed L lt e in
      rw (
        kept_is w r tag_instance 1 (cell w r 1) e (omega arith) refl,
        kept_is w r tag_instance 2 (cell w r 2) e (omega arith) refl,
        roots_read L.owned (cell w r 1) r (omega arith) x.roots,
        routes_read L.owned (cell w r 1) r (omega arith) x.routes,
        map_read L.owned (cell w r 1) r (omega arith) x.is_map,
      )

  instances_read : {h : ℕ} → HandleAt w c tag_instance h → instances_at w h ≡ scan (instance_cells w) (λ r. cell w r 8) h h
  unfolding instances_at
  instances_read {h} i =
      scan_on (λ r. cell w r 0 ≡ tag_instance) (instance_cells w) (instance_rec w) (λ r. cell w r 8) (λ r. fixed_word w r 8) h h
      (λ r l e. instance_read r (omega (arith, i.low)) e) (λ r l e. kept_is w r tag_instance 8 (cell w r 8) e (omega arith) refl)
      (λ r l e some. ((L.fair.each r (omega (arith, i.low))).linked (rw e)).tag some ∙ e) i.tag

-- ---- a list of an instance and those nested in it

module _ (k : Kind) (w : List ℕ) where
  -- no instance has none
  pub nested_end : {h : ℕ} → h ≤ 0 → nested_rows k w h ≡ []
  unfolding nested_rows scan
  nested_end {h} le = let e : h ≡ 0 = omega arith in rw e

  module _ {h v : ℕ} (lt : 0 < h) (b : HandleBelow (clip (h - 1) (cell w (h - 1) 8)) (h - 1) v) where
    -- an instance's own rows, and then those of the nested one
    pub nested_step : nested_rows k w h ≡ list_rows k w (cell w (h - 1) (own_word k)) ++ nested_rows k w v
    unfolding nested_rows
    nested_step = ap (flat (λ r. list_rows k w (cell w r (own_word k)))) (scan_back (λ r. r) (λ r. cell w r 8) h v lt b.same)

    nested_length : length (nested_rows k w h) ≡ length (nested_rows k w v) + length (list_rows k w (cell w (h - 1) (own_word k)))
    nested_length = ap length nested_step ∙ length-append (list_rows k w (cell w (h - 1) (own_word k))) (nested_rows k w v) ∙ omega arith

    -- the nested ones' are written first
    pub nested_stage : {o : List ℕ} {e : ℕ} → RowsFit (nested_rows k w h) o e → Stage (nested_rows k w h) (nested_rows k w v ∷ list_rows k w (cell w (h - 1) (own_word k)) ∷ []) o o e e
    nested_stage m = split nested_step (begin_one m)

  module _ {h cur n : ℕ} (r : ℕ) (u : Summing (nested_rows k w) h cur n) (z : cur ≡ r + 1) where
    here_length : {v : ℕ} → HandleBelow (clip r (cell w r 8)) r v → length (nested_rows k w cur) ≡ length (nested_rows k w v) + length (list_rows k w (cell w r (own_word k)))
    here_length b = let q : r ≡ cur - 1 = omega arith in rw q (nested_length (omega arith) (rw q at b))

    -- the count stays within the whole
    pub nested_room : n + length (list_rows k w (cell w r (own_word k))) ≤ length (nested_rows k w h)
    nested_room = sum_room (nested_rows k w) u (clip r (cell w r 8)) (length (list_rows k w (cell w r (own_word k)))) (here_length (some_below w r))

    -- an instance's own rows are counted
    pub nested_again : {v m : ℕ} → HandleBelow (clip r (cell w r 8)) r v → m ≡ length (list_rows k w (cell w r (own_word k))) → Summing (nested_rows k w) h v (n + m)
    nested_again b e = sum_again (nested_rows k w) u (omega (arith, z, b.low)) (here_length b) e

-- ---- an instance

module _ (w : List ℕ) where
  roots_rows : (L : List ℕ) → map id_row (merged_roots (map (instance_cells w) L)) ≡ flat (λ r. list_rows Roots w (cell w r 3)) L
  unfolding merged_roots list_rows
  roots_rows [] = refl
  roots_rows (r ∷ L) = rw (map_append id_row (instance_cells w r).extra_roots (merged_roots (map (instance_cells w) L)), chain_rows_lem w (root_cell w) (cell w r 3) id_row, roots_rows L)

  routes_rows : (L : List ℕ) → map route_row (merged_routes (map (instance_cells w) L)) ≡ flat (λ r. list_rows Routes w (cell w r 4)) L
  unfolding merged_routes list_rows
  routes_rows [] = refl
  routes_rows (r ∷ L) = rw (map_append route_row (instance_cells w r).routes (merged_routes (map (instance_cells w) L)), chain_rows_lem w (route_cells w) (cell w r 4) route_row, routes_rows L)

  -- its first row, with the lengths of its lists
  abbrev pub instance_row : ℕ → List Row → List Row → List Row → Row
  instance_row r a b c = row 13 (cell w r 2) (length a) (length b) (length c) 0 0 0

  shape : (r : ℕ) (L : List ℕ) → any_instance_rows (merged (map (instance_cells w) (r ∷ L)))
      ≡ instance_row r (flat (λ n. list_rows Roots w (cell w n 3)) (r ∷ L)) (flat (λ n. list_rows Routes w (cell w n 4)) (r ∷ L)) (list_rows Associations w (cell w r 5))
      ∷ ((flat (λ n. list_rows Roots w (cell w n 3)) (r ∷ L) ++ flat (λ n. list_rows Routes w (cell w n 4)) (r ∷ L)) ++ list_rows Associations w (cell w r 5))
  unfolding merged merged_roots merged_routes list_rows
  shape r L =
      let a = merged_roots (map (instance_cells w) (r ∷ L)) in
      let b = merged_routes (map (instance_cells w) (r ∷ L)) in
      let c = (instance_cells w r).is_map in
      let ea = roots_rows (r ∷ L) in
      let eb = routes_rows (r ∷ L) in
      let ec = chain_rows_lem w (association_cells w) (cell w r 5) association_row in
      let la = sym (length-map a id_row) ∙ ap length ea in
      let lb = sym (length-map b route_row) ∙ ap length eb in
      let lc = sym (length-map c association_row) ∙ ap length ec in
      rw (la, lb, lc, ea, eb, ec)

  module _ (h : ℕ) where
    abbrev roots : List Row
    roots = nested_rows Roots w h

    abbrev routes : List Row
    routes = nested_rows Routes w h

    abbrev is_map : List Row
    is_map = list_rows Associations w (cell w (h - 1) 5)

    -- an instance's first row, its roots, its routes, its associations, from the last on
    abbrev pub instance_parts : List (List Row)
    instance_parts = is_map ∷ routes ∷ roots ∷ (instance_row (h - 1) roots routes is_map ∷ []) ∷ []

    -- its counts are what its lists took
    pub instance_first : {o o1 o2 o3 : List ℕ} {e a b d name : ℕ} {x : Row} → Wrote is_map o o1 e a → Wrote routes o1 o2 a b → Wrote roots o2 o3 b d → name ≡ cell w (h - 1) 2 → x ≡ row 13 name (b - d) (a - b) (e - a) 0 0 0
        → x ≡ instance_row (h - 1) roots routes is_map
    instance_first {e = e} {a = a} {b = b} {d = d} u v t n q =
        let z1 : b - d ≡ length roots = omega (arith, t.sum) in
        let z2 : a - b ≡ length routes = omega (arith, v.sum) in
        let z3 : e - a ≡ length is_map = omega (arith, u.sum) in
        q ∙ rw (n, z1, z2, z3)

  -- no instance has no rows
  pub instance_none : {h : ℕ} → h ≤ 0 → any_instance_rows (instance_at w h) ≡ []
  unfolding instances_at scan merged
  instance_none {h} le = let e : h ≡ 0 = omega arith in rw e

module _ {w : List ℕ} {c h : ℕ} (L : Legible w c) (i : HandleAt w c tag_instance h) (lt : 0 < h) where
  instance_shape : any_instance_rows (instance_at w h) ≡ backwards (instance_parts w h)
  unfolding nested_rows backwards
  instance_shape =
      let v : ℕ = clip (h - 1) (cell w (h - 1) 8) in
      let l : List ℕ = scan (λ r. r) (λ r. cell w r 8) v v in
      let e : scan (λ r. r) (λ r. cell w r 8) h h ≡ (h - 1) ∷ l = scan_back (λ r. r) (λ r. cell w r 8) h v lt refl in
      ap (λ (l : List _). any_instance_rows (merged l)) (instances_read L i ∙ scan_map (instance_cells w) (λ r. cell w r 8) h h ∙ ap (map (instance_cells w)) e) ∙ shape w (h - 1) l ∙ rw e

  -- so many rows an instance has
  pub instance_length : length (any_instance_rows (instance_at w h)) ≡ 1 + length (nested_rows Roots w h) + length (nested_rows Routes w h) + length (list_rows Associations w (cell w (h - 1) 5))
  unfolding backwards
  instance_length = ap length instance_shape ∙ omega (arith, length-append (nested_rows Roots w h ++ nested_rows Routes w h) (list_rows Associations w (cell w (h - 1) 5)), length-append (nested_rows Roots w h) (nested_rows Routes w h))

  -- its blocks, to be written from the last on
  pub instance_stage : {o : List ℕ} {e : ℕ} → RowsFit (any_instance_rows (instance_at w h)) o e → Stage (any_instance_rows (instance_at w h)) (instance_parts w h) o o e e
  instance_stage m = begin m instance_shape
