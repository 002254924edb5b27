-- What the lookups rest on: that it stays where the words of the region do.
use mathlib.Core.Path.{◌≡◌, sym, ap, ◌∙◌}
use mathlib.Core.List.{List}
use Prim.Native.Nat.{ℕ, ◌+◌, ◌*◌, ◌≤◌, ◌<◌}
use native.Mathlib.Omega.{arith}
use lib.ListN.{length, get_or, take, drop, length-drop}
use lib.Seq.{length-take-le, get_or-take, get_or-drop}
use Rattle.sheet_rows.specs.Rows.{rows}
use Rattle.sheet_rows.proofs.RowLaws.{rows_length}
use Rattle.sheet_walks.specs.declared.walk.Found.{Found}
use Rattle.sheet_index.specs.Index.{Filled}
use Rattle.sheet_lookup.specs.Lookup.{sheet_of}
use Rattle.source_directory.specs.Directory.{number_of, row_of, stride_of, from_of, end_of, picks_place, cache_of, names_of, spread_of, group_part, index_place, filled_of, Slot}
use Rattle.source_names.specs.Names.{LastField, NameTable, NodeTabled, table_sheet}
use Rattle.source_lookup.specs.Sourced.{PickAt, SlotCached, Cached, Sourced, Region}
use Rattle.source_names.proofs.NameLaws.{sheet_small, listed_on}
use Rattle.source_directory.proofs.GroupLaws.{held_on}

-- the picks of a slot stay where their words do
slot_cached_on : {root library dir w w' : List ℕ} {lo hi u : ℕ} → SlotCached root library dir w lo hi u → ((k : ℕ) → lo ≤ k → k < hi → get_or w' k 0 ≡ get_or w k 0) → SlotCached root library dir w' lo hi u
slot_cached_on {dir = dir} {u = u} c same = record {
  from = c.from;
  upto = c.upto;
  is = λ i h. rw (same (picks_place dir u + 2 * i) (omega (arith, c.from)) (omega (arith, c.upto)), same (picks_place dir u + 2 * i + 1) (omega (arith, c.from)) (omega (arith, c.upto))) (c.is i h);
}

pub cache_wide : {root library dir w : List ℕ} {lo hi : ℕ} → lo ≤ hi → Cached root library dir w lo → Cached root library dir w hi
cache_wide h c = record {
  from = c.from;
  upto = omega (arith, c.upto);
  slots = λ u x z. let y = c.slots u x z in record { from = y.from; upto = omega (arith, y.upto); is = y.is };
}

module _ {root library dir w : List ℕ} (s : Sourced root library dir w) where
  -- slot 0 is the root's, document 0
  pub slot_root : Slot dir 0
  slot_root = record { upto = omega arith; real = λ h. absurd (omega arith) }

  pub slot_within : {u : ℕ} → Slot dir u → u < length dir
  slot_within x = omega (arith, x.upto, s.directory.few, s.directory.long)

  pub number_root : number_of dir 0 ≡ 0
  number_root = s.directory.number

  -- it stays where the words up to the end of the cache do
  module _ {w' : List ℕ} {hi : ℕ} (c : Cached root library dir w hi) (h : hi ≤ end_of dir) (same : (k : ℕ) → from_of dir ≤ k → k < hi → get_or w' k 0 ≡ get_or w k 0) where
    pub cache_on : Cached root library dir w' hi
    cache_on = record { from = c.from; upto = c.upto; slots = λ u x z. slot_cached_on (c.slots u x z) (λ k a b. same k (omega (arith, c.from)) b) }

    pub sourced_on : end_of dir ≤ length w' → Sourced root library dir w'
    sourced_on long = record {
      directory = s.directory;
      within = long;
      held = λ u g i x. held_on (s.held u g i x) (omega arith) (omega arith) (λ k a b. same k a (omega (arith, c.upto)));
      names = record { from = s.names.from; listed = listed_on s.names.listed (λ k a b. same k (omega (arith, s.names.from)) (omega (arith, c.upto))) };
      cache = cache_wide h cache_on;
    }

  -- the law of the region: it rests on no word of w but those of the region
  pub sourced_kept : (at len : ℕ) (w' : List ℕ) → Region dir at len → at + len ≤ length w' → ((k : ℕ) → at ≤ k → k < at + len → get_or w' k 0 ≡ get_or w k 0) → Sourced root library dir w'
  sourced_kept at len w' r long same =
      sourced_on s.cache (omega arith) (λ k a b. same k (omega (arith, r.from)) (omega (arith, r.end))) (omega (arith, r.end))

  -- ---- a pick in the cache

  module _ {u v at next : ℕ} (i : ℕ) (x : Slot dir u) (is_slot : v ≡ u) (is_at : at ≡ get_or dir (590 + v) 0 + 2 * i) (is_next : next ≡ get_or dir (590 + (v + 1)) 0) (h : at + 2 ≤ next) where
    pub pick_cached : PickAt root library dir w u i at × (at + 2 ≤ length w)
    pick_cached =
        let a : at ≡ picks_place dir u + 2 * i = rw is_slot at is_at in
        let b : next ≡ picks_place dir (u + 1) = rw is_slot at is_next in
        let c = s.cache.slots u x (omega arith) in
        (rw a (c.is i (omega arith)), omega (arith, c.upto, s.within))

  -- ---- a lookup by an index of the region

  module _ (u g : ℕ) (h : g < 3) (x : Slot dir u) where
    pub place_within : index_place dir u g ≤ length w
    place_within = omega (arith, (s.held u g h x).upto, s.cache.upto, s.within)

    module _ {m : ℕ} (e : m ≡ filled_of dir u g) where
      abbrev slots : List ℕ
      slots = take m (drop (index_place dir u g) w)

      slots_long : length slots ≡ m
      slots_long = length-take-le m (drop (index_place dir u g) w) (omega (arith, length-drop (index_place dir u g) w, (s.held u g h x).upto, s.cache.upto, s.within))

      pub filled_at : Filled (group_part g) (rows (sheet_of root library (number_of dir u))) (row_of dir u + 1) (stride_of dir) slots (length slots)
      filled_at = record {
        room = omega arith;
        slot = λ j i.
            let k : j < m = omega (arith, slots_long) in
            rw (get_or-take m (drop (index_place dir u g) w) j 0 k, get_or-drop (index_place dir u g) w j 0) ((s.held u g h x).slot j (omega (arith, e)));
      }

-- ---- the last field of a name

module _ {root library dir w : List ℕ} (s : Sourced root library dir w) (slot : ℕ) {doc : ℕ} {sheet : List ℕ} (is_sheet : sheet ≡ sheet_of root library doc) (is_doc : doc ≡ number_of dir slot) where
  sheet_is : sheet ≡ sheet_of root library (number_of dir slot)
  sheet_is = is_sheet ∙ ap (sheet_of root library) is_doc

  pub node_below : {n : ℕ} → n < length (rows (sheet_of root library (number_of dir slot))) → n < length (rows sheet)
  node_below h = rw sheet_is h

  pub last_of_lem : {n m : ℕ} {x : Found} → LastField m (rows sheet) n x → LastField m (rows (sheet_of root library (number_of dir slot))) n x
  last_of_lem l = rw sheet_is at l

  pub node_small : {n : ℕ} → n < length (rows (sheet_of root library (number_of dir slot))) → n ≤ 1048576
  node_small h =
      let e = is_sheet in
      omega (arith, node_below h, rows_length sheet, sheet_small root library doc e s.directory.root_small s.directory.small)

  -- by a node's table
  pub table_at : {n i p c h : ℕ} → n < length (rows (sheet_of root library (number_of dir slot))) → ((l : List ℕ) → n < length (rows (sheet_of root l doc)) → table_sheet root l i ≡ sheet_of root l doc) → p ≡ names_of dir → c ≡ spread_of dir → i < c → h ≡ get_or w (p + i) 0 → 0 < h → NodeTabled sheet w (names_of dir + spread_of dir) (cache_of dir) h
  table_at {n} {i} {p} {c} {h} k f a b g e z =
      let y : h ≡ get_or w (names_of dir + i) 0 = rw a at e in
      let v : sheet ≡ table_sheet root library i = is_sheet ∙ sym (f library (rw is_doc k)) in
      rw (v, y) (s.names.listed.table i (omega (arith, b)) (omega (arith, y)))

  module _ {lo h : ℕ} (t : NodeTabled sheet w lo (cache_of dir) h) where
    pub table_within : h + 2 + get_or w (h + 1) 0 ≤ length w
    table_within = omega (arith, t.upto, s.cache.upto, s.within)

    pub table_tells : {n x count : ℕ} → x ≡ get_or w h 0 → x ≡ n → count ≡ get_or w (h + 1) 0 → NameTable sheet n count w (h + 2)
    table_tells {n = n} a b c = let y : get_or w h 0 ≡ n = sym a ∙ b in let z = sym c in rw (y, z) at t.tells
