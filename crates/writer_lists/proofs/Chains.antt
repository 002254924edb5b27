-- A chain walked from its last record is its list printed from the end.
use mathlib.Core.Path.{◌≡◌, refl, sym, ap, ◌∙◌}
use mathlib.Core.Bool.{Bool, true, false}
use mathlib.Core.List.{List, [], ◌∷◌, ◌++◌, map, append-nil, append_assoc}
use Prim.Native.Nat.{ℕ, zero, suc, ◌+◌, ◌≤◌}
use native.Mathlib.Omega.{arith}
use lib.ListN.{length, length-append}
use lib.Dec.{eqb}
use Rattle.ast.specs.Choice.{choose}
use Rattle.sheet_rows.specs.declared.row.Row.{Row}
use Rattle.ast.specs.Lists.{flat}
use Rattle.sheet_rows.specs.Print.{id_row}
use Rattle.journal_records.specs.Records.{cell}
use Rattle.journal_records.specs.Logs.{scan, rev_onto}
use Rattle.journal_records.specs.Lists.{clip, HandleBelow, records_of}
use Rattle.journal_records.proofs.Handles.{some_below, scan_clip, scan_step}
use Rattle.journal_reading.proofs.Chains.{rev_front}
use Rattle.journal_reading.proofs.Walks.{rev_length}
use Rattle.writer_lists.specs.Writing.{Wrote, RowsFit}
use Rattle.writer_lists.specs.Cells.{cell_chain}
use Rattle.writer_lists.specs.Lists.{chain_rows, id_rows}
use Rattle.writer_lists.proofs.Walks.{Walking, walk_room, walk_again, walk_stop, Summing, sum_room, sum_again, sum_stop}

-- ---- the lists of each, one after another

module _ {A B : Type 0} (f : A → List B) where
  -- of two lists
  pub flat_append : (a b : List A) → flat f (a ++ b) ≡ flat f a ++ flat f b
  flat_append [] b = refl
  flat_append (x ∷ a) b = rw (flat_append a b) (sym (append_assoc (f x) (flat f a) (flat f b)))

  -- of one
  flat_one : (x : A) → flat f (x ∷ []) ≡ f x
  flat_one x = append-nil (f x)

  -- of what a list is read as
  pub flat_map : {C : Type 0} (d : C → A) (l : List C) → flat f (map d l) ≡ flat (λ c. f (d c)) l
  flat_map d [] = refl
  flat_map d (c ∷ l) = rw (flat_map d l)

-- one row for each
map_each : {A B : Type 0} (f : A → Row) (d : B → A) (l : List B) → map f (map d l) ≡ flat (λ b. f (d b) ∷ []) l
map_each f d [] = refl
map_each f d (b ∷ l) = rw (map_each f d l)

-- ---- chains

module _ {A : Type 0} (d : ℕ → A) (p : ℕ → ℕ) where
  -- a chain's records are read after its places are found
  pub scan_map : (r h : ℕ) → scan d p r h ≡ map d (scan (λ k. k) p r h)
  unfolding scan
  scan_map zero h = refl
  scan_map (suc r) h = by (eqb h (suc r)) (scan_map r (p r)) (scan_map r h)
    where
      by : (t : Bool) → scan d p r (p r) ≡ map d (scan (λ k. k) p r (p r)) → scan d p r h ≡ map d (scan (λ k. k) p r h) → choose t (d r ∷ scan d p r (p r)) (scan d p r h) ≡ map d (choose t (r ∷ scan (λ k. k) p r (p r)) (scan (λ k. k) p r h))
      by true x y = rw x
      by false x y = y

rev_map : {A B : Type 0} (d : A → B) (xs ys : List A) → rev_onto (map d xs) (map d ys) ≡ map d (rev_onto xs ys)
unfolding rev_onto
rev_map d [] ys = refl
rev_map d (x ∷ xs) ys = rev_map d xs (x ∷ ys)

-- ---- printed

module _ {A : Type 0} (w : List ℕ) (d : ℕ → A) (h : ℕ) where
  chain_map : cell_chain d w h h ≡ map d (cell_chain (λ r. r) w h h)
  chain_map = rw (scan_map d (λ r. cell w r 8) h h) (rev_map d (scan (λ r. r) (λ r. cell w r 8) h h) [])

  -- the rows of what a chain's records are read as
  pub chain_each : (f : A → List Row) → flat f (cell_chain d w h h) ≡ chain_rows (λ r. f (d r)) w h
  unfolding chain_rows
  chain_each f = ap (flat f) chain_map ∙ flat_map f d (cell_chain (λ r. r) w h h)

  -- one row for each record
  pub chain_rows_lem : (f : A → Row) → map f (cell_chain d w h h) ≡ chain_rows (λ r. f (d r) ∷ []) w h
  unfolding chain_rows
  chain_rows_lem f = ap (map f) chain_map ∙ map_each f d (cell_chain (λ r. r) w h h)

-- a value's ids, looked for below its record
pub ids_rows : (w : List ℕ) (r g : ℕ) → map id_row (cell_chain (λ k. cell w k 1) w r g) ≡ id_rows w (clip r g)
ids_rows w r g =
    ap (λ (l : List ℕ). map id_row (rev_onto l [])) (scan_clip (λ k. cell w k 1) (λ k. cell w k 8) r g) ∙ chain_rows_lem w (λ k. cell w k 1) (clip r g) id_row

-- a row for each
flat_each : {A : Type 0} (f : A → Row) (l : List A) → length (flat (λ a. f a ∷ []) l) ≡ length l
flat_each f [] = refl
flat_each f (x ∷ l) = rw (flat_each f l)

-- as many ids as the list has records
pub ids_count : (w : List ℕ) (h : ℕ) → length (records_of w h) ≡ length (id_rows w h)
unfolding records_of chain_rows
ids_count w h =
    let s : List ℕ = scan (λ r. r) (λ r. cell w r 8) h h in
    omega (arith, rev_length s [], flat_each (λ r. id_row (cell w r 1)) (rev_onto s []))

module _ (g : ℕ → List Row) (w : List ℕ) where
  -- the law of a chain: its rows are those of the chain before its last record, and then that record's
  pub chain_step : {h r v : ℕ} → h ≡ r + 1 → HandleBelow (clip r (cell w r 8)) r v → chain_rows g w h ≡ chain_rows g w v ++ g r
  unfolding chain_rows rev_onto
  chain_step {h} {r} {v} e b =
      let s : List ℕ = scan (λ k. k) (λ k. cell w k 8) v v in
      rw e (
      ap (λ (l : List ℕ). flat g (rev_onto l [])) (scan_step (λ (k : ℕ). k) (λ k. cell w k 8) r v b.same)
      ∙ ap (flat g) (rev_front s (r ∷ [])) ∙ flat_append g (rev_onto s []) (r ∷ []) ∙ ap (λ (l : List Row). flat g (rev_onto s []) ++ l) (flat_one g r)
      )

  -- an empty chain has none
  pub chain_end : {h : ℕ} → h ≡ 0 → chain_rows g w h ≡ []
  unfolding chain_rows scan rev_onto
  chain_end e = rw e

  length_step : {h r v : ℕ} → h ≡ r + 1 → HandleBelow (clip r (cell w r 8)) r v → length (chain_rows g w h) ≡ length (chain_rows g w v) + length (g r)
  length_step {h} {r} {v} e b = ap length (chain_step e b) ∙ length-append (chain_rows g w v) (g r)

  -- ---- the loop that writes a chain, and the one that counts its rows

  module _ {o₀ o : List ℕ} {h e cur p : ℕ} (u : Walking (chain_rows g w) o₀ o h e cur p) where
    -- there is room for the last record's rows
    pub chain_room : {r : ℕ} → cur ≡ r + 1 → RowsFit (g r) o p
    chain_room {r} z = walk_room (chain_rows g w) u (clip r (cell w r 8)) (chain_step z (some_below w r))

    -- they are written: on to the record before
    pub chain_again : {r v : ℕ} {o1 : List ℕ} {p1 : ℕ} → cur ≡ r + 1 → HandleBelow (clip r (cell w r 8)) r v → Wrote (g r) o o1 p p1 → Walking (chain_rows g w) o₀ o1 h e v p1
    chain_again z b x = walk_again (chain_rows g w) u (omega (arith, z, b.low)) (chain_step z b) x

    -- the whole chain is written
    pub chain_stop : cur ≡ 0 → Wrote (chain_rows g w h) o₀ o e p
    chain_stop z = walk_stop (chain_rows g w) u (chain_end z)

  module _ {h cur n : ℕ} (u : Summing (chain_rows g w) h cur n) where
    -- the count stays within the whole
    pub count_room : (r : ℕ) → cur ≡ r + 1 → n + length (g r) ≤ length (chain_rows g w h)
    count_room r z = sum_room (chain_rows g w) u (clip r (cell w r 8)) (length (g r)) (length_step z (some_below w r))

    -- the last record's rows are counted
    pub count_again : {r v m : ℕ} → cur ≡ r + 1 → HandleBelow (clip r (cell w r 8)) r v → m ≡ length (g r) → Summing (chain_rows g w) h v (n + m)
    count_again z b e = sum_again (chain_rows g w) u (omega (arith, z, b.low)) (length_step z b) e

    -- the whole chain is counted
    pub count_stop : cur ≡ 0 → n ≡ length (chain_rows g w h)
    count_stop z = sum_stop (chain_rows g w) u (chain_end z)
