-- A loop that goes down over rows: what is left from a place on gives, with what is written or counted, the whole.
use mathlib.Core.Path.{◌≡◌, ap}
use mathlib.Core.List.{List, [], ◌∷◌, ◌++◌}
use Prim.Native.Nat.{ℕ, ◌+◌, ◌≤◌}
use native.Mathlib.Omega.{arith}
use lib.ListN.{length}
use Rattle.sheet_rows.specs.declared.row.Row.{Row}
use Rattle.writer_lists.specs.Writing.{Wrote, RowsFit}
use Rattle.writer_lists.proofs.Writing.{Stage, begin_one, room_of, next, split, skip, finish}

module _ (F : ℕ → List Row) where
  -- ---- written: F cur is left of F h

  pub record Walking (o₀ o : List ℕ) (h e cur p : ℕ) : Type 0 where
    pub low : cur ≤ h
    pub stage : Stage (F h) (F cur ∷ []) o₀ o e p

  -- nothing is written yet
  pub walk_begin : {o : List ℕ} {h e : ℕ} → RowsFit (F h) o e → Walking o o h e h e
  walk_begin m = record { low = omega arith; stage = begin_one m }

  module _ {o₀ o : List ℕ} {h e cur p : ℕ} (u : Walking o₀ o h e cur p) where
    -- there is room for the block before what is written
    pub walk_room : (v : ℕ) {b : List Row} → F cur ≡ F v ++ b → RowsFit b o p
    walk_room v q = room_of (split {x = F v} q u.stage)

    -- it is written
    pub walk_again : {v : ℕ} {b : List Row} {o1 : List ℕ} {p1 : ℕ} → v ≤ cur → F cur ≡ F v ++ b → Wrote b o o1 p p1 → Walking o₀ o1 h e v p1
    walk_again {v = v} le q x = record { low = omega (arith, u.low); stage = next (split {x = F v} q u.stage) x }

    -- nothing is left
    pub walk_stop : F cur ≡ [] → Wrote (F h) o₀ o e p
    walk_stop q = finish (skip q u.stage)

  -- ---- counted

  pub record Summing (h cur n : ℕ) : Type 0 where
    pub low : cur ≤ h
    pub sum : n + length (F cur) ≡ length (F h)

  -- nothing is counted yet
  pub sum_begin : {h : ℕ} → Summing h h 0
  sum_begin = record { low = omega arith; sum = omega arith }

  module _ {h cur n : ℕ} (u : Summing h cur n) where
    -- the count stays within the whole
    pub sum_room : (v m : ℕ) → length (F cur) ≡ length (F v) + m → n + m ≤ length (F h)
    sum_room v m q = omega (arith, u.sum)

    -- one more block is counted
    pub sum_again : {v m k : ℕ} → v ≤ cur → length (F cur) ≡ length (F v) + m → k ≡ m → Summing h v (n + k)
    sum_again le q e = record { low = omega (arith, u.low); sum = omega (arith, u.sum) }

    -- nothing is left
    pub sum_stop : F cur ≡ [] → n ≡ length (F h)
    sum_stop q = let z : length (F cur) ≡ 0 = ap length q in omega (arith, u.sum)
