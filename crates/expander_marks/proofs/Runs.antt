-- Entries that are kept, one after another; how far a list is looked through.
use mathlib.Core.Path.{◌≡◌, refl, sym, ap, ◌∙◌}
use mathlib.Core.Bool.{Bool, true, false}
use mathlib.Core.List.{List, [], ◌∷◌}
use Prim.Native.Nat.{ℕ, zero, suc, ◌+◌, ◌-◌, ◌≤◌, ◌<◌}
use native.Mathlib.Omega.{arith}
use lib.ListN.{get_or, drop}
use lib.Seq.{get_or-drop, drop-drop}
use lib.Dec.{eqb, ltb}
use borrow.Author.Tests.{eqb-true, eqb-false, eq-eqb, ne_eqb, lt-ltb}
use Rattle.std.specs.Int.{from_bool}
use Rattle.expander_marks.specs.declared.Reach.{Reach}
use Rattle.expander_marks.specs.declared.Run.{Run}
use Rattle.expander_marks.specs.Contract.{RunFrom, Ahead, reach_after}

-- what stands at a place, of the list from there on
first_at_lem : (l : List Bool) (n : ℕ) → get_or l n false ≡ get_or (drop n l) 0 false
first_at_lem l n = let e : n + 0 ≡ n = omega arith in sym (rw e at (get_or-drop n l 0 false))

-- the same place, reckoned in two ways
drop_to : (l : List Bool) {m n : ℕ} → m ≡ n → drop m l ≡ drop n l
drop_to l e = ap (λ (k : ℕ). drop k l) e

drop_more : (l : List Bool) (n : ℕ) → drop 1 (drop n l) ≡ drop (n + 1) l
drop_more l n = drop-drop 1 n l

pub at_most_one : (b : Bool) {n : ℕ} → n ≡ from_bool b → n ≤ 1
at_most_one true e = omega (arith, e)
at_most_one false e = omega (arith, e)

-- ---- a run, as it is found
pub record Running (K : ℕ → List Bool) (n from count at : ℕ) : Type 0 where
  pub all : (j : ℕ) → j < count → get_or (K from) j false ≡ true
  pub rest : K at ≡ drop count (K from)
  pub few : count ≤ at
  pub low : count ≤ n

module _ (K : ℕ → List Bool) (n from : ℕ) where
  pub run_start : Running K n from 0 from
  run_start = record { all = λ j h. absurd (omega arith); rest = refl; few = omega arith; low = omega arith }

  module _ {count at : ℕ} (x : Running K n from count at) where
    pub run_end : K at ≡ [] → ((m : ℕ) → n ≤ m → K m ≡ []) → {row : ℕ} → row ≡ n → RunFrom K n from (record { count = count; row = row })
    run_end e none q = record {
      all = x.all;
      stop = first_at_lem (K from) count ∙ rw (← x.rest, e);
      rest = rw (q, none n (omega arith), ← x.rest, e);
      past = rw (q, none (n + 1) (omega arith), ← drop_more (K from) count, ← x.rest, e);
      few = x.low;
      low = omega arith;
    }

    module _ {q : ℕ} (b : q < n) where
      pub run_stop : {f : Bool} → K at ≡ f ∷ K (q + 1) → f ≡ false → K q ≡ K at → RunFrom K n from (record { count = count; row = q })
      run_stop e z h = record {
        all = x.all;
        stop = first_at_lem (K from) count ∙ rw (← x.rest, e) z;
        rest = h ∙ x.rest;
        past = rw (← drop_more (K from) count, ← x.rest, e);
        few = x.low;
        low = omega arith;
      }

      pub run_more : {f : Bool} → at ≤ q → K at ≡ f ∷ K (q + 1) → f ≡ true → Running K n from (count + 1) (q + 1)
      run_more a e z = record {
        all = λ j h. by j h (eqb j count) refl;
        rest = rw (← drop_more (K from) count, ← x.rest, e);
        few = omega (arith, x.few);
        low = omega (arith, x.few);
      }
        where
          by : (j : ℕ) → j < count + 1 → (t : Bool) → eqb j count ≡ t → get_or (K from) j false ≡ true
          by j h true u = rw (eqb-true j count u) (first_at_lem (K from) count ∙ rw (← x.rest, e) z)
          by j h false u = x.all j (let z = eqb-false j count u in omega (arith, z))

-- ---- how far a list is looked through
module _ {K : ℕ → List Bool} {first p : ℕ} {x : Reach} (a : Ahead K first p x) where
  -- at a mark of another kind
  pub ahead_same : Ahead K first (p + 0) x
  ahead_same = rw (zero_more p) a
    where
      zero_more : (n : ℕ) → n + 0 ≡ n
      zero_more n = omega arith

  -- past an entry that is known to be kept
  pub ahead_kept : p < x.upto → get_or (K first) p false ≡ true
  ahead_kept h = a.all p (omega arith) h

  pub ahead_next : p < x.upto → Ahead K first (p + 1) x
  ahead_next h = record { from = omega arith; all = λ j b. a.all j (omega arith); rest = a.rest }

  -- past an entry that is looked at
  module _ (h : x.upto ≤ p) {n : ℕ} {r : Run} (y : RunFrom K n x.row r) where
    here : K x.row ≡ drop p (K first)
    here = let e : x.upto ≡ p = omega (arith, a.from) in rw e at a.rest

    flag : (j : ℕ) → get_or (K x.row) j false ≡ get_or (K first) (p + j) false
    flag j = rw here (get_or-drop p (K first) j false)

    pub ahead_is : ltb 0 r.count ≡ get_or (K first) p false
    ahead_is = by r.count refl
      where
        at_0 : get_or (K x.row) 0 false ≡ get_or (K first) p false
        at_0 = let e : p + 0 ≡ p = omega arith in rw e at (flag 0)

        by : (c : ℕ) → r.count ≡ c → ltb 0 c ≡ get_or (K first) p false
        by zero e = sym (rw e at y.stop) ∙ at_0
        by (suc c) e = lt-ltb 0 (suc c) (omega arith) ∙ sym (y.all 0 (omega arith)) ∙ at_0

    pub ahead_run : Ahead K first (p + 1) (reach_after p r)
    ahead_run = by r.count refl
      where
        by : (c : ℕ) → r.count ≡ c → Ahead K first (p + 1) (reach_after p r)
        by zero e = let z = eq-eqb r.count 0 e in record {
          from = rw z (omega arith);
          all = λ j b l. absurd (let l' : j < p + r.count + 1 = rw z at l in omega arith);
          rest = rw (z, y.past, here, drop-drop (r.count + 1) p (K first)) (drop_to (K first) {m = p + (r.count + 1)} {n = p + r.count + 1} (omega arith));
        }
        by (suc c) e = let z = ne_eqb r.count 0 (λ q. omega arith) in record {
          from = rw z (omega arith);
          all = λ j b l. let l' : j < p + r.count + 0 = rw z at l in let m : p + (j - p) ≡ j = omega arith in (rw m at (sym (flag (j - p)) ∙ y.all (j - p) (omega arith)));
          rest = rw (z, plain r.row, y.rest, here, drop-drop r.count p (K first)) (drop_to (K first) {m = p + r.count} {n = p + r.count + 0} (omega arith));
        }
          where
            plain : (m : ℕ) → m + 0 ≡ m
            plain m = omega arith
