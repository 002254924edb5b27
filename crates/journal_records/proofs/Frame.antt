-- Which words stay the same, and what reads only those.
use mathlib.Core.Path.{◌≡◌, refl, sym, ap, ◌∙◌}
use mathlib.Core.List.{List, [], ◌∷◌, ◌++◌, append-nil}
use mathlib.Core.Bool.{Bool, true, false}
use mathlib.Core.Option.{some}
use Prim.Native.Nat.{ℕ, ◌+◌, ◌<◌, ◌≤◌}
use native.Mathlib.Omega.{arith}
use lib.Dec.{eqb}
use borrow.Author.Tests.{ne_eqb}
use Rattle.ast.specs.Choice.{choose}
use Rattle.journal_records.specs.Records.{tag_node, tag_scope, tag_route, keyed, cell, stays, Same, Steady, Fixed, SetWord}
use Rattle.journal_records.specs.Logs.{newest_below, newest_of, count_below, scan, log_up, log_down, only}
use Rattle.journal_records.proofs.Cells.{set_cell}
use Rattle.journal_records.proofs.Lists.{last_same, newest_same, newest_here, newest_other, count_same, count_here, count_other, scan_same, scan_low, scan_push, up_same, down_same, up_one, down_one, only_here, only_other}

-- ---- how many words stay, by the tag
-- what holds of each number of words holds of that of any tag
stays_by : (P : ℕ → Type 0) → P 3 → P 9 → P 10 → P 12 → (t : ℕ) → P (stays t)
stays_by P n s r o t = by (eqb t tag_node) (eqb t tag_scope) (eqb t tag_route) (keyed t)
  where
    by : (x y z u : Bool) → P (choose x 3 (choose y 9 (choose z 10 (choose u 9 12))))
    by true y z u = n
    by false true z u = s
    by false false true u = r
    by false false false true = s
    by false false false false = o

pub stays_least : (t : ℕ) → 3 ≤ stays t
stays_least = stays_by (λ k. 3 ≤ k) (omega arith) (omega arith) (omega arith) (omega arith)

pub stays_most : (t : ℕ) → stays t ≤ 12
stays_most = stays_by (λ k. k ≤ 12) (omega arith) (omega arith) (omega arith) (omega arith)

-- all but a node's keep nine
pub stays_nine : (t : ℕ) → (t ≡ tag_node → ⊥) → 9 ≤ stays t
stays_nine t a = rw (ne_eqb t tag_node a) (by (eqb t tag_scope) (eqb t tag_route) (keyed t))
  where
    by : (y z u : Bool) → 9 ≤ choose y 9 (choose z 10 (choose u 9 12))
    by true z u = omega arith
    by false true u = omega arith
    by false false true = omega arith
    by false false false = omega arith

-- ---- a record whose words that never change are the same
module _ {r : ℕ} {w w' : List ℕ} (s : Steady r w w') where
  pub steady_first : (j : ℕ) → j < 3 → cell w' r j ≡ cell w r j
  steady_first j lj = s.keeps j (omega (arith, stays_least (cell w r 0)))

  pub steady_tag : cell w' r 0 ≡ cell w r 0
  steady_tag = steady_first 0 (omega arith)

  -- by its tag
  pub steady_is : (t : ℕ) → cell w r 0 ≡ t → (j : ℕ) → j < stays t → cell w' r j ≡ cell w r j
  steady_is t e j lj = s.keeps j (rw e lj)

pub steady_refl : (r : ℕ) (w : List ℕ) → Steady r w w
steady_refl r w = record { keeps = λ j lj. refl }

pub steady_trans : {r : ℕ} {w w' w'' : List ℕ} → Steady r w w' → Steady r w' w'' → Steady r w w''
steady_trans s t = record { keeps = λ j lj. t.keeps j (rw (steady_tag s) lj) ∙ s.keeps j lj }

-- ---- all records below a place
pub same_fixed : {c : ℕ} {w w' : List ℕ} → Same c w w' → Fixed c w w'
same_fixed {c} {w} s = record { steady = λ r lr. record { keeps = λ j lj. s.keeps r j lr (omega (arith, stays_most (cell w r 0))) } }

pub fixed_refl : (c : ℕ) (w : List ℕ) → Fixed c w w
fixed_refl c w = record { steady = λ r lr. steady_refl r w }

pub fixed_trans : {c c' : ℕ} {w w' w'' : List ℕ} → c ≤ c' → Fixed c w w' → Fixed c' w' w'' → Fixed c w w''
fixed_trans le s t = record { steady = λ r lr. steady_trans (s.steady r lr) (t.steady r (omega arith)) }

pub fixed_less : {c c' : ℕ} {w w' : List ℕ} → c ≤ c' → Fixed c' w w' → Fixed c w w'
fixed_less le s = record { steady = λ r lr. s.steady r (omega arith) }

-- a word that may change is set
pub set_fixed : (c : ℕ) {w w' : List ℕ} {n j v : ℕ} → SetWord w w' n j v → j < 12 → stays (cell w n 0) ≤ j → Fixed c w w'
set_fixed c {w} {w'} {n} {j} {v} s lj st = record {
  steady = λ r lr. record {
    keeps = λ i li.
        set_cell w w' n j v lj s r i (omega (arith, stays_most (cell w r 0))) (λ e q. let z : stays (cell w n 0) ≡ stays (cell w r 0) = ap (λ (k : ℕ). stays (cell w k 0)) (sym e) in omega arith);
  };
}

-- ---- what reads only words that never change
pub record Stable {A : Type 0} (g : List ℕ → ℕ → A) : Type 0 where
  pub same : (r : ℕ) (w w' : List ℕ) → Steady r w w' → g w' r ≡ g w r

-- so it is where a test passes
pub record StableOn {A : Type 0} (p : List ℕ → ℕ → Bool) (g : List ℕ → ℕ → A) : Type 0 where
  pub same : (r : ℕ) (w w' : List ℕ) → Steady r w w' → p w r ≡ true → g w' r ≡ g w r

module _ {A : Type 0} {p : List ℕ → ℕ → Bool} {d : List ℕ → ℕ → A} (sp : Stable p) (sd : StableOn p d) where
  pub stable_only : Stable (λ w. only (p w) (d w))
  unfolding only
  stable_only = record { same = λ r w w' s. rw (sp.same r w w' s) (by (p w r) (d w' r) (d w r) (sd.same r w w' s)) }
    where
      by : (t : Bool) (x y : A) → (t ≡ true → x ≡ y) → ◌≡◌ {A = List A} (choose t (x ∷ []) []) (choose t (y ∷ []) [])
      by true x y h = rw (h refl)
      by false x y h = refl

module _ {c : ℕ} {w w' : List ℕ} (f : Fixed c w w') where
  pub last_fixed : (p : List ℕ → ℕ → Bool) → Stable p → newest_below (p w') c ≡ newest_below (p w) c
  last_fixed p s = last_same (p w) (p w') c (λ r lr. s.same r w w' (f.steady r lr))

  pub newest_fixed : (p : List ℕ → ℕ → Bool) → Stable p → newest_of (p w') c ≡ newest_of (p w) c
  newest_fixed p s = newest_same (p w) (p w') c (λ r lr. s.same r w w' (f.steady r lr))

  pub count_fixed : (p : List ℕ → ℕ → Bool) → Stable p → count_below (p w') c ≡ count_below (p w) c
  count_fixed p s = count_same (p w) (p w') c (λ r lr. s.same r w w' (f.steady r lr))

  -- one record more, that passes or does not
  module _ (p : List ℕ → ℕ → Bool) (s : Stable p) where
    pub newest_new : p w' c ≡ true → newest_of (p w') (c + 1) ≡ some c
    newest_new e = newest_here (p w') c e

    pub newest_kept : p w' c ≡ false → newest_of (p w') (c + 1) ≡ newest_of (p w) c
    newest_kept e = newest_other (p w') c e ∙ newest_fixed p s

    pub count_new : p w' c ≡ true → count_below (p w') (c + 1) ≡ count_below (p w) c + 1
    count_new e = count_here (p w') c e ∙ rw (count_fixed p s)

    pub count_kept : p w' c ≡ false → count_below (p w') (c + 1) ≡ count_below (p w) c
    count_kept e = count_other (p w') c e ∙ count_fixed p s

  module _ {A : Type 0} where
    pub up_fixed : (g : List ℕ → ℕ → List A) → Stable g → log_up (g w') c ≡ log_up (g w) c
    up_fixed g s = up_same (g w) (g w') c (λ r lr. s.same r w w' (f.steady r lr))

    pub down_fixed : (g : List ℕ → ℕ → List A) → Stable g → log_down (g w') c ≡ log_down (g w) c
    down_fixed g s = down_same (g w) (g w') c (λ r lr. s.same r w w' (f.steady r lr))

    pub scan_fixed : (d : List ℕ → ℕ → A) (prev : List ℕ → ℕ → ℕ) → Stable d → Stable prev → (h : ℕ) → scan (d w') (prev w') c h ≡ scan (d w) (prev w) c h
    scan_fixed d prev s t h = scan_same (d w) (d w') (prev w) (prev w') c h (λ r lr. s.same r w w' (f.steady r lr)) (λ r lr. t.same r w w' (f.steady r lr))

    -- one record more
    pub up_grown : (g : List ℕ → ℕ → List A) → Stable g → log_up (g w') (c + 1) ≡ log_up (g w) c ++ g w' c
    up_grown g s = up_one (g w') c ∙ rw (up_fixed g s)

    pub up_kept : (g : List ℕ → ℕ → List A) → Stable g → g w' c ≡ [] → log_up (g w') (c + 1) ≡ log_up (g w) c
    up_kept g s e = up_grown g s ∙ rw e (append-nil (log_up (g w) c))

    pub down_grown : (g : List ℕ → ℕ → List A) → Stable g → log_down (g w') (c + 1) ≡ g w' c ++ log_down (g w) c
    down_grown g s = down_one (g w') c ∙ rw (down_fixed g s)

    pub down_kept : (g : List ℕ → ℕ → List A) → Stable g → g w' c ≡ [] → log_down (g w') (c + 1) ≡ log_down (g w) c
    down_kept g s e = down_grown g s ∙ rw e

    -- the records that pass a test
    module _ (p : List ℕ → ℕ → Bool) (d : List ℕ → ℕ → A) (sp : Stable p) (sd : StableOn p d) where
      pub only_new : p w' c ≡ true → log_up (only (p w') (d w')) (c + 1) ≡ log_up (only (p w) (d w)) c ++ (d w' c ∷ [])
      only_new e = up_grown (λ u. only (p u) (d u)) (stable_only sp sd) ∙ rw (only_here (p w') (d w') c e)

      pub only_kept : p w' c ≡ false → log_up (only (p w') (d w')) (c + 1) ≡ log_up (only (p w) (d w)) c
      only_kept e = up_kept (λ u. only (p u) (d u)) (stable_only sp sd) (only_other (p w') (d w') c e)

    -- a chain whose last record is below, and one with a record more
    module _ (d : List ℕ → ℕ → A) (prev : List ℕ → ℕ → ℕ) (s : Stable d) (t : Stable prev) where
      pub chain_fixed : (h : ℕ) → h ≤ c → scan (d w') (prev w') h h ≡ scan (d w) (prev w) h h
      chain_fixed h le = scan_same (d w) (d w') (prev w) (prev w') h h (λ r lr. s.same r w w' (f.steady r (omega arith))) (λ r lr. t.same r w w' (f.steady r (omega arith)))

      pub chain_new : (h : ℕ) → prev w' c ≡ h → h ≤ c → scan (d w') (prev w') (c + 1) (c + 1) ≡ d w' c ∷ scan (d w) (prev w) h h
      chain_new h e le = scan_push (d w') (prev w') c ∙ rw (e, scan_low (d w') (prev w') c h le, chain_fixed h le)
