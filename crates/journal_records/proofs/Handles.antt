-- Handles below a place, and the records of a list, one after another, as an iterator gives them.
use mathlib.Core.Path.{◌≡◌, refl, sym, ap, ◌∙◌}
use mathlib.Core.Bool.{Bool, true, false}
use mathlib.Core.List.{List, [], ◌∷◌}
use Prim.Native.Nat.{ℕ, zero, suc, ◌+◌, ◌<◌, ◌≤◌}
use native.Mathlib.Omega.{arith}
use lib.ListN.{length}
use lib.Dec.{leb}
use borrow.Author.Tests.{ne_eqb, leb-true, leb-false}
use Rattle.std.specs.Prelude.{Option, Some, None}
use Rattle.std.proofs.lemmas.Iterator.{YieldsList}
use Rattle.std.proofs.lemmas.Iterator.Consumers.{YieldsList-from_shown}
use Rattle.ast.specs.Choice.{choose}
use Rattle.journal_records.specs.declared.list.ListRecords.{ListRecords}
use Rattle.journal_records.specs.Records.{cell}
use Rattle.journal_records.specs.Logs.{scan}
use Rattle.journal_records.specs.Lists.{clip, HandleBelow, records_of, Steps}
use Rattle.journal_records.proofs.Lists.{scan_low, scan_push, scan_end}

-- ---- handles

-- a handle that is below the place, and one that is not
pub clip_in : (top h : ℕ) → h ≤ top → clip top h ≡ h
unfolding clip
clip_in top h le = by (leb h top) refl
  where
    by : (t : Bool) → leb h top ≡ t → choose t h 0 ≡ h
    by true e = refl
    by false e = absurd (omega (arith, leb-false h top e))

-- one that is not below is none
pub clip_out : (top h : ℕ) → top < h → clip top h ≡ 0
unfolding clip
clip_out top h lt = by (leb h top) refl
  where
    by : (t : Bool) → leb h top ≡ t → choose t h 0 ≡ 0
    by true e = absurd (omega (arith, leb-true h top e))
    by false e = refl

-- so the code finds it
pub below_in : (top h r : ℕ) → r ≡ h → h ≤ top → HandleBelow (clip top h) top r
below_in top h r e le = record { same = rw (clip_in top h le) e; low = omega arith }

-- or finds none
pub below_out : (top h : ℕ) → top < h → HandleBelow (clip top h) top 0
below_out top h lt = record { same = sym (clip_out top h lt); low = omega arith }

-- the record before which another stands
pub some_below : (w : List ℕ) (r : ℕ) → HandleBelow (clip r (cell w r 8)) r (clip r (cell w r 8))
some_below w r = by (leb (cell w r 8) r) refl
  where
    by : (t : Bool) → leb (cell w r 8) r ≡ t → HandleBelow (clip r (cell w r 8)) r (clip r (cell w r 8))
    by true e = let l : cell w r 8 ≤ r = leb-true (cell w r 8) r e in record { same = refl; low = rw (clip_in r (cell w r 8) l) l }
    by false e = let l : r < cell w r 8 = leb-false (cell w r 8) r e in record { same = refl; low = rw (clip_out r (cell w r 8) l) (omega arith) }

module _ {A : Type 0} (d : ℕ → A) (p : ℕ → ℕ) where
  -- a handle that is not below finds nothing
  scan_past : (r h : ℕ) → r < h → scan d p r h ≡ []
  unfolding scan
  scan_past zero h lt = refl
  scan_past (suc r) h lt = let l : r < h = omega arith in rw (ne_eqb h (suc r) (omega arith), scan_past r h l)

  -- a list looked for below a place is that of the clipped handle
  pub scan_clip : (r h : ℕ) → scan d p r h ≡ scan d p (clip r h) (clip r h)
  scan_clip r h = by (leb h r) refl
    where
      by : (t : Bool) → leb h r ≡ t → scan d p r h ≡ scan d p (clip r h) (clip r h)
      by true e = let l : h ≤ r = leb-true h r e in rw (clip_in r h l) (scan_low d p r h l)
      by false e = let l : r < h = leb-false h r e in rw (clip_out r h l, scan_end d p) (scan_past r h l)

  -- the last record, and the list before it
  pub scan_step : (r v : ℕ) → v ≡ clip r (p r) → scan d p (r + 1) (r + 1) ≡ d r ∷ scan d p v v
  scan_step r v e = scan_push d p r ∙ ap (λ (l : List A). d r ∷ l) (scan_clip r (p r) ∙ rw e)

-- ---- the records of a list

pub records_none : (w : List ℕ) {h : ℕ} → h ≡ 0 → records_of w h ≡ []
unfolding records_of
records_none w e = rw e (scan_end (λ (r : ℕ). r) (λ r. cell w r 8))

pub records_next : (w : List ℕ) {h r h' : ℕ} → h ≡ r + 1 → HandleBelow (clip r (cell w r 8)) r h' → records_of w h ≡ r ∷ records_of w h'
unfolding records_of
records_next w {h} {r} {h'} e b = rw e (scan_step (λ (k : ℕ). k) (λ k. cell w k 8) r h' b.same)

abbrev Gives : ListRecords → Option ℕ → ListRecords → Type 0
Gives s r t = Steps s.work.now s.next r t.work.now t.next

-- it gives them all
pub yields : (s : ListRecords) → YieldsList Gives (λ (r : ℕ). r) s (records_of s.work.now s.next)
yields s = YieldsList-from_shown Gives (λ (r : ℕ). r) (λ (u : ListRecords). records_of u.work.now u.next) none more s
  where
    none : (s t : ListRecords) → Gives s None t → length (records_of s.work.now s.next) ≡ 0
    none s t g = ap length (records_none s.work.now g.0)

    more : (s : ListRecords) (q : ℕ) (t : ListRecords) → Gives s (Some q) t → records_of s.work.now s.next ≡ q ∷ records_of t.work.now t.next
    more s q t g = rw g.2 (records_next s.work.now g.0 g.1)

-- no more records than the handle
pub records_few : (w : List ℕ) (n h : ℕ) → h ≤ n → length (records_of w h) ≤ h
records_few w zero h le = let e : h ≡ 0 = omega arith in rw (records_none w e) (omega arith)
records_few w (suc n) zero le = rw (records_none w {h = 0} refl) (omega arith)
records_few w (suc n) (suc r) le =
    let v : ℕ = clip r (cell w r 8) in
    let b : HandleBelow v r v = some_below w r in
    let z : suc r ≡ r + 1 = omega arith in
    let i : length (records_of w v) ≤ v = records_few w n v (omega (arith, b.low)) in
    rw (records_next w z b) (omega (arith, i, b.low))
