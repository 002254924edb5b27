-- Logs, chains and newest records, over any way to read a record.
use mathlib.Core.Path.{◌≡◌, refl, sym, ◌∙◌}
use mathlib.Core.List.{List, [], ◌∷◌, ◌++◌, append-nil}
use mathlib.Core.Bool.{Bool, true, false}
use mathlib.Core.Option.{none, some}
use Prim.Native.Nat.{ℕ, zero, suc, ◌+◌, ◌-◌, ◌<◌, ◌≤◌}
use native.Mathlib.Numerals.{add-one}
use native.Mathlib.Omega.{arith}
use lib.ListN.{length, set, get_elem?, length-append}
use lib.Seq.{set-append_seam, set-append_left}
use lib.Dec.{eqb, ltb}
use borrow.Author.Tests.{eq-eqb, ne_eqb, eqb-true, eqb-false, lt-ltb, le-ltb, ltb-true}
use Rattle.ast.specs.Choice.{choose}
use Rattle.journal_records.specs.Logs.{newest_below, newest_of, only_below, count_below, scan, rev_onto, log_up, log_down, only}

-- a number c + (n + 1), as one more than c + n
span : (c n : ℕ) → c + suc n ≡ suc (c + n)
span c n = omega arith

-- ---- the newest record that passes a test
module _ (p : ℕ → Bool) where
  pub last_here : (c : ℕ) → p c ≡ true → newest_below p (c + 1) ≡ suc c
  unfolding newest_below
  last_here c e = rw (add-one c, e)

  pub last_other : (c : ℕ) → p c ≡ false → newest_below p (c + 1) ≡ newest_below p c
  unfolding newest_below
  last_other c e = rw (add-one c, e)

  pub last_low : (c : ℕ) → newest_below p c ≤ c
  unfolding newest_below
  last_low zero = omega arith
  last_low (suc c) = by (p c) (last_low c)
    where
      by : (t : Bool) → newest_below p c ≤ c → choose t (suc c) (newest_below p c) ≤ suc c
      by true l = omega arith
      by false l = omega arith

  pub last_is : (c : ℕ) → 0 < newest_below p c → p (newest_below p c - 1) ≡ true
  unfolding newest_below
  last_is zero h = absurd (omega arith)
  last_is (suc c) h = by (p c) refl h (last_is c)
    where
      by : (t : Bool) → p c ≡ t → 0 < choose t (suc c) (newest_below p c) → (0 < newest_below p c → p (newest_below p c - 1) ≡ true) → p (choose t (suc c) (newest_below p c) - 1) ≡ true
      by true e h' go = let z : suc c - 1 ≡ c = omega arith in rw z e
      by false e h' go = go h'

  pub last_none : (c : ℕ) → ((r : ℕ) → r < c → p r ≡ false) → newest_below p c ≡ 0
  unfolding newest_below
  last_none zero h = refl
  last_none (suc c) h = rw (h c (omega arith)) (last_none c (λ r l. h r (omega arith)))

  -- one that passes, where none above it does
  pub last_at : (c m : ℕ) → m < c → p m ≡ true → ((r : ℕ) → m < r → r < c → p r ≡ false) → newest_below p c ≡ suc m
  unfolding newest_below
  last_at zero m l e h = absurd (omega arith)
  last_at (suc c) m l e h = by (eqb m c) refl (λ k. last_at c m k e (λ r a b. h r a (omega arith)))
    where
      by : (t : Bool) → eqb m c ≡ t → (m < c → newest_below p c ≡ suc m) → choose (p c) (suc c) (newest_below p c) ≡ suc m
      by true q go = let z : m ≡ c = eqb-true m c q in let f : p c ≡ true = rw z at e in rw (f, z)
      by false q go =
          let ne : m ≡ c → ⊥ = eqb-false m c q in
          rw (h c (omega arith) (omega arith)) (go (omega arith))

  pub newest_here : (c : ℕ) → p c ≡ true → newest_of p (c + 1) ≡ some c
  unfolding newest_of
  newest_here c e = rw (add-one c, e)

  pub newest_other : (c : ℕ) → p c ≡ false → newest_of p (c + 1) ≡ newest_of p c
  unfolding newest_of
  newest_other c e = rw (add-one c, e)

  pub newest_span : (c n : ℕ) → ((r : ℕ) → c ≤ r → r < c + n → p r ≡ false) → newest_of p (c + n) ≡ newest_of p c
  unfolding newest_of
  newest_span c zero h = let z : c + 0 ≡ c = omega arith in rw z
  newest_span c (suc n) h = rw (span c n, h (c + n) (omega arith) (omega arith)) (newest_span c n (λ r l l'. h r l (omega arith)))

  -- what is found passes the test
  pub newest_is : (c r : ℕ) → newest_of p c ≡ some r → (r < c) × (p r ≡ true)
  unfolding newest_of
  newest_is zero r e = let z : ◌≡◌ {A = ℕ} 0 1 = cc in absurd (omega arith)
  newest_is (suc c) r e = by (p c) refl e (newest_is c r)
    where
      by : (t : Bool) → p c ≡ t → choose t (some c) (newest_of p c) ≡ some r → (newest_of p c ≡ some r → (r < c) × (p r ≡ true)) → (r < suc c) × (p r ≡ true)
      by true q f go = let z : r ≡ c = cc in (omega arith, rw z q)
      by false q f go = let g = go f in (omega (arith, g.0), g.1)

  -- the place of a number that has one added
  pub newest_last : (c k : ℕ) → newest_below p c ≡ suc k → newest_of p c ≡ some k
  unfolding newest_below newest_of
  newest_last zero k e = absurd (omega arith)
  newest_last (suc c) k e = by (p c) e (newest_last c k)
    where
      by : (t : Bool) → choose t (suc c) (newest_below p c) ≡ suc k → (newest_below p c ≡ suc k → newest_of p c ≡ some k) → choose t (some c) (newest_of p c) ≡ some k
      by true f go = let z : c ≡ k = omega arith in rw z
      by false f go = go f

  pub newest_zero : (c : ℕ) → newest_below p c ≡ 0 → newest_of p c ≡ none
  unfolding newest_below newest_of
  newest_zero zero e = refl
  newest_zero (suc c) e = by (p c) e (newest_zero c)
    where
      by : (t : Bool) → choose t (suc c) (newest_below p c) ≡ 0 → (newest_below p c ≡ 0 → newest_of p c ≡ none) → choose t (some c) (newest_of p c) ≡ none
      by true f go = absurd (omega arith)
      by false f go = go f

  -- how many pass
  pub count_here : (c : ℕ) → p c ≡ true → count_below p (c + 1) ≡ count_below p c + 1
  unfolding count_below
  count_here c e = rw (add-one c, e) (omega arith)

  pub count_other : (c : ℕ) → p c ≡ false → count_below p (c + 1) ≡ count_below p c
  unfolding count_below
  count_other c e = rw (add-one c, e)

  pub count_span : (c n : ℕ) → ((r : ℕ) → c ≤ r → r < c + n → p r ≡ false) → count_below p (c + n) ≡ count_below p c
  unfolding count_below
  count_span c zero h = let z : c + 0 ≡ c = omega arith in rw z
  count_span c (suc n) h = rw (span c n, h (c + n) (omega arith) (omega arith)) (count_span c n (λ r l l'. h r l (omega arith)))

  pub count_low : (c : ℕ) → count_below p c ≤ c
  unfolding count_below
  count_low zero = omega arith
  count_low (suc c) = by (p c) (count_low c)
    where
      by : (t : Bool) → count_below p c ≤ c → choose t (suc (count_below p c)) (count_below p c) ≤ suc c
      by true l = omega arith
      by false l = omega arith

  pub count_more : (r n : ℕ) → count_below p r ≤ count_below p (r + n)
  unfolding count_below
  count_more r zero = let z : r + 0 ≡ r = omega arith in rw z (omega arith)
  count_more r (suc n) = rw (span r n) (by (p (r + n)) (count_more r n))
    where
      by : (t : Bool) → count_below p r ≤ count_below p (r + n) → count_below p r ≤ choose t (suc (count_below p (r + n))) (count_below p (r + n))
      by true l = omega arith
      by false l = omega arith

  -- a record that passes is counted by all above it
  pub count_above : (r c : ℕ) → r < c → p r ≡ true → count_below p r < count_below p c
  count_above r c lt e =
      let z : (r + 1) + (c - (r + 1)) ≡ c = omega arith in
      let m : count_below p (r + 1) ≤ count_below p c = rw z at (count_more (r + 1) (c - (r + 1))) in
      omega (arith, count_here r e)

-- a narrower test looks only at what passes the wider
pub last_finer : (p q : ℕ → Bool) (c : ℕ) → ((r : ℕ) → r < c → q r ≡ true → p r ≡ true) → newest_below q c ≡ newest_below q (newest_below p c)
unfolding newest_below
last_finer p q zero h = refl
last_finer p q (suc c) h = by (p c) refl (q c) refl (last_finer p q c (λ r l. h r (omega arith)))
  where
    by : (t : Bool) → p c ≡ t → (u : Bool) → q c ≡ u → newest_below q c ≡ newest_below q (newest_below p c) → newest_below q (suc c) ≡ newest_below q (choose t (suc c) (newest_below p c))
    by true e u f go = refl
    by false e true f go = let x : p c ≡ true = h c (omega arith) f in let z : false ≡ true = sym e ∙ x in let k : ◌≡◌ {A = ℕ} 0 1 = cc in absurd (omega arith)
    by false e false f go = rw f go

pub last_same : (p p' : ℕ → Bool) (c : ℕ) → ((r : ℕ) → r < c → p' r ≡ p r) → newest_below p' c ≡ newest_below p c
unfolding newest_below
last_same p p' zero h = refl
last_same p p' (suc c) h = rw (h c (omega arith), last_same p p' c (λ r l. h r (omega arith)))

pub newest_same : (p p' : ℕ → Bool) (c : ℕ) → ((r : ℕ) → r < c → p' r ≡ p r) → newest_of p' c ≡ newest_of p c
unfolding newest_of
newest_same p p' zero h = refl
newest_same p p' (suc c) h = rw (h c (omega arith), newest_same p p' c (λ r l. h r (omega arith)))

-- a test that only records below a place pass
module _ (p : ℕ → Bool) (top r : ℕ) where
  pub under_is : only_below top p r ≡ true → (r < top) × (p r ≡ true)
  unfolding only_below
  under_is e = by (ltb r top) refl e
    where
      by : (t : Bool) → ltb r top ≡ t → choose t (p r) false ≡ true → (r < top) × (p r ≡ true)
      by true q f = (ltb-true r top q, f)
      by false q f = let z : ◌≡◌ {A = ℕ} 0 1 = cc in absurd (omega arith)

  pub under_far : top ≤ r → only_below top p r ≡ false
  unfolding only_below
  under_far le = rw (le-ltb r top le)

  pub under_near : r < top → only_below top p r ≡ p r
  unfolding only_below
  under_near lt = rw (lt-ltb r top lt)

pub newest_under : (p : ℕ → Bool) (top c : ℕ) → top ≤ c → newest_of (only_below top p) c ≡ newest_of p top
newest_under p top c le =
    let z : top + (c - top) ≡ c = omega arith in
    (rw z at (newest_span (only_below top p) top (c - top) (λ r l h. under_far p top r l))) ∙ newest_same p (only_below top p) top (λ r l. under_near p top r l)

pub count_same : (p p' : ℕ → Bool) (c : ℕ) → ((r : ℕ) → r < c → p' r ≡ p r) → count_below p' c ≡ count_below p c
unfolding count_below
count_same p p' zero h = refl
count_same p p' (suc c) h = rw (h c (omega arith), count_same p p' c (λ r l. h r (omega arith)))

module _ {A : Type 0} where
  -- ---- chains

  -- records that read the same below c
  pub scan_same : (d d' : ℕ → A) (p p' : ℕ → ℕ) (c h : ℕ) → ((r : ℕ) → r < c → d' r ≡ d r) → ((r : ℕ) → r < c → p' r ≡ p r) → scan d' p' c h ≡ scan d p c h
  unfolding scan
  scan_same d d' p p' zero h x y = refl
  scan_same d d' p p' (suc c) h x y =
      rw (
        x c (omega arith),
        y c (omega arith),
        scan_same d d' p p' c (p c) (λ r l. x r (omega arith)) (λ r l. y r (omega arith)),
        scan_same d d' p p' c h (λ r l. x r (omega arith)) (λ r l. y r (omega arith)),
      )

  -- a handle's list does not depend on how far the records are looked at
  pub scan_low : (d : ℕ → A) (p : ℕ → ℕ) (r h : ℕ) → h ≤ r → scan d p r h ≡ scan d p h h
  unfolding scan
  scan_low d p zero h le = let e : h ≡ 0 = omega arith in rw e
  scan_low d p (suc r) h le = by (eqb h (suc r)) refl (λ l. scan_low d p r h l)
    where
      by : (b : Bool) → eqb h (suc r) ≡ b → (h ≤ r → scan d p r h ≡ scan d p h h) → scan d p (suc r) h ≡ scan d p h h
      by true e go = rw (eqb-true h (suc r) e)
      by false e go =
          let ne : h ≡ suc r → ⊥ = eqb-false h (suc r) e in
          let l : h ≤ r = omega arith in
          rw (e, go l)

  -- one record more
  pub scan_push : (d : ℕ → A) (p : ℕ → ℕ) (r : ℕ) → scan d p (r + 1) (r + 1) ≡ d r ∷ scan d p r (p r)
  unfolding scan
  scan_push d p r = rw (add-one r, eq-eqb (suc r) (suc r) refl)

  pub scan_end : (d : ℕ → A) (p : ℕ → ℕ) → scan d p 0 0 ≡ []
  unfolding scan
  scan_end d p = refl

  -- the chain of all that pass a test, from the newest
  pub scan_all : (d : ℕ → A) (prev : ℕ → ℕ) (p : ℕ → Bool) (c : ℕ) → ((r : ℕ) → r < c → p r ≡ true → prev r ≡ newest_below p r) → scan d prev c (newest_below p c) ≡ log_down (only p d) c
  unfolding scan newest_below log_down only
  scan_all d prev p zero h = refl
  scan_all d prev p (suc c) h = by (p c) refl (scan_all d prev p c (λ r l. h r (omega arith)))
    where
      by : (t : Bool) → p c ≡ t → scan d prev c (newest_below p c) ≡ log_down (only p d) c → scan d prev (suc c) (choose t (suc c) (newest_below p c)) ≡ choose t (d c ∷ []) [] ++ log_down (only p d) c
      by true e go = rw (eq-eqb (suc c) (suc c) refl, h c (omega arith) e, go)
      by false e go = rw (ne_eqb (newest_below p c) (suc c) (λ q. omega (arith, last_low p c))) go

  -- ---- logs

  pub only_here : (p : ℕ → Bool) (d : ℕ → A) (r : ℕ) → p r ≡ true → only p d r ≡ d r ∷ []
  unfolding only
  only_here p d r e = rw e

  pub only_other : (p : ℕ → Bool) (d : ℕ → A) (r : ℕ) → p r ≡ false → only p d r ≡ []
  unfolding only
  only_other p d r e = rw e

  pub up_same : (g g' : ℕ → List A) (c : ℕ) → ((r : ℕ) → r < c → g' r ≡ g r) → log_up g' c ≡ log_up g c
  unfolding log_up
  up_same g g' zero x = refl
  up_same g g' (suc c) x = rw (x c (omega arith), up_same g g' c (λ r l. x r (omega arith)))

  pub down_same : (g g' : ℕ → List A) (c : ℕ) → ((r : ℕ) → r < c → g' r ≡ g r) → log_down g' c ≡ log_down g c
  unfolding log_down
  down_same g g' zero x = refl
  down_same g g' (suc c) x = rw (x c (omega arith), down_same g g' c (λ r l. x r (omega arith)))

  module _ (g : ℕ → List A) where
    pub up_zero : log_up g 0 ≡ []
    unfolding log_up
    up_zero = refl

    pub down_zero : log_down g 0 ≡ []
    unfolding log_down
    down_zero = refl

    pub up_one : (c : ℕ) → log_up g (c + 1) ≡ log_up g c ++ g c
    unfolding log_up
    up_one c = rw (add-one c)

    pub down_one : (c : ℕ) → log_down g (c + 1) ≡ g c ++ log_down g c
    unfolding log_down
    down_one c = rw (add-one c)

    -- records that yield nothing
    pub up_span : (c n : ℕ) → ((r : ℕ) → c ≤ r → r < c + n → g r ≡ []) → log_up g (c + n) ≡ log_up g c
    unfolding log_up
    up_span c zero h = let z : c + 0 ≡ c = omega arith in rw z
    up_span c (suc n) h = rw (span c n, h (c + n) (omega arith) (omega arith)) (append-nil (log_up g (c + n)) ∙ up_span c n (λ r l l'. h r l (omega arith)))

    pub down_span : (c n : ℕ) → ((r : ℕ) → c ≤ r → r < c + n → g r ≡ []) → log_down g (c + n) ≡ log_down g c
    unfolding log_down
    down_span c zero h = let z : c + 0 ≡ c = omega arith in rw z
    down_span c (suc n) h = rw (span c n, h (c + n) (omega arith) (omega arith)) (down_span c n (λ r l l'. h r l (omega arith)))

  -- as long a log, where each record yields as much
  pub up_length : (g g' : ℕ → List A) (c : ℕ) → ((r : ℕ) → r < c → length (g' r) ≡ length (g r)) → length (log_up g' c) ≡ length (log_up g c)
  unfolding log_up
  up_length g g' zero x = refl
  up_length g g' (suc c) x = rw (length-append (log_up g' c) (g' c), length-append (log_up g c) (g c), x c (omega arith), up_length g g' c (λ r l. x r (omega arith)))

  -- the length of a log of a test
  pub up_count : (p : ℕ → Bool) (d : ℕ → A) (c : ℕ) → length (log_up (only p d) c) ≡ count_below p c
  unfolding log_up count_below only
  up_count p d zero = refl
  up_count p d (suc c) = rw (length-append (log_up (only p d) c) (choose (p c) (d c ∷ []) [])) (by (p c) (up_count p d c))
    where
      by : (t : Bool) → length (log_up (only p d) c) ≡ count_below p c → length (log_up (only p d) c) + length (choose t (d c ∷ []) []) ≡ choose t (suc (count_below p c)) (count_below p c)
      by true e = omega arith
      by false e = omega arith

  get_seam : (xs : List A) (y : A) → get_elem? (xs ++ (y ∷ [])) (length xs) ≡ some y
  get_seam [] y = refl
  get_seam (x ∷ xs) y = get_seam xs y

  get_left : (xs ys : List A) (i : ℕ) → i < length xs → get_elem? (xs ++ ys) i ≡ get_elem? xs i
  get_left [] ys i h = absurd (omega arith)
  get_left (x ∷ xs) ys zero h = refl
  get_left (x ∷ xs) ys (suc i) h = get_left xs ys i (omega arith)

  -- a record in the log, at the number of those before it
  pub up_get : (g : ℕ → List A) (r : ℕ) (y : A) → g r ≡ y ∷ [] → (c : ℕ) → r < c → (get_elem? (log_up g c) (length (log_up g r)) ≡ some y) × (length (log_up g r) < length (log_up g c))
  unfolding log_up
  up_get g r y eg zero lt = absurd (omega arith)
  up_get g r y eg (suc c) lt = by (eqb c r) refl (λ l. up_get g r y eg c l)
    where
      by : (t : Bool) → eqb c r ≡ t → (r < c → (get_elem? (log_up g c) (length (log_up g r)) ≡ some y) × (length (log_up g r) < length (log_up g c)))
          → (get_elem? (log_up g (suc c)) (length (log_up g r)) ≡ some y) × (length (log_up g r) < length (log_up g (suc c)))
      by true e go = rw (eqb-true c r e, eg) (get_seam (log_up g r) y, rw (length-append (log_up g r) (y ∷ [])) (omega arith))
      by false e go =
          let ne : c ≡ r → ⊥ = eqb-false c r e in
          let l : r < c = omega arith in
          let i : length (log_up g r) < length (log_up g c) = (go l).1 in
          (get_left (log_up g c) (g c) (length (log_up g r)) i ∙ (go l).0, rw (length-append (log_up g c) (g c)) (omega arith))

  -- one record of the log read otherwise
  module _ (g g' : ℕ → List A) (r : ℕ) (x y : A) (eg : g r ≡ y ∷ []) (eg' : g' r ≡ x ∷ []) where
    pub up_patch : (c : ℕ) → r < c → ((k : ℕ) → (k ≡ r → ⊥) → k < c → g' k ≡ g k) → log_up g' c ≡ set (log_up g c) (length (log_up g r)) x
    unfolding log_up
    up_patch zero lt h = absurd (omega arith)
    up_patch (suc c) lt h = by (eqb c r) refl (λ l. up_patch c l (λ k ne q. h k ne (omega arith)))
      where
        by : (t : Bool) → eqb c r ≡ t → (r < c → log_up g' c ≡ set (log_up g c) (length (log_up g r)) x) → log_up g' (suc c) ≡ set (log_up g (suc c)) (length (log_up g r)) x
        by true e go =
            let z : c ≡ r = eqb-true c r e in
            rw (z, up_same g g' r (λ k l. h k (omega arith) (omega arith)), eg, eg', set-append_seam (log_up g r) y [] x)
        by false e go =
            let ne : c ≡ r → ⊥ = eqb-false c r e in
            let l : r < c = omega arith in
            rw (set-append_left (log_up g c) (g c) (length (log_up g r)) x (up_get g r y eg c l).1, h c ne (omega arith), go l)

  -- ---- one way and the other
  pub rev_append : (xs ys zs : List A) → rev_onto (xs ++ ys) zs ≡ rev_onto ys (rev_onto xs zs)
  unfolding rev_onto
  rev_append [] ys zs = refl
  rev_append (x ∷ xs) ys zs = rev_append xs ys (x ∷ zs)

  pub rev_rev : (xs ys zs : List A) → rev_onto (rev_onto xs ys) zs ≡ rev_onto ys (xs ++ zs)
  unfolding rev_onto
  rev_rev [] ys zs = refl
  rev_rev (x ∷ xs) ys zs = rev_rev xs (x ∷ ys) zs

  pub down_rev : (p : ℕ → Bool) (d : ℕ → A) (c : ℕ) → log_down (only p d) c ≡ rev_onto (log_up (only p d) c) []
  unfolding log_up log_down only rev_onto
  down_rev p d zero = refl
  down_rev p d (suc c) = rw (rev_append (log_up (only p d) c) (choose (p c) (d c ∷ []) []) []) (by (p c) (down_rev p d c))
    where
      by : (t : Bool) → log_down (only p d) c ≡ rev_onto (log_up (only p d) c) [] → choose t (d c ∷ []) [] ++ log_down (only p d) c ≡ rev_onto (choose t (d c ∷ []) []) (rev_onto (log_up (only p d) c) [])
      by true e = rw e
      by false e = e

  pub up_rev : (p : ℕ → Bool) (d : ℕ → A) (c : ℕ) → rev_onto (log_down (only p d) c) [] ≡ log_up (only p d) c
  unfolding rev_onto
  up_rev p d c = rw (down_rev p d c, rev_rev (log_up (only p d) c) [] []) (append-nil (log_up (only p d) c))
