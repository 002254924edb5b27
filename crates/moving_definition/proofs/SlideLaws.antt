-- The loops that sum the first counts and that move the window.
use mathlib.Core.Path.{◌≡◌, refl, sym, ◌∙◌}
use mathlib.Core.Bool.{false}
use mathlib.Core.List.{List, [], ◌∷◌, ◌++◌, append_assoc}
use Prim.Native.Nat.{ℕ, zero, suc, ◌+◌, ◌-◌, ◌≤◌, ◌<◌, max}
use native.Mathlib.Omega.{arith}
use native.Mathlib.Decide.{ℕ_discrete}
use native.Mathlib.Numerals.{add-one}
use lib.ListN.{length, take, drop, get_or, set, length-append, length-set, get_or-append}
use lib.Seq.{drop-cons, set_at, get_or_at}
use Rattle.moving_definition.specs.Moving.{sum, total, along, largest_of, any_over}
use Rattle.moving_definition.specs.Slides.{Summable, Slid}
use Rattle.moving_definition.proofs.SumLaws.{sum_last, small_at, sum_small, total_small, total_added, total_taken}
use Rattle.moving_definition.proofs.PeakLaws.{largest_more, place_new, place_old}

-- ---- along

pub along_length : (n : ℕ) (f : ℕ → ℕ) → length (along n f) ≡ n
along_length zero f = refl
along_length (suc n) f = omega (arith, length-append (along n f) (f n ∷ []), along_length n f)

at_more : (n : ℕ) (f : ℕ → ℕ) (p : ℕ) → (p < n → get_or (along n f) p 0 ≡ f p) → Dec (p ≡ n) → p < suc n → get_or (along n f ++ (f n ∷ [])) p 0 ≡ f p
at_more n f p before (yes e) h = rw e (get_or_at (along n f) (f n) [] 0 n (along_length n f))
at_more n f p before (no d) h = get_or-append (along n f) (f n ∷ []) 0 p (omega (arith, along_length n f)) ∙ before (omega arith)

pub along_at : (n : ℕ) (f : ℕ → ℕ) (p : ℕ) → p < n → get_or (along n f) p 0 ≡ f p
along_at zero f p h = absurd (omega arith)
along_at (suc n) f p h = at_more n f p (along_at n f p) (ℕ_discrete p n) h

-- ---- the first counts

pub first_fits : {counts : List ℕ} {n : ℕ} → Summable counts n → sum (take n counts) < 18446744073709551616
first_fits {counts} {n} s = omega (arith, s.few, sum_small n counts s.small)

-- ---- the window

-- of the first i places the totals are written, and the peak is theirs; rest: of the next total all but its last count
pub record Sliding (counts : List ℕ) (before n : ℕ) (lent after : List ℕ) (rest largest place i : ℕ) : Type 0 where
  pub upto : i ≤ n
  pub long : length after ≡ length lent
  pub slid : Slid counts before i lent after (record { largest = largest; place = place })
  pub rest_is : rest ≡ total before counts i

pub slide_start : (counts : List ℕ) (before n : ℕ) (lent : List ℕ) {rest : ℕ} → rest ≡ sum (take before counts) → Sliding counts before n lent lent rest 0 0 0
unfolding total
slide_start counts before n lent e = record { upto = omega arith; long = refl; slid = record { written = refl; largest = refl; place = refl }; rest_is = e }

module _ {counts : List ℕ} {before n : ℕ} {lent after : List ℕ} {rest largest place i : ℕ} (g : Sliding counts before n lent after rest largest place i) where
  abbrev f : ℕ → ℕ
  f = total (suc before) counts

  abbrev added : ℕ
  added = rest + get_or counts (i + before) 0

  -- one count added: the total
  added_is : added ≡ f i
  added_is = omega (arith, g.rest_is, total_added before counts i)

  pub slide_fits : before ≤ 63 → any_over counts ≡ false → added < 18446744073709551616
  slide_fits h e = omega (arith, added_is, total_small (suc before) counts i e)

  -- one count taken away: what is left of it
  pub slide_holds : get_or counts i 0 ≤ added
  slide_holds = omega (arith, added_is, total_taken before counts i)

  rest_next : added - get_or counts i 0 ≡ total before counts (i + 1)
  rest_next = omega (arith, added_is, total_taken before counts i)

  written_next : i < length lent → set after i added ≡ along (i + 1) f ++ drop (i + 1) lent
  written_next h =
      rw (g.slid.written, drop-cons lent i 0 h, added_is, add-one i)
      (set_at (along i f) (get_or lent i 0) (drop (suc i) lent) (f i) i (along_length i f) ∙ sym (append_assoc (along i f) (f i ∷ []) (drop (suc i) lent)))

  largest_next : largest_of (along (i + 1) f) ≡ max largest added
  largest_next = rw (add-one i) (omega (arith, largest_more (along i f) (f i), g.slid.largest, added_is))

  module _ (h : i < n) (room : n ≤ length lent) where
    -- a new largest
    pub slide_up : largest < added → Sliding counts before n lent (set after i added) (added - get_or counts i 0) added i (i + 1)
    slide_up k = record {
      upto = omega arith;
      long = rw length-set g.long;
      slid = record {
        written = written_next (omega arith);
        largest = omega (arith, largest_next);
        place = rw (add-one i, added_is) (sym (place_new (along i f) (f i) (omega (arith, g.slid.largest, added_is)) ∙ along_length i f));
      };
      rest_is = rest_next;
    }

    -- the same one
    pub slide_on : added ≤ largest → Sliding counts before n lent (set after i added) (added - get_or counts i 0) largest place (i + 1)
    slide_on k = record {
      upto = omega arith;
      long = rw length-set g.long;
      slid = record {
        written = written_next (omega arith);
        largest = omega (arith, largest_next);
        place = g.slid.place ∙ rw (add-one i, g.slid.largest) (sym (place_old (along i f) (f i) (omega (arith, g.slid.largest, added_is))));
      };
      rest_is = rest_next;
    }

  pub slide_end : n ≤ i → Slid counts before n lent after (record { largest = largest; place = place })
  slide_end h = let e : i ≡ n = omega (arith, g.upto) in rw e at g.slid
