-- The promises hold of every call.
use mathlib.Core.Path.{◌≡◌, refl, sym, ◌∙◌, subst}
use mathlib.Core.Bool.{Bool, true, false, ◌||◌}
use mathlib.Core.List.{List}
use Prim.Native.Nat.{ℕ, ◌+◌, ◌-◌, ◌≤◌, ◌<◌}
use native.Mathlib.Omega.{arith}
use lib.ListN.{length, get_or, drop, get_or-append}
use lib.Dec.{ltb}
use borrow.Author.Tests.{ltb-true, ltb-false, le-ltb}
use Rattle.words_lent.specs.Words.{over}
use Rattle.words_lent.proofs.WordLaws.{over_length, over_kept}
use Rattle.moving_definition.specs.Moving.{total, totals_count, totals, largest_of, first_place, outside, any_over, Answer, refused, refuse_if, accepted, outcome, lent_after, moved}
use Rattle.moving_definition.specs.Promises.{Width, CountsSmall, Accepted, Promises, wrong_width, count_over, too_few, otherwise}
use Rattle.moving_definition.proofs.SumLaws.{last_plain, small_at, total_small, over_found}
use Rattle.moving_definition.proofs.PeakLaws.{largest_most, largest_stands, place_first, place_upto, none_largest, none_place}
use Rattle.moving_definition.proofs.SlideLaws.{along_length, along_at}

-- ---- the width

wide_if : (w : ℕ) → outside w ≡ false → Width w
wide_if w q = by (ltb w 1) (ltb 64 w) refl refl q
  where
    by : (a b : Bool) → ltb w 1 ≡ a → ltb 64 w ≡ b → (a || b) ≡ false → Width w
    by true b x y z = let e : ◌≡◌ {A = ℕ} 0 1 = cc in absurd (omega arith)
    by false true x y z = let e : ◌≡◌ {A = ℕ} 0 1 = cc in absurd (omega arith)
    by false false x y z = record { low = ltb-false w 1 x; high = ltb-false 64 w y }

wide_then : (w : ℕ) → outside w ≡ true → Width w → ⊥
wide_then w q h = let e : outside w ≡ false = rw (le-ltb w 1 h.low, le-ltb 64 w h.high) in let z : ◌≡◌ {A = ℕ} 0 1 = cc in omega arith

module _ (counts : List ℕ) (w : ℕ) (lent : List ℕ) where
  abbrev T : List ℕ
  T = totals w counts

  count_is : length T ≡ length counts + 1 - w
  unfolding totals
  count_is = along_length (totals_count w counts) (total w counts)

  total_at : (p : ℕ) → p < length T → get_or T p 0 ≡ total w counts p
  unfolding totals
  total_at p h = along_at (totals_count w counts) (total w counts) p (omega (arith, count_is))

  -- ---- an accepted call

  written_at : (p : ℕ) → p < length T → get_or (over T lent) p 0 ≡ get_or T p 0
  written_at p h = get_or-append T (drop (length T) lent) 0 p h

  abbrev a : Answer
  a = accepted T

  accepted_holds : Width w → any_over counts ≡ false → length counts + 1 - w ≤ length lent → Accepted counts w lent a (over T lent)
  accepted_holds wide small room = record {
    refusal = refl;
    count = count_is;
    plain = λ leg h k.
        let p = leg + 1 - w in
        let i : p < length T = omega (arith, count_is) in
        written_at p i ∙ total_at p i ∙ sym (last_plain w counts p leg (omega arith));
    among = λ h. let s = largest_stands T h in (s.within, written_at (first_place (largest_of T) T) s.within ∙ s.there);
    most = λ p h. rw (written_at p h) (largest_most T p);
    first = λ p h.
        let i : p < length T = omega (arith, place_upto (largest_of T) T) in
        rw (written_at p i) (omega (arith, largest_most T p, place_first (largest_of T) T p h));
    none = λ h. let e : length T ≡ 0 = omega (arith, count_is) in (e, none_largest T e, none_place (largest_of T) T e);
    fits = λ p h. rw (written_at p h, total_at p h) (omega (arith, total_small w counts p small, wide.high));
    long = over_length T lent (omega (arith, count_is));
    kept = over_kept T lent (length T) refl;
  }

  -- ---- every call

  abbrev Kept : Answer → Type 0
  Kept x = Promises counts w lent x (lent_after x.refusal T lent)

  -- one refusal after another
  if_not : (n : ℕ) (b : Bool) (next : Answer) → (b ≡ true → Kept (refused n)) → (b ≡ false → Kept next) → Kept (refuse_if b n next)
  if_not n true next f g = f refl
  if_not n false next f g = g refl

  pub promises : Promises counts w lent (moved counts w lent).0 (moved counts w lent).1
  unfolding moved outcome
  promises =
      if_not 25 (outside w) _ (λ q. wrong_width (wide_then w q) (record { answer = refl; kept = refl })) (λ q.
      let wide : Width w = wide_if w q in
      if_not 26 (any_over counts) _ (λ q2. let o = over_found counts q2 in count_over wide o.leg o.within o.large (record { answer = refl; kept = refl })) (λ q2.
      let small : CountsSmall counts = record { small = small_at counts q2 } in
      if_not 27 (ltb (length lent) (totals_count w counts)) _ (λ q3. too_few wide small (ltb-true _ _ q3) (record { answer = refl; kept = refl })) (λ q3.
      otherwise wide small (ltb-false _ _ q3) (accepted_holds wide q2 (ltb-false _ _ q3)))))

  pub promised : {x : Answer} {after : List ℕ} → (x, after) ≡ moved counts w lent → ((x, after) ≡ moved counts w lent) × Promises counts w lent x after
  promised e = (e, subst (λ (r : Answer × List ℕ). Promises counts w lent r.0 r.1) (sym e) promises)
