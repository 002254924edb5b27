-- The answer, by the tests that led to it.
use mathlib.Core.Path.{◌≡◌, sym}
use mathlib.Core.Bool.{true, false}
use mathlib.Core.List.{List}
use Prim.Native.Nat.{ℕ, suc, ◌+◌, ◌-◌, ◌≤◌, ◌<◌}
use native.Mathlib.Omega.{arith}
use lib.ListN.{length}
use borrow.Author.Tests.{lt-ltb, le-ltb}
use Rattle.moving_definition.specs.declared.Peak.{Peak}
use Rattle.moving_definition.specs.Moving.{total, totals, any_over, Answer, refused, outcome, moved}
use Rattle.moving_definition.specs.Slides.{Slid}
use Rattle.moving_definition.specs.Promises.{Promises}
use Rattle.moving_definition.proofs.SlideLaws.{along_length}
use Rattle.moving_definition.proofs.Promised.{promised}

module _ (counts : List ℕ) (w : ℕ) (lent : List ℕ) where
  -- an answer and the totals after it are the definition's, and as promised
  abbrev pub Told : Answer → List ℕ → Type 0
  Told a after = ((a, after) ≡ moved counts w lent) × Promises counts w lent a after

  pub width_low : w < 1 → Told (refused 25) lent
  unfolding moved outcome
  width_low h = promised counts w lent (rw (lt-ltb w 1 h))

  pub width_high : 64 < w → Told (refused 25) lent
  unfolding moved outcome
  width_high h = promised counts w lent (rw (le-ltb w 1 (omega arith), lt-ltb 64 w h))

  module _ (low : 1 ≤ w) (high : w ≤ 64) where
    pub count_over_lem : true ≡ any_over counts → Told (refused 26) lent
    unfolding moved outcome
    count_over_lem e = promised counts w lent (rw (le-ltb w 1 low, le-ltb 64 w high, sym e))

    module _ (small : false ≡ any_over counts) where
      pub too_few : length lent < length counts - (w - 1) → Told (refused 27) lent
      unfolding moved outcome
      too_few h = promised counts w lent (rw (le-ltb w 1 low, le-ltb 64 w high, sym small, lt-ltb (length lent) (length counts + 1 - w) (omega arith)))

      -- a run shorter than the width
      pub short_run : length counts ≤ w - 1 → Told (record { refusal = 0; count = 0; largest = 0; place = 0 }) lent
      unfolding moved outcome totals
      short_run h =
          let e : length counts + 1 - w ≡ 0 = omega arith in
          promised counts w lent (rw (le-ltb w 1 low, le-ltb 64 w high, sym small, le-ltb (length lent) (length counts + 1 - w) (omega arith), e))

      pub all_told : length counts - (w - 1) ≤ length lent → {after : List ℕ} {p : Peak} → Slid counts (w - 1) (length counts - (w - 1)) lent after p → Told (record { refusal = 0; count = length counts - (w - 1); largest = p.largest; place = p.place }) after
      unfolding moved outcome totals
      all_told h {after} {p} s =
          let n = length counts - (w - 1) in
          let e : length counts + 1 - w ≡ n = omega arith in
          let d : suc (w - 1) ≡ w = omega arith in
          let written = rw d at s.written in
          let largest = rw d at s.largest in
          let place = rw d at s.place in
          promised counts w lent
          (rw (le-ltb w 1 low, le-ltb 64 w high, sym small, le-ltb (length lent) (length counts + 1 - w) (omega arith), e, along_length n (total w counts), place, largest, written))
