-- Logs of the records that pass a test: they last, pass over records that do not pass, and take one that does at their end.
use mathlib.Core.Path.{◌≡◌, refl, ◌∙◌}
use mathlib.Core.Bool.{Bool, true, false}
use mathlib.Core.List.{List, [], ◌∷◌, ◌++◌, map}
use Prim.Native.Nat.{ℕ, zero, suc, ◌+◌, ◌<◌, ◌≤◌}
use native.Mathlib.Omega.{arith}
use Rattle.ast.specs.Choice.{choose}
use Rattle.journal_records.specs.Records.{cell, Fixed}
use Rattle.journal_records.specs.Logs.{log_up, log_down, only}
use Rattle.journal_lists.specs.Owned.{tagged}
use Rattle.journal_records.proofs.Frame.{fixed_less, Stable, count_fixed}
use Rattle.journal_records.proofs.Lists.{up_same, down_same, up_span, down_span, up_one, down_one, only_here, only_other, count_span, count_here}
use Rattle.journal_lists.proofs.Owned.{tagged_here, tagged_other, tagged_stable}
use Rattle.journal_reading.specs.Reading.{below}
use Rattle.journal_reading.proofs.Words.{Lasting}

module _ {A : Type 0} (p : List ℕ → ℕ → Bool) (sp : Stable p) (d : List ℕ → ℕ → A) (la : Lasting d) {c : ℕ} {w w' : List ℕ} (f : Fixed c w w') where
  each : (r : ℕ) → r < c → only (p w') (d w') r ≡ only (p w) (d w) r
  unfolding only
  each r l = rw (sp.same r w w' (f.steady r l), la.same r w w' (fixed_less (omega arith) f))

  pub up_fixed : (k : ℕ) → k ≤ c → log_up (only (p w') (d w')) k ≡ log_up (only (p w) (d w)) k
  up_fixed k le = up_same (only (p w) (d w)) (only (p w') (d w')) k (λ r l. each r (omega arith))

  pub down_fixed : (k : ℕ) → k ≤ c → log_down (only (p w') (d w')) k ≡ log_down (only (p w) (d w)) k
  down_fixed k le = down_same (only (p w) (d w)) (only (p w') (d w')) k (λ r l. each r (omega arith))

  -- n records more that do not pass
  module _ (n : ℕ) (none : (r : ℕ) → c ≤ r → r < c + n → p w' r ≡ false) where
    pub up_stays : log_up (only (p w') (d w')) (c + n) ≡ log_up (only (p w) (d w)) c
    up_stays = up_span (only (p w') (d w')) c n (λ r l h. only_other (p w') (d w') r (none r l h)) ∙ up_fixed c (omega arith)

    pub down_stays : log_down (only (p w') (d w')) (c + n) ≡ log_down (only (p w) (d w)) c
    down_stays = down_span (only (p w') (d w')) c n (λ r l h. only_other (p w') (d w') r (none r l h)) ∙ down_fixed c (omega arith)

  -- one that passes
  module _ (here : p w' c ≡ true) where
    pub up_new : log_up (only (p w') (d w')) (c + 1) ≡ log_up (only (p w) (d w)) c ++ (d w' c ∷ [])
    up_new = up_one (only (p w') (d w')) c ∙ rw (only_here (p w') (d w') c here, up_fixed c (omega arith))

    pub down_new : log_down (only (p w') (d w')) (c + 1) ≡ d w' c ∷ log_down (only (p w) (d w)) c
    down_new = down_one (only (p w') (d w')) c ∙ rw (only_here (p w') (d w') c here, down_fixed c (omega arith))

-- what each record of a log reads as, put through a function
pub up_map : {A B : Type 0} (g : A → B) (p : ℕ → Bool) (d : ℕ → A) (c : ℕ) → map g (log_up (only p d) c) ≡ log_up (only p (λ r. g (d r))) c
unfolding log_up only
up_map g p d zero = refl
up_map {A} {B} g p d (suc c) = over (log_up (only p d) c) (choose (p c) (d c ∷ []) []) ∙ rw (up_map g p d c) (by (p c))
  where
    over : (xs ys : List A) → map g (xs ++ ys) ≡ map g xs ++ map g ys
    over [] ys = refl
    over (x ∷ xs) ys = rw (over xs ys)

    by : (t : Bool) → log_up (only p (λ r. g (d r))) c ++ map g (choose t (d c ∷ []) []) ≡ log_up (only p (λ r. g (d r))) c ++ choose t (g (d c) ∷ []) []
    by true = refl
    by false = refl

-- how many there are of a tag
module _ (t : ℕ) {c : ℕ} {w w' : List ℕ} (f : Fixed c w w') where
  pub below_fixed : (k : ℕ) → k ≤ c → below w' t k ≡ below w t k
  below_fixed k le = count_fixed (fixed_less le f) (λ u. tagged u t) (tagged_stable t)

  pub below_stays : (n : ℕ) → ((r : ℕ) → c ≤ r → r < c + n → cell w' r 0 ≡ t → ⊥) → below w' t (c + n) ≡ below w t c
  below_stays n none = count_span (tagged w' t) c n (λ r l h. tagged_other w' t r (none r l h)) ∙ below_fixed c (omega arith)

  pub below_new : cell w' c 0 ≡ t → below w' t (c + 1) ≡ below w t c + 1
  below_new e = count_here (tagged w' t) c (tagged_here w' t c e) ∙ rw (below_fixed c (omega arith))
