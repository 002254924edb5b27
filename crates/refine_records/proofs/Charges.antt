-- Charges: what they give, and that code with room for them does them.
use mathlib.Core.Path.{◌≡◌, refl, sym, ap, ◌∙◌}
use mathlib.Core.Bool.{Bool, true, false}
use mathlib.Core.List.{List, [], ◌∷◌}
use Prim.Native.Nat.{ℕ, suc, ◌+◌, ◌-◌, ◌≤◌, ◌<◌}
use native.Mathlib.Omega.{arith}
use lib.ListN.{length}
use lib.Dec.{ltb}
use borrow.Author.Tests.{lt-ltb, le-ltb, ltb-true, ltb-false}
use Rattle.expansion_definition.specs.Input.{Input}
use Rattle.expansion_definition.specs.State.{State, refusal, ok, Comp, bind_r, ◌>>=◌, ◌>>◌}
use Rattle.expansion_definition.specs.Charges.{one_more, charge_if, charge, charge_each}
use Rattle.journal_reading.proofs.States.{more}
use Rattle.refine_records.specs.declared.Limits.{Limits}
use Rattle.std.specs.declared.result.Result.TheVariants.{Err}
use Rattle.refine_records.specs.declared.Refusal.TheVariants.{TooManyRows}
use Rattle.refine_records.specs.declared.Counts.{Counts}
use Rattle.refine_records.specs.Sound.{Source, input_of, Later}
use Rattle.refine_records.specs.Does.{did, Decode, nothing, at, Does, Doing}
use Rattle.refine_records.proofs.Calculus.{stop}

-- ---- the definition
module _ (I : Input) where
  pub charge_full : (st : State) → I.limits.max_rows ≤ st.charges → charge I st ≡ refusal 10 0 0
  unfolding charge charge_if
  charge_full st h = rw (le-ltb st.charges I.limits.max_rows h)

  pub charge_some : (st : State) → st.charges < I.limits.max_rows → charge I st ≡ ok tt (one_more st)
  unfolding charge charge_if
  charge_some st h = rw (lt-ltb st.charges I.limits.max_rows h)

  module _ {A : Type 0} where
    -- one for each, and too few
    pub each_full : (l : List A) (st : State) → I.limits.max_rows - st.charges < length l → charge_each I l st ≡ refusal 10 0 0
    unfolding charge_each bind_r
    each_full [] st h = absurd (omega arith)
    each_full (x ∷ l) st h = by (ltb st.charges I.limits.max_rows) refl (each_full l (one_more st))
      where
        by : (b : Bool) → ltb st.charges I.limits.max_rows ≡ b → (I.limits.max_rows - suc st.charges < length l → charge_each I l (one_more st) ≡ refusal 10 0 0) → charge_each I (x ∷ l) st ≡ refusal 10 0 0
        by true e go = let k : st.charges < I.limits.max_rows = ltb-true st.charges I.limits.max_rows e in rw (charge_some st k) (go (omega arith))
        by false e go = rw (charge_full st (ltb-false st.charges I.limits.max_rows e))

    -- one for each, with room
    pub each_some : (l : List A) (st : State) → st.charges + length l ≤ I.limits.max_rows → charge_each I l st ≡ ok tt (more (length l) st)
    unfolding charge_each bind_r
    each_some [] st h = let z : st.charges + 0 ≡ st.charges = omega arith in rw z
    each_some (x ∷ l) st h =
        let z : st.charges + suc (length l) ≡ suc st.charges + length l = omega arith in
        rw (charge_some st (omega arith)) (each_some l (one_more st) (omega arith) ∙ rw z)

-- ---- the code
module _ (S : Source) {L : Limits} (young : ℕ) {w : List ℕ} {t : Counts} where
  -- no charge is left
  pub charge_refused : L.rows ≤ t.charges → Does S L young nothing (charge (input_of S L)) w t w (Err TooManyRows)
  charge_refused h = record { same = sym (charge_full (input_of S L) (at S w t) h); later = tt }

  -- a charge, with a record that no log reads
  pub charge_done : {w' : List ℕ} {t' : Counts} → t.charges < L.rows → at S w' t' ≡ one_more (at S w t) → Later L young w t w' t' → (v p : ℕ) → Does S L young nothing (charge (input_of S L)) w t w' (did t' v p)
  charge_done h e x v p = record { same = ap (ok tt) e ∙ sym (charge_some (input_of S L) (at S w t) h); later = x }

  -- a charge, and a change of the state
  pub change_refused : {A : Type 0} (d : Decode A) (k : Comp A) → L.rows ≤ t.charges → Does S L young d (charge (input_of S L) >> k) w t w (Err TooManyRows)
  unfolding bind_r
  change_refused d k h = record { same = rw (charge_full (input_of S L) (at S w t) h); later = tt }

  pub change_done : {A : Type 0} (d : Decode A) (k : Comp A) {w' : List ℕ} {t' : Counts} → t.charges < L.rows → Later L young w t w' t' → (v p : ℕ) → ok (d w' v p) (at S w' t') ≡ k (one_more (at S w t)) → Does S L young d (charge (input_of S L) >> k) w t w' (did t' v p)
  unfolding bind_r
  change_done d k h x v p e = record { same = e ∙ rw (charge_some (input_of S L) (at S w t) h); later = x }

  -- a charge for each of a list
  module _ {A : Type 0} (l : List A) where
    pub each_refused : L.rows - t.charges < length l → Does S L young nothing (charge_each (input_of S L) l) w t w (Err TooManyRows)
    each_refused h = record { same = sym (each_full (input_of S L) l (at S w t) h); later = tt }

    pub each_done : {w' : List ℕ} {t' : Counts} → t.charges + length l ≤ L.rows → at S w' t' ≡ more (length l) (at S w t) → Later L young w t w' t' → (v p : ℕ) → Does S L young nothing (charge_each (input_of S L) l) w t w' (did t' v p)
    each_done h e x v p = record { same = ap (ok tt) e ∙ sym (each_some (input_of S L) l (at S w t) h); later = x }

-- what is left begins with a charge, and none is left
module _ {M : Type 0} {S : Source} {L : Limits} {young : ℕ} {m₀ : Comp M} {w₀ : List ℕ} {t₀ : Counts} {w : List ℕ} {t : Counts} where
  pub full : (k : Unit {0} → Comp M) → Doing S L young m₀ w₀ t₀ (charge (input_of S L) >>= k) w t → L.rows ≤ t.charges → (d : Decode M) → Does S L young d m₀ w₀ t₀ w (Err TooManyRows)
  full k g h d = stop k g (charge_refused S young h) refl d
