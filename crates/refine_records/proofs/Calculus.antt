-- How code is shown to do what a piece of the definition does, step by step.
use mathlib.Core.Path.{◌≡◌, refl, sym, ◌∙◌}
use mathlib.Core.List.{List, [], ◌∷◌}
use Prim.Native.Nat.{ℕ, ◌≤◌}
use Rattle.expansion_definition.specs.State.{Result, refusal, ok, Comp, bind_r, ◌>>=◌, ◌>>◌, ret, fail, map_m, fold_m}
use Rattle.expansion_definition.specs.Input.{Input}
use Rattle.expansion_definition.specs.Charges.{charge, paid}
use Rattle.refine_records.specs.declared.Limits.{Limits}
use Rattle.std.specs.declared.result.Result.TheVariants.{Ok, Err}
use Rattle.refine_records.specs.declared.Refusal.{Refusal}
use Rattle.refine_records.specs.declared.Counts.{Counts}
use Rattle.refine_records.specs.Refusals.{refusal_number, first_place, second_place}
use Rattle.refine_records.specs.Sound.{Source, JournalSound, Later}
use Rattle.refine_records.specs.Does.{Answer, did, Decode, at, IfDone, Does, Doing}
use Rattle.refine_records.proofs.Later.{later_refl, later_trans, later_young}

-- ---- the monad: nested steps in a row
module _ {A B C : Type 0} where
  assoc : (m : Result A) (h : A → Comp B) (k : B → Comp C) → bind_r (bind_r m h) k ≡ bind_r m (λ a. h a >>= k)
  unfolding bind_r
  assoc (refusal n i j) h k = refl
  assoc (ok a st) h k = refl

-- with an older bound
pub does_young : {A : Type 0} {S : Source} {L : Limits} {young young' : ℕ} {d : Decode A} {m : Comp A} {w : List ℕ} {t : Counts} {w' : List ℕ} {r : Answer} → young ≤ young' → Does S L young' d m w t w' r → Does S L young d m w t w' r
does_young {A} {S} {L} {young} {young'} {d} {m} {w} {t} {w'} {r} le x = record { same = x.same; later = by r x.later }
  where
    by : (r : Answer) → IfDone (λ t' v p. Later L young' w t w' t') r → IfDone (λ t' v p. Later L young w t w' t') r
    by (Ok a') y = later_young le y
    by (Err x') y = tt

-- what was done by one piece is done by another that is equal here
pub does_as : {A : Type 0} {S : Source} {L : Limits} {young : ℕ} {d : Decode A} {m : Comp A} {w : List ℕ} {t : Counts} {w' : List ℕ} {r : Answer} → Does S L young d m w t w' r → (m' : Comp A) → m (at S w t) ≡ m' (at S w t) → Does S L young d m' w t w' r
does_as x m' e = record { same = x.same ∙ e; later = x.later }

-- the start
pub start : {A : Type 0} (S : Source) {L : Limits} (young : ℕ) (m : Comp A) {w : List ℕ} {t : Counts} → JournalSound L w t → Doing S L young m w t m w t
start S young m so = record { left = refl; later = later_refl young so }

module _ {M : Type 0} {S : Source} {L : Limits} {young : ℕ} {m₀ : Comp M} {w₀ : List ℕ} {t₀ : Counts} {w : List ℕ} {t : Counts} where
  -- what is left, said otherwise
  pub turn : {l : Comp M} → Doing S L young m₀ w₀ t₀ l w t → (l' : Comp M) → l (at S w t) ≡ l' (at S w t) → Doing S L young m₀ w₀ t₀ l' w t
  turn g l' e = record { left = g.left ∙ e; later = g.later }

  -- the end: an answer, a refusal, or what another piece does
  pub finish : {a : M} → Doing S L young m₀ w₀ t₀ (ret a) w t → (d : Decode M) (v p : ℕ) → a ≡ d w v p → Does S L young d m₀ w₀ t₀ w (did t v p)
  finish g d v p e = record { same = rw (← e) (sym g.left); later = g.later }

  pub refuse : (x' : Refusal) → Doing S L young m₀ w₀ t₀ (fail (refusal_number x') (first_place x') (second_place x')) w t → (d : Decode M) → Does S L young d m₀ w₀ t₀ w (Err x')
  refuse x' g d = record { same = sym g.left; later = tt }

  pub tail : {l : Comp M} {d : Decode M} {w' : List ℕ} {r : Answer} → Doing S L young m₀ w₀ t₀ l w t → Does S L young d l w t w' r → Does S L young d m₀ w₀ t₀ w' r
  tail {l} {d} {w'} {r} g x = record { same = x.same ∙ sym g.left; later = by r x.later }
    where
      by : (r : Answer) → IfDone (λ t' v p. Later L young w t w' t') r → IfDone (λ t' v p. Later L young w₀ t₀ w' t') r
      by (Ok a') y = later_trans g.later y
      by (Err x') y = tt

  module _ {A : Type 0} {d : Decode A} {m : Comp A} (k : A → Comp M) {w' : List ℕ} {r : Answer} where
    -- a step is done, and the rest is left
    pub step : {t' : Counts} {v p : ℕ} → Doing S L young m₀ w₀ t₀ (m >>= k) w t → Does S L young d m w t w' r → r ≡ did t' v p → Doing S L young m₀ w₀ t₀ (k (d w' v p)) w' t'
    unfolding bind_r
    step {t'} {v} {p} g x e =
        let s : ok (d w' v p) (at S w' t') ≡ m (at S w t) = rw e at x.same in
        let y : Later L young w t w' t' = rw e at x.later in
        record { left = g.left ∙ rw (← s); later = later_trans g.later y }

    -- a step is refused
    pub stop : {x' : Refusal} → Doing S L young m₀ w₀ t₀ (m >>= k) w t → Does S L young d m w t w' r → r ≡ Err x' → (e : Decode M) → Does S L young e m₀ w₀ t₀ w' r
    unfolding bind_r
    stop {x'} g x q e =
        let s : refusal (refusal_number x') (first_place x') (second_place x') ≡ m (at S w t) = rw q at x.same in
        rw q (record { same = sym (g.left ∙ rw (← s)); later = tt })

  -- ---- nested steps and lists
  -- steps within a step
  pub inner : {A B : Type 0} (m : Comp A) (h : A → Comp B) (k : B → Comp M) → Doing S L young m₀ w₀ t₀ ((m >>= h) >>= k) w t → Doing S L young m₀ w₀ t₀ (m >>= (λ a. h a >>= k)) w t
  inner m h k g = turn g (m >>= (λ a. h a >>= k)) (assoc (m (at S w t)) h k)

  -- a value that is there
  pub there : {A : Type 0} (a : A) (k : A → Comp M) → Doing S L young m₀ w₀ t₀ (ret a >>= k) w t → Doing S L young m₀ w₀ t₀ (k a) w t
  unfolding bind_r
  there a k g = g

  -- a piece at the end
  pub last : {l : Comp M} → Doing S L young m₀ w₀ t₀ l w t → Doing S L young m₀ w₀ t₀ (l >>= ret) w t
  unfolding bind_r
  last {l} g = turn g (l >>= ret) (by (l (at S w t)))
    where
      by : (x : Result M) → x ≡ bind_r x ret
      by (refusal n i j) = refl
      by (ok a st) = refl

  -- each element of a list in order: one more, and none
  module _ {A B : Type 0} (f : A → Comp B) where
    pub each : (a : A) (l : List A) (k : List B → Comp M) → Doing S L young m₀ w₀ t₀ (map_m f (a ∷ l) >>= k) w t → Doing S L young m₀ w₀ t₀ (f a >>= (λ b. map_m f l >>= (λ bs. k (b ∷ bs)))) w t
    unfolding map_m bind_r
    each a l k g = turn g (f a >>= (λ b. map_m f l >>= (λ bs. k (b ∷ bs)))) (assoc (f a (at S w t)) (λ b. map_m f l >>= (λ bs. ret (b ∷ bs))) k ∙ rest (f a (at S w t)))
      where
        most : (b : B) (x : Result (List B)) → bind_r (bind_r x (λ bs. ret (b ∷ bs))) k ≡ bind_r x (λ bs. k (b ∷ bs))
        most b (refusal n i j) = refl
        most b (ok bs st) = refl

        rest : (x : Result B) → bind_r x (λ b. (map_m f l >>= (λ bs. ret (b ∷ bs))) >>= k) ≡ bind_r x (λ b. map_m f l >>= (λ bs. k (b ∷ bs)))
        rest (refusal n i j) = refl
        rest (ok b st) = most b (map_m f l st)

    -- the next element is done
    pub each_step : (a : A) (l : List A) (k : List B → Comp M) → Doing S L young m₀ w₀ t₀ (map_m f (a ∷ l) >>= k) w t → {d : Decode B} {w' : List ℕ} {r : Answer} → Does S L young d (f a) w t w' r → {t' : Counts} {v p : ℕ}
        → r ≡ did t' v p → Doing S L young m₀ w₀ t₀ (map_m f l >>= (λ bs. k (d w' v p ∷ bs))) w' t'
    each_step a l k g x e = step (λ b. map_m f l >>= (λ bs. k (b ∷ bs))) (each a l k g) x e

    pub each_end : (k : List B → Comp M) → Doing S L young m₀ w₀ t₀ (map_m f [] >>= k) w t → Doing S L young m₀ w₀ t₀ (k []) w t
    unfolding map_m bind_r
    each_end k g = g

  -- from what the ones before gave: one more, and none
  module _ {A B : Type 0} (f : B → A → Comp B) where
    pub fold : (b : B) (a : A) (l : List A) (k : B → Comp M) → Doing S L young m₀ w₀ t₀ (fold_m f b (a ∷ l) >>= k) w t → Doing S L young m₀ w₀ t₀ (f b a >>= (λ c. fold_m f c l >>= k)) w t
    unfolding fold_m
    fold b a l k g = turn g (f b a >>= (λ c. fold_m f c l >>= k)) (assoc (f b a (at S w t)) (λ c. fold_m f c l) k)

    -- the next element is done
    pub fold_step : (b : B) (a : A) (l : List A) (k : B → Comp M) → Doing S L young m₀ w₀ t₀ (fold_m f b (a ∷ l) >>= k) w t → {d : Decode B} {w' : List ℕ} {r : Answer} → Does S L young d (f b a) w t w' r → {t' : Counts} {v p : ℕ}
        → r ≡ did t' v p → Doing S L young m₀ w₀ t₀ (fold_m f (d w' v p) l >>= k) w' t'
    fold_step b a l k g x e = step (λ c. fold_m f c l >>= k) (fold b a l k g) x e

    pub fold_end : (b : B) (k : B → Comp M) → Doing S L young m₀ w₀ t₀ (fold_m f b [] >>= k) w t → Doing S L young m₀ w₀ t₀ (k b) w t
    unfolding fold_m bind_r
    fold_end b k g = g

  -- a piece and then a charge
  pub paying : {A : Type 0} (I : Input) (m : Comp A) (k : A → Comp M) → Doing S L young m₀ w₀ t₀ (paid I m >>= k) w t → Doing S L young m₀ w₀ t₀ (m >>= (λ a. charge I >> k a)) w t
  unfolding paid bind_r
  paying {A} I m k g = turn g (m >>= (λ a. charge I >> k a)) (assoc (m (at S w t)) (λ a. charge I >> ret a) k ∙ rest (m (at S w t)))
    where
      most : (a : A) (x : Result (Unit {0})) → bind_r (bind_r x (λ u. ret a)) k ≡ bind_r x (λ u. k a)
      most a (refusal n i j) = refl
      most a (ok u st) = refl

      rest : (x : Result A) → bind_r x (λ a. (charge I >> ret a) >>= k) ≡ bind_r x (λ a. charge I >> k a)
      rest (refusal n i j) = refl
      rest (ok a st) = most a (charge I st)
