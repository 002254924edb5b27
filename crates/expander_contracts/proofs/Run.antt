-- How a part is shown to yield what its piece of the definition gives: the steps of the calculus, for every D at once.
use mathlib.Core.Path.{◌≡◌, refl, sym, ap, ◌∙◌}
use mathlib.Core.List.{List}
use Prim.Native.Nat.{ℕ, ◌≤◌}
use Rattle.expansion_definition.specs.Input.{Input}
use Rattle.expansion_definition.specs.State.{Comp, ◌>>=◌, ret, fail}
use Rattle.expansion_definition.specs.Values.{Env, src}
use Rattle.refine_records.specs.declared.Limits.{Limits}
use Rattle.std.specs.declared.result.Result.TheVariants.{Ok, Err}
use Rattle.refine_records.specs.declared.Refusal.{Refusal}
use Rattle.refine_records.specs.declared.Counts.{Counts}
use Rattle.refine_records.specs.declared.Env as code
use Rattle.refine_records.specs.Refusals.{refusal_number, first_place, second_place}
use Rattle.refine_records.specs.Sound.{input_of, JournalSound, Later}
use Rattle.refine_records.specs.Does.{Answer, did, Decode, at, IfDone, Does, Doing}
use Rattle.refine_records.proofs.Later.{later_standing, later_env, env_later}
use Rattle.refine_records.proofs.Calculus as calculus
use Rattle.expander_parts.specs.Contract.{source_of}
use Rattle.expander_parts.proofs.Lending.{lent_later}
use Rattle.expander_contracts.specs.Contract.{Here, Yields}

-- ---- what stays true

pub here_later : {root library dir w w' : List ℕ} {L : Limits} {young : ℕ} {t t' : Counts} {e : code.Env} → Later L young w t w' t' → Here root library dir w L t e → Here root library dir w' L t' e
here_later x h = record {
  standing = later_standing x h.standing;
  lent = lent_later x h.lent;
  env = later_env x h.env;
  slot = h.slot;
  number = h.number ∙ sym (ap (λ (e : Env). src e) (env_later x h.env));
}

-- ---- what a step gives

module _ {root library : List ℕ} {L : Limits} {B : Type 0} {n : Input → Comp B} {w : List ℕ} {t : Counts} {w' : List ℕ} where
  -- with an older bound
  abbrev pub yields_young : {young young' : ℕ} {P : List ℕ → Counts → ℕ → ℕ → B → Type 0} {a : Answer} → young ≤ young' → Yields root library L young' n P w t w' a → Yields root library L young n P w t w' a
  yields_young le y = record { given = y.given; does = λ D. calculus.does_young le (y.does D); done = y.done }

  -- of a step that does a piece; b: any answer
  pub leaf : {young : ℕ} {P : List ℕ → Counts → ℕ → ℕ → B → Type 0} {d : Decode B} {a : Answer} (b : B) → ((D : ℕ) → Does (source_of root library D) L young d (n (input_of (source_of root library D) L)) w t w' a) → IfDone (λ t' v p. P w' t' v p (d w' v p)) a → Yields root library L young n P w t w' a
  leaf {young} {P} {d} {a} b x y = by a x y
    where
      by : (a : Answer) → ((D : ℕ) → Does (source_of root library D) L young d (n (input_of (source_of root library D) L)) w t w' a) → IfDone (λ t' v p. P w' t' v p (d w' v p)) a → Yields root library L young n P w t w' a
      by (Ok a') x y = record { given = d w' a'.value a'.place; does = λ D. record { same = (x D).same; later = (x D).later }; done = y }
      by (Err x') x y = record { given = b; does = λ D. record { same = (x D).same; later = tt }; done = tt }

  module _ {young : ℕ} {P : List ℕ → Counts → ℕ → ℕ → B → Type 0} {a : Answer} (y : Yields root library L young n P w t w' a) where
    -- of what was given, where it was
    pub gave : {t' : Counts} {v p : ℕ} → a ≡ did t' v p → P w' t' v p y.given
    gave e = rw e at y.done

    pub went : {t' : Counts} {v p : ℕ} → a ≡ did t' v p → Later L young w t w' t'
    went e = rw e at (y.does 0).later

    -- said otherwise
    pub yields_as : (n' : Input → Comp B) → ((D : ℕ) → n (input_of (source_of root library D) L) (at (source_of root library D) w t) ≡ n' (input_of (source_of root library D) L) (at (source_of root library D) w t)) → Yields root library L young n' P w t w' a
    yields_as n' e = record { given = y.given; does = λ D. calculus.does_as (y.does D) (n' (input_of (source_of root library D) L)) (e D); done = y.done }

-- ---- where a part stands: the whole, m, is what is left, l, from here

pub record Run {M : Type 0} (root library : List ℕ) (L : Limits) (young : ℕ) (m : Input → Comp M) (w₀ : List ℕ) (t₀ : Counts) (l : Input → Comp M) (w : List ℕ) (t : Counts) : Type 0 where
  pub doing : (D : ℕ) → Doing (source_of root library D) L young (m (input_of (source_of root library D) L)) w₀ t₀ (l (input_of (source_of root library D) L)) w t

pub begin : {M : Type 0} {root library : List ℕ} {L : Limits} (young : ℕ) (m : Input → Comp M) {w : List ℕ} {t : Counts} → JournalSound L w t → Run root library L young m w t m w t
begin {M} {root} {library} {L} young m so = record { doing = λ D. calculus.start (source_of root library D) young (m (input_of (source_of root library D) L)) so }

module _ {M : Type 0} {root library : List ℕ} {L : Limits} {young : ℕ} {m : Input → Comp M} {w₀ : List ℕ} {t₀ : Counts} {w : List ℕ} {t : Counts} where
  pub since : {l : Input → Comp M} → Run root library L young m w₀ t₀ l w t → Later L young w₀ t₀ w t
  since r = (r.doing 0).later

  -- what is left, said otherwise
  pub turn : {l : Input → Comp M} → Run root library L young m w₀ t₀ l w t → (l' : Input → Comp M) → ((D : ℕ) → l (input_of (source_of root library D) L) (at (source_of root library D) w t) ≡ l' (input_of (source_of root library D) L) (at (source_of root library D) w t)) → Run root library L young m w₀ t₀ l' w t
  turn r l' e = record { doing = λ D. calculus.turn (r.doing D) (l' (input_of (source_of root library D) L)) (e D) }

  -- a piece at the end
  pub last : {l : Input → Comp M} → Run root library L young m w₀ t₀ l w t → Run root library L young m w₀ t₀ (λ I. l I >>= (λ x. ret x)) w t
  last r = record { doing = λ D. calculus.last (r.doing D) }

  -- the end
  pub end : {b : M} {P : List ℕ → Counts → ℕ → ℕ → M → Type 0} {v p : ℕ} → Run root library L young m w₀ t₀ (λ I. ret b) w t → P w t v p b → Yields root library L young m P w₀ t₀ w (did t v p)
  end {b} {P} {v} {p} r x = record { given = b; does = λ D. calculus.finish (r.doing D) (λ u v p. b) v p refl; done = x }

  pub refuse : (x' : Refusal) {P : List ℕ → Counts → ℕ → ℕ → M → Type 0} → Run root library L young m w₀ t₀ (λ I. fail (refusal_number x') (first_place x') (second_place x')) w t → (b : M) → Yields root library L young m P w₀ t₀ w (Err x')
  refuse x' r b = record { given = b; does = λ D. calculus.refuse x' (r.doing D) (λ u v p. b); done = tt }

  -- the rest is another piece
  pub through : {l : Input → Comp M} {P : List ℕ → Counts → ℕ → ℕ → M → Type 0} {w' : List ℕ} {a : Answer} → Run root library L young m w₀ t₀ l w t → Yields root library L young l P w t w' a → Yields root library L young m P w₀ t₀ w' a
  through r y = record { given = y.given; does = λ D. calculus.tail (r.doing D) (y.does D); done = y.done }

  -- a step is done, and the rest is left; or it is refused
  module _ {A : Type 0} {n : Input → Comp A} (k : Input → A → Comp M) {P : List ℕ → Counts → ℕ → ℕ → A → Type 0} {w' : List ℕ} {a : Answer} (r : Run root library L young m w₀ t₀ (λ I. n I >>= k I) w t) (y : Yields root library L young n P w t w' a) where
    pub go : {t' : Counts} {v p : ℕ} → a ≡ did t' v p → Run root library L young m w₀ t₀ (λ I. k I y.given) w' t'
    go e = record { doing = λ D. calculus.step (k (input_of (source_of root library D) L)) (r.doing D) (y.does D) e }

    pub halt : {x' : Refusal} {Q : List ℕ → Counts → ℕ → ℕ → M → Type 0} → a ≡ Err x' → (b : M) → Yields root library L young m Q w₀ t₀ w' a
    halt {x'} {Q} e b = record { given = b; does = λ D. calculus.stop (k (input_of (source_of root library D) L)) (r.doing D) (y.does D) e (λ u v p. b); done = rw e tt }
