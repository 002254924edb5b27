-- What a step leaves: the later journal, and a charge at the end of a piece.
use mathlib.Core.Path.{◌≡◌, refl}
use mathlib.Core.List.{List, []}
use Prim.Native.Nat.{ℕ}
use Rattle.expansion_definition.specs.State.{Comp, bind_r, ◌>>=◌, ◌>>◌, ret}
use Rattle.expansion_definition.specs.Charges.{charge, paid}
use Rattle.refine_records.specs.declared.Limits.{Limits}
use Rattle.std.specs.declared.result.Result.TheVariants.{Ok, Err}
use Rattle.refine_records.specs.declared.Counts.{Counts}
use Rattle.refine_records.specs.Sound.{Source, input_of, Later}
use Rattle.refine_records.specs.Does.{Answer, did, Decode, nothing, IfDone, Does, Doing}
use Rattle.refine_records.proofs.Calculus.{finish, step, stop, last, paying}

-- a source, where any will do
abbrev pub any_source : Source
any_source = record { root = []; library = []; depth = 0 }

pub done_later : {A : Type 0} {S : Source} {L : Limits} {young : ℕ} {d : Decode A} {m : Comp A} {w : List ℕ} {t : Counts} {w' : List ℕ} {a : Answer} {t' : Counts} {v p : ℕ} → Does S L young d m w t w' a → a ≡ did t' v p → Later L young w t w' t'
done_later x e = rw e at x.later

-- what holds of each answer, and of one from another
pub always : (P : Counts → ℕ → ℕ → Type 0) → ((t : Counts) (v p : ℕ) → P t v p) → (a : Answer) → IfDone P a
always P x (Ok a') = x a'.st a'.value a'.place
always P x (Err x') = tt

pub if_map : (P Q : Counts → ℕ → ℕ → Type 0) → ((t : Counts) (v p : ℕ) → P t v p → Q t v p) → (a : Answer) → IfDone P a → IfDone Q a
if_map P Q f (Ok a') x = f a'.st a'.value a'.place x
if_map P Q f (Err x') x = tt

module _ {M : Type 0} {S : Source} {L : Limits} {young : ℕ} {m₀ : Comp M} {w₀ : List ℕ} {t₀ : Counts} {w : List ℕ} {t : Counts} where
  -- a charge is left, and then an answer
  pub pays : (x : M) (d : Decode M) → Doing S L young m₀ w₀ t₀ (charge (input_of S L) >> ret x) w t → {w' : List ℕ} {a : Answer} → Does S L young nothing (charge (input_of S L)) w t w' a → IfDone (λ t' v p. x ≡ d w' v p) a → Does S L young d m₀ w₀ t₀ w' a
  pays x d g {w'} {a} y e = by a y e
    where
      by : (b : Answer) → Does S L young nothing (charge (input_of S L)) w t w' b → IfDone (λ t' v p. x ≡ d w' v p) b → Does S L young d m₀ w₀ t₀ w' b
      by (Ok a') z q = finish (step (λ u. ret x) g z refl) d a'.value a'.place q
      by (Err x') z q = stop (λ u. ret x) g z refl d

  -- what is paid for is there
  pub paid_there : (x : M) → Doing S L young m₀ w₀ t₀ (paid (input_of S L) (ret x)) w t → Doing S L young m₀ w₀ t₀ (charge (input_of S L) >> ret x) w t
  unfolding paid bind_r
  paid_there x g = g

  -- steps, and then a charge
  pub paid_last : (m : Comp M) → Doing S L young m₀ w₀ t₀ (paid (input_of S L) m) w t → Doing S L young m₀ w₀ t₀ (m >>= (λ a. charge (input_of S L) >> ret a)) w t
  paid_last m g = paying (input_of S L) m ret (last g)
