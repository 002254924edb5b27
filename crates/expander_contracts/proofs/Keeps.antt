-- A step, then a charge with a record: as `paid` asks, and what is given is made of what the step gave.
use mathlib.Core.Path.{◌≡◌, refl}
use mathlib.Core.List.{List}
use Prim.Native.Nat.{ℕ}
use Rattle.expansion_definition.specs.Input.{Input}
use Rattle.expansion_definition.specs.State.{State, Result, refusal, ok, Comp, bind_r, ◌>>=◌, ◌>>◌, ret}
use Rattle.expansion_definition.specs.Charges.{charge, paid}
use Rattle.journal_records.specs.declared.Record.{Record}
use Rattle.refine_records.specs.declared.Limits.{Limits}
use Rattle.refine_records.specs.Does.{Answer, did}
use Rattle.std.specs.declared.result.Result.TheVariants.{Ok, Err}
use Rattle.refine_records.specs.declared.Refusal.{Refusal}
use Rattle.refine_records.specs.declared.Counts.{Counts}
use Rattle.refine_records.specs.Sound.{JournalSound}
use Rattle.refine_records.specs.Contract.{KeptAt, RecordKept, StoredAt, ValueKept}
use Rattle.expander_parts.specs.Contract.{source_of}
use Rattle.expander_contracts.specs.Contract.{Yields}
use Rattle.expander_contracts.proofs.Run.{Run, begin, end, go, halt, gave, leaf}

-- n, then a charge; u is made of what n gave
abbrev pub charged : {A C : Type 0} → (Input → Comp A) → (A → C) → Input → Comp C
charged n u I = n I >>= (λ x. charge I >>= (λ z. ret (u x)))

-- `paid`, and then an answer made of it
pub paid_then : {A C : Type 0} (I : Input) (m : Comp A) (u : A → C) (st : State) → bind_r (paid I m st) (λ x. ret (u x)) ≡ bind_r (m st) (λ x. charge I >>= (λ z. ret (u x)))
unfolding paid bind_r
paid_then {A} {C} I m u st = by (m st)
  where
    most : (a : A) (x : Result (Unit {0})) → bind_r {B = C} (bind_r {B = A} x (λ z. ret a)) (λ x. ret (u x)) ≡ bind_r {B = C} x (λ z. ret (u a))
    most a (refusal c i j) = refl
    most a (ok z s) = refl

    by : (x : Result A) → bind_r {B = C} (bind_r {B = A} x (λ a. charge I >> ret a)) (λ x. ret (u x)) ≡ bind_r {B = C} x (λ a. charge I >>= (λ z. ret (u a)))
    by (refusal c i j) = refl
    by (ok a s) = most a (charge I s)

-- a charge with a record of a list, or of a stored value
pub kept_yields : {root library : List ℕ} {L : Limits} (young : ℕ) {w : List ℕ} {t : Counts} {r : Record} {w' : List ℕ} {a : Answer} → RecordKept L w t r w' a → Yields root library L young charge (λ u s v p z. KeptAt w t r u s v) w t w' a
kept_yields {root} {library} young k = leaf tt (λ D. k.does (source_of root library D) young) k.done

pub stored_yields : {root library : List ℕ} {L : Limits} (young : ℕ) {w : List ℕ} {t : Counts} {name ty class payload h : ℕ} {w' : List ℕ} {a : Answer} → ValueKept L w t name ty class payload h w' a → Yields root library L young charge (λ u s v p z. StoredAt w name ty class payload h u s v) w t w' a
stored_yields {root} {library} young k = leaf tt (λ D. k.does (source_of root library D) young) k.done

module _ {root library : List ℕ} {L : Limits} {young : ℕ} {A C : Type 0} {n : Input → Comp A} {P : List ℕ → Counts → ℕ → ℕ → A → Type 0} {w : List ℕ} {t : Counts} {w' : List ℕ} {a : Answer} (so : JournalSound L w t) (u : A → C) {Q : List ℕ → Counts → ℕ → ℕ → C → Type 0} (y : Yields root library L young n P w t w' a) where
  pub charging : {s : Counts} {v p : ℕ} {K : List ℕ → Counts → ℕ → Type 0} {w'' : List ℕ} {b : Answer} → a ≡ did s v p → Yields root library L young charge (λ u s v p z. K u s v) w' s w'' b → ((t'' : Counts) (h p'' : ℕ) → K w'' t'' h → Q w'' t'' h p'' (u y.given)) → Yields root library L young (charged n u) Q w t w'' b
  charging {s} {v} {p} {K} {w''} {b} e k q = by b k
    where
      run : Run root library L young (charged n u) w t (λ I. charge I >>= (λ z. ret (u y.given))) w' s
      run = go (λ I x. charge I >>= (λ z. ret (u x))) (begin young (charged n u) so) y e

      by : (b : Answer) → Yields root library L young charge (λ u s v p z. K u s v) w' s w'' b → Yields root library L young (charged n u) Q w t w'' b
      by (Ok a') k = end (go (λ I z. ret (u y.given)) run k refl) (q a'.st a'.value a'.place (gave k refl))
      by (Err x') k = halt (λ I z. ret (u y.given)) run k refl (u y.given)

  pub keeping : {s : Counts} {v p : ℕ} {r : Record} {w'' : List ℕ} {b : Answer} → a ≡ did s v p → RecordKept L w' s r w'' b → ((t'' : Counts) (h p'' : ℕ) → KeptAt w' s r w'' t'' h → Q w'' t'' h p'' (u y.given)) → Yields root library L young (charged n u) Q w t w'' b
  keeping {s} {v} {p} {r} e k q = charging {K = λ u t'' h. KeptAt w' s r u t'' h} e (kept_yields young k) q

  pub keeping_stop : {x' : Refusal} → a ≡ Err x' → Yields root library L young (charged n u) Q w t w' a
  keeping_stop e = halt (λ I x. charge I >>= (λ z. ret (u x))) (begin young (charged n u) so) y e (u y.given)
