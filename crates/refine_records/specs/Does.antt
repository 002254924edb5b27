-- That code does what a piece of the definition does: the answer, and the state that the journal stands for after it.
-- `Does` is a function's contract; `Doing` is where the definition stands in the middle of a function.
use Rattle.std.specs.Prelude.{◌≡◌, List, ℕ}
use Rattle.expansion_definition.specs.State.{State, Result, refusal, ok, Comp}
use Rattle.journal_reading.specs.Reading.{state_of}
use Rattle.refine_records.specs.declared.Limits.{Limits}
use Rattle.std.specs.declared.result.Result as code
use Rattle.std.specs.declared.result.Result.TheVariants.{Ok, Err}
use Rattle.refine_records.specs.declared.Counts.{Counts}
use Rattle.refine_records.specs.declared.Opened.{Opened}
use Rattle.refine_records.specs.declared.NodeCopy.{NodeCopy}
use Rattle.refine_records.specs.declared.Refusal.{Refusal}
use Rattle.refine_records.specs.Refusals.{refusal_number, first_place, second_place}
use Rattle.refine_records.specs.Sound.{Source, Later}

-- what a step has done: the counts after it, what it gives, and where it is of use a place
pub record Done : Type 0 where
  pub st : Counts
  pub value : ℕ
  pub place : ℕ

-- what a step answers: what it has done, or a refusal
abbrev pub Answer : Type 0
Answer = code.Result Done Refusal

abbrev pub did : Counts → ℕ → ℕ → Answer
did t v p = Ok (record { st = t; value = v; place = p })

-- the answer of code that gives an A, by the journal's counts after it
abbrev pub given : {A : Type 0} → (A → ℕ) → (A → ℕ) → Counts → code.Result A Refusal → Answer
given value place t (Ok a) = did t (value a) (place a)
given value place t (Err x') = Err x'

abbrev pub number_given : Counts → code.Result ℕ Refusal → Answer
number_given = given (λ v. v) (λ v. 0)

abbrev pub done_given : Counts → code.Result (Unit {0}) Refusal → Answer
done_given = given (λ u. 0) (λ u. 0)

abbrev pub scope_given : Counts → code.Result Opened Refusal → Answer
scope_given = given (λ x. x.number) (λ x. x.place)

abbrev pub copy_given : Counts → code.Result NodeCopy Refusal → Answer
copy_given = given (λ x. x.id.0) (λ x. x.place)

-- what an answer's value and place are read as, in the words after
abbrev pub Decode : Type 0 → Type 0
Decode A = List ℕ → ℕ → ℕ → A

abbrev pub nothing : Decode (Unit {0})
nothing w v p = tt

abbrev pub number : Decode ℕ
number w v p = v

abbrev pub at : Source → List ℕ → Counts → State
at S w t = state_of S.root S.library w t.charges

abbrev pub result_of : {A : Type 0} → Source → Decode A → List ℕ → Answer → Result A
result_of S d w (Ok a') = ok (d w a'.value a'.place) (at S w a'.st)
result_of S d w (Err x') = refusal (refusal_number x') (first_place x') (second_place x')

-- what holds of an answer that is no refusal
abbrev pub IfDone : (Counts → ℕ → ℕ → Type 0) → Answer → Type 0
IfDone P (Ok a') = P a'.st a'.value a'.place
IfDone P (Err x') = Unit {0}

-- from (w, t) the code has come to w' with the answer r, as m does
pub record Does {A : Type 0} (S : Source) (L : Limits) (young : ℕ) (d : Decode A) (m : Comp A) (w : List ℕ) (t : Counts) (w' : List ℕ) (r : Answer) : Type 0 where
  pub same : result_of S d w' r ≡ m (at S w t)
  pub later : IfDone (λ t' v p. Later L young w t w' t') r

-- the code began at (w₀, t₀) and stands at (w, t): the whole of m is what is left, l, from here
pub record Doing {A : Type 0} (S : Source) (L : Limits) (young : ℕ) (m : Comp A) (w₀ : List ℕ) (t₀ : Counts) (l : Comp A) (w : List ℕ) (t : Counts) : Type 0 where
  pub left : m (at S w₀ t₀) ≡ l (at S w t)
  pub later : Later L young w₀ t₀ w t
