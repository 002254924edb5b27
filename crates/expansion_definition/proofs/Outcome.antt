-- What holds of a result: R of a refusal, P of an answer and its state.
use mathlib.Core.Path.{◌≡◌}
use Prim.Native.Nat.{ℕ}
use Rattle.expansion_definition.specs.State.{State, Result, refusal, ok, Comp, bind_r}

pub data Outcome {A : Type 0} (R : ℕ → ℕ → ℕ → Type 0) (P : A → State → Type 0) : Result A → Type 0 where
  refused : {c d i : ℕ} → R c d i → Outcome R P (refusal c d i)
  accepted : {a : A} {s : State} → P a s → Outcome R P (ok a s)

-- nothing is asked of a refusal
abbrev pub Any : ℕ → ℕ → ℕ → Type 0
Any c d i = Unit {0}

module _ {R : ℕ → ℕ → ℕ → Type 0} where
  -- One step, then the next.
  pub bind_out : {A B : Type 0} {Q : A → State → Type 0} {P : B → State → Type 0} {m : Result A} {k : A → Comp B} → Outcome R Q m → ((a : A) (s : State) → Q a s → Outcome R P (k a s)) → Outcome R P (bind_r m k)
  unfolding bind_r
  bind_out (refused r) f = refused r
  bind_out (accepted h) f = f _ _ h

  -- What follows of an answer holds of it.
  pub map_out : {A : Type 0} {Q P : A → State → Type 0} {m : Result A} → Outcome R Q m → ((a : A) (s : State) → Q a s → P a s) → Outcome R P m
  map_out (refused r) f = refused r
  map_out (accepted h) f = accepted (f _ _ h)

  of_ok : {A : Type 0} {P : A → State → Type 0} {a : A} {s : State} → Outcome R P (ok a s) → P a s
  of_ok (accepted h) = h

  of_refusal : {A : Type 0} {P : A → State → Type 0} {c d i : ℕ} → Outcome R P (refusal c d i) → R c d i
  of_refusal (refused r) = r

  -- What holds of an answer for each x.
  pub each : {A B : Type 0} {P : B → A → State → Type 0} (m : Result A) → B → ((x : B) → Outcome R (P x) m) → Outcome R (λ a s. (x : B) → P x a s) m
  each (refusal c d i) x h = refused (of_refusal (h x))
  each (ok a s) x h = accepted (λ y. of_ok (h y))

  -- What holds of a result that is an answer, or a refusal.
  pub at_ok : {A : Type 0} {P : A → State → Type 0} {m : Result A} {a : A} {s : State} → Outcome R P m → m ≡ ok a s → P a s
  at_ok h e = of_ok (rw e at h)

  pub at_refusal : {A : Type 0} {P : A → State → Type 0} {m : Result A} {c d i : ℕ} → Outcome R P m → m ≡ refusal c d i → R c d i
  at_refusal h e = of_refusal (rw e at h)

module _ {R T : ℕ → ℕ → ℕ → Type 0} where
  -- One step, then the next; what is said of the first step's refusals is said in other words.
  pub then_out : {A B : Type 0} {Q : A → State → Type 0} {P : B → State → Type 0} {m : Result A} {k : A → Comp B} → Outcome R Q m → ((c d i : ℕ) → R c d i → T c d i) → ((a : A) (s : State) → Q a s → Outcome T P (k a s)) → Outcome T P (bind_r m k)
  unfolding bind_r
  then_out (refused r) t f = refused (t _ _ _ r)
  then_out (accepted h) t f = f _ _ h

  -- What follows of a refusal and of an answer holds of them.
  pub turn_out : {A : Type 0} {Q P : A → State → Type 0} {m : Result A} → Outcome R Q m → ((c d i : ℕ) → R c d i → T c d i) → ((a : A) (s : State) → Q a s → P a s) → Outcome T P m
  turn_out (refused r) t f = refused (t _ _ _ r)
  turn_out (accepted h) t f = accepted (f _ _ h)

  -- Two things hold of an answer, the first of a refusal.
  pub both : {A : Type 0} {Q P : A → State → Type 0} (m : Result A) → Outcome R Q m → Outcome T P m → Outcome R (λ a s. Q a s × P a s) m
  both (refusal c d i) (refused r) k = refused r
  both (ok a s) h k = accepted (of_ok h, of_ok k)
