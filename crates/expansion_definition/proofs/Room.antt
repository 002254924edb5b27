-- Wish 7: to look for room in the scopes slice makes no difference.
use mathlib.Core.Path.{◌≡◌, refl, sym, ◌∙◌}
use Prim.Native.Nat.{ℕ}
use native.Mathlib.Nat.{le_refl}
use native.Mathlib.Omega.{arith}
use Rattle.expansion_definition.specs.Input.{Limits, Input}
use Rattle.expansion_definition.specs.State.{State, Result}
use Rattle.expansion_definition.specs.Expand.{Answer}
use Rattle.expansion_definition.specs.Room.{HasEntries, expand_in, NeverFull}
use Rattle.expansion_definition.specs.Bigger.{Bigger}
use Rattle.expansion_definition.proofs.Demand.{refusals, numbered}
use Rattle.expansion_definition.proofs.Runs.{Short, eight, nine, ten, Run, same, refuses, goes_on, stops, Answers, both, first, open_steps, answers_in}

none_short : {A : Type 0} {L : Limits} {c d i : ℕ} → Short L L c d i → A
none_short (eight h) = absurd (omega arith)
none_short (nine h) = absurd (omega arith)
none_short (ten h) = absurd (omega arith)

-- Under the same limits, the same.
same_result : {A : Type 0} {L : Limits} {st : State} {r r' : Result A} → Run L L st r r' → r ≡ r'
same_result (same g) = refl
same_result refuses = refl
same_result (goes_on s g p) = none_short s
same_result (stops s) = none_short s

same_answer : {L : Limits} {a b : Answer} → Answers L L a b → a ≡ b
same_answer both = refl
same_answer (first s f) = none_short s

-- "Prove that over the whole expansion"
pub never_full : (words : ℕ) (I : Input) → HasEntries words I.limits → NeverFull words I
never_full words I entries = record {
  entry = λ e st h. same_result (open_steps I.root I.library I.limits I.limits equal words entries e st h);
  whole = same_answer (answers_in words I entries I.limits equal);
}
  where
    equal : Bigger I.limits I.limits
    equal = record { max_nodes = le_refl _; max_depth = le_refl _; max_rows = le_refl _ }

-- "Support has searched for a scene that gives 11 and found none."
pub never_11 : (words : ℕ) (I : Input) → HasEntries words I.limits → (d i : ℕ) → expand_in words I ≡ Answer.Refused 11 d i → ⊥
never_11 words I entries d i e = absurd (omega (arith, (numbered (refusals I 11 d i (sym (never_full words I entries).whole ∙ e))).1))
