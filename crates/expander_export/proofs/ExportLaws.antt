-- Expand as C calls it: its cases.
use mathlib.Core.Path.{◌≡◌, refl, sym, ap, ◌∙◌}
use mathlib.Core.List.{List}
use Prim.Native.Nat.{ℕ, ◌≤◌, ◌<◌}
use native.Mathlib.Omega.{arith}
use lib.ListN.{length}
use borrow.Author.Tests.{lt-ltb, le-ltb}
use Rattle.words_lent.specs.Words.{over}
use Rattle.expansion_operation.specs.Operation.{Call, Numbers}
use Rattle.expander_run.specs.declared.Numbers as code
use Rattle.expander_run.specs.Calls.{Outcome, numbers_of, told, AsDefined, Demand1, Demand3}
use Rattle.expander_export.specs.Exports.{number_words, expand_c, SaysC, Demand1C, Demand3C}

module _ (c : Call) (answer : List ℕ) where
  pub expand_short : length answer < 7 → SaysC c answer 1 c.out c.ledger c.scopes answer × (Demand1C c answer 1 c.out c.ledger c.scopes answer × Demand3C c 1 c.out c.ledger c.scopes answer)
  unfolding expand_c
  expand_short h = (rw (lt-ltb _ _ h), (λ k. absurd (omega arith), λ k. absurd (omega arith)))

  pub expand_told : 7 ≤ length answer → (a : Outcome) {n : code.Numbers} → told n ≡ numbers_of a → {out ledger scopes after : List ℕ} {r : ℕ} → AsDefined c a out ledger scopes × (Demand1 c a out ledger scopes × Demand3 c a out ledger scopes) → (r ≡ n.refusal) × (after ≡ over (number_words (told n)) answer)
      → SaysC c answer r out ledger scopes after × (Demand1C c answer r out ledger scopes after × Demand3C c r out ledger scopes after)
  unfolding expand_c
  expand_told h a q x p =
      rw (p.0 ∙ ap (λ (m : Numbers). m.refusal) q, p.1 ∙ ap (λ (m : Numbers). over (number_words m) answer) q)
      (rw (le-ltb _ _ h, sym x.0), (λ k. (refl, x.1.0), x.1.1))
