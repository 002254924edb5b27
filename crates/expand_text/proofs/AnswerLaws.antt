-- An answer of Expand has at most K rows.
use mathlib.Core.List.{List}
use mathlib.Core.Path.{◌≡◌, refl}
use native.Mathlib.Omega.{arith}
use Prim.Native.Nat.{ℕ}
use Rattle.std.specs.declared.result.Result.TheVariants.{Ok, Err}
use Rattle.expander_run.specs.declared.Expanded.{Expanded}
use Rattle.expander_run.specs.Calls.{Outcome, Demand3}
use Rattle.expand_text.specs.declared.answer.SceneError.{SceneError}
use Rattle.expand_text.specs.declared.answer.SceneError.TheVariants.{WrongLength, BadLine, Expand}
use Rattle.expand_text.specs.Answer.{Few, call_on}

-- "In every accepted expansion rows ≤ charges ≤ K"
pub few : (root out out' ledger scopes : List ℕ) {o : Outcome} {x : Expanded} → o ≡ Ok x → Demand3 (call_on root out) o out' ledger scopes → Few (Ok x)
few root out out' ledger scopes {o} {x} q d =
    let e : Demand3 (call_on root out) (Ok x) out' ledger scopes = rw q at d in
    let a = e refl in
    record { rows = omega (arith, a.rows_paid, a.expanded.charge_limit) }

pub few_refused : (e : SceneError) → Few (Err e)
few_refused WrongLength = record { rows = omega arith }
few_refused (BadLine line) = record { rows = omega arith }
few_refused (Expand x') = record { rows = omega arith }
