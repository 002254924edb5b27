-- The cases of a call exclude one another: what each number of an answer says.
use mathlib.Core.Path.{◌≡◌, ap}
use mathlib.Core.Logic.{◌↔◌}
use Prim.Native.Nat.{ℕ, ◌≤◌}
use native.Mathlib.Omega.{arith}
use Rattle.sheet_check.specs.Checked.{Checked, Fits, Bad}
use Rattle.expansion_definition.specs.Expand.{Expansion, Answer, expand}
use Rattle.expansion_definition.specs.Expanded.{Refusal}
use Rattle.expansion_definition.proofs.Demand.{numbered}
use Rattle.expansion_operation.specs.Operation.{Call, After, Numbers, input}
use Rattle.expansion_operation.specs.Promises.{RoomAndCaps, Sheets, WellFormed, Refused, Answered, one, two, three_root, three_library, four_to_ten, accepted}

-- a refusal of the steps
pub from_four : (c : Call) (n d i : ℕ) → Refusal (input c) n d i → (4 ≤ n) × (n ≤ 10)
from_four c n d i h = numbered h

number : {c : Call} {r : After} {n d i : ℕ} → Refused c r n d i → r.answer.refusal ≡ n
number x = ap (λ (a : Numbers). a.refusal) x.answer

misfit : {row : ℕ} {k : Checked} → k ≡ Bad row → k ≡ Fits → ⊥
misfit p q = let z : ◌≡◌ {A = ℕ} 0 1 = cc in omega arith

module _ (c : Call) (r : After) where
  -- 1: exactly the calls with short buffers or limits over their caps
  pub refused_1 : Answered c r → (r.answer.refusal ≡ 1) ↔ (RoomAndCaps c → ⊥)
  refused_1 (one h x) = ((λ e. h), λ k. number x)
  refused_1 (two room s x) = ((λ e. absurd (omega (arith, number x))), λ k. absurd (k room))
  refused_1 (three_root room s row q x) = ((λ e. absurd (omega (arith, number x))), λ k. absurd (k room))
  refused_1 (three_library room s f row q x) = ((λ e. absurd (omega (arith, number x))), λ k. absurd (k room))
  refused_1 (four_to_ten room s f n d i q h x) = ((λ e. absurd (omega (arith, number x, (from_four c n d i h).0))), λ k. absurd (k room))
  refused_1 (accepted room s f e q no-fault z) = ((λ y. absurd (omega arith)), λ k. absurd (k room))

  -- 2: of the others, those with a sheet of a wrong length
  pub refused_2 : Answered c r → (r.answer.refusal ≡ 2) ↔ (RoomAndCaps c × (Sheets c → ⊥))
  refused_2 (one h x) = ((λ e. absurd (omega (arith, number x))), λ k. absurd (h k.0))
  refused_2 (two room s x) = ((λ e. (room, s)), λ k. number x)
  refused_2 (three_root room s row q x) = ((λ e. absurd (omega (arith, number x))), λ k. absurd (k.1 s))
  refused_2 (three_library room s f row q x) = ((λ e. absurd (omega (arith, number x))), λ k. absurd (k.1 s))
  refused_2 (four_to_ten room s f n d i q h x) = ((λ e. absurd (omega (arith, number x, (from_four c n d i h).0))), λ k. absurd (k.1 s))
  refused_2 (accepted room s f e q no-fault z) = ((λ y. absurd (omega arith)), λ k. absurd (k.1 s))

  -- 3: of the others, those with a malformed sheet
  pub refused_3 : Answered c r → (r.answer.refusal ≡ 3) ↔ (RoomAndCaps c × Sheets c × (WellFormed c → ⊥))
  refused_3 (one h x) = ((λ e. absurd (omega (arith, number x))), λ k. absurd (h k.0))
  refused_3 (two room s x) = ((λ e. absurd (omega (arith, number x))), λ k. absurd (s k.1))
  refused_3 (three_root room s row q x) = ((λ e. (room, s, λ f. misfit q f.0)), λ k. number x)
  refused_3 (three_library room s f row q x) = ((λ e. (room, s, λ g. misfit q g.1)), λ k. number x)
  refused_3 (four_to_ten room s f n d i q h x) = ((λ e. absurd (omega (arith, number x, (from_four c n d i h).0))), λ k. absurd (k.2 f))
  refused_3 (accepted room s f e q no-fault z) = ((λ y. absurd (omega arith)), λ k. absurd (k.2 f))

  -- 0: of the others, those that the steps accept; no other number than 0 to 10
  pub accepted_0 : Answered c r → (r.answer.refusal ≡ 0) ↔ (RoomAndCaps c × Sheets c × WellFormed c × ((e : Expansion) × (expand (input c) ≡ Answer.Expanded e)))
  accepted_0 (one h x) = ((λ e. absurd (omega (arith, number x))), λ k. absurd (h k.0))
  accepted_0 (two room s x) = ((λ e. absurd (omega (arith, number x))), λ k. absurd (s k.1))
  accepted_0 (three_root room s row q x) = ((λ e. absurd (omega (arith, number x))), λ k. absurd (misfit q k.2.0))
  accepted_0 (three_library room s f row q x) = ((λ e. absurd (omega (arith, number x))), λ k. absurd (misfit q k.2.1))
  accepted_0 (four_to_ten room s f n d i q h x) = ((λ e. absurd (omega (arith, number x, (from_four c n d i h).0))), λ k. absurd (other k.3.0 k.3.1))
    where
      other : (e : Expansion) → expand (input c) ≡ Answer.Expanded e → ⊥
      other e p = let z : ◌≡◌ {A = ℕ} 0 1 = cc in omega arith
  accepted_0 (accepted room s f e q no-fault z) = ((λ y. (room, s, f, (e, q))), λ k. z)

  pub at_most_10 : Answered c r → r.answer.refusal ≤ 10
  at_most_10 (one h x) = omega (arith, number x)
  at_most_10 (two room s x) = omega (arith, number x)
  at_most_10 (three_root room s row q x) = omega (arith, number x)
  at_most_10 (three_library room s f row q x) = omega (arith, number x)
  at_most_10 (four_to_ten room s f n d i q h x) = omega (arith, number x, (from_four c n d i h).1)
  at_most_10 (accepted room s f e q no-fault z) = omega arith
