-- Refusals 1 to 3: what the definition answers, one test after another.
use mathlib.Core.Path.{◌≡◌, ap}
use mathlib.Core.Bool.{Bool, true, false, ◌||◌}
use mathlib.Core.List.{List, [], ◌∷◌}
use Prim.Native.Nat.{ℕ, suc, ◌+◌, ◌/◌, ◌≤◌}
use native.Mathlib.Omega.{arith}
use lib.ListN.{length}
use Rattle.ast.specs.Choice.{choose}
use Rattle.sheet_rows.specs.declared.row.Row.{Row}
use Rattle.sheet_check.specs.Checked.{Checked, Fits, Bad}
use Rattle.sheet_check.specs.declared.grammar.Form.{Form}
use Rattle.sheet_check.specs.declared.grammar.State.{State}
use Rattle.std.specs.Prelude.{Option, Some, None, Ok, Err}
use Rattle.sheet_check.specs.declared.grammar.Form.TheVariants as form
use Rattle.sheet_rows.specs.Rows.{rows}
use Rattle.sheet_check.specs.Grammar.{has_ended, fits, go_on, run, checked}
use Rattle.sheet_rows.proofs.RowLaws.{rows_length}
use Rattle.expansion_operation.specs.Operation.{Call, over_caps, too_short, wrong_length, outcome, expand_words}
use Rattle.expansion_operation.specs.Promises.{Promises}
use Rattle.expansion_operation.proofs.Targets.{Words}
use Rattle.expansion_operation.proofs.Tests.{room_if, sheets_if}
use Rattle.expansion_operation.proofs.Promised.{promises}
use Rattle.std.specs.declared.result.Result.TheVariants.{Err}
use Rattle.expander_run.specs.Calls.{NoRoom, WrongLength, Malformed, Outcome, after_of, AsDefined, Demand1, Demand3, Allowed, Ran}

-- ---- a row that doesn't fit is a row of the sheet, or its end
no_fits : {n : ℕ} → Fits ≡ Bad n → ⊥
no_fits {n} e = let z : ◌≡◌ {A = ℕ} 0 1 = ap tag e in omega arith
  where
    tag : Checked → ℕ
    tag (Ok _) = 0
    tag (Err b) = 1

bad_is : {n m : ℕ} → Bad n ≡ Bad m → n ≡ m
bad_is {n} {m} e = ap row e
  where
    row : Checked → ℕ
    row (Ok _) = 0
    row (Err b) = b.0

low : (form : Form) (s : State) (n : ℕ) (l : List Row) {m : ℕ} → run form s n l ≡ Bad m → m ≤ n + length l
unfolding run
low form s n [] {m} e = by (has_ended form s) e
  where
    by : (b : Bool) → choose b Fits (Bad n) ≡ Bad m → m ≤ n + 0
    by true z = absurd (no_fits z)
    by false z = omega (arith, bad_is z)
low form s n (r ∷ l) {m} e = by (λ t z. low form t (suc n) l z) (fits form s r) e
  where
    by : ((t : State) → run form t (suc n) l ≡ Bad m → m ≤ suc n + length l) → (x : Option State) → go_on x (λ t. run form t (suc n) l) n ≡ Bad m → m ≤ n + suc (length l)
    by k (Some t) z = omega (arith, k t z)
    by k None z = omega (arith, bad_is z)

pub bad_low : (form : Form) (sheet : List ℕ) {m : ℕ} → checked form (rows sheet) ≡ Bad m → m ≤ length sheet / 8
bad_low form sheet e = omega (arith, low form _ 0 (rows sheet) e, rows_length sheet)

-- ---- the answer, from the tests' results
module _ (c : Call) where
  pub at_1 : (over_caps c.limits || too_short c) ≡ true → AsDefined c (Err NoRoom) c.out c.ledger c.scopes
  unfolding expand_words outcome
  at_1 q = rw q

  module _ (q : (over_caps c.limits || too_short c) ≡ false) where
    pub at_2_root : wrong_length c.root ≡ true → AsDefined c (Err WrongLength) c.out c.ledger c.scopes
    unfolding expand_words outcome
    at_2_root r = rw (q, r)

    pub at_2_library : wrong_length c.root ≡ false → wrong_length c.library ≡ true → AsDefined c (Err WrongLength) c.out c.ledger c.scopes
    unfolding expand_words outcome
    at_2_library r l = rw (q, r, l)

    module _ (r : wrong_length c.root ≡ false) (l : wrong_length c.library ≡ false) where
      pub allowed : Allowed c
      allowed = (room_if c q, sheets_if c (rw (r, l)))

      pub at_3_root : {row : ℕ} → checked form.Root (rows c.root) ≡ Bad row → AsDefined c (Err (Malformed 0 row)) c.out c.ledger c.scopes
      unfolding expand_words outcome
      at_3_root s = rw (q, r, l, s)

      module _ (s : checked form.Root (rows c.root) ≡ Fits) where
        pub at_3_library : {row : ℕ} → checked form.Library (rows c.library) ≡ Bad row → AsDefined c (Err (Malformed 1 row)) c.out c.ledger c.scopes
        unfolding expand_words outcome
        at_3_library z = rw (q, r, l, s, z)

        pub past_3 : checked form.Library (rows c.library) ≡ Fits → (a : Outcome) {out ledger scopes : List ℕ} → Ran c a out ledger scopes → AsDefined c a out ledger scopes
        unfolding expand_words outcome
        past_3 z a x = rw (q, r, l, s, z) x

  -- the demands, of any answer that is the definition's
  module _ (hr : Words c.root) (hl : Words c.library) (a : Outcome) {out ledger scopes : List ℕ} (x : AsDefined c a out ledger scopes) where
    held : Promises c (after_of a out ledger scopes)
    held = rw x (promises c hr hl)

    pub demands : AsDefined c a out ledger scopes × (Demand1 c a out ledger scopes × Demand3 c a out ledger scopes)
    demands = (x, (held.answered, held.accepted))
