-- What is written is what the words say.
use mathlib.Core.Path.{◌≡◌, refl, ap, ◌∙◌}
use mathlib.Core.List.{List, [], ◌∷◌, ◌++◌}
use Prim.Native.Nat.{ℕ, ◌+◌, ◌*◌}
use native.Mathlib.Omega.{arith}
use lib.ListN.{length, take, length-append}
use lib.Seq.{take_at}
use Rattle.sheet_rows.specs.declared.row.Row.{Row}
use Rattle.sheet_rows.specs.Rows.{rows, words}
use Rattle.sheet_roundtrip.proofs.RoundTrip.{words_read_back}
use Rattle.expansion_definition.specs.Scopes.{Scope, scope_entry}
use Rattle.ast.specs.Lists.{flat}
use Rattle.expansion_definition.specs.Expand.{LedgerEntry}
use Rattle.expansion_operation.specs.Operation.{ledger_words}
use Rattle.expansion_operation.specs.Promises.{ledger_said, scopes_said}

-- ---- how many words

-- eight a row
pub words_length : (R : List Row) → length (words R) ≡ 8 * length R
unfolding words
words_length [] = refl
words_length (r ∷ l) = omega (arith, words_length l)

-- three an entry of the ledger
pub ledger_length_lem : (l : List LedgerEntry) → length (flat ledger_words l) ≡ 3 * length l
ledger_length_lem [] = refl
ledger_length_lem (x ∷ l) = omega (arith, ledger_length_lem l)

-- five a scope
pub scope_length : (e : Scope) → length (scope_entry e) ≡ 5
scope_length Scope.Root = refl
scope_length (Scope.Body p n) = refl
scope_length (Scope.Default p k n) = refl

pub scopes_length_lem : (l : List Scope) → length (flat scope_entry l) ≡ 5 * length l
scopes_length_lem [] = refl
scopes_length_lem (e ∷ l) = omega (arith, length-append (scope_entry e) (flat scope_entry l), scope_length e, scopes_length_lem l)

-- ---- read back, whatever stands past them

pub rows_said : (R : List Row) (k : List ℕ) → rows (take (8 * length R) (words R ++ k)) ≡ R
rows_said R k = ap rows (take_at (words R) k (8 * length R) (words_length R)) ∙ words_read_back R

pub ledger_said_lem : (l : List LedgerEntry) (k : List ℕ) → ledger_said (length l) (flat ledger_words l ++ k) ≡ l
ledger_said_lem [] k = refl
ledger_said_lem (x ∷ l) k = ap (◌∷◌ x) (ledger_said_lem l k)

pub scopes_said_lem : (l : List Scope) (k : List ℕ) → scopes_said (length l) (flat scope_entry l ++ k) ≡ l
scopes_said_lem [] k = refl
scopes_said_lem (Scope.Root ∷ l) k = ap (◌∷◌ Scope.Root) (scopes_said_lem l k)
scopes_said_lem (Scope.Body p n ∷ l) k = ap (◌∷◌ (Scope.Body p n)) (scopes_said_lem l k)
scopes_said_lem (Scope.Default p i n ∷ l) k = ap (◌∷◌ (Scope.Default p i n)) (scopes_said_lem l k)
