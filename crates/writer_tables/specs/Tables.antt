-- The words of the scopes and of the ledger.
use Rattle.std.specs.Prelude.{◌≡◌, List, ◌++◌, map, ℕ, ◌+◌, ◌*◌, ◌≤◌, length}
use Rattle.ast.specs.Lists.{flat}
use Rattle.expansion_definition.specs.Scopes.{scope_entry}
use Rattle.expansion_definition.specs.Expand.{ledger_entry}
use Rattle.expansion_operation.specs.Operation.{ledger_words}
use Rattle.journal_reading.specs.Reading.{ledger_rec, scopes_of, ledger_of}
use Rattle.writer_nodes.specs.Instances.{NodeIn}

abbrev pub scope_text : List ℕ → ℕ → List ℕ
scope_text w c = flat scope_entry (scopes_of w c)

abbrev pub ledger_text : List ℕ → ℕ → List ℕ
ledger_text w c = flat ledger_words (map (ledger_entry (scopes_of w c)) (ledger_of w c))

-- the entry of node r
abbrev pub entry_words : List ℕ → ℕ → ℕ → List ℕ
entry_words w c r = ledger_words (ledger_entry (scopes_of w c) (ledger_rec w r))

-- room for both
pub record TablesRoom (w : List ℕ) (c : ℕ) (l s : List ℕ) : Type 0 where
  pub ledger : 3 * length (ledger_of w c) ≤ length l
  pub scopes : 5 * length (scopes_of w c) ≤ length s

-- o begins with a text
pub record BeginsWith (text o : List ℕ) : Type 0 where
  pub rest : List ℕ
  pub is : o ≡ text ++ rest

-- what the entry of node r asks: the scopes opened before it stand in s
pub record EntryRoom (w : List ℕ) (c r : ℕ) (s o : List ℕ) (p : ℕ) : Type 0 where
  pub node : NodeIn w c r
  pub scopes : BeginsWith (scope_text w r) s
  pub room : p + 3 ≤ length o
