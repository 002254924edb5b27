-- The pass over the records: what those below a place give stands in out, in the ledger and in the scopes.
use mathlib.Core.Path.{◌≡◌, refl}
use mathlib.Core.List.{List, [], ◌∷◌}
use Prim.Native.Nat.{ℕ, ◌+◌, ◌*◌, ◌<◌, ◌≤◌}
use native.Mathlib.Omega.{arith}
use lib.ListN.{length}
use Rattle.expansion_operation.proofs.Said.{scope_length, scopes_length_lem}
use Rattle.ast.specs.Ast.{Node}
use Rattle.ast.specs.Lists.{flat}
use Rattle.expansion_definition.specs.Scopes.{Scope, scope_entry}
use Rattle.expansion_definition.specs.Expand.{ledger_entry}
use Rattle.sheet_rows.specs.Print.{node_rows}
use Rattle.journal_records.specs.Records.{tag_node, tag_scope, cell}
use Rattle.journal_reading.specs.Reading.{node_rec, scope_rec, ledger_rec, nodes_of, scopes_of, ledger_of}
use Rattle.writer_lists.specs.Writing.{Pasted, RowsFit, Wrote}
use Rattle.expansion_operation.specs.Operation.{ledger_words}
use Rattle.writer_tables.specs.Tables.{scope_text, ledger_text, entry_words, TablesRoom, BeginsWith}
use Rattle.writer_lists.proofs.Chains.{flat_map}
use Rattle.writer_pass.proofs.Logs.{of_tag, of_tag_lem, of_other, Filling, fill_begin, fill_room, fill_more, fill_skip, fill_end, Logging, log_begin, log_room, log_more, log_skip, log_end}

module _ (w : List ℕ) (c : ℕ) where
  abbrev nodes_at : ℕ → List Node
  nodes_at = of_tag w tag_node (node_rec w)

  abbrev scopes_at : ℕ → List Scope
  scopes_at = of_tag w tag_scope (scope_rec w)

  abbrev entries_at : ℕ → List (ℕ × ℕ)
  entries_at = of_tag w tag_node (ledger_rec w)

  abbrev entry_text : ℕ × ℕ → List ℕ
  entry_text x = ledger_words (ledger_entry (scopes_of w c) x)

  entries_length : (l : List (ℕ × ℕ)) → length (flat entry_text l) ≡ 3 * length l
  entries_length [] = refl
  entries_length (x ∷ l) = let h : length (flat entry_text l) ≡ 3 * length l = entries_length l in omega arith

  pub record Passing (start : ℕ) (o₀ l₀ s₀ o l s : List ℕ) (i p q k : ℕ) : Type 0 where
    pub rows : Logging node_rows nodes_at o₀ o c start i p
    pub ledger : Filling entry_text entries_at l₀ l c 0 i q
    pub scopes : Filling scope_entry scopes_at s₀ s c 0 i k

  -- nothing stands yet
  pub pass_begin : {start : ℕ} {o l s : List ℕ} → RowsFit (flat node_rows (nodes_of w c)) o (start + length (flat node_rows (nodes_of w c))) → TablesRoom w c l s → Passing start o l s o l s 0 start 0 0
  unfolding nodes_of ledger_of scopes_of
  pass_begin m x = record {
    rows = log_begin node_rows nodes_at m;
    ledger = fill_begin entry_text entries_at (omega (arith, x.ledger, entries_length (ledger_of w c)));
    scopes = fill_begin scope_entry scopes_at (omega (arith, x.scopes, scopes_length_lem (scopes_of w c)));
  }

  module _ {start : ℕ} {o₀ l₀ s₀ o l s : List ℕ} {i p q k : ℕ} (u : Passing start o₀ l₀ s₀ o l s i p q k) where
    module _ (lt : i < c) where
      module _ (a : cell w i 0 ≡ tag_node) where
        -- there is room for a node's rows
        pub node_room : RowsFit (node_rows (node_rec w i)) o (p + length (node_rows (node_rec w i)))
        node_room = log_room node_rows nodes_at u.rows lt (of_tag_lem w tag_node (node_rec w) i a)

        -- and for its entry
        pub entry_room : q + 3 ≤ length l
        entry_room = fill_room entry_text entries_at u.ledger lt (of_tag_lem w tag_node (ledger_rec w) i a)

        -- both stand
        pub pass_node : {o1 l1 : List ℕ} {e : ℕ} → Wrote (node_rows (node_rec w i)) o o1 e p → Pasted (entry_words w c i) l l1 q → Passing start o₀ l₀ s₀ o1 l1 s (i + 1) e (q + 3) k
        pass_node v x = record {
          rows = log_more node_rows nodes_at u.rows lt (of_tag_lem w tag_node (node_rec w) i a) v;
          ledger = fill_more entry_text entries_at u.ledger lt (of_tag_lem w tag_node (ledger_rec w) i a) refl x;
          scopes = fill_skip scope_entry scopes_at u.scopes lt (of_other w tag_scope (scope_rec w) i (λ (z : cell w i 0 ≡ tag_scope). absurd (omega arith)));
        }

      module _ (n : cell w i 0 ≡ tag_node → ⊥) where
        -- a scope's entry stands
        pub pass_scope : cell w i 0 ≡ tag_scope → {s1 : List ℕ} → Pasted (scope_entry (scope_rec w i)) s s1 k → Passing start o₀ l₀ s₀ o l s1 (i + 1) p q (k + 5)
        pass_scope a v = record {
          rows = log_skip node_rows nodes_at u.rows lt (of_other w tag_node (node_rec w) i n);
          ledger = fill_skip entry_text entries_at u.ledger lt (of_other w tag_node (ledger_rec w) i n);
          scopes = fill_more scope_entry scopes_at u.scopes lt (of_tag_lem w tag_scope (scope_rec w) i a) (rw (scope_length (scope_rec w i))) v;
        }

        -- another record gives nothing
        pub pass_other : (cell w i 0 ≡ tag_scope → ⊥) → Passing start o₀ l₀ s₀ o l s (i + 1) p q k
        pass_other a = record {
          rows = log_skip node_rows nodes_at u.rows lt (of_other w tag_node (node_rec w) i n);
          ledger = fill_skip entry_text entries_at u.ledger lt (of_other w tag_node (ledger_rec w) i n);
          scopes = fill_skip scope_entry scopes_at u.scopes lt (of_other w tag_scope (scope_rec w) i a);
        }

      -- there is room for a scope
      pub scope_room : cell w i 0 ≡ tag_scope → k + 5 ≤ length s
      scope_room a = omega (arith, fill_room scope_entry scopes_at u.scopes lt (of_tag_lem w tag_scope (scope_rec w) i a), scope_length (scope_rec w i))

    -- the scopes so far
    pub scopes_begun : BeginsWith (scope_text w i) s
    unfolding scopes_of
    scopes_begun = record { rest = _; is = u.scopes.pasted.same }

    -- all stands
    module _ (le : c ≤ i) where
      pub pass_rows : Wrote (flat node_rows (nodes_of w c)) o₀ o p start
      unfolding nodes_of
      pass_rows = log_end node_rows nodes_at u.rows le

      -- the whole ledger
      pub pass_ledger : Pasted (ledger_text w c) l₀ l 0
      unfolding ledger_of
      pass_ledger = rw (flat_map ledger_words (ledger_entry (scopes_of w c)) (ledger_of w c)) (fill_end entry_text entries_at u.ledger le)

      -- all scopes
      pub pass_scopes : Pasted (scope_text w c) s₀ s 0
      unfolding scopes_of
      pass_scopes = fill_end scope_entry scopes_at u.scopes le
