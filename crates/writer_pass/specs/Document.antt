-- The document that the journal of an accepted expansion stands for.
use Rattle.std.specs.Prelude.{List, [], ◌≡◌, ℕ}
use Rattle.ast.specs.Ast.{Document}
use Rattle.sheet_rows.specs.declared.row.Row.{Row}
use Rattle.sheet_rows.specs.Rows.{rows, front}
use Rattle.sheet_rows.specs.Print.{document_rows}
use Rattle.journal_records.specs.Records.{tag_extern, tag_statement}
use Rattle.journal_reading.specs.Reading.{nodes_of, externs_of, statements_at, below}
use Rattle.journal_reading.specs.WellFormed.{HandleAt}
use Rattle.writer_lists.specs.Writing.{Pasted, Wrote}
use Rattle.writer_nodes.specs.Instances.{Legible}
use Rattle.writer_tables.specs.Tables.{scope_text, ledger_text}

-- the root's header, the nodes and externs of the first c records, and the statements that end at tops
unfoldable pub journal_document : List ℕ → List ℕ → List ℕ → ℕ → ℕ → Document
journal_document root library w c tops =
    record { header = (front (rows root)).a; nodes = nodes_of w c; protos = []; extern_protos = externs_of root library w c; statements = statements_at w tops }

abbrev pub journal_rows : List ℕ → List ℕ → List ℕ → ℕ → ℕ → List Row
journal_rows root library w c tops = document_rows (journal_document root library w c tops)

-- what the writing asks of the journal
pub record Printable (w : List ℕ) (c some tops : ℕ) : Type 0 where
  pub legible : Legible w c
  pub externs : some ≡ below w tag_extern c
  pub ends : HandleAt w c tag_statement tops

-- R stands in o up to row n, the ledger and the scopes of the first c records in l and s
pub record Written (R : List Row) (w : List ℕ) (c : ℕ) (o o' l l' s s' : List ℕ) (n : ℕ) : Type 0 where
  pub rows : Wrote R o o' n 0
  pub ledger : Pasted (ledger_text w c) l l' 0
  pub scopes : Pasted (scope_text w c) s s' 0
