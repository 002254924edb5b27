-- The rows of the output.
use mathlib.Core.Path.{◌≡◌}
use mathlib.Core.List.{List, [], ◌∷◌, append-nil}
use Prim.Native.Nat.{ℕ, ◌+◌}
use native.Mathlib.Omega.{arith}
use lib.ListN.{length, get_or}
use Rattle.sheet_rows.specs.declared.row.Row.{Row}
use Rattle.sheet_rows.specs.Rows.{rows, blank}
use Rattle.ast.specs.Lists.{flat}
use Rattle.sheet_rows.specs.Print.{row, top_row, node_rows, extern_proto_rows, document_rows}
use Rattle.sheet_walks.proofs.WalkLaws.{front_drop}
use Rattle.journal_reading.specs.Reading.{nodes_of, externs_of}
use Rattle.writer_lists.specs.declared.Kind.TheVariants.{Statements}
use Rattle.writer_lists.specs.Writing.{RowsFit}
use Rattle.writer_lists.specs.Lists.{list_rows}
use Rattle.writer_pass.specs.Document.{journal_document, journal_rows, Printable}
use Rattle.writer_lists.proofs.Writing.{forwards, Coming, set_out}
use Rattle.writer_nodes.proofs.NodeRows.{statements_rows}

module _ (root library w : List ℕ) (c tops : ℕ) where
  -- its first row, its nodes, its externs, the row before the statements, and those
  abbrev pub parts : List (List Row)
  parts =
      (row 1 (get_or (rows root) 0 blank).a 0 0 0 0 0 0 ∷ []) ∷ flat node_rows (nodes_of w c) ∷ flat extern_proto_rows (externs_of root library w c) ∷ (top_row ∷ []) ∷ list_rows Statements w tops ∷ []

  out_shape : {some : ℕ} → Printable w c some tops → journal_rows root library w c tops ≡ forwards parts
  unfolding document_rows journal_document forwards
  out_shape x = rw (statements_rows x.legible x.ends, front_drop (rows root) 0, append-nil (list_rows Statements w tops))

  -- its blocks, to be written from the first on
  pub out_coming : {o : List ℕ} {some : ℕ} → Printable w c some tops → RowsFit (journal_rows root library w c tops) o (length (journal_rows root library w c tops)) → Coming (journal_rows root library w c tops) parts o o 0 0
  out_coming x m = let z : 0 + length (journal_rows root library w c tops) ≡ length (journal_rows root library w c tops) = omega arith in set_out {s = 0} (rw z m) (out_shape x)
