-- What is counted in the output of an accepted Expand, and where it comes from (document 02, wish 5, over demand 3). This page states; nothing is proved on it.
-- A node that hangs on extra roots alone, and on no value and no top statement, is in the output and in the ledger, and is not counted: document 02's Reached "starts at top Node statements and follows field and interface values".
use Rattle.std.specs.Prelude.{◌≡◌, List, [], ◌∷◌, ℕ, ◌+◌, ◌<◌}
use Rattle.std.proofs.Math.Option.{some}
use Rattle.std.proofs.Math.ListN.{get_elem?}
use Rattle.ast.specs.Ast.{Node}
use Rattle.ast.specs.Choice.{map_o}
use Rattle.ast.specs.Lookups.{node_at}
use Rattle.sheet_rows.specs.Rows.{rows}
use Rattle.sheet_rows.specs.Parse.{documents_of}
use Rattle.sheet_check.specs.declared.grammar.Form.TheVariants as form
use Rattle.sheet_check.specs.Checked.{Fits}
use Rattle.sheet_check.specs.Grammar.{checked}
use Rattle.expansion_steps.specs.Steps.{World, Plain, ReachedIn}
use Rattle.expansion_definition.specs.Input.{Input, docs}
use Rattle.expansion_definition.specs.Scopes.{scope_document}
use Rattle.expansion_definition.specs.Expand.{LedgerEntry, Expansion}
use Rattle.expansion_definition.specs.Reached.{Known, graph}
use Rattle.expansion_definition.specs.Expanded.{Expanded, scope_at}
use Rattle.expansion_operation.specs.Operation.{Call, After, input}
use Rattle.expansion_operation.specs.Promises.{Accepted, said, out_rows}
use Rattle.graph_definition.specs.Graph.{Reached}
use Rattle.count_documents.specs.Promises.{LeadsTo}

-- node i of the output, of a type name, is traced: the ledger's i-th entry, and no other, is its own
pub record Traced (I : Input) (e : Expansion) (world : World Known) (name i : ℕ) : Type 0 where
  pub entry : LedgerEntry
  pub place : get_elem? e.ledger i ≡ some entry
  pub alone : (j : ℕ) → get_elem? e.ledger j ≡ some entry → j ≡ i
  -- to a scope that the steps open, that scope's document, and a source node of the same type name, plain and reached there
  pub scope : entry.scope < e.scope_count
  pub document : entry.document ≡ scope_document (scope_at I world entry.scope).entry
  pub source : map_o (λ (x : Node). x.type_name) (node_at (docs I) entry.document entry.source) ≡ some name
  pub plain : Plain (graph I) (scope_at I world entry.scope) entry.source
  pub reached : ReachedIn (graph I) (scope_at I world entry.scope) entry.source

-- of every accepted expansion: each node that is counted under protocol 2 is traced
abbrev pub EachTraced : (I : Input) (e : Expansion) → Expanded I e → Type 0
EachTraced I e x = (name i : ℕ) → Reached e.document i → LeadsTo e.document name i → Traced I e x.world name i

-- of the words that an accepted call wrote: as a sheet of documents they are that one document, so what is counted in them is traced
pub record Counts (c : Call) (r : After) (a : Accepted c r) : Type 0 where
  pub fits : checked form.Documents (out_rows r) ≡ Fits
  pub one : documents_of (out_rows r) ≡ (said r).document ∷ []
  pub traced : EachTraced (input c) (said r) a.expanded
