-- What the functions that write a line and a page ask and give.
use Rattle.std.specs.Prelude.{◌≡◌, List, ℕ, ◌+◌, ◌*◌, ◌≤◌, ◌<◌, length, drop}
use Rattle.std.proofs.lemmas.List.Edits.{sets}
use Rattle.sheet_rows.specs.declared.row.Row.{Row}
use Rattle.sheet_rows.specs.declared.part.Part.TheVariants.{Nodes}
use Rattle.sheet_rows.specs.Rows.{rows}
use Rattle.sheet_rows.specs.Parse.{elements}
use Rattle.pages_definition.specs.Pages.{document_nodes, line_for, page}

-- the places where the nodes of a document begin
abbrev pub node_starts : List ℕ → List (List Row)
node_starts sheet = elements Nodes (drop 1 (rows sheet))

-- from row q on stand the nodes from the i-th on
abbrev pub NodesFrom : (sheet : List ℕ) → (q i : ℕ) → Type 0
NodesFrom sheet q i = elements Nodes (drop q (rows sheet)) ≡ drop i (node_starts sheet)

-- a ledger of three words a node, and few enough nodes
pub record LedgerOfNodes (sheet ledger : List ℕ) : Type 0 where
  pub three : length ledger ≡ 3 * length (node_starts sheet)
  pub few : length (node_starts sheet) ≤ 4294967295

-- the i-th node has its entry, and its line has room at a place
pub record NodeReady (ledger : List ℕ) (i at room : ℕ) : Type 0 where
  pub entry : 3 * i + 3 ≤ length ledger
  pub small : i ≤ 4294967295
  pub fits : at + 73 ≤ room

pub record LineReady (sheet ledger : List ℕ) (q i at room : ℕ) : Type 0 where
  pub entries : LedgerOfNodes sheet ledger
  pub here : NodesFrom sheet q i
  pub fits : at + 73 ≤ room

-- the i-th line for a node was written, and the nodes after it stand from row r on
pub record LinePut (sheet ledger : List ℕ) (i at : ℕ) (before after : List ℕ) (r : ℕ) : Type 0 where
  pub next : NodesFrom sheet r (i + 1)
  pub written : after ≡ sets before at (line_for (document_nodes sheet) ledger i)

pub record PageReady (sheet ledger : List ℕ) (q p room : ℕ) : Type 0 where
  pub entries : LedgerOfNodes sheet ledger
  pub here : NodesFrom sheet q (59 * p)
  pub small : p < 4294967295
  pub fits : 4380 * p + 4380 ≤ room

pub record PagePut (sheet ledger : List ℕ) (p : ℕ) (before after : List ℕ) (r : ℕ) : Type 0 where
  pub next : NodesFrom sheet r (59 * (p + 1))
  pub written : after ≡ sets before (4380 * p) (page (document_nodes sheet) ledger p)

pub record PagesReady (sheet ledger : List ℕ) (n room : ℕ) : Type 0 where
  pub entries : LedgerOfNodes sheet ledger
  pub small : n ≤ 4294967295
  pub fits : 4380 * n ≤ room
