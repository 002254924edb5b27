-- What the functions of the walk ask and give.
use Rattle.std.specs.Prelude.{◌≡◌, List, [], ◌++◌, ℕ, ◌+◌, ◌*◌, ◌/◌, ◌%◌, ◌≤◌, ◌<◌, length, drop, set}
use Rattle.ast.specs.Ast.{Document}
use Rattle.ast.specs.Lists.{flat}
use Rattle.sheet_rows.specs.declared.row.Row.{Row}
use Rattle.sheet_rows.specs.Print.{document_rows}
use Rattle.graph_definition.specs.Graph.{node_count, reached, mentions}
use Rattle.graph_walk.specs.Scan.{places_from, top_from, starts_from, end_from}
use Rattle.graph_walk.specs.State.{WalkState}

-- a number put into two words
abbrev pub with_pair : List ℕ → ℕ → ℕ → List ℕ
with_pair w a x = set (set w a (x % 4294967296)) (a + 1) (x / 4294967296)

-- the most mentions that are counted: more than a sheet has rows
abbrev pub most_nodes : ℕ
most_nodes = 2305843009213693952

-- ids may be mentioned next
pub record Mentionable (n tail : ℕ) (w ids : List ℕ) : Type 0 where
  pub places : List ℕ
  pub m : List ℕ
  pub state : WalkState n places m tail w
  pub few : length m + length ids < most_nodes

-- ids were mentioned, whatever was before
abbrev pub MentionsNoted : (n tail : ℕ) (w ids : List ℕ) (tail' : ℕ) (w' : List ℕ) → Type 0
MentionsNoted n tail w ids tail' w' = (places m : List ℕ) → WalkState n places m tail w → WalkState n places (m ++ ids) tail' w'

-- the nodes from a row on have their words, and no node is mentioned
pub record NodesIndexed (R : List Row) (from : ℕ) (w : List ℕ) (n t : ℕ) : Type 0 where
  pub state : WalkState n (places_from from (drop from R)) [] 0 w
  pub top : t ≡ top_from from (drop from R)

-- the top statements from a row on are read
pub record Started (R : List Row) (from n : ℕ) (w : List ℕ) (t e : ℕ) (w' : List ℕ) : Type 0 where
  pub mentioned : MentionsNoted n 0 w (starts_from (drop from R)) t w'
  pub next : e ≡ end_from from (drop from R)

-- ---- a document

-- a document stands from a row on, and documents after it
abbrev pub NodeStands : List Row → ℕ → Document → List Document → Type 0
NodeStands R from d ds = drop from R ≡ document_rows d ++ flat document_rows ds

pub record WalkReady (R : List Row) (from : ℕ) (w : List ℕ) : Type 0 where
  pub document : Document
  pub after : List Document
  pub here : NodeStands R from document after
  pub room : 5 * length R ≤ length w

-- what is told of a document: how many nodes it has and how many are reached, where it ends, and what the words say
pub record Reach (R : List Row) (from : ℕ) (d : Document) (n t e : ℕ) (w : List ℕ) : Type 0 where
  pub nodes : n ≡ node_count d
  pub tail : t ≡ length (reached d)
  pub next : e ≡ from + length (document_rows d)
  pub state : WalkState n (places_from (from + 1) (drop (from + 1) R)) (mentions d) t w

abbrev pub Reaches : (R : List Row) (from nodes tail next : ℕ) (w : List ℕ) → Type 0
Reaches R from nodes tail next w = (d : Document) (ds : List Document) → NodeStands R from d ds → Reach R from d nodes tail next w
