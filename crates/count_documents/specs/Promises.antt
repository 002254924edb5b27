-- What is promised of every count (document 02, wish 5). This page states; nothing is proved on it.
use Rattle.std.specs.Prelude.{◌≡◌, ◌↔◌, ℕ, ◌+◌, ◌≤◌, ◌<◌, length, eqb}
use mathlib.Core.List.{List, ◌++◌, Memᴰ}
use Rattle.std.proofs.Math.Option.{some}
use Rattle.std.proofs.Math.ListN.{get_elem?}
use Rattle.ast.specs.Ast.{Node, Document}
use Rattle.ast.specs.Lists.{flat}
use Rattle.sheet_rows.specs.Print.{document_rows}
use Rattle.expansion_steps.specs.Lists.{Nodup, count_if}
use Rattle.expansion_steps.specs.Sums.{Count}
use Rattle.graph_definition.specs.Graph.{Reached, top_node_ids, nexts, node_count}
use Rattle.count_documents.specs.Count.{count, total_of}

-- an id leads to a node of a type name
pub record LeadsTo (d : Document) (name id : ℕ) : Type 0 where
  pub node : Node
  pub is : get_elem? d.nodes id ≡ some node
  pub type_name : node.type_name ≡ name

-- k is how many of the mentions lead to such a node: "each top Node statement, and each id in a value of a reached node". The reached nodes are given by a list that has exactly these, each once.
pub record Mentioned (d : Document) (name k : ℕ) : Type 0 where
  pub nodes : List ℕ
  pub once : Nodup nodes
  pub exact : (i : ℕ) → Memᴰ i nodes ↔ ((i < node_count d) × Reached d i)
  pub leading : List ℕ
  pub which : (i : ℕ) → Memᴰ i leading → LeadsTo d name i
  pub others : (i : ℕ) → Memᴰ i (top_node_ids d ++ flat (nexts d) nodes) → LeadsTo d name i → Memᴰ i leading
  pub each : (i : ℕ) → LeadsTo d name i → count_if (eqb i) leading ≡ count_if (eqb i) (top_node_ids d ++ flat (nexts d) nodes)
  pub size : length leading ≡ k

pub record OfDocument (d : Document) (name : ℕ) : Type 0 where
  -- "for any document and name, the count under 2 is at most that under 1, however the scene loops"
  pub at_most : count 2 d name ≤ count 1 d name
  -- "Protocol 2 counts each reached node once.": it is the number of the reached nodes of that name
  pub nodes : Count (λ i. Reached d i × LeadsTo d name i) (count 2 d name)
  -- "Protocol 1 counts every mention of such a node"
  pub mentions : Mentioned d name (count 1 d name)
  -- nothing wraps: a count is at most the rows of the document
  pub one : count 1 d name ≤ length (document_rows d)
  pub two : count 2 d name ≤ length (document_rows d)

pub record Promises : Type 0 where
  pub document : (d : Document) (name : ℕ) → OfDocument d name
  -- the total is the sum over the documents: what some documents count, whatever comes after them, and what the others count
  pub sum : (ps qs : List ℕ) (ds es : List Document) (name : ℕ) → length ps ≡ length ds → total_of (ps ++ qs) (ds ++ es) name ≡ total_of ps ds name + total_of qs es name
  -- and it is at most the rows of all of them: fewer than 2 to the power of 61, for a sheet's words are counted by 64 bits
  pub rows : (ps : List ℕ) (ds : List Document) (name : ℕ) → total_of ps ds name ≤ length (flat document_rows ds)
