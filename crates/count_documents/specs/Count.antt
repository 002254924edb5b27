-- The counts of a document and their totals (document 02, wish 5).
use Rattle.std.specs.Prelude.{Bool, false, List, [], ◌∷◌, ℕ, ◌+◌, eqb}
use Rattle.std.proofs.Math.Option.{Option, none, some}
use Rattle.std.proofs.Math.ListN.{get_elem?}
use Rattle.ast.specs.Ast.{Node, Document}
use Rattle.ast.specs.Choice.{choose}
use Rattle.expansion_steps.specs.Lists.{count_if}
use Rattle.graph_definition.specs.Graph.{reached, mentions}

-- "such a node": of a type name. "An id that leads nowhere counts for no name."
abbrev pub is_of_type : ℕ → Option Node → Bool
is_of_type t none = false
is_of_type t (some x) = eqb x.type_name t

unfoldable pub named : Document → (name id : ℕ) → Bool
named d t i = is_of_type t (get_elem? d.nodes i)

-- "Protocol 1 counts every mention of such a node: each top Node statement, and each id in a value of a reached node. Protocol 2 counts each reached node once."
abbrev pub counted_ids : (protocol : ℕ) → Document → List ℕ
counted_ids p d = choose (eqb p 1) (mentions d) (reached d)

unfoldable pub count : (protocol : ℕ) → Document → (name : ℕ) → ℕ
count p d t = count_if (named d t) (counted_ids p d)

-- "The answer has a 64-bit total for each type name.": over the documents, each under its protocol
unfoldable pub total_of : (protocols : List ℕ) → List Document → (name : ℕ) → ℕ
total_of [] ds t = 0
total_of (p ∷ ps) [] t = 0
total_of (p ∷ ps) (d ∷ ds) t = count p d t + total_of ps ds t
