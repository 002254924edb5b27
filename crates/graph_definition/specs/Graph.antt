-- The scene graph of an expanded document (document 02, wish 5): where the values of a node lead, which nodes are reached, and where they are mentioned.
use Rattle.std.specs.Prelude.{Bool, false, not, ◌&&◌, ◌||◌, ℕ, zero, suc, length, get_or, ltb, eqb}
use mathlib.Core.List.{List, [], ◌∷◌, ◌++◌, Memᴰ}
use Rattle.std.proofs.Math.Option.{Option, none, some}
use Rattle.std.proofs.Math.ListN.{get_elem?}
use Rattle.ast.specs.Ast.{Field, InterfaceDecl, Node, Document}
use Rattle.ast.specs.Choice.{choose}
use Rattle.ast.specs.Ids.{option_ids, binding_ids, statement_ids}
use Rattle.ast.specs.Lists.{flat}

-- ---- "field and interface values": the ids in them, in row order

abbrev pub field_ids : Field → List ℕ
field_ids x = binding_ids x.binding

abbrev pub interface_ids : InterfaceDecl → List ℕ
interface_ids x = option_ids x.value

-- ids of extra roots, associations and routes are no values
unfoldable pub node_ids : Node → List ℕ
node_ids x = flat field_ids x.fields ++ flat interface_ids x.interface

abbrev pub value_ids_in : Option Node → List ℕ
value_ids_in none = []
value_ids_in (some x) = node_ids x

-- of a node by its id; an id that leads nowhere has none
unfoldable pub nexts : Document → ℕ → List ℕ
nexts d i = value_ids_in (get_elem? d.nodes i)

-- ---- "top Node statements"

unfoldable pub top_node_ids : Document → List ℕ
top_node_ids d = flat statement_ids d.statements

-- ---- "Reached here starts at top Node statements and follows field and interface values."

-- the least set that holds the starts and is closed under the steps
pub data Reached (d : Document) : ℕ → Type 0 where
  start : {j : ℕ} → Memᴰ j (top_node_ids d) → Reached d j
  step : {i j : ℕ} → Reached d i → Memᴰ j (nexts d i) → Reached d j

-- ---- the reached nodes as a list. That it has exactly these, each once, is proved.

abbrev pub node_count : Document → ℕ
node_count d = length d.nodes

unfoldable pub among : ℕ → List ℕ → Bool
among i [] = false
among i (j ∷ l) = eqb i j || among i l

-- an id put at the end of a list of nodes, unless it leads nowhere or is there already; n: how many nodes there are
unfoldable pub noted : (n : ℕ) → List ℕ → ℕ → List ℕ
noted n l i = choose (ltb i n && not (among i l)) (l ++ (i ∷ [])) l

unfoldable pub noted_all : (n : ℕ) → List ℕ → List ℕ → List ℕ
noted_all n l [] = l
noted_all n l (i ∷ m) = noted_all n (noted n l i) m

-- the nodes that mentions lead to, each once, in the order of first mention
abbrev pub distinct : (n : ℕ) → List ℕ → List ℕ
distinct n m = noted_all n [] m

-- mentions, and after them those in the values of the nodes that they lead to, from the k-th node on; of so many nodes at most
unfoldable pub walked : Document → (turns k : ℕ) → List ℕ → List ℕ
walked d zero k m = m
walked d (suc t) k m =
    choose (ltb k (length (distinct (node_count d) m))) (walked d t (suc k) (m ++ nexts d (get_or (distinct (node_count d) m) k 0))) m

unfoldable pub reached : Document → List ℕ
reached d = distinct (node_count d) (walked d (node_count d) 0 (top_node_ids d))

-- "every mention ..: each top Node statement, and each id in a value of a reached node"
unfoldable pub mentions : Document → List ℕ
mentions d = top_node_ids d ++ flat (nexts d) (reached d)
