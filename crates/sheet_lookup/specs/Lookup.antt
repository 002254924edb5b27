-- Lookups by id, as Document::node, proto and extern_proto: the row where that one stands, or nothing.
use Rattle.std.specs.Prelude.{◌≡◌, refl, List, ℕ, map, drop, eqb}
use Rattle.std.proofs.Math.Option.{Option}
use Rattle.std.proofs.Math.ListN.{get_elem?}
use Rattle.ast.specs.Ast.{Document}
use Rattle.ast.specs.Choice.{choose, map_o}
use Rattle.ast.specs.Lookups.{documents}
use Rattle.sheet_rows.specs.declared.row.Row.{Row}
use Rattle.sheet_rows.specs.declared.part.Part.TheVariants.{Nodes, Protos, Externs}
use Rattle.sheet_rows.specs.Rows.{rows, rest}
use Rattle.sheet_rows.specs.Parse.{elements, node_of, proto_of, extern_proto_of, document_of, files_of}
use Rattle.sheet_walks.specs.declared.walk.Found.{Found}
use Rattle.sheet_walks.specs.Walk.{rows_at, Below}

-- the sheet that a document number selects: 0 the root, any other the library
abbrev pub sheet_of : List ℕ → List ℕ → ℕ → List ℕ
sheet_of root library doc = choose (eqb doc 0) root library

-- document 0 is what the root sheet says, document n what the library's n-th file says
unfoldable pub root_and_files : List ℕ → List ℕ → List Document
root_and_files root library = documents (document_of (rows root)) (files_of (rows library))

abbrev pub document_at : List Row → ℕ → Document
document_at R p = document_of (drop p R)

-- what each group of ids numbers is read at the elements of a part
pub nodes_at : (R : List Row) (p : ℕ) → (document_at R p).nodes ≡ map node_of (elements Nodes (rest (drop p R)))
unfolding document_of
nodes_at R p = refl

pub protos_at : (R : List Row) (p : ℕ) → (document_at R p).protos ≡ map proto_of (elements Protos (rest (drop p R)))
unfolding document_of
protos_at R p = refl

pub externs_at : (R : List Row) (p : ℕ) → (document_at R p).extern_protos ≡ map extern_proto_of (elements Externs (rest (drop p R)))
unfolding document_of
externs_at R p = refl

-- x is where a document begins in the sheet that its number selects, whatever the root sheet is
abbrev pub Begins : List ℕ → ℕ → Found → Type 0
Begins library doc x = (root : List ℕ) → get_elem? (root_and_files root library) doc ≡ map_o document_of (rows_at (rows (sheet_of root library doc)) x)

-- x is the row of the n-th of l, each read by f, or nothing if l has none
pub record Looked {A : Type 0} (f : List Row → A) (l : List A) (R : List Row) (n : ℕ) (x : Found) : Type 0 where
  pub is : get_elem? l n ≡ map_o f (rows_at R x)
  pub below : Below R x

-- the same, of what was looked for
pub record Located {A : Type 0} (f : List Row → A) (found : Option A) (R : List Row) (x : Found) : Type 0 where
  pub is : found ≡ map_o f (rows_at R x)
  pub below : Below R x
