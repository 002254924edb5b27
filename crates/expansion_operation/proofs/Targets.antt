-- Of words, every IS target that is present is a name.
use mathlib.Core.Path.{◌≡◌}
use mathlib.Core.List.{List, [], ◌∷◌}
use Prim.Native.Nat.{ℕ, suc, ◌≤◌, ◌<◌}
use native.Mathlib.Decide.{ℕ_discrete}
use native.Mathlib.Omega.{arith}
use mathlib.Core.Bool.{Bool, true, false}
use lib.ListN.{get_or}
use lib.Dec.{eqb}
use borrow.Author.Tests.{eq-eqb, ne_eqb}
use Rattle.ast.specs.Choice.{choose}
use Rattle.sheet_rows.specs.declared.row.Row.{Row}
use Rattle.sheet_rows.specs.declared.part.Part.{Part}
use Rattle.sheet_rows.specs.declared.part.Part.TheVariants.{Files, Nodes, Interfaces}
use Rattle.sheet_rows.specs.Rows.{none#, rows, front, rest}
use Rattle.sheet_rows.specs.Parse.{kind_of, passes, elements, optional, interface_of, interfaces_of, node_of, document_of, file_of, files_of}
use Rattle.ast.specs.Each.{Each}
use Rattle.expansion_output.specs.Input.{IsTarget, NodeTargets, Targets}
use Rattle.expansion_output.proofs.Eachs.{each_map}

-- column d holds a word
abbrev WordRow : Row → Type 0
WordRow r = r.d ≤ none#

abbrev WordRows : List Row → Type 0
WordRows l = Each WordRow l

-- "A row is eight u32 numbers.": each word is one
abbrev pub Words : List ℕ → Type 0
Words l = (i : ℕ) → get_or l i 0 < 4294967296

-- The rows of words are rows of words.
rows_words : (l : List ℕ) → Words l → WordRows (rows l)
unfolding rows
rows_words [] h = tt
rows_words (k ∷ []) h = tt
rows_words (k ∷ a ∷ []) h = tt
rows_words (k ∷ a ∷ b ∷ []) h = tt
rows_words (k ∷ a ∷ b ∷ c ∷ []) h = tt
rows_words (k ∷ a ∷ b ∷ c ∷ d ∷ []) h = tt
rows_words (k ∷ a ∷ b ∷ c ∷ d ∷ e ∷ []) h = tt
rows_words (k ∷ a ∷ b ∷ c ∷ d ∷ e ∷ f ∷ []) h = tt
rows_words (k ∷ a ∷ b ∷ c ∷ d ∷ e ∷ f ∷ g ∷ l) h = (omega (arith, h 4), rows_words l (λ i. h (suc (suc (suc (suc (suc (suc (suc (suc i))))))))))

-- And so are the first of them, and the rest.
front_word : (l : List Row) → WordRows l → (front l).d ≤ none#
front_word [] h = omega arith
front_word (r ∷ l) h = h.0

rest_words : (l : List Row) → WordRows l → WordRows (rest l)
rest_words [] h = tt
rest_words (r ∷ l) h = h.1

-- each element of a part is rows of the sheet
elements_words : (t : Part) (l : List Row) → WordRows l → Each WordRows (elements t l)
unfolding elements
elements_words t [] h = tt
elements_words t (r ∷ l) h = go (eqb r.kind (kind_of t)) (passes t r.kind) (elements_words t l h.1)
  where
    go : (b p : Bool) → Each WordRows (elements t l) → Each WordRows (choose b ((r ∷ l) ∷ elements t l) (choose p (elements t l) []))
    go true p q = (h, q)
    go false true q = q
    go false false q = tt

-- A word that is not none's number is a name.
target : (n : ℕ) → n ≤ none# → IsTarget (optional n)
target n h = go (ℕ_discrete n none#)
  where
    go : Dec (n ≡ none#) → IsTarget (optional n)
    go (yes e) = rw (eq-eqb n none# e) tt
    go (no e) = rw (ne_eqb n none# e) (omega arith)

-- So the targets of interfaces, of a node's, of a document's.
interfaces_targets : (l : List Row) → WordRows l → Each (λ d. IsTarget d.is) (interfaces_of l)
unfolding interfaces_of interface_of
interfaces_targets l h = each_map WordRows (λ d. IsTarget d.is) interface_of (λ x w. target (front x).d (front_word x w)) (elements Interfaces l) (elements_words Interfaces l h)

node_targets : (l : List Row) → WordRows l → NodeTargets (node_of l)
unfolding node_of
node_targets l h = interfaces_targets (rest l) (rest_words l h)

document_targets : (l : List Row) → WordRows l → Targets (document_of l)
unfolding document_of
document_targets l h = each_map WordRows NodeTargets node_of node_targets (elements Nodes (rest l)) (elements_words Nodes (rest l) (rest_words l h))

-- of a root sheet
pub root_targets_lem : (l : List ℕ) → Words l → Targets (document_of (rows l))
root_targets_lem l h = document_targets (rows l) (rows_words l h)

-- of a library
pub library_targets_lem : (l : List ℕ) → Words l → Each (λ f. Targets f.document) (files_of (rows l))
unfolding files_of
library_targets_lem l h = each_map WordRows (λ f. Targets f.document) file_of (λ x w. document_targets (rest x) (rest_words x w)) (elements Files (rows l)) (elements_words Files (rows l) (rows_words l h))
