-- The newer of two files counts (document 02, wish 4). This page only states; proofs/NewerLaws proves it of every library.
use Rattle.std.specs.Prelude.{◌≡◌, List, [], ◌∷◌, ◌++◌, ℕ, ◌+◌, ◌<◌, length}
use Rattle.std.proofs.Math.Option.{none, some}
use Rattle.std.proofs.Math.ListN.{get_elem?}
use Rattle.ast.specs.Ast.{Url, File}
use Rattle.pick_definition.specs.Picks.{library_file, pick_from, pick_url}

-- "Of several files with the same base, the last": f stands at place k, from 0, and is of the base; no file after it is
pub record Newest (library : List File) (base k : ℕ) (f : File) : Type 0 where
  pub here : get_elem? library k ≡ some f
  pub is : f.base ≡ base
  pub last : (j : ℕ) (g : File) → k < j → get_elem? library j ≡ some g → g.base ≡ base → ⊥

pub record NewerCounts (library : List File) : Type 0 where
  -- ".. is now used", as the document of its number
  pub used : (base k : ℕ) (f : File) → Newest library base k f → library_file base 1 library ≡ some (k + 1, f)
  -- a base that no file has leads to none
  pub unresolved : (base : ℕ) → ((k : ℕ) (f : File) → get_elem? library k ≡ some f → f.base ≡ base → ⊥) → library_file base 1 library ≡ none
  -- "A crew adds a corrected file to the end of the library and leaves the old one.": every url of its base leads into it, or nowhere
  pub corrected : (f : File) (u : Url) → u.base ≡ f.base → pick_url (library ++ (f ∷ [])) u ≡ pick_from u (length library + 1, f)
  -- and every other url where it led before
  pub others : (f : File) (u : Url) → (u.base ≡ f.base → ⊥) → pick_url (library ++ (f ∷ [])) u ≡ pick_url library u
