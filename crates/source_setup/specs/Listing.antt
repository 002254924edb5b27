-- The tables of names of the documents' nodes, in the region of the directory.
use Rattle.std.specs.Prelude.{◌≡◌, List, ℕ}
use Rattle.words_lent.specs.Words.{Outside}
use Rattle.source_names.specs.Names.{TablesGrown}
use Rattle.source_directory.specs.Directory.{names_of, spread_of}

-- the tables have been written
pub record Listing (root library dir₀ dir w₀ w : List ℕ) (free at end next : ℕ) : Type 0 where
  pub at_is : names_of dir ≡ at
  pub grown : TablesGrown root library free at (spread_of dir) at end next w₀ w
  pub dir_stays : Outside 196 198 dir₀ dir
