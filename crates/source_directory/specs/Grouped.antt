-- The indexes of the groups, as they are written.
use Rattle.std.specs.Prelude.{List, ℕ, ◌+◌, ◌*◌, ◌≤◌, ◌<◌}
use Rattle.words_lent.specs.Words.{Outside}
use Rattle.source_directory.specs.Directory.{size, base_count, group_of, Slot, Directory, HeldAt}

-- the index of one group of a slot has been written from place up to next
pub record Grouped (root library dir₀ dir w₀ w : List ℕ) (s g place end next : ℕ) : Type 0 where
  pub after : place ≤ next
  pub upto : next ≤ end
  pub held : Slot dir s → HeldAt root library dir w place next s g
  pub dir_stays : Outside (group_of s g) (group_of s g + 2) dir₀ dir
  pub work_stays : Outside place next w₀ w

-- the indexes of the first k groups, three to a slot, stand from lo up to place
pub record Indexing (root library dir w : List ℕ) (lo place k : ℕ) : Type 0 where
  pub directory : Directory root library dir
  pub after : lo ≤ place
  pub held : (s g : ℕ) → g < 3 → 3 * s + g < k → Slot dir s → HeldAt root library dir w lo place s g

-- the indexes of all groups have been written
pub record AllGrouped (root library dir₀ dir w₀ w : List ℕ) (lo end next : ℕ) : Type 0 where
  pub indexing : Indexing root library dir w lo next (3 * (base_count dir + 1))
  pub upto : next ≤ end
  pub dir_stays : Outside 200 size dir₀ dir
  pub work_stays : Outside lo end w₀ w
