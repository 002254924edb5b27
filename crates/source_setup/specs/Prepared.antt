-- What preparing asks and gives.
use Rattle.std.specs.Prelude.{Option as Maybe, ◌≡◌, List, ℕ, ◌+◌, ◌*◌, ◌≤◌, ◌<◌, length, get_or, take}
use Rattle.sheet_rows.specs.Rows.{rows}
use Rattle.words_lent.specs.Words.{Outside}
use Rattle.pick_memo.specs.declared.Memo.{Memo}
use Rattle.pick_memo.specs.Memo.{MemoSound}
use Rattle.source_directory.specs.Directory.{size, from_of, end_of, picks_place, Slot, Directory}
use Rattle.source_lookup.specs.declared.instance.Target.{Target}
use Rattle.source_lookup.specs.Instance.{target_at, mark_at}
use Rattle.source_lookup.specs.Sourced.{PickAt, Cached, Sourced, Region}

-- what prepare asks
pub record Fit (root library w : List ℕ) (at len : ℕ) (dir : List ℕ) : Type 0 where
  pub root_small : length root ≤ 8 * 1048576
  pub library_small : length library ≤ 8 * 1048576
  pub within : at + len ≤ length w
  pub words : at + len ≤ 4294967295
  pub long : size ≤ length dir

-- the directory of the documents and the region is written, by the scratch before the region
pub record DirectoryWritten (root library w₀ w : List ℕ) (at len : ℕ) (dir : List ℕ) : Type 0 where
  pub directory : Directory root library dir
  pub region : Region dir at len
  pub stays : Outside 0 at w₀ w

-- a pick stands at two words
pub record PickKept (w₀ w : List ℕ) (at : ℕ) (x : Maybe Target) (m : ℕ) : Type 0 where
  pub target : target_at w at ≡ x
  pub mark : mark_at w at ≡ m
  pub stays : Outside at (at + 2) w₀ w

-- no pick is cached
pub record NoneCached (root library dir w : List ℕ) : Type 0 where
  pub sourced : Sourced root library dir w
  pub none : (k : ℕ) → 0 < k → k < 66 → picks_place dir k ≡ 0

-- the picks of the slots before s are cached, up to place at; the memo's words are those before the region
pub record CachedBefore (root library dir w : List ℕ) (m : Memo) (s at : ℕ) : Type 0 where
  pub sourced : Sourced root library dir w
  pub cache : Cached root library dir w at
  pub upto : at ≤ end_of dir
  pub here : picks_place dir s ≡ at
  pub none : (k : ℕ) → s < k → k < 66 → picks_place dir k ≡ 0
  pub memo : MemoSound (rows library) (take (from_of dir) w) m

-- the picks of the first externs of slot s have been written, from at up to next
pub record SlotAdded (root library dir w₀ w : List ℕ) (m : Memo) (s at next : ℕ) : Type 0 where
  pub after : at ≤ next
  pub upto : next ≤ end_of dir
  pub picks : Slot dir s → (i : ℕ) → at + 2 * i + 2 ≤ next → PickAt root library dir w s i (at + 2 * i)
  pub before : (k : ℕ) → from_of dir ≤ k → k < at → get_or w k 0 ≡ get_or w₀ k 0
  pub stays : Outside 0 (end_of dir) w₀ w
  pub memo : MemoSound (rows library) (take (from_of dir) w) m

-- the picks of all slots are cached
pub record PicksCached (root library dir₀ dir w₀ w : List ℕ) : Type 0 where
  pub sourced : Sourced root library dir w
  pub dir_stays : Outside 591 size dir₀ dir
  pub work_stays : Outside 0 (end_of dir₀) w₀ w

-- what prepare gives; the words past the region stay
pub record Prepared (root library w₀ w : List ℕ) (at len : ℕ) (dir : List ℕ) : Type 0 where
  pub sourced : Sourced root library dir w
  pub region : Region dir at len
  pub stays : Outside 0 (at + len) w₀ w
