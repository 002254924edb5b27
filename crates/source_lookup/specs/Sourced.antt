-- What the lookups rest on: the directory, the indexes, the tables of names and the cache of picks.
use Rattle.std.specs.Prelude.{◌≡◌, List, ℕ, ◌+◌, ◌*◌, ◌≤◌, ◌<◌, length}
use Rattle.sheet_rows.specs.Rows.{rows}
use Rattle.sheet_rows.specs.Parse.{document_of, files_of}
use Rattle.pick_definition.specs.Picks.{pick_of}
use Rattle.source_names.specs.Names.{TablesListed}
use Rattle.source_directory.specs.Directory.{number_of, from_of, end_of, picks_place, cache_of, names_of, spread_of, Slot, Directory, HeldAt}
use Rattle.source_lookup.specs.Instance.{PickedAs, target_at, mark_at}

-- the tables of names of the nodes of the documents
pub record NamesListed (root library dir w : List ℕ) : Type 0 where
  pub from : from_of dir ≤ names_of dir
  pub listed : TablesListed root library w (names_of dir) (spread_of dir) (cache_of dir)

-- the pick of an extern of a slot's document stands at place p of w
abbrev pub PickAt : (root library dir w : List ℕ) → (s i p : ℕ) → Type 0
PickAt root library dir w s i p =
    PickedAs dir (pick_of (document_of (rows root)) (files_of (rows library)) (number_of dir s) i) (target_at w p) (mark_at w p)

-- the picks of the first externs of a slot's document, two words each
pub record SlotCached (root library dir w : List ℕ) (lo hi s : ℕ) : Type 0 where
  pub from : lo ≤ picks_place dir s
  pub upto : picks_place dir (s + 1) ≤ hi
  pub is : (i : ℕ) → picks_place dir s + 2 * i + 2 ≤ picks_place dir (s + 1) → PickAt root library dir w s i (picks_place dir s + 2 * i)

-- and those of every slot, before place hi
pub record Cached (root library dir w : List ℕ) (hi : ℕ) : Type 0 where
  pub from : from_of dir ≤ cache_of dir
  pub upto : cache_of dir ≤ hi
  pub slots : (s : ℕ) → Slot dir s → picks_place dir s < picks_place dir (s + 1) → SlotCached root library dir w (cache_of dir) hi s

-- the directory and the words w answer for the two sheets
pub record Sourced (root library dir w : List ℕ) : Type 0 where
  pub directory : Directory root library dir
  pub within : end_of dir ≤ length w
  pub held : (s g : ℕ) → g < 3 → Slot dir s → HeldAt root library dir w (from_of dir) (cache_of dir) s g
  pub names : NamesListed root library dir w
  pub cache : Cached root library dir w (end_of dir)

-- the words of w that a directory speaks of
pub record Region (dir : List ℕ) (at len : ℕ) : Type 0 where
  pub from : from_of dir ≡ at
  pub end : end_of dir ≡ at + len
