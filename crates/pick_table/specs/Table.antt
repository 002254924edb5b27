-- What the table of bases holds, and what looking for a base does to it.
use Rattle.std.specs.Prelude.{Option as Maybe, Some, None, ◌≡◌, List, [], ℕ, ◌+◌, ◌≤◌, ◌<◌, length, get_or, take, drop, set}
use Rattle.std.proofs.Math.Option.{Option, none, some}
use Rattle.std.proofs.Math.ListN.{get_elem?}
use Rattle.ast.specs.Ast.{File}
use Rattle.sheet_rows.specs.declared.row.Row.{Row}
use Rattle.sheet_rows.specs.Parse.{file_of, files_of}
use Rattle.sheet_lookup.specs.Lookup.{document_at}
use Rattle.pick_table.specs.declared.table.Source.{Source}
use Rattle.pick_table.specs.declared.table.Table.{Table}
use Rattle.pick_definition.specs.Picks.{Bases, library_file}

-- the bases that a table holds, in order
abbrev pub bases_of : Table → Bases
bases_of t = take t.count t.bases

-- the file of a base that a source stands for, with its number
abbrev pub file_at : List Row → ℕ → Maybe Source → Option (ℕ × File)
file_at R base (Some s) = some (s.number, record { base = base; document = document_at R s.row })
file_at R base None = none

-- a source is the library's file of a base
abbrev pub IsFileOf : List Row → ℕ → Maybe Source → Type 0
IsFileOf R base s = library_file base 1 (files_of R) ≡ file_at R base s

-- what stands beside the j-th base
abbrev pub source_at : Table → ℕ → Maybe Source
source_at t j = get_or t.files j None

-- beside each base of the table stands the library's file of it
pub record TableSound (R : List Row) (t : Table) : Type 0 where
  pub room : t.count ≤ 64
  pub long : (length t.bases ≡ 64) × (length t.files ≡ 64)
  pub sources : (j : ℕ) → j < t.count → IsFileOf R (get_or t.bases j 0) (source_at t j)

-- the table of no base, whatever the library is
pub record Empty (t : Table) : Type 0 where
  pub bases : bases_of t ≡ []
  pub sound : (R : List Row) → TableSound R t

-- j is where a base stands first in a list
pub record StandsAt (bases : List ℕ) (base j : ℕ) : Type 0 where
  pub within : j < length bases
  pub here : get_or bases j 0 ≡ base
  pub before : (k : ℕ) → k < j → get_or bases k 0 ≡ base → ⊥

-- where a base stands in a list, if it does
abbrev pub Position : List ℕ → ℕ → Maybe ℕ → Type 0
Position bases base (Some j) = StandsAt bases base j
Position bases base None = (k : ℕ) → k < length bases → get_or bases k 0 ≡ base → ⊥

-- w is the rows of the library's files; of none where there is none, or they don't fit
pub record FilesListed (R : List Row) (w : List ℕ) : Type 0 where
  pub few : length w ≤ length R
  pub row : (j : ℕ) → j < length w → get_elem? (files_of R) j ≡ some (file_of (drop (get_or w j 0) R))
  pub below : (j : ℕ) → j < length w → get_or w j 0 < length R
  pub all : 0 < length w → (j : ℕ) → length w ≤ j → get_elem? (files_of R) j ≡ none

-- t has one base more than before
pub record BaseAdded (before : Table) (base : ℕ) (s : Maybe Source) (t : Table) : Type 0 where
  pub count : t.count ≡ before.count + 1
  pub bases : t.bases ≡ set before.bases before.count base
  pub files : t.files ≡ set before.files before.count s
