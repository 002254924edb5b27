-- The directory: for each slot the document and where its indexes and the picks of its externs stand; the table of bases.
-- Slot 0 is the root, slot j + 1 the file of base j.
use Rattle.std.specs.Prelude.{Option as Maybe, Some, None, ◌≡◌, List, ℕ, zero, suc, ◌+◌, ◌*◌, ◌≤◌, ◌<◌, length, get_or, drop, eqb}
use Rattle.std.proofs.Math.Option.{some}
use Rattle.std.proofs.Math.ListN.{get_elem?}
use Rattle.ast.specs.Choice.{choose}
use Rattle.sheet_rows.specs.declared.row.Row.{Row}
use Rattle.sheet_rows.specs.declared.part.Part.{Part}
use Rattle.sheet_rows.specs.declared.part.Part.TheVariants.{Nodes, Protos, Externs}
use Rattle.sheet_rows.specs.Rows.{rows}
use Rattle.sheet_rows.specs.Parse.{document_of, files_of}
use Rattle.sheet_walks.specs.declared.walk.Found.TheVariants.{At}
use Rattle.sheet_walks.specs.Walk.{Nth}
use Rattle.sheet_lookup.specs.Lookup.{sheet_of, root_and_files, document_at}
use Rattle.pick_table.specs.declared.table.Source.{Source}
use Rattle.pick_table.specs.declared.table.Table.{Table}
use Rattle.pick_definition.specs.Picks.{Bases, final_bases}
use Rattle.pick_definition.specs.Walked.{PickedBy}
use Rattle.pick_table.specs.Table.{IsFileOf}
use Rattle.source_directory.specs.declared.indexes.Group.{Group}

-- how many words it has at least
abbrev pub size : ℕ
size = 656

-- a slot's document: its number, and the row where it begins
abbrev pub number_of : List ℕ → ℕ → ℕ
number_of dir s = get_or dir s 0

abbrev pub row_of : List ℕ → ℕ → ℕ
row_of dir s = get_or dir (65 + s) 0

-- the table of bases; files and rows are those of the slots
abbrev pub base_of : List ℕ → ℕ → ℕ
base_of dir j = get_or dir (130 + j) 0

abbrev pub base_count : List ℕ → ℕ
base_count dir = get_or dir 194 0

-- how many elements a word of an index stands for
abbrev pub stride_of : List ℕ → ℕ
stride_of dir = get_or dir 195 0

-- where the list of the tables of names begins, and how many places it has
abbrev pub names_of : List ℕ → ℕ
names_of dir = get_or dir 196 0

abbrev pub spread_of : List ℕ → ℕ
spread_of dir = get_or dir 197 0

-- the region of work that indexes, tables of names and cache stand in
abbrev pub from_of : List ℕ → ℕ
from_of dir = get_or dir 198 0

abbrev pub end_of : List ℕ → ℕ
end_of dir = get_or dir 199 0

-- a group of a document: 0 nodes, 1 prototypes, 2 externs; where its index stands, and how many words it has
abbrev pub group_number : Group → ℕ
group_number Group.Nodes = 0
group_number Group.Protos = 1
group_number Group.Externs = 2

abbrev pub group_part : ℕ → Part
group_part zero = Nodes
group_part (suc zero) = Protos
group_part (suc (suc g)) = Externs

abbrev pub group_of : ℕ → ℕ → ℕ
group_of s g = 200 + (6 * s + 2 * g)

abbrev pub index_place : List ℕ → ℕ → ℕ → ℕ
index_place dir s g = get_or dir (group_of s g) 0

abbrev pub filled_of : List ℕ → ℕ → ℕ → ℕ
filled_of dir s g = get_or dir (group_of s g + 1) 0

-- where the cached picks of a slot's externs begin; they end where those of the next slot do. The cache begins with the root's
abbrev pub picks_place : List ℕ → ℕ → ℕ
picks_place dir s = get_or dir (590 + s) 0

abbrev pub cache_of : List ℕ → ℕ
cache_of dir = get_or dir 590 0

-- a slot that stands for a document: the root's, or a resolved base's
pub record Slot (dir : List ℕ) (s : ℕ) : Type 0 where
  pub upto : s ≤ base_count dir
  pub real : 0 < s → 0 < number_of dir s

-- x is the number of a slot's document, if it stands for one
abbrev pub DocumentOf : List ℕ → ℕ → Maybe ℕ → Type 0
DocumentOf dir s (Some n) = (n ≡ number_of dir s) × (0 < s → 0 < n)
DocumentOf dir s None = (0 < s) × (number_of dir s ≡ 0)

-- a document's number and the row where it begins
abbrev pub DocumentBegins : List ℕ → List ℕ → ℕ → ℕ → Type 0
DocumentBegins root library d row =
    get_elem? (root_and_files root library) d ≡ some (document_at (rows (sheet_of root library d)) row)

-- a file as two words say it: its number, or 0 for none, and its row
abbrev pub source_in : ℕ → ℕ → Maybe Source
source_in n row = choose (eqb n 0) None (Some (record { number = n; row = row }))

abbrev pub number_in : Maybe Source → ℕ
number_in (Some s) = s.number
number_in None = 0

abbrev pub row_in : Maybe Source → ℕ
row_in (Some s) = s.row
row_in None = 0

-- the directory holds the root and the first n entries of a table; a row past the library's end may stand as another
pub record TableStored (R : List Row) (t : Table) (dir : List ℕ) (n : ℕ) : Type 0 where
  pub count : base_count dir ≡ t.count
  pub number : number_of dir 0 ≡ 0
  pub row : row_of dir 0 ≡ 0
  pub bases : (j : ℕ) → j < n → base_of dir j ≡ get_or t.bases j 0
  pub files : (j : ℕ) → j < n → number_of dir (j + 1) ≡ number_in (get_or t.files j None)
  pub rows : (j : ℕ) → j < n → drop (row_of dir (j + 1)) R ≡ drop (row_in (get_or t.files j None)) R

-- the table once the walk over the two sheets is done
abbrev pub bases_found : List ℕ → List ℕ → Bases
bases_found root library = final_bases (document_of (rows root)) (files_of (rows library))

-- what the directory says of the documents, in its first 195 words
pub record Directory (root library dir : List ℕ) : Type 0 where
  pub small : length library ≤ 8 * 1048576
  pub root_small : length root ≤ 8 * 1048576
  pub long : size ≤ length dir
  pub few : base_count dir ≤ 64
  pub number : number_of dir 0 ≡ 0
  pub row : row_of dir 0 ≡ 0
  pub begins : (s : ℕ) → Slot dir s → DocumentBegins root library (number_of dir s) (row_of dir s)
  pub count : length (bases_found root library) ≡ base_count dir
  pub bases : (j : ℕ) → j < base_count dir → get_elem? (bases_found root library) j ≡ some (base_of dir j)
  pub sources : (j : ℕ) → j < base_count dir → IsFileOf (rows library) (base_of dir j) (source_in (number_of dir (j + 1)) (row_of dir (j + 1)))
  -- the picks of a slot's document are those by the table
  pub picked : (s : ℕ) → Slot dir s → PickedBy (document_of (rows root)) (files_of (rows library)) (number_of dir s) (document_at (rows (sheet_of root library (number_of dir s))) (row_of dir s)).extern_protos

-- the index of a part from row p on stands in w at a place between lo and hi
pub record PartHeld (t : Part) (R : List Row) (p stride : ℕ) (w : List ℕ) (lo hi place n : ℕ) : Type 0 where
  pub from : lo ≤ place
  pub upto : place + n ≤ hi
  pub slot : (j : ℕ) → j < n → Nth t R p (j * stride) (At (get_or w (place + j) 0))

-- the index of a group of a slot's document
abbrev pub HeldAt : (root library dir w : List ℕ) → (lo hi s g : ℕ) → Type 0
HeldAt root library dir w lo hi s g =
    PartHeld (group_part g) (rows (sheet_of root library (number_of dir s))) (row_of dir s + 1) (stride_of dir) w lo hi (index_place dir s g) (filled_of dir s g)
