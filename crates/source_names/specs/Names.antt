-- The last field of a name, of a node; and the tables that tell it of wide nodes: a list of places, one for 16 rows of the
-- root and then of the library, and at a place the node's row, how many fields it has, and their rows sorted by name.
use Rattle.std.specs.Prelude.{Option as Maybe, Some, None, ◌≡◌, List, ℕ, ◌+◌, ◌-◌, ◌≤◌, ◌<◌, ◌/◌, length, get_or, take, drop, leb}
use Rattle.ast.specs.Choice.{choose, map_o}
use Rattle.sheet_rows.specs.declared.row.Row.{Row}
use Rattle.sheet_rows.specs.Rows.{rows}
use Rattle.sheet_rows.specs.Parse.{field_of, node_of}
use Rattle.sheet_walks.specs.declared.walk.Found.{Found}
use Rattle.sheet_walks.specs.declared.walk.Found.TheVariants.{Nothing}
use Rattle.sheet_walks.specs.Walk.{rows_at, Below}
use Rattle.sheet_sorted.specs.Sorted.{key, sort_by, last_of}
use Rattle.expansion_definition.specs.Input.{last_field}
use Rattle.words_lent.specs.Words.{Outside}

-- the last field of a name, of the node that stands at a row
pub record LastField (name : ℕ) (R : List Row) (node : ℕ) (x : Found) : Type 0 where
  pub is : last_field name (node_of (drop node R)).fields ≡ map_o (λ l. (field_of l).binding) (rows_at R x)
  pub below : Below R x

-- a row's name
abbrev pub name_of : List ℕ → ℕ → ℕ
name_of sheet = key sheet 1

-- the rows of the fields of the node at row n, in order: the last of a name among them is its last field of the name
abbrev pub FieldRows : List ℕ → ℕ → List ℕ → Type 0
FieldRows sheet n u = (m : ℕ) → LastField m (rows sheet) n (last_of (name_of sheet) m u Nothing)

-- these, sorted by name, are the words from at on
pub record NameTable (sheet : List ℕ) (n count : ℕ) (w : List ℕ) (at : ℕ) : Type 0 where
  pub fields : List ℕ
  pub long : length fields ≡ count
  pub sorted : (i : ℕ) → i < count → get_or w (at + i) 0 ≡ get_or (sort_by (name_of sheet) fields) i 0
  pub tells : FieldRows sheet n fields

-- a node's table stands at h, between lo and hi
pub record NodeTabled (sheet w : List ℕ) (lo hi h : ℕ) : Type 0 where
  pub from : lo ≤ h
  pub upto : h + 2 + get_or w (h + 1) 0 ≤ hi
  pub tells : NameTable sheet (get_or w h 0) (get_or w (h + 1) 0) w (h + 2)

-- the sheet that a place of the list is for
abbrev pub table_sheet : List ℕ → List ℕ → ℕ → List ℕ
table_sheet root library i = choose (leb (length root / 128 + 1) i) library root

-- the list of so many places stands at a place, the tables behind it up to hi
pub record TablesListed (root library w : List ℕ) (at many hi : ℕ) : Type 0 where
  pub upto : at + many ≤ hi
  pub table : (i : ℕ) → i < many → 0 < get_or w (at + i) 0 → NodeTabled (table_sheet root library i) w (at + many) hi (get_or w (at + i) 0)

-- the rows of a node's fields have been written, from at up to a place
abbrev pub FieldsUpto : List ℕ → ℕ → ℕ → ℕ → List ℕ → Maybe ℕ → Type 0
FieldsUpto sheet n at end w (Some p) = (at ≤ p) × (p ≤ end) × FieldRows sheet n (take (p - at) (drop at w))
FieldsUpto sheet n at end w None = Unit {0}

pub record FieldsListed (sheet : List ℕ) (n at end : ℕ) (w₀ w : List ℕ) (x : Maybe ℕ) : Type 0 where
  pub stays : Outside at end w₀ w
  pub is : FieldsUpto sheet n at end w x

-- tables have been written, from a place up to next, by the scratch up to free
pub record TablesGrown (root library : List ℕ) (free at many place end next : ℕ) (w₀ w : List ℕ) : Type 0 where
  pub listed : TablesListed root library w at many next
  pub after : place ≤ next
  pub upto : next ≤ end
  pub stays : Outside 0 end w₀ w
  pub between : (k : ℕ) → free ≤ k → k < at → get_or w k 0 ≡ get_or w₀ k 0
