-- What the functions that count ask and give.
use Rattle.std.specs.Prelude.{◌≡◌, Option, Some, None, MatchOption, List, ℕ, ◌+◌, ◌*◌, ◌≤◌, ◌<◌, length, get_or, set, eqb}
use Rattle.ast.specs.Ast.{Document}
use Rattle.ast.specs.Choice.{choose}
use Rattle.ast.specs.Lists.{flat}
use Rattle.sheet_rows.specs.declared.row.Row.{Row}
use Rattle.sheet_rows.specs.Print.{document_rows}
use Rattle.graph_walk.specs.Steps.{most_nodes, NodeStands, WalkReady}
use Rattle.count_documents.specs.declared.Looked.{Looked}
use Rattle.count_documents.specs.Count.{count, total_of}

-- which of the first n names a name is: r is its place, or none
abbrev pub PlaceUpTo : List ℕ → ℕ → ℕ → Option ℕ → Type 0
PlaceUpTo names name n r =
    MatchOption r ((j : ℕ) → j < n → get_or names j 0 ≡ name → ⊥) (λ j. (j < n) × (get_or names j 0 ≡ name))

abbrev pub Place : List ℕ → ℕ → Option ℕ → Type 0
Place names name r = PlaceUpTo names name (length names) r

-- how many names are remembered
abbrev pub slots : ℕ
slots = 128

-- what a slot past the last would have
abbrev pub unlooked : Looked
unlooked = record { name = 0; place = None }

-- names that were looked for, each with its place
pub record Remembers (names : List ℕ) (looked : List Looked) : Type 0 where
  pub long : length looked ≡ slots
  pub each : (s : ℕ) → s < slots → Place names (get_or looked s unlooked).name (get_or looked s unlooked).place

-- no name twice
abbrev pub Apart : List ℕ → Type 0
Apart names = (i j : ℕ) → i < length names → j < length names → get_or names i 0 ≡ get_or names j 0 → i ≡ j

-- how much a node counts that is mentioned so often: every mention under protocol 1, else once
abbrev pub weighed : (protocol times : ℕ) → ℕ
weighed p x = choose (eqb p 1) x (choose (eqb x 0) 0 1)

-- a number added to the total at a place
abbrev pub added : List ℕ → Option ℕ → ℕ → List ℕ
added t None x = t
added t (Some j) x = set t j (get_or t j 0 + x)

pub record Addable (t : List ℕ) (place : Option ℕ) (by : ℕ) : Type 0 where
  pub within : (j : ℕ) → place ≡ Some j → j < length t
  pub fits : (j : ℕ) → place ≡ Some j → get_or t j 0 + by < most_nodes

-- ---- a document

pub record CountReady (R : List Row) (from : ℕ) (names t w : List ℕ) : Type 0 where
  pub ready : WalkReady R from w
  pub apart : Apart names
  pub room : length names ≤ length t
  pub below : (j : ℕ) → j < length names → get_or t j 0 ≤ from

-- each name's total is greater by the document's count, and the other words stay
pub record DocumentCounted (R : List Row) (from protocol : ℕ) (names t₀ t : List ℕ) (e : ℕ) : Type 0 where
  pub next : (d : Document) (ds : List Document) → NodeStands R from d ds → e ≡ from + length (document_rows d)
  pub counts : (d : Document) (ds : List Document) → NodeStands R from d ds → (j : ℕ) → j < length names → get_or t j 0 ≡ get_or t₀ j 0 + count protocol d (get_or names j 0)
  pub kept : (j : ℕ) → length names ≤ j → get_or t j 0 ≡ get_or t₀ j 0

-- ---- all documents

-- the rows are those of documents, as many as protocols
pub record Are (R : List Row) (protocols : List ℕ) (ds : List Document) : Type 0 where
  pub are : R ≡ flat document_rows ds
  pub many : length protocols ≡ length ds

pub record AllReady (R : List Row) (protocols names t w : List ℕ) : Type 0 where
  pub documents : List Document
  pub are : Are R protocols documents
  pub words : 5 * length R ≤ length w
  pub apart : Apart names
  pub room : length names ≤ length t
  pub zero : (j : ℕ) → j < length names → get_or t j 0 ≡ 0

pub record AllCounted (R : List Row) (protocols names t₀ t : List ℕ) : Type 0 where
  pub totals : (ds : List Document) → Are R protocols ds → (j : ℕ) → j < length names → get_or t j 0 ≡ total_of protocols ds (get_or names j 0)
  pub kept : (j : ℕ) → length names ≤ j → get_or t j 0 ≡ get_or t₀ j 0
