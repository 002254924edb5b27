-- What the code answers, as picks.
use Rattle.std.specs.Prelude.{Option as Maybe, Some, None, ◌≡◌, Bool, List, ℕ, ◌≤◌, ◌<◌, get_or, drop, map}
use Rattle.std.proofs.Math.Option.{Option, none, some}
use Rattle.ast.specs.Ast.{File}
use Rattle.ast.specs.Choice.{choose, and_then}
use Rattle.sheet_rows.specs.declared.row.Row.{Row}
use Rattle.sheet_rows.specs.declared.part.Part.TheVariants.{Externs, Urls}
use Rattle.sheet_rows.specs.Parse.{elements, url_of, document_of, files_of}
use Rattle.sheet_lookup.specs.Lookup.{document_at}
use Rattle.sheet_rows.specs.Rows.{rows}
use Rattle.pick_file.specs.File.{Capped}
use Rattle.pick_memo.specs.declared.Memo.{Memo}
use Rattle.pick_memo.specs.Memo.{MemoSound}
use Rattle.pick_table.specs.declared.table.Source.{Source}
use Rattle.pick_table.specs.declared.table.Table.{Table}
use Rattle.pick_table.specs.declared.Chosen.{Chosen}
use Rattle.pick_definition.specs.Picks.{Prototype, Bases, Picked, remember, pick_from, try_url, pick_urls, bases_from, fetched, final_bases}
use Rattle.pick_table.specs.Table.{file_at, bases_of, FilesListed, TableSound}

-- the prototype that an answer stands for
abbrev pub prototype_by : Maybe Chosen → Option Prototype
prototype_by (Some x) = some (record { document = x.document; proto = x.id.0 })
prototype_by None = none

-- what a url with a fragment leads to, by the file of its base
abbrev pub Leads : List Row → Maybe Source → Option ℕ → Maybe Chosen → Type 0
Leads R s fragment x =
    (base : ℕ) (used : Bool) → prototype_by x ≡ and_then (file_at R base s) (pick_from (record { base = base; fragment = fragment; used = used }))

-- what a url is looked up by: a list of the library's files, a memo of them and its words
pub record Scratch (library files slots : List ℕ) (m : Memo) : Type 0 where
  pub capped : Capped library
  pub listed : FilesListed (rows library) files
  pub memo : MemoSound (rows library) slots m

-- where a base stands in the table u, once it was looked for in t; nowhere if it has no place
abbrev pub PlacedAt : ℕ → Table → Table → Maybe ℕ → Type 0
PlacedAt base t u (Some j) = (remember base (bases_of t) ≡ some (bases_of u)) × (j < u.count) × (get_or u.bases j 0 ≡ base)
PlacedAt base t u None = (remember base (bases_of t) ≡ none) × (bases_of u ≡ bases_of t)

pub record Placed (R : List Row) (base : ℕ) (t u : Table) (x : Maybe ℕ) : Type 0 where
  pub sound : TableSound R u
  pub is : PlacedAt base t u x

-- the table once a url was tried, which is the extern's last if it led to a prototype; next says what its other urls do
pub record UrlTried (R : List Row) (base : ℕ) (fragment : Option ℕ) (t u : Table) (led : Bool) : Type 0 where
  pub sound : TableSound R u
  pub is : (n : ℕ) (used : Bool) (next : Bases → Picked)
      → (try_url (files_of R) n (record { base = base; fragment = fragment; used = used }) next (bases_of t) (remember base (bases_of t))).1 ≡ choose led (bases_of u) (next (bases_of u)).1

-- once the urls from a row of a sheet on were tried, up to a pick
pub record UrlsTried (sheet : List Row) (at : ℕ) (R : List Row) (t u : Table) : Type 0 where
  pub sound : TableSound R u
  pub bases : bases_of u ≡ (pick_urls (files_of R) 0 (map url_of (elements Urls (drop at sheet))) (bases_of t)).1

-- from row p of a sheet up to row q no extern begins
pub record NoExtern (sheet : List Row) (p q : ℕ) : Type 0 where
  pub from : p ≤ q
  pub same : elements Externs (drop p sheet) ≡ elements Externs (drop q sheet)

-- the table once the urls of the externs of the document at a row of a sheet were tried
pub record Tried (sheet : List Row) (document : ℕ) (R : List Row) (t u : Table) : Type 0 where
  pub sound : TableSound R u
  pub bases : bases_of u ≡ bases_from (files_of R) (document_at sheet document).extern_protos (bases_of t)

-- of the file of the k-th base, if it has one
abbrev pub after_file : List File → Option (ℕ × File) → Bases → Bases
after_file library none bases = bases
after_file library (some f) bases = bases_from library f.1.document.extern_protos bases

pub record FileTried (R : List Row) (k : ℕ) (t u : Table) : Type 0 where
  pub sound : TableSound R u
  pub bases : bases_of u ≡ after_file (files_of R) (fetched (files_of R) (bases_of t) k) (bases_of t)

-- the table once the urls of every extern were tried
pub record Final (root R : List Row) (t : Table) : Type 0 where
  pub sound : TableSound R t
  pub bases : bases_of t ≡ final_bases (document_of root) (files_of R)
