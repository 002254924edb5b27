-- Picks (document 01, Modules: Picks; document 02, wish 12): for each extern of the root and of the fetched files, what its urls lead to.
use Rattle.std.specs.Prelude.{Bool, false, ◌||◌, List, [], ◌∷◌, ◌++◌, ℕ, zero, suc, length, ltb, eqb}
use Rattle.std.proofs.Math.Option.{Option, none, some}
use Rattle.std.proofs.Math.ListN.{get_elem?}
use Rattle.ast.specs.Ast.{NodeOrigin, Url, ExternProtoDecl, Document, File}
use Rattle.ast.specs.Choice.{choose, and_then, or_else, map_o}
use Rattle.pick_definition.specs.PickIn.{pick_in}

-- a prototype: the number of its document, and the PROTO's id in it
pub record Prototype : Type 0 where
  pub document : ℕ
  pub proto : ℕ

-- what a pick found; "The pick now also tells the index of the url it took." (document 02, wish 1)
pub record Pick : Type 0 where
  pub document : ℕ
  pub proto : ℕ
  pub url : ℕ

abbrev pub prototype_of : Pick → Prototype
prototype_of p = record { document = p.document; proto = p.proto }

-- "Of several files with the same base, the last is now used." (document 02, wish 4): the library's file of a base and its number, where the list starts at n
unfoldable pub library_file : ℕ → ℕ → List File → Option (ℕ × File)
library_file base n [] = none
library_file base n (f ∷ l) = or_else (library_file base (suc n) l) (choose (eqb f.base base) (some (n, f)) none)

abbrev pub pick_from : Url → ℕ × File → Option Prototype
pick_from url f = and_then (pick_in f.1.document url.fragment) (λ p. some (record { document = f.0; proto = p }))

-- what one url leads to, by the library's file of its base; the n-th file is document n
unfoldable pub pick_url : List File → Url → Option Prototype
pick_url library url = and_then (library_file url.base 1 library) (pick_from url)

-- "The table of at most 64 distinct bases": those looked for so far, in order
abbrev pub Bases : Type 0
Bases = List ℕ

unfoldable pub member : ℕ → Bases → Bool
member base [] = false
member base (b ∷ l) = eqb b base || member base l

-- the table once a base is looked for: "unresolved bases count, later new ones are skipped"
unfoldable pub remember : ℕ → Bases → Option Bases
remember base bases = choose (member base bases) (some bases) (choose (ltb (length bases) 64) (some (bases ++ (base ∷ []))) none)

abbrev pub Picked : Type 0
Picked = Option Pick × Bases

-- "urls in order"; "No pick: next url"; n is the url's index, next what the urls after it lead to, from a table on
abbrev pub or_next : ℕ → (Bases → Picked) → Bases → Option Prototype → Picked
or_next n next bases none = next bases
or_next n next bases (some p) = (some (record { document = p.document; proto = p.proto; url = n }), bases)

abbrev pub try_url : List File → ℕ → Url → (Bases → Picked) → Bases → Option Bases → Picked
try_url library n url next bases none = next bases
try_url library n url next bases (some table) = or_next n next table (pick_url library url)

-- n is the index of the first
unfoldable pub pick_urls : List File → ℕ → List Url → Bases → Picked
pick_urls library n [] bases = (none, bases)
pick_urls library n (u ∷ l) bases = try_url library n u (pick_urls library (suc n) l) bases (remember u.base bases)

-- the picks of externs, the table passed through
unfoldable pub picks_from : List File → List ExternProtoDecl → Bases → List (Option Pick)
picks_from library [] bases = []
picks_from library (x ∷ l) bases = (pick_urls library 0 x.urls bases).0 ∷ picks_from library l (pick_urls library 0 x.urls bases).1

-- the table once the urls of these externs were tried
unfoldable pub bases_from : List File → List ExternProtoDecl → Bases → Bases
bases_from library [] bases = bases
bases_from library (x ∷ l) bases = bases_from library l (pick_urls library 0 x.urls bases).1

-- ---- "An EXTERNPROTO in a fetched file (one found for a base in the table, pick or none) is now picked too." (document 02, wish 12)

-- the picks of each document that was walked, under its number, and the table
abbrev pub Walked : Type 0
Walked = List (ℕ × List (Option Pick)) × Bases

-- the externs of document d, then what comes next, from the table that they leave on
abbrev pub under : ℕ → List (Option Pick) → Walked → Walked
under d l w = ((d, l) ∷ w.0, w.1)

abbrev pub walk_document : List File → ℕ → List ExternProtoDecl → (Bases → Walked) → Bases → Walked
walk_document library d externs next bases = under d (picks_from library externs bases) (next (bases_from library externs bases))

-- the file found for the k-th base of the table, with its number
abbrev pub fetched : List File → Bases → ℕ → Option (ℕ × File)
fetched library bases k = and_then (get_elem? bases k) (λ base. library_file base 1 library)

-- a base without a file, or none there, is passed over
abbrev pub walk_fetched : List File → (Bases → Walked) → Bases → Option (ℕ × File) → Walked
walk_fetched library next bases none = next bases
walk_fetched library next bases (some f) = walk_document library f.0 f.1.document.extern_protos next bases

-- "those of each fetched document in order of first fetch": the files of n bases, from the k-th on, of the table as it stands then
unfoldable pub walk_files : List File → ℕ → ℕ → Bases → Walked
walk_files library zero k bases = ([], bases)
walk_files library (suc n) k bases = walk_fetched library (walk_files library n (suc k)) bases (fetched library bases k)

-- "Root externs come first, then those of each fetched document in order of first fetch. The 64 bases are counted over the whole run."
unfoldable pub walk : Document → List File → Walked
walk root library = walk_document library 0 root.extern_protos (walk_files library 64 0) []

-- the table once the walk is done
unfoldable pub final_bases : Document → List File → Bases
final_bases root library = (walk root library).1

-- the picks of document d, one for each of its externs; none where it was not walked
unfoldable pub picks_under : ℕ → List (ℕ × List (Option Pick)) → List (Option Pick)
picks_under d [] = []
picks_under d (x ∷ l) = choose (eqb x.0 d) x.1 (picks_under d l)

unfoldable pub picks : Document → List File → ℕ → List (Option Pick)
picks root library d = picks_under d (walk root library).0

-- "A pick belongs to a document and an extern id"
unfoldable pub pick_of : Document → List File → ℕ → ℕ → Option Pick
pick_of root library d x = and_then (get_elem? (picks root library d) x) (λ p. p)

-- the index of the url that was taken, if any
abbrev pub url_taken : Option Pick → Option ℕ
url_taken p = map_o (λ q. q.url) p

-- "An instance is a node of origin Proto, or ExternProto .. with a pick" (document 01), ".. and an instance is now also ExternProto with a pick in any
-- document" (document 02, wish 12). "Every other node is plain.": the prototype of a node of document d
unfoldable pub prototype_in : Document → List File → ℕ → NodeOrigin → Option Prototype
prototype_in root library d NodeOrigin.Builtin = none
prototype_in root library d (NodeOrigin.Proto p) = some (record { document = d; proto = p })
prototype_in root library d (NodeOrigin.ExternProto x) = map_o prototype_of (pick_of root library d x)
prototype_in root library d NodeOrigin.Unknown = none
