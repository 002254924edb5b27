-- The picks of the root and of the fetched files (document 02, wish 12). This page only states; proofs/WalkedLaws proves it of every root and library.
use Rattle.std.specs.Prelude.{◌≡◌, true, List, ℕ, ◌≤◌, ◌<◌, length}
use Rattle.std.proofs.Math.Option.{Option, some}
use Rattle.std.proofs.Math.ListN.{get_elem?}
use Rattle.ast.specs.Ast.{ExternProtoDecl, Document, File}
use Rattle.ast.specs.Choice.{and_then}
use Rattle.pick_definition.specs.Picks.{Pick, Bases, library_file, member, pick_urls, final_bases, pick_of}

-- "a fetched file (one found for a base in the table, pick or none)": document d is one
pub record Fetched (library : List File) (bases : Bases) (d : ℕ) : Type 0 where
  pub base : ℕ
  pub file : File
  pub among : member base bases ≡ true
  pub is : library_file base 1 library ≡ some (d, file)

-- what the urls of the x-th of these externs lead to by a table
abbrev pub pick_bases : List File → Bases → List ExternProtoDecl → ℕ → Option Pick
pick_bases library bases externs x = and_then (get_elem? externs x) (λ e. (pick_urls library 0 e.urls bases).0)

-- by the table none of these externs leads to a new base: all that they tried is known, or was skipped
abbrev pub Settled : List File → Bases → List ExternProtoDecl → Type 0
Settled library bases externs = (x : ℕ) (e : ExternProtoDecl) → get_elem? externs x ≡ some e → (pick_urls library 0 e.urls bases).1 ≡ bases

-- the picks of a document with these externs are those by the table
pub record PickedBy (root : Document) (library : List File) (d : ℕ) (externs : List ExternProtoDecl) : Type 0 where
  pub is : (x : ℕ) → pick_of root library d x ≡ pick_bases library (final_bases root library) externs x
  pub settled : Settled library (final_bases root library) externs

pub record WalkedWhole (root : Document) (library : List File) : Type 0 where
  -- "The 64 bases are counted over the whole run."
  pub few : length (final_bases root library) ≤ 64
  -- "Root externs come first": a pick depends on the final table alone, for the root
  pub first : PickedBy root library 0 root.extern_protos
  -- and for every fetched file: "An EXTERNPROTO in a fetched file .. is now picked too."
  pub fetched : (d : ℕ) (f : Fetched library (final_bases root library) d) → PickedBy root library d f.file.document.extern_protos
  -- no other document's extern has a pick
  pub only : (d x : ℕ) (p : Pick) → 0 < d → pick_of root library d x ≡ some p → Fetched library (final_bases root library) d
  -- what is picked stands in a fetched file
  pub into : (d x : ℕ) (p : Pick) → pick_of root library d x ≡ some p → Fetched library (final_bases root library) p.document
