-- A sheet and the document that it says determine each other (document 01, Sheets).
use mathlib.Core.Path.{◌≡◌, refl, sym, ap, ◌∙◌}
use mathlib.Core.Bool.{Bool, true, false}
use mathlib.Core.List.{List, [], ◌∷◌, append-nil}
use mathlib.Core.Logic.{◌↔◌}
use Prim.Native.Nat.{ℕ, ◌*◌}
use native.Mathlib.Omega.{arith}
use lib.ListN.{length}
use Rattle.sheet_rows.specs.declared.row.Row.{Row}
use Rattle.sheet_check.specs.declared.grammar.Form.TheVariants.{Root, Library, Expanded}
use Rattle.sheet_check.specs.Checked.{Fits}
use Rattle.ast.specs.Ast.{Url, ExternProtoDecl, Document, File}
use Rattle.sheet_rows.specs.Rows.{rows, words}
use Rattle.sheet_check.specs.Grammar.{checked}
use Rattle.sheet_rows.specs.Parse.{document_of, files_of}
use Rattle.sheet_rows.specs.Print.{document_rows, library_rows}
use Rattle.ast.specs.Each.{Each}
use Rattle.sheet_roundtrip.specs.Ranges.{UrlInRange, ExternProtoInRange, InRange, FileInRange}
use Rattle.ast.specs.Expanded.{IsExpanded}
use Rattle.sheet_roundtrip.proofs.Passes.{single_root, single_library, single_expanded}
use Rattle.sheet_roundtrip.proofs.Walk.{document_passes, library_passes}
use Rattle.sheet_roundtrip.proofs.Sheets.{fits_if, document_read, library_read}
use Rattle.sheet_roundtrip.proofs.Parsed.{document_parsed, library_parsed}
use Rattle.sheet_roundtrip.proofs.Words.{rows_words, words_rows}

-- ---- accepted, then printed back

-- a root sheet that is accepted is written in its own rows: nothing is lost
pub root_printed_back : (R : List Row) → checked Root R ≡ Fits → document_rows (document_of R) ≡ R
root_printed_back R h = (document_read Root single_root refl refl R h).2

-- so is an expanded document
pub expanded_printed_back : (R : List Row) → checked Expanded R ≡ Fits → document_rows (document_of R) ≡ R
expanded_printed_back R h = (document_read Expanded single_expanded refl refl R h).2

-- and a library
pub library_printed_back : (R : List Row) → checked Library R ≡ Fits → library_rows (files_of R) ≡ R
library_printed_back R h = (library_read R h).1

-- ---- in range, then accepted

-- a document in range is written in a root sheet that is accepted
pub root_fits : (D : Document) → InRange false D → checked Root (document_rows D) ≡ Fits
root_fits D r = fits_if Root single_root (document_passes Root refl D) (omega arith) (omega arith) r tt

-- and files in range in a library that is
pub library_fits : (L : List File) → Each FileInRange L → checked Library (library_rows L) ≡ Fits
library_fits L r = fits_if Library single_library (library_passes L) (omega arith) (omega arith) r tt

-- ---- in range, then parsed back

-- a document in range, with marks or without, is what its rows say: nothing is read in two ways
pub document_parsed_back : (m : Bool) (D : Document) → InRange m D → document_of (document_rows D) ≡ D
document_parsed_back m D r = rw append-nil at (document_parsed m D [] r tt)

-- and so are files
pub library_parsed_back : (L : List File) → Each FileInRange L → files_of (library_rows L) ≡ L
library_parsed_back = library_parsed

-- ---- accepted, then in range

-- what an accepted root sheet says is in range
pub root_in_range : (R : List Row) → checked Root R ≡ Fits → InRange false (document_of R)
root_in_range R h = (document_read Root single_root refl refl R h).0

-- and what an accepted library says
pub library_in_range : (R : List Row) → checked Library R ≡ Fits → Each FileInRange (files_of R)
library_in_range R h = (library_read R h).0

-- so the accepted root sheets are the prints of the documents in range
pub root_sheets : (R : List Row) → (checked Root R ≡ Fits) ↔ ((D : Document) × InRange false D × (document_rows D ≡ R))
root_sheets R = ((λ h. (document_of R, root_in_range R h, root_printed_back R h)), (λ w. ap (checked Root) (sym w.2) ∙ root_fits w.0 w.1))

-- and the accepted libraries those of the files in range
pub library_sheets : (R : List Row) → (checked Library R ≡ Fits) ↔ ((L : List File) × Each FileInRange L × (library_rows L ≡ R))
library_sheets R = ((λ h. (files_of R, library_in_range R h, library_printed_back R h)), (λ w. ap (checked Library) (sym w.2) ∙ library_fits w.0 w.1))

-- ---- expanded documents

-- a document in range that is expanded is written in a sheet that is accepted as one
pub expanded_fits : (D : Document) → InRange true D → IsExpanded D → checked Expanded (document_rows D) ≡ Fits
expanded_fits D r k = fits_if Expanded single_expanded (document_passes Expanded refl D) (omega arith) (omega arith) r k

-- what a sheet says that is accepted as one is in range, and expanded
pub expanded_in_range : (R : List Row) → checked Expanded R ≡ Fits → InRange true (document_of R) × IsExpanded (document_of R)
expanded_in_range R h = let w = document_read Expanded single_expanded refl refl R h in (w.0, w.1)

-- so it is a root sheet that says an expanded document, if no url has a mark
pub expanded_is_root : (R : List Row) → checked Expanded R ≡ Fits → InRange false (document_of R) → (checked Root R ≡ Fits) × IsExpanded (document_of R)
expanded_is_root R h r = (ap (checked Root) (sym (expanded_printed_back R h)) ∙ root_fits (document_of R) r, (expanded_in_range R h).1)

-- what has no mark may have one
unmarked_ranges : {D : Document} → InRange false D → InRange true D
unmarked_ranges {D} r = record { nodes = r.nodes; protos = r.protos; extern_protos = externs D.extern_protos r.extern_protos; statements = r.statements }
  where
    urls : (l : List Url) → Each (UrlInRange false) l → Each (UrlInRange true) l
    urls [] h = tt
    urls (u ∷ l) h = (record { base = h.0.base; fragment = h.0.fragment; used = tt }, urls l h.1)

    externs : (l : List ExternProtoDecl) → Each (ExternProtoInRange false) l → Each (ExternProtoInRange true) l
    externs [] h = tt
    externs (x ∷ l) h = (record { name = h.0.name; interface = h.0.interface; urls = urls x.urls h.0.urls }, externs l h.1)

-- and every such root sheet is accepted as one
pub root_is_expanded : (R : List Row) → (checked Root R ≡ Fits) × IsExpanded (document_of R) → checked Expanded R ≡ Fits
root_is_expanded R h = ap (checked Expanded) (sym (root_printed_back R h.0)) ∙ expanded_fits (document_of R) (unmarked_ranges (root_in_range R h.0)) h.1

-- ---- words

-- the rows of a sheet's words are its rows
pub words_read_back : (R : List Row) → rows (words R) ≡ R
words_read_back = rows_words

-- and the words of its rows its words, where there are eight to a row
pub rows_written_back : (s : List ℕ) (n : ℕ) → length s ≡ 8 * n → words (rows s) ≡ s
rows_written_back = words_rows
