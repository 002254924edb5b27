-- Documents one after another in one sheet (document 02, wish 5): the sheet and what it says determine each other.
use mathlib.Core.Path.{◌≡◌, refl, sym, ap, ap₂, ◌∙◌}
use mathlib.Core.Bool.{true}
use mathlib.Core.List.{List, [], ◌∷◌, ◌++◌, map}
use mathlib.Core.Logic.{◌↔◌}
use Prim.Native.Nat.{ℕ, suc}
use lib.ListN.{length}
use Rattle.ast.specs.Ast.{Document}
use Rattle.ast.specs.Each.{Each}
use Rattle.ast.specs.Expanded.{IsExpanded}
use Rattle.sheet_rows.specs.declared.row.Row.{Row}
use Rattle.sheet_rows.specs.Parse.{elements, document_of, documents_of, own_rows, sheets_of}
use Rattle.sheet_rows.specs.Print.{document_rows, documents_rows}
use Rattle.sheet_rows.specs.declared.part.Part.TheVariants.{Documents as DocumentsPart}
use Rattle.sheet_check.specs.declared.grammar.Form.TheVariants.{Expanded, Documents}
use Rattle.sheet_check.specs.Checked.{Fits}
use Rattle.sheet_check.specs.Grammar.{checked}
use Rattle.sheet_roundtrip.specs.Ranges.{InRange}
use Rattle.sheet_roundtrip.proofs.Parsed.{documents_parsed}
use Rattle.sheet_roundtrip.proofs.RoundTrip.{expanded_printed_back, expanded_in_range, expanded_fits}
use Rattle.sheet_forms.specs.Several.{joined}
use Rattle.sheet_forms.proofs.Cut.{cut}
use Rattle.sheet_forms.proofs.Joined.{join}

-- ---- the sheets of the documents

-- a sheet that fits is cut at its rows of kind 1 into sheets that fit as expanded documents, which make it up
pub documents_cut : (R : List Row) → checked Documents R ≡ Fits → Each (λ x. checked Expanded x ≡ Fits) (sheets_of R) × (joined (sheets_of R) ≡ R)
documents_cut = cut

-- and such sheets, one after another, fit and are cut there
pub documents_joined : (L : List (List Row)) → Each (λ x. checked Expanded x ≡ Fits) L → (checked Documents (joined L) ≡ Fits) × (sheets_of (joined L) ≡ L)
documents_joined = join

-- there are as many as rows of kind 1
pub documents_count : (R : List Row) → length (sheets_of R) ≡ length (elements DocumentsPart R)
unfolding sheets_of
documents_count R = go (elements DocumentsPart R)
  where
    go : (l : List (List Row)) → length (map own_rows l) ≡ length l
    go [] = refl
    go (x ∷ l) = ap suc (go l)

-- ---- what they say

-- the print of what a sheet says, of each
printed : (L : List (List Row)) → Each (λ x. checked Expanded x ≡ Fits) L → documents_rows (map document_of L) ≡ joined L
unfolding documents_rows
printed [] h = refl
printed (x ∷ L) h = ap₂ ◌++◌ (expanded_printed_back x h.0) (printed L h.1)

in_range : (L : List (List Row)) → Each (λ x. checked Expanded x ≡ Fits) L → Each (InRange true) (map document_of L) × Each IsExpanded (map document_of L)
in_range [] h = (tt, tt)
in_range (x ∷ L) h = let a = expanded_in_range x h.0 in let b = in_range L h.1 in ((a.0, b.0), (a.1, b.1))

-- the documents of a sheet that fits are what each of its sheets says
pub documents_say : (R : List Row) → checked Documents R ≡ Fits → documents_of R ≡ map document_of (sheets_of R)
documents_say R h =
    let c = cut R h in
    ap documents_of (sym c.1 ∙ sym (printed (sheets_of R) c.0)) ∙ documents_parsed (map document_of (sheets_of R)) (in_range (sheets_of R) c.0).0

-- they are in range and expanded
pub documents_in_range : (R : List Row) → checked Documents R ≡ Fits → Each (InRange true) (documents_of R) × Each IsExpanded (documents_of R)
documents_in_range R h = rw (documents_say R h) (in_range (sheets_of R) (cut R h).0)

-- and written in the sheet's own rows
pub documents_printed_back : (R : List Row) → checked Documents R ≡ Fits → documents_rows (documents_of R) ≡ R
documents_printed_back R h = rw (documents_say R h) (printed (sheets_of R) (cut R h).0 ∙ (cut R h).1)

-- documents in range are what their rows say
pub documents_parsed_back : (L : List Document) → Each (InRange true) L → documents_of (documents_rows L) ≡ L
documents_parsed_back = documents_parsed

-- and if they are expanded, their rows fit
pub documents_fit : (L : List Document) → Each (InRange true) L → Each IsExpanded L → checked Documents (documents_rows L) ≡ Fits
unfolding documents_rows
documents_fit L r k = ap (checked Documents) (rows_of L) ∙ (join (map document_rows L) (each_fit L r k)).0
  where
    rows_of : (L : List Document) → documents_rows L ≡ joined (map document_rows L)
    rows_of [] = refl
    rows_of (D ∷ L) = ap (◌++◌ (document_rows D)) (rows_of L)

    each_fit : (L : List Document) → Each (InRange true) L → Each IsExpanded L → Each (λ x. checked Expanded x ≡ Fits) (map document_rows L)
    each_fit [] r k = tt
    each_fit (D ∷ L) r k = (expanded_fits D r.0 k.0, each_fit L r.1 k.1)

-- so the sheets that fit are the prints of such documents
pub documents_sheets : (R : List Row) → (checked Documents R ≡ Fits) ↔ ((L : List Document) × Each (InRange true) L × Each IsExpanded L × (documents_rows L ≡ R))
documents_sheets R = ((λ h. (documents_of R, (documents_in_range R h).0, (documents_in_range R h).1, documents_printed_back R h)), (λ w. ap (checked Documents) (sym w.3) ∙ documents_fit w.0 w.1 w.2))
