-- The check of a whole printed sheet.
use mathlib.Core.Path.{◌≡◌, sym, ap, ◌∙◌}
use mathlib.Core.List.{List, [], append-nil}
use mathlib.Core.Bool.{true, false}
use Prim.Native.Nat.{◌≤◌}
use native.Mathlib.Omega.{arith}
use borrow.Author.Tests.{le-leb}
use Rattle.sheet_rows.specs.declared.row.Row.{Row}
use Rattle.sheet_check.specs.declared.grammar.Form.{Form}
use Rattle.sheet_check.specs.declared.grammar.Form.TheVariants.{Library}
use Rattle.sheet_check.specs.Checked.{Fits}
use Rattle.sheet_check.specs.Grammar.{takes_marks, is_library, starts_in, has_ended, checked}
use Rattle.sheet_rows.specs.Parse.{document_of, files_of}
use Rattle.sheet_rows.specs.Print.{document_rows, library_rows}
use Rattle.ast.specs.Each.{Each}
use Rattle.sheet_roundtrip.specs.Ranges.{InRange, FileInRange}
use Rattle.ast.specs.Expanded.{IsExpanded}
use Rattle.sheet_roundtrip.proofs.Accepts.{bare, accepts, accepted}
use Rattle.sheet_roundtrip.proofs.Passes.{Single, single_library, Only, Asks, Span, Within, Passes}
use Rattle.sheet_roundtrip.proofs.Walk.{document_passes, library_passes}
use Rattle.sheet_roundtrip.proofs.Parsed.{document_parsed, library_parsed}
use Rattle.sheet_roundtrip.proofs.Cutting.{document_whole, library_whole}

module _ (form : Form) (single : Single form) {S T : Span} {a : Asks} {R : List Row} (f : Passes form S T a R) (b : Within S (starts_in form) 0) (e : 11 ≤ T.lo) where
  -- rows that lead from the start to an end fit, if they are as asked
  pub fits_if : a.range → Only form a.kept → checked form R ≡ Fits
  fits_if r k =
      let w = f (starts_in form) 0 b in
      let h : 11 ≤ w.0 = omega arith in
      let g : has_ended form (bare w.0 w.1) ≡ true = rw (single.ends w.0, le-leb 11 w.0 h) in
      accepted form R (bare (starts_in form) 0) 0 (rw append-nil at (w.3.into [] r k g))

  -- and only then
  pub fits_only : a.given → checked form R ≡ Fits → a.range × Only form a.kept
  fits_only o h =
      let w = f (starts_in form) 0 b in
      let y = w.3.back single.whole [] o (rw append-nil (accepts form R (bare (starts_in form) 0) 0 h)) in
      (y.0, y.1)

-- what an accepted root sheet or expanded document says is in range, expanded if it is one, and written in the sheet's own rows
pub document_read : (form : Form) → Single form → is_library form ≡ false → starts_in form ≡ 0 → (R : List Row) → checked form R ≡ Fits → InRange (takes_marks form) (document_of R) × Only form (IsExpanded (document_of R)) × (document_rows (document_of R) ≡ R)
document_read form single f b R h =
    let w = document_whole form single f R (accepts form R (bare 0 0) 0 (rw b at h)) in
    let D = w.0 in
    let x = fits_only form single (document_passes form (single.begins 0) D) (rw b (omega arith)) (omega arith) w.2 (ap (checked form) (sym w.1) ∙ h) in
    let e : document_of R ≡ D = ap document_of w.1 ∙ (rw append-nil at (document_parsed (takes_marks form) D [] x.0 tt)) in
    rw e (x.0, x.1, sym w.1)

-- what an accepted library says likewise
pub library_read : (R : List Row) → checked Library R ≡ Fits → Each FileInRange (files_of R) × (library_rows (files_of R) ≡ R)
library_read R h =
    let w = library_whole Library single_library R (accepts Library R (bare 12 0) 0 h) in
    let x = fits_only Library single_library (library_passes w.0) (omega arith) (omega arith) w.2 (ap (checked Library) (sym w.1) ∙ h) in
    let e : files_of R ≡ w.0 = ap files_of w.1 ∙ library_parsed w.0 x.0 in
    rw e (x.0, sym w.1)
