-- A sheet of several documents that fits is cut at its rows of kind 1 into sheets that fit.
use mathlib.Core.Path.{◌≡◌, refl, sym, ap, subst, ◌∙◌}
use mathlib.Core.List.{List, [], ◌∷◌, ◌++◌, map}
use mathlib.Core.Bool.{Bool, true, false, ◌&&◌}
use Prim.Native.Nat.{ℕ, suc, ◌≤◌}
use native.Mathlib.Omega.{arith}
use lib.Dec.{ltb, leb, eqb}
use borrow.Author.Tests.{eqb-true}
use Rattle.ast.proofs.Basics.{and_r}
use Rattle.ast.specs.Lists.{flat}
use Rattle.ast.specs.Each.{Each}
use Rattle.sheet_rows.specs.declared.row.Row.{Row}
use Rattle.sheet_rows.specs.declared.part.Part.TheVariants.{Documents as DocumentsPart}
use Rattle.sheet_rows.specs.Parse.{elements, up_to_next, sheets_of}
use Rattle.sheet_check.specs.declared.grammar.Form.TheVariants.{Expanded, Documents}
use Rattle.sheet_check.specs.declared.grammar.State.{State}
use Rattle.sheet_check.specs.declared.grammar.Role.{Role}
use Rattle.sheet_check.specs.declared.grammar.Role.TheVariants.{Starts, Opens, Inner, Files, Owed, Never}
use Rattle.std.specs.Prelude.{Some}
use Rattle.sheet_check.specs.Checked.{Fits}
use Rattle.sheet_check.specs.Grammar.{role_of, opened_part, fits, checked}
use Rattle.sheet_roundtrip.proofs.Tests.{never}
use Rattle.sheet_roundtrip.proofs.Accepts.{bare, no_go, Accepts, accepts, accepted}
use Rattle.sheet_roundtrip.proofs.Cuts.{by_role_lem, made}
use Rattle.sheet_forms.specs.Several.{joined}
use Rattle.sheet_forms.proofs.Rows.{starts_here, same_row, kind_passes, has_shape}

-- from a state on: what is left of a document, and the documents after it
record CutAt (s : State) (R : List Row) : Type 0 where
  pub first : Accepts Expanded s (up_to_next R)
  pub each : Each (Accepts Expanded (opened_part 0)) (sheets_of R)
  pub all : R ≡ up_to_next R ++ joined (sheets_of R)

cut_at : (R : List Row) (s : State) → Accepts Documents s R → CutAt s R
unfolding up_to_next sheets_of elements
cut_at [] s h = record { first = h; each = tt; all = refl }
cut_at (r ∷ l) s h = by (eqb r.kind 1) refl (λ t k. cut_at l t k)
  where
    by : (b : Bool) → eqb r.kind 1 ≡ b → ((t : State) → Accepts Documents t l → CutAt t l) → CutAt s (r ∷ l)
    by true e ih =
        let w = starts_here s h.0 r (eqb-true r.kind 1 e) h.1 in
        let y = ih (opened_part 1) (subst (λ (t : State). Accepts Documents t l) (sym w.1) h.2) in
        record { first = rw e w.0; each = rw e ((opened_part 1, w.2, y.first), y.each); all = rw e (ap (◌∷◌ r) y.all) }
    by false e ih =
        let y = ih h.0 h.2 in
        let p = kind_passes r (has_shape s h.0 r h.1) in
        record { first = rw e (h.0, sym (same_row s r e) ∙ h.1, y.first); each = rw (e, p) y.each; all = rw (e, p) (ap (◌∷◌ r) y.all) }

-- before the first document no row fits
none_before : (Q : List Row) → Accepts Expanded (bare 12 0) Q → Q ≡ []
none_before [] k = refl
none_before (r ∷ l) k = absurd (go (role_of r.kind) refl)
  where
    go : (role : Role) → role_of r.kind ≡ role → ⊥
    go Starts h = no_go (by_role_lem Expanded 12 0 r l Starts h k).1.1
    go Opens h = let x = (by_role_lem Expanded 12 0 r l Opens h k).1 in never (and_r (leb 1 12 && leb 12 r.kind) (ltb 12 11) (made (leb 1 12 && leb 12 r.kind && ltb 12 11) (opened_part r.kind) x.0 x.1).0)
    go Inner h = no_go (by_role_lem Expanded 12 0 r l Inner h k).1.1
    go Files h = no_go (by_role_lem Expanded 12 0 r l Files h k).1.1
    go Owed h = no_go (by_role_lem Expanded 12 0 r l Owed h k).1.1
    go Never h = no_go (by_role_lem Expanded 12 0 r l Never h k).1.1

each_fits : (L : List (List Row)) → Each (Accepts Expanded (opened_part 0)) L → Each (λ x. checked Expanded x ≡ Fits) L
each_fits [] h = tt
each_fits (x ∷ L) h = (accepted Expanded x (opened_part 0) 0 h.0, each_fits L h.1)

-- each is a sheet that fits, and together they are the whole
pub cut : (R : List Row) → checked Documents R ≡ Fits → Each (λ x. checked Expanded x ≡ Fits) (sheets_of R) × (joined (sheets_of R) ≡ R)
cut R h =
    let c = cut_at R (bare 12 0) (accepts Documents R (bare 12 0) 0 h) in
    (each_fits (sheets_of R) c.each, sym (c.all ∙ ap (λ (Q : List Row). Q ++ joined (sheets_of R)) (none_before (up_to_next R) c.first)))
