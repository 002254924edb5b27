-- Sheets that fit as expanded documents, one after another, fit as several, and are cut there.
use mathlib.Core.Path.{◌≡◌, refl, sym, ap, ap₂, subst, ◌∙◌}
use mathlib.Core.List.{List, [], ◌∷◌, ◌++◌, map}
use mathlib.Core.Bool.{Bool, true, false, not}
use Prim.Native.Nat.{ℕ}
use lib.Dec.{eqb}
use borrow.Author.Tests.{eq-eqb, not-true}
use Rattle.ast.proofs.Basics.{and_l}
use Rattle.ast.specs.Each.{Each}
use Rattle.sheet_rows.specs.declared.row.Row.{Row}
use Rattle.sheet_rows.specs.declared.part.Part.TheVariants.{Documents as DocumentsPart}
use Rattle.sheet_rows.specs.Parse.{passes, elements, document_of, up_to_next, own_rows, sheets_of}
use Rattle.sheet_rows.specs.Print.{document_rows}
use Rattle.sheet_check.specs.declared.grammar.Form.TheVariants.{Expanded, Documents}
use Rattle.sheet_check.specs.declared.grammar.State.{State}
use Rattle.sheet_check.specs.Checked.{Fits}
use Rattle.sheet_check.specs.Grammar.{opened_part, has_ended, fits, checked}
use Rattle.sheet_roundtrip.proofs.Tests.{every_at}
use Rattle.sheet_roundtrip.proofs.Accepts.{bare, Accepts, accepts, accepted}
use Rattle.sheet_roundtrip.proofs.Scan.{Among, Heads, passed, pass_over}
use Rattle.sheet_roundtrip.proofs.Parsed.{part_kinds, document_heads}
use Rattle.sheet_roundtrip.proofs.RoundTrip.{expanded_printed_back}
use Rattle.sheet_forms.proofs.Rows.{starts_again, same_row}
use Rattle.sheet_forms.specs.Several.{joined}

-- a sheet that fits begins with a row of kind 1, and has no other
heads : (x : List Row) → checked Expanded x ≡ Fits → Heads 1 part_kinds x
heads x h = subst (Heads 1 part_kinds) (expanded_printed_back x h) (document_heads true (document_of x))

-- ---- it fits

-- rows of other kinds fit as they do in one document, and then come the documents after it
rows_fit : (Q : List Row) (s : State) (l : List Row) → Each (λ r. eqb r.kind 1 ≡ false) Q → Accepts Expanded s Q → ((t : State) → has_ended Expanded t ≡ true → Accepts Documents t l) → Accepts Documents s (Q ++ l)
rows_fit [] s l n h k = k s h
rows_fit (r ∷ Q) s l n h k = (h.0, same_row s r n.0 ∙ h.1, rows_fit Q h.0 l n.1 h.2 k)

-- of these kinds none is 1
other_kinds : (Q : List Row) → Among part_kinds Q → Each (λ r. eqb r.kind 1 ≡ false) Q
other_kinds [] h = tt
other_kinds (r ∷ Q) h = (not-true (eqb r.kind 1) (and_l (not (eqb r.kind 1)) (passes DocumentsPart r.kind) (every_at (passed DocumentsPart) part_kinds refl r.kind h.0)), other_kinds Q h.1)

each_accepts : (L : List (List Row)) → Each (λ x. checked Expanded x ≡ Fits) L → (s : State) → has_ended Expanded s ≡ true → Accepts Documents s (joined L)
each_accepts [] h s e = e
each_accepts (x ∷ L) h s e = go x (heads x h.0) (accepts Expanded x (opened_part 0) 0 h.0) (λ t k. each_accepts L h.1 t k)
  where
    go : (x : List Row) → Heads 1 part_kinds x → Accepts Expanded (opened_part 0) x → ((t : State) → has_ended Expanded t ≡ true → Accepts Documents t (joined L)) → Accepts Documents s (x ++ joined L)
    go [] i a k = absurd i
    go (r ∷ Q) i a k = (a.0, starts_again s a.0 r i.0 e a.1, rows_fit Q a.0 (joined L) (other_kinds Q i.1) a.2 k)

-- ---- it is cut there

-- the rows of a document are its own
own : (Q l : List Row) → Each (λ r. eqb r.kind 1 ≡ false) Q → up_to_next l ≡ [] → up_to_next (Q ++ l) ≡ Q
unfolding up_to_next
own [] l n e = e
own (r ∷ Q) l n e = rw n.0 (ap (◌∷◌ r) (own Q l n.1 e))

-- documents begin at once
at_once : (L : List (List Row)) → Each (λ x. checked Expanded x ≡ Fits) L → up_to_next (joined L) ≡ []
unfolding up_to_next
at_once [] h = refl
at_once (x ∷ L) h = go x (heads x h.0)
  where
    go : (x : List Row) → Heads 1 part_kinds x → up_to_next (x ++ joined L) ≡ []
    go [] i = absurd i
    go (r ∷ Q) i = rw (eq-eqb r.kind 1 i.0)

cut_there : (L : List (List Row)) → Each (λ x. checked Expanded x ≡ Fits) L → sheets_of (joined L) ≡ L
unfolding sheets_of elements
cut_there [] h = refl
cut_there (x ∷ L) h = go x (heads x h.0) (cut_there L h.1)
  where
    go : (x : List Row) → Heads 1 part_kinds x → sheets_of (joined L) ≡ L → sheets_of (x ++ joined L) ≡ x ∷ L
    go [] i e = absurd i
    go (r ∷ Q) i e = rw (eq-eqb r.kind 1 i.0) (ap₂ ◌∷◌ (ap (◌∷◌ r) (own Q (joined L) (other_kinds Q i.1) (at_once L h.1))) (ap (map own_rows) (pass_over DocumentsPart part_kinds refl Q (joined L) i.1) ∙ e))

pub join : (L : List (List Row)) → Each (λ x. checked Expanded x ≡ Fits) L → (checked Documents (joined L) ≡ Fits) × (sheets_of (joined L) ≡ L)
join L h = (accepted Documents (joined L) (bare 12 0) 0 (each_accepts L h (bare 12 0) refl), cut_there L h)
