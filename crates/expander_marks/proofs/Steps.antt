-- The positions at each mark.
use mathlib.Core.Path.{◌≡◌, refl, ap, ◌∙◌}
use mathlib.Core.List.{List, [], ◌∷◌, ◌++◌, map, append_assoc}
use Prim.Native.Nat.{ℕ, zero, suc, ◌+◌, ◌≤◌}
use native.Mathlib.Omega.{arith}
use native.Mathlib.Numerals.{add-one}
use lib.ListN.{length, get_or, drop, length-append, length-map, length-drop}
use lib.Dec.{eqb, ltb}
use borrow.Author.Tests.{ne_eqb, lt-ltb}
use Rattle.std.specs.Int.{from_bool}
use Rattle.ast.specs.Ast.{BodyElement}
use Rattle.sheet_rows.specs.declared.row.Row.{Row}
use Rattle.sheet_rows.specs.declared.part.Part.TheVariants.{BodyOrder}
use Rattle.sheet_rows.specs.Rows.{blank}
use Rattle.sheet_rows.specs.Parse.{elements, body_element_of, node_of}
use Rattle.sheet_walks.specs.Walk.{Stands}
use Rattle.sheet_walks.proofs.ElementsLaws.{elements_few}
use Rattle.sheet_walks.proofs.WalkLaws.{elements_take, from_here, front_drop, rest_drop}
use Rattle.expander_marks.specs.Positions.{field_step, statement_step, field_marks, statement_marks, marks_from, MarkAt, AtMark, Stepped}

-- ---- the mark at a row
pub mark_of : {R : List Row} {p q : ℕ} → Stands BodyOrder R p q → MarkAt R q
mark_of s = record { below = s.below; kind = s.kind }

pub marks_here : {R : List Row} {p q : ℕ} → Stands BodyOrder R p q → marks_from R q ≡ marks_from R p
marks_here {R} {p} {q} s = ap (map body_element_of) (from_here BodyOrder R p q s)

pub mark_first : {R : List Row} {at : ℕ} → MarkAt R at → marks_from R at ≡ body_element_of (drop at R) ∷ marks_from R (at + 1)
mark_first {R} {at} m = ap (map body_element_of) (elements_take BodyOrder R at m.below m.kind) ∙ rw (add-one at)

-- its kind, by its number
abbrev pub element_by : ℕ → BodyElement
element_by n = get_or (BodyElement.Field ∷ BodyElement.Interface ∷ []) n BodyElement.Statement

pub element_is : (R : List Row) (at : ℕ) {r : Row} → r ≡ get_or R at blank → body_element_of (drop at R) ≡ element_by r.a
unfolding body_element_of
element_is R at is = rw (front_drop R at, is)

field_bit : (n : ℕ) → from_bool (eqb n 0) ≡ field_step (element_by n)
field_bit zero = refl
field_bit (suc zero) = refl
field_bit (suc (suc n)) = rw (ne_eqb (suc (suc n)) 0 (λ z. omega arith))

statement_bit : (n : ℕ) → from_bool (ltb 1 n) ≡ statement_step (element_by n)
statement_bit zero = refl
statement_bit (suc zero) = refl
statement_bit (suc (suc n)) = rw (lt-ltb 1 (suc (suc n)) (omega arith))

-- ---- one mark more
fields_more : (l : List BodyElement) (m : BodyElement) → field_marks (l ++ (m ∷ [])) ≡ field_marks l + field_step m
fields_more [] BodyElement.Field = refl
fields_more [] BodyElement.Interface = refl
fields_more [] BodyElement.Statement = refl
fields_more (BodyElement.Field ∷ l) m = let ih = fields_more l m in omega arith
fields_more (BodyElement.Interface ∷ l) m = fields_more l m
fields_more (BodyElement.Statement ∷ l) m = fields_more l m

statements_more : (l : List BodyElement) (m : BodyElement) → statement_marks (l ++ (m ∷ [])) ≡ statement_marks l + statement_step m
statements_more [] BodyElement.Field = refl
statements_more [] BodyElement.Interface = refl
statements_more [] BodyElement.Statement = refl
statements_more (BodyElement.Field ∷ l) m = statements_more l m
statements_more (BodyElement.Interface ∷ l) m = statements_more l m
statements_more (BodyElement.Statement ∷ l) m = let ih = statements_more l m in omega arith

module _ {R : List Row} {node at f s : ℕ} (x : AtMark R node at f s) where
  pub stepped : MarkAt R at → {r : Row} → r ≡ get_or R at blank → {b c : ℕ} → b ≡ from_bool (eqb r.a 0) → c ≡ from_bool (ltb 1 r.a) → Stepped R node at f s (f + b) (s + c)
  stepped m {r} is {b} {c} eb ec = record {
    fields = ap (λ (n : ℕ). f + n) fb;
    statements = ap (λ (n : ℕ). s + n) sb;
    next = record {
      before = x.before ++ (body_element_of (drop at R) ∷ []);
      whole = x.whole ∙ rw (mark_first m, append_assoc x.before (body_element_of (drop at R) ∷ []) (marks_from R (at + 1)));
      fields = rw (fields_more x.before (body_element_of (drop at R)), ← x.fields, fb);
      statements = rw (statements_more x.before (body_element_of (drop at R)), ← x.statements, sb);
    };
  }
    where
      fb : b ≡ field_step (body_element_of (drop at R))
      fb = eb ∙ field_bit r.a ∙ rw (element_is R at is)

      sb : c ≡ statement_step (body_element_of (drop at R))
      sb = ec ∙ statement_bit r.a ∙ rw (element_is R at is)

-- ---- there are no more marks than rows
fields_few : (l : List BodyElement) → field_marks l ≤ length l
fields_few [] = omega arith
fields_few (BodyElement.Field ∷ l) = let ih = fields_few l in omega arith
fields_few (BodyElement.Interface ∷ l) = let ih = fields_few l in omega arith
fields_few (BodyElement.Statement ∷ l) = let ih = fields_few l in omega arith

statements_few : (l : List BodyElement) → statement_marks l ≤ length l
statements_few [] = omega arith
statements_few (BodyElement.Field ∷ l) = let ih = statements_few l in omega arith
statements_few (BodyElement.Interface ∷ l) = let ih = statements_few l in omega arith
statements_few (BodyElement.Statement ∷ l) = let ih = statements_few l in omega arith

module _ {R : List Row} {node at f s : ℕ} (x : AtMark R node at f s) where
  before_few : length x.before ≤ length R
  unfolding node_of
  before_few =
      let w : length (map body_element_of (elements BodyOrder (drop (node + 1) R))) ≡ length x.before + length (marks_from R at) = ap length (rw (rest_drop R node) at x.whole) ∙ length-append x.before (marks_from R at) in
      omega (arith, length-map (elements BodyOrder (drop (node + 1) R)) body_element_of, elements_few BodyOrder (drop (node + 1) R), length-drop (node + 1) R)

  pub field_few : f ≤ length R
  field_few = omega (arith, before_few, fields_few x.before, x.fields)

  pub statement_few : s ≤ length R
  statement_few = omega (arith, before_few, statements_few x.before, x.statements)
