-- Which entries are kept: of a row, and of all from a row on.
use mathlib.Core.Path.{◌≡◌, refl, ap, ◌∙◌}
use mathlib.Core.Bool.{Bool, true, false}
use mathlib.Core.List.{List, [], ◌∷◌, map}
use mathlib.Core.Option.{Option}
use Prim.Native.Nat.{ℕ, ◌+◌, ◌≤◌}
use lib.ListN.{length, get_or, drop}
use lib.Dec.{eqb}
use Rattle.ast.specs.Ast.{FieldValue, FieldBinding}
use Rattle.ast.specs.Choice.{choose}
use Rattle.sheet_rows.specs.declared.row.Row.{Row}
use Rattle.sheet_rows.specs.declared.part.Part.TheVariants.{Fields, Statements}
use Rattle.sheet_rows.specs.Rows.{blank, front}
use Rattle.sheet_rows.specs.Parse.{elements, field_of, fields_of, route_of, statement_of, statements_of, value_of as row_value}
use Rattle.sheet_walks.specs.Walk.{Stands}
use Rattle.sheet_walks.proofs.WalkLaws.{each_at, each_none, front_drop, from_here, elements_end}
use Rattle.expansion_definition.specs.Values.{Values}
use Rattle.expander_marks.specs.Kept.{kept_statement, kept_binding, kept_field, kept_fields, kept_statements}

-- ---- a field that is kept
-- of a field from its row on
kept_front : (vs : Option Values) (l : List Row) → kept_field vs (field_of l) ≡ kept_field vs (field_of (front l ∷ []))
unfolding field_of
kept_front vs l = by (row_value l) (row_value (front l ∷ [])) (eqb (front l).b 1)
  where
    by : (v v' : FieldValue) (b : Bool) → kept_binding vs (choose b (FieldBinding.Is (front l).c) (FieldBinding.Value v)) ≡ kept_binding vs (choose b (FieldBinding.Is (front l).c) (FieldBinding.Value v'))
    by v v' true = refl
    by v v' false = refl

-- of a statement from its row on
pub said_same : (l : List Row) → statement_of l ≡ statement_of (front l ∷ [])
unfolding statement_of route_of
said_same l = refl

-- ---- all from a row on
module _ (vs : Option Values) (R : List Row) where
  pub fields_at : {p q : ℕ} {r : Row} → Stands Fields R p q → r ≡ get_or R q blank → kept_fields vs R p ≡ kept_field vs (field_of (r ∷ [])) ∷ kept_fields vs R (q + 1)
  unfolding kept_fields fields_of
  fields_at {p} {q} {r} s is = ap (map (kept_field vs)) (each_at field_of s) ∙ rw (kept_front vs (drop q R), front_drop R q, is)

  pub fields_none : (p : ℕ) → elements Fields (drop p R) ≡ [] → kept_fields vs R p ≡ []
  unfolding kept_fields fields_of
  fields_none p e = ap (map (kept_field vs)) (each_none field_of Fields R p e)

  pub fields_here : {p q : ℕ} → Stands Fields R p q → kept_fields vs R q ≡ kept_fields vs R p
  unfolding kept_fields fields_of
  fields_here {p} {q} s = ap (λ (l : List (List Row)). map (kept_field vs) (map field_of l)) (from_here Fields R p q s)

  pub fields_end : (p : ℕ) → length R ≤ p → kept_fields vs R p ≡ []
  fields_end p h = fields_none p (elements_end Fields R p h)

pub statements_at_lem : {R : List Row} {p q : ℕ} {r : Row} → Stands Statements R p q → r ≡ get_or R q blank → statements_of (drop p R) ≡ statement_of (r ∷ []) ∷ statements_of (drop (q + 1) R)
unfolding statements_of
statements_at_lem {R} {p} {q} {r} s is = each_at statement_of s ∙ rw (said_same (drop q R), front_drop R q, is)

pub statements_end : (R : List Row) (p : ℕ) → elements Statements (drop p R) ≡ [] → statements_of (drop p R) ≡ []
unfolding statements_of
statements_end R p e = each_none statement_of Statements R p e

module _ (R : List Row) where
  pub said_at : {p q : ℕ} {r : Row} → Stands Statements R p q → r ≡ get_or R q blank → kept_statements R p ≡ kept_statement (statement_of (r ∷ [])) ∷ kept_statements R (q + 1)
  unfolding kept_statements
  said_at s is = ap (map kept_statement) (statements_at_lem s is)

  pub said_none : (p : ℕ) → elements Statements (drop p R) ≡ [] → kept_statements R p ≡ []
  unfolding kept_statements
  said_none p e = ap (map kept_statement) (statements_end R p e)

  pub said_here : {p q : ℕ} → Stands Statements R p q → kept_statements R q ≡ kept_statements R p
  unfolding kept_statements statements_of
  said_here {p} {q} s = ap (λ (l : List (List Row)). map kept_statement (map statement_of l)) (from_here Statements R p q s)

  pub said_past : (p : ℕ) → length R ≤ p → kept_statements R p ≡ []
  said_past p h = said_none p (elements_end Statements R p h)
