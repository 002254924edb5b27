-- The output of every accepted expansion: in range, expanded, and so a sheet that says it.
use mathlib.Core.Path.{◌≡◌, refl, subst}
use mathlib.Core.Bool.{true}
use mathlib.Core.List.{List}
use Prim.Native.Nat.{ℕ}
use native.Mathlib.Omega.{arith}
use lib.ListN.{length}
use Rattle.ast.specs.Ast.{Statement}
use Rattle.sheet_check.specs.declared.grammar.Form.TheVariants.{Expanded as Form_as_Expanded}
use Rattle.sheet_check.specs.Checked.{Fits}
use Rattle.sheet_check.specs.Grammar.{checked}
use Rattle.sheet_rows.specs.Parse.{document_of}
use Rattle.sheet_rows.specs.Print.{document_rows}
use Rattle.sheet_roundtrip.specs.Ranges.{InRange}
use Rattle.ast.specs.Expanded.{IsExpanded}
use Rattle.sheet_roundtrip.proofs.RoundTrip.{expanded_fits, document_parsed_back}
use Rattle.expansion_definition.specs.Input.{Input}
use Rattle.expansion_definition.specs.State.{Result, refusal, ok, start_state}
use Rattle.expansion_definition.specs.Expand.{statements, Expansion, Answer, expansion, answer, expand}
use Rattle.expansion_definition.specs.Outputs.{row_count}
use Rattle.expansion_definition.proofs.Demand.{demand_3}
use Rattle.expansion_output.specs.Input.{InputInRange}
use Rattle.expansion_output.proofs.Ranged.{output_in_range}
use Rattle.expansion_output.proofs.RowCount.{rows_count}

-- ---- in range

-- The output of every accepted expansion is in range, if the input is.
pub in_range : (I : Input) → InputInRange I → (e : Expansion) → expand I ≡ Answer.Expanded e → InRange true e.document
unfolding expand answer
in_range I given e = go (statements I start_state) refl
  where
    go : (r : Result (List Statement)) → statements I start_state ≡ r → answer I r ≡ Answer.Expanded e → InRange true e.document
    go (refusal c d i) q h = absurd (let z : ◌≡◌ {A = ℕ} 0 1 = cc in omega arith)
    go (ok l st) q h = let same : expansion I l st ≡ e = cc in subst (λ (x : Expansion). InRange true x.document) same (output_in_range I given l st q)

-- ---- expanded

-- The output of every accepted expansion is an expanded document.
pub is_expanded_lem : (I : Input) (e : Expansion) → expand I ≡ Answer.Expanded e → IsExpanded e.document
is_expanded_lem I e q = (demand_3 I e q).form

-- ---- the rows

-- The rows are as many as the row count says, so at most the charges.
pub row_count_lem : (I : Input) (e : Expansion) → expand I ≡ Answer.Expanded e → length (document_rows e.document) ≡ row_count e.document
row_count_lem I e q = rows_count e.document (demand_3 I e q).no_proto.protos

-- They are accepted as an expanded document.
pub rows_fit : (I : Input) → InputInRange I → (e : Expansion) → expand I ≡ Answer.Expanded e → checked Form_as_Expanded (document_rows e.document) ≡ Fits
rows_fit I given e q = expanded_fits e.document (in_range I given e q) (is_expanded_lem I e q)

-- And they say the output.
pub rows_say : (I : Input) → InputInRange I → (e : Expansion) → expand I ≡ Answer.Expanded e → document_of (document_rows e.document) ≡ e.document
rows_say I given e q = document_parsed_back true e.document (in_range I given e q)
