-- One step of the check, at a place of the sheet.
use mathlib.Core.Path.{◌≡◌, sym, ap, ◌∙◌}
use mathlib.Core.List.{List}
use Rattle.sheet_check.specs.declared.grammar.Form.{Form}
use Prim.Native.Nat.{ℕ, suc, ◌+◌, ◌≤◌, ◌<◌}
use native.Mathlib.Numerals.{add-one}
use lib.ListN.{length, get_or, drop, drop_of_length-le}
use lib.Seq.{drop-cons}
use Rattle.sheet_rows.specs.declared.row.Row.{Row}
use Rattle.sheet_check.specs.declared.grammar.State.{State}
use Rattle.std.specs.Prelude.{Option, Some, None, Err, ok_or}
use Rattle.sheet_check.specs.declared.BadRow.{BadRow}
use Rattle.sheet_check.specs.Checked.{Fits, Bad}
use Rattle.sheet_rows.specs.Rows.{blank}
use Rattle.ast.specs.Choice.{choose}
use Rattle.sheet_check.specs.Grammar.{run, go_on, fits, has_ended}

module _ (form : Form) (s : State) (R : List Row) (n : ℕ) where
  run_at : n < length R → run form s n (drop n R) ≡ go_on (fits form s (get_or R n blank)) (λ t. run form t (suc n) (drop (suc n) R)) n
  unfolding run
  run_at h = ap (run form s n) (drop-cons R n blank h)

  pub run_go : (t : State) → n < length R → fits form s (get_or R n blank) ≡ Some t → run form t (n + 1) (drop (n + 1) R) ≡ run form s n (drop n R)
  run_go t h e =
      rw (add-one n) (sym (run_at h ∙ ap (λ (x : Option State). go_on x (λ u. run form u (suc n) (drop (suc n) R)) n) e))

  pub run_no : n < length R → fits form s (get_or R n blank) ≡ None → Bad n ≡ run form s n (drop n R)
  run_no h e = sym (run_at h ∙ ap (λ (x : Option State). go_on x (λ u. run form u (suc n) (drop (suc n) R)) n) e)

  pub run_end : length R ≤ n → choose (has_ended form s) Fits (Bad n) ≡ run form s n (drop n R)
  unfolding run
  run_end h = ap (run form s n) (sym (drop_of_length-le R h))

-- the row that a refused step leaves
pub bad_row : {n : ℕ} {b : BadRow} {o : Option State} → o ≡ None → Err b ≡ ok_or o (record { 0 = n }) → Err b ≡ Bad n
bad_row {n} {b} h e =
    let k = rw h at e in
    let z : ◌≡◌ {A = BadRow} b (record { 0 = n }) = cc in
    ap Err z
