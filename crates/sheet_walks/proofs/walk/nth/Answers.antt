use mathlib.Core.Path.{◌≡◌, sym, ap, ◌∙◌}
use mathlib.Core.List.{List}
use native.Mathlib.Nat.{add-zero}
use Prim.Native.Nat.{◌-◌, ◌+◌}
use Rattle.sheet_rows.specs.declared.row.Row.{Row}
use native.Mathlib.Omega.{arith}
use lib.ListN.{drop, get_elem?}
use Rattle.sheet_rows.specs.Rows.{rows}
use Rattle.sheet_rows.specs.Parse.{elements}
use Rattle.sheet_rows.proofs.RowLaws.{rows_length}
use Rattle.sheet_walks.proofs.WalkLaws.{stands, missing, at_drop, past_one, nth_past, nth_from, first_is, first_below}
use Rattle.sheet_walks.proofs.walk.nth.Goals as goal

pub returns-in_default : goal.returns-in_default
returns-in_default c =
    let l = c.loop-skipped in
    let a = c.args in
    let z : l.skipped + (a.n - l.skipped) ≡ a.n = omega arith in
    let h = elements a.part (drop a.from (rows a.sheet.now)) in
    let e = sym l.invariant ∙ missing a.part (rows a.sheet.now) l.at c.seek.ensures c.in_default.is in
    record { is = ap (get_elem? h) (sym z) ∙ sym (at_drop h l.skipped (a.n - l.skipped)) ∙ ap (λ (x : List (List Row)). get_elem? x (a.n - l.skipped)) e; below = tt; here = tt; past = tt }

pub overflow_add-at : goal.overflow_add-at
overflow_add-at c = omega (arith, (stands c.args.part (rows c.args.sheet.now) c.loop-skipped.at c.seek.ensures c.in-At.is).below, rows_length c.args.sheet.now)

pub loop-skipped-preserved : goal.loop-skipped-preserved
loop-skipped-preserved c =
    let l = c.loop-skipped in
    let a = c.args in
    past_one a.part (rows a.sheet.now) l.at _ l.skipped (elements a.part (drop a.from (rows a.sheet.now))) (stands a.part (rows a.sheet.now) l.at c.seek.ensures c.in-At.is) l.invariant

pub returns : goal.returns
returns c =
    let l = c.loop-skipped in
    let a = c.args in
    let R = rows a.sheet.now in
    let h = elements a.part (drop a.from R) in
    let z : l.skipped ≡ a.n = omega arith in
    let e = rw z at l.invariant in
    record {
      is = ap (get_elem? h) (sym (add-zero a.n)) ∙ sym (at_drop h a.n 0) ∙ ap (λ (x : List (List Row)). get_elem? x 0) (sym e) ∙ first_is a.part R l.at c.seek-2.result c.seek-2.ensures;
      below = first_below a.part R l.at c.seek-2.result c.seek-2.ensures;
      here = nth_from a.part R a.from l.at a.n c.seek-2.result c.seek-2.ensures e;
      past = nth_past a.part R a.from l.at a.n c.seek-2.result c.seek-2.ensures e;
    }
