use mathlib.Core.Path.{refl, sym, ◌∙◌}
use Rattle.refine_values.proofs.Walking.{search_none, search_here, search_next, search_found, search_less, search_past}
use native.Mathlib.Omega.{arith}
use Rattle.refine_values.proofs.value_of.Goals as goal

pub returns-in_default : goal.returns-in_default
returns-in_default c = search_none c.requires.standing c.loop-looked.invariant.1 (omega (arith, c.in_default.ensures.steps.0))

pub returns-then-word-name : goal.returns-then-word-name
returns-then-word-name c =
    let s = c.in-Some.ensures.steps in
    search_here c.requires.standing c.loop-looked.invariant.1 (omega (arith, s.0)) s.0 _ c.word.ensures c.if-word-name.true

pub loop-looked-preserved : goal.loop-looked-preserved
loop-looked-preserved c =
    let s = c.in-Some.ensures.steps in
    let k = c.loop-looked.invariant in
    (s.2 ∙ k.0, search_next c.requires.standing k.1 (omega (arith, s.0)) s.0 _ c.word.ensures c.if-word-name.false (rw k.0 at s.1))

pub returns-then-is_some : goal.returns-then-is_some
returns-then-is_some c = search_found c.requires.standing c.loop-cur.invariant c.loop-cur-test.true _ c.word-f.ensures _ c.find_below-x.ensures (sym c.is_some.ensures ∙ c.if-is_some.true)

pub loop-cur-smaller : goal.loop-cur-smaller
loop-cur-smaller c = search_less c.requires.standing c.loop-cur.invariant c.loop-cur-test.true _ c.word-f.ensures _ refl _ c.word-cur.ensures

pub loop-cur-preserved : goal.loop-cur-preserved
loop-cur-preserved c = search_past c.requires.standing c.loop-cur.invariant c.loop-cur-test.true _ c.word-f.ensures _ refl _ c.word-cur.ensures _ c.find_below-x.ensures (sym c.is_some.ensures ∙ c.if-is_some.false)

pub returns : goal.returns
returns c = search_none c.requires.standing c.loop-cur.invariant c.loop-cur-test.false
