use mathlib.Core.Path.{refl, sym, ◌∙◌}
use Rattle.journal_index.proofs.Index.{walk_start, walk_first, walk_low, walk_none, walk_here, walk_side, walk_less, walk_next}
use native.Mathlib.Omega.{arith}
use Rattle.journal_index.proofs.find_below.Goals as goal

pub returns-then-hits : goal.returns-then-hits
returns-then-hits c = sym (walk_first _ _ _ _ _ _ _ _ c.requires.findable.index c.requires.findable.key c.requires.top_le_c _ c.slot-b.ensures _ refl c.if-first-c.true (sym c.hits.ensures ∙ c.if-hits.true))

pub loop-cur-init : goal.loop-cur-init
loop-cur-init c = walk_start _ _ _ _ _ _ _ _ c.requires.findable.index c.requires.findable.key c.requires.top_le_c _ c.slot-b.ensures _ c.head-cur.ensures.same

pub returns-then-hits-2 : goal.returns-then-hits-2
returns-then-hits-2 c = sym (walk_here _ _ _ _ _ _ _ _ c.requires.findable.index c.requires.findable.key c.requires.top_le_c c.loop-cur.invariant c.loop-cur-test.true (sym c.hits-in-loop-cur.ensures ∙ c.if-hits-2.true))

pub overflow_add-side : goal.overflow_add-side
overflow_add-side c = omega (arith, walk_side _ _ _ _ _ _ _ _ c.requires.findable.index c.requires.findable.key c.requires.top_le_c c.loop-cur.invariant c.loop-cur-test.true _ _ c.number-k.ensures c.side.ensures)

pub word-cur-requires : goal.word-cur-requires
word-cur-requires c = (omega (arith, c.requires.findable.room.records, c.requires.findable.room.heads, walk_low _ _ _ _ _ _ _ _ c.requires.findable.index c.requires.findable.key c.requires.top_le_c c.loop-cur.invariant), omega (arith, walk_side _ _ _ _ _ _ _ _ c.requires.findable.index c.requires.findable.key c.requires.top_le_c c.loop-cur.invariant c.loop-cur-test.true _ _ c.number-k.ensures c.side.ensures))

pub loop-cur-smaller : goal.loop-cur-smaller
loop-cur-smaller c = walk_less _ _ _ _ _ _ _ _ c.requires.findable.index c.requires.findable.key c.requires.top_le_c c.loop-cur.invariant c.loop-cur-test.true _ _ c.number-k.ensures c.side.ensures _ (c.word-cur.ensures)

pub loop-cur-preserved : goal.loop-cur-preserved
loop-cur-preserved c = walk_next _ _ _ _ _ _ _ _ c.requires.findable.index c.requires.findable.key c.requires.top_le_c c.loop-cur.invariant c.loop-cur-test.true _ _ c.number-k.ensures c.side.ensures _ (c.word-cur.ensures) (sym c.hits-in-loop-cur.ensures ∙ c.if-hits-2.false)

pub returns : goal.returns
returns c = sym (walk_none _ _ _ _ _ _ _ _ c.requires.findable.index c.requires.findable.key c.requires.top_le_c c.loop-cur.invariant c.loop-cur-test.false)
