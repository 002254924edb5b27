use mathlib.Core.Path.{refl, sym, ◌∙◌}
use Rattle.journal_index.proofs.Keys.{word_far, word_tag, word_apart, word_here, slot_words}
use Rattle.journal_index.proofs.Heads.head.Goals as goal

pub returns-then-x-c : goal.returns-then-x-c
returns-then-x-c c = word_far _ _ _ _ _ _ refl c.if-x-c.true

pub returns-then-not-is_keyed : goal.returns-then-not-is_keyed
returns-then-not-is_keyed c = word_tag _ _ _ _ _ _ refl _ c.key_at-key.ensures.tag (sym c.is_keyed.ensures ∙ c.if-not-is_keyed.true)

pub returns-then-slot-b : goal.returns-then-slot-b
returns-then-slot-b c = word_apart _ _ _ _ _ _ refl _ (slot_words _ _ _ _ _ _ c.slot.ensures.same c.key_at-key.ensures.x c.key_at-key.ensures.y) c.if-slot-b.true

pub returns : goal.returns
returns c = word_here _ _ _ _ _ _ refl _ (slot_words _ _ _ _ _ _ c.slot.ensures.same c.key_at-key.ensures.x c.key_at-key.ensures.y) _ c.key_at-key.ensures.tag (sym c.is_keyed.ensures ∙ c.if-not-is_keyed.false) c.if-slot-b.false c.if-x-c.false
