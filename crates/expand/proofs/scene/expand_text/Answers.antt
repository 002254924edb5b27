use lib.ListN.{length-take}
use Rattle.expand_text.specs.Answer.{ReadRefused, ReadExpanded}
use Rattle.expand_text.proofs.AnswerLaws.{few_refused}
use Rattle.expand.proofs.LinesLaws.{rows_fit, place_fits, not_refused, refused_so, accepts_not}
use native.Mathlib.Omega.{arith}
use Rattle.text_lines.specs.declared.ReadError.TheVariants.{BadLine}
use Rattle.expand.proofs.scene.expand_text.Goals as goal

pub overflow_mul-words : goal.overflow_mul-words
overflow_mul-words c = let h = rows_fit _ _ _ _ (rw c.in-Ok.is at c.read_lines.ensures) in omega (arith, h)

pub slice_bounds-words-end : goal.slice_bounds-words-end
slice_bounds-words-end c = let h = rows_fit _ _ _ _ (rw c.in-Ok.is at c.read_lines.ensures) in omega (arith, h)

pub slice_bounds-expand_rows-end : goal.slice_bounds-expand_rows-end
slice_bounds-expand_rows-end c = let h = rows_fit _ _ _ _ (rw c.in-Ok.is at c.read_lines.ensures) in simp length-take (omega (arith, h))

pub overflow_cast-result : goal.overflow_cast-result
overflow_cast-result c = let h = place_fits _ _ _ (BadLine c.in-BadLine.line) (rw (c.in-Err.is, c.in-BadLine.is) at c.read_lines.ensures) in omega (arith, h)

pub returns-in-Ok : goal.returns-in-Ok
unfolding ReadRefused ReadExpanded
returns-in-Ok c = record { read_refused = (λ w e h. absurd (not_refused _ _ _ w _ (rw c.in-Ok.is at c.read_lines.ensures) (omega arith) h)); read_expanded = (λ z. rw (c.read_lines.ensures, c.in-Ok.is) c.expand_rows.ensures.expands); few = c.expand_rows.ensures.few }

pub returns-in-WrongLength : goal.returns-in-WrongLength
unfolding ReadRefused ReadExpanded
returns-in-WrongLength c = record { read_refused = (λ w e h. let p = refused_so _ _ _ w _ _ (rw (c.in-Err.is, c.in-WrongLength.is) at c.read_lines.ensures) (omega arith) in rw (p.0, p.1)); read_expanded = (λ z. absurd (accepts_not _ _ _ _ _ (rw (c.in-Err.is, c.in-WrongLength.is) at c.read_lines.ensures) (omega arith) z)); few = few_refused _ }

pub returns-in-BadLine : goal.returns-in-BadLine
unfolding ReadRefused ReadExpanded
returns-in-BadLine c = record { read_refused = (λ w e h. let p = refused_so _ _ _ w _ _ (rw (c.in-Err.is, c.in-BadLine.is) at c.read_lines.ensures) (omega arith) in rw (p.0, p.1)); read_expanded = (λ z. absurd (accepts_not _ _ _ _ _ (rw (c.in-Err.is, c.in-BadLine.is) at c.read_lines.ensures) (omega arith) z)); few = few_refused _ }
