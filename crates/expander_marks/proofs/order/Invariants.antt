use Rattle.sheet_rows.specs.declared.part.Part.TheVariants.{BodyOrder}
use Rattle.sheet_rows.specs.Rows.{rows}
use Rattle.sheet_walks.proofs.OverLaws.{Over}
use Rattle.refine_records.specs.Sound.{StillLent}
use Rattle.expander_marks.proofs.Ordering.{OrderSoFar}
use Rattle.expander_marks.proofs.order.Given as goal

abbrev pub invariant-loop-q : goal.invariant-loop-q
invariant-loop-q l = Over BodyOrder (rows l.sheet) l.q-iterator × OrderSoFar l.lim (rows l.sheet) l.initial.journal.work.now l.initial.journal.counts l.env l.row l.journal.work.now l.journal.counts l.h l.q-iterator.next l.filter × StillLent l.initial.journal l.journal
