use Rattle.sheet_rows.specs.declared.part.Part.TheVariants.{Statements}
use Rattle.sheet_rows.specs.Rows.{rows}
use Rattle.sheet_walks.proofs.OverLaws.{Over}
use Rattle.refine_records.specs.Sound.{StillLent}
use Rattle.expander_contracts.proofs.TopLaws.{Topping}
use Rattle.expander_tops.proofs.tops.Given as goal

abbrev pub invariant-loop-q : goal.invariant-loop-q
invariant-loop-q l = Over Statements (rows l.sources.root.now) l.q-iterator × Topping l.sources.root.now l.sources.library.now l.sources.dir.now l.initial.journal.work.now l.lim l.initial.journal.counts l.env l.row l.depth l.journal.work.now l.journal.counts l.h l.q-iterator.next × StillLent l.initial.journal l.journal
