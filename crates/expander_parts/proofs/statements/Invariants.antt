use Rattle.sheet_rows.specs.declared.part.Part.TheVariants.{Statements}
use Rattle.sheet_walks.proofs.OverLaws.{Over}
use Rattle.refine_records.specs.Sound.{StillLent}
use Rattle.expander_parts.specs.Contract.{rows_of}
use Rattle.expander_parts.proofs.Said.{SaidSoFar}
use Rattle.expander_parts.proofs.statements.Given as goal

abbrev pub invariant-loop-q : goal.invariant-loop-q
invariant-loop-q l = Over Statements (rows_of l.sources.root.now l.sources.library.now l.sources.dir.now l.env.slot) l.q-iterator × SaidSoFar l.lim l.sources.root.now l.sources.library.now l.sources.dir.now l.initial.journal.work.now l.initial.journal.counts l.env l.row l.journal.work.now l.journal.counts l.h l.q-iterator.next × StillLent l.initial.journal l.journal
