use Rattle.sheet_rows.specs.declared.part.Part.TheVariants.{Files}
use Rattle.sheet_rows.specs.Rows.{rows}
use Rattle.sheet_walks.proofs.OverLaws.{Over}
use Rattle.pick_table.proofs.SourceLaws.{Seeking}
use Rattle.pick_table.proofs.table.walked.Given as goal

abbrev pub invariant-loop-q : goal.invariant-loop-q
invariant-loop-q l = Over Files (rows l.library) l.q-iterator × Seeking (rows l.library) l.base l.best l.number l.q-iterator.next
