use Rattle.sheet_rows.specs.declared.part.Part.TheVariants.{Fields}
use Rattle.sheet_rows.specs.Rows.{rows}
use Rattle.sheet_walks.proofs.OverLaws.{Over}
use Rattle.source_names.proofs.NameLaws.{Searching}
use Rattle.source_names.proofs.walked.Given as goal

abbrev pub invariant-loop-q : goal.invariant-loop-q
invariant-loop-q l = Over Fields (rows l.sheet) l.q-iterator × Searching l.name (rows l.sheet) l.node l.best l.q-iterator.next
