use Rattle.sheet_rows.specs.declared.part.Part.TheVariants.{Fields}
use Rattle.sheet_rows.specs.Rows.{rows}
use Rattle.sheet_walks.proofs.OverLaws.{Over}
use Rattle.source_names.proofs.NameLaws.{Filling}
use Rattle.source_names.proofs.fill.Given as goal

abbrev pub invariant-loop-q : goal.invariant-loop-q
invariant-loop-q l = Over Fields (rows l.sheet) l.q-iterator × Filling l.sheet l.node l.at l.end l.q-iterator.next l.to l.initial.work l.work
