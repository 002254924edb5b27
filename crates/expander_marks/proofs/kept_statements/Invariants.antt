use lib.ListN.{length}
use Rattle.sheet_rows.specs.declared.part.Part.TheVariants.{Statements}
use Rattle.sheet_rows.specs.Rows.{rows}
use Rattle.sheet_walks.proofs.OverLaws.{Over}
use Rattle.expander_marks.specs.Kept.{kept_statements}
use Rattle.expander_marks.proofs.Runs.{Running}
use Rattle.expander_marks.proofs.kept_statements.Given as goal

abbrev pub invariant-loop-q : goal.invariant-loop-q
invariant-loop-q l = Over Statements (rows l.sheet) l.q-iterator × Running (kept_statements (rows l.sheet)) (length (rows l.sheet)) l.from l.count l.q-iterator.next
