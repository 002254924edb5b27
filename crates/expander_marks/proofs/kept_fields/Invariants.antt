use lib.ListN.{length}
use Rattle.sheet_rows.specs.declared.part.Part.TheVariants.{Fields}
use Rattle.sheet_rows.specs.Rows.{rows}
use Rattle.sheet_walks.proofs.OverLaws.{Over}
use Rattle.refine_records.specs.Sound.{env_of}
use Rattle.expander_marks.specs.Kept.{kept_fields}
use Rattle.expander_marks.proofs.Runs.{Running}
use Rattle.expander_marks.proofs.kept_fields.Given as goal

abbrev pub invariant-loop-q : goal.invariant-loop-q
invariant-loop-q l = Over Fields (rows l.sheet) l.q-iterator × Running (kept_fields (env_of l.journal.work.now l.env).is_values (rows l.sheet)) (length (rows l.sheet)) l.from l.count l.q-iterator.next
