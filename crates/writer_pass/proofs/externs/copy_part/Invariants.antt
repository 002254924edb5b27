use Rattle.sheet_rows.specs.Rows.{rows}
use Rattle.sheet_walks.proofs.OverLaws.{Over}
use Rattle.writer_pass.proofs.ExternRows.{Copying}
use Rattle.writer_pass.proofs.externs.copy_part.Given as goal

abbrev pub invariant-loop-q : goal.invariant-loop-q
invariant-loop-q l = Over l.of (rows l.sheet) l.q-iterator × Copying l.of l.taken (rows l.sheet) l.initial.out l.out l.from l.q-iterator.next l.start l.p
