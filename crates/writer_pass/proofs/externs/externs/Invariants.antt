use Rattle.sheet_rows.specs.Print.{extern_proto_rows}
use Rattle.writer_pass.proofs.Logs.{Logging}
use Rattle.writer_pass.proofs.ExternRows.{externs_at}
use Rattle.writer_pass.proofs.externs.externs.Given as goal

abbrev pub invariant-loop-r : goal.invariant-loop-r
invariant-loop-r l = Logging extern_proto_rows (externs_at l.root l.library l.work) l.initial.out l.out l.c l.start l.r l.p
