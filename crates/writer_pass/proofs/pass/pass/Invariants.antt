use Rattle.writer_pass.proofs.Passing.{Passing}
use Rattle.writer_pass.proofs.pass.pass.Given as goal

abbrev pub invariant-loop-r : goal.invariant-loop-r
invariant-loop-r l = Passing l.work l.c l.start l.initial.out l.initial.ledger l.initial.scopes l.out l.ledger l.scopes l.r l.p l.l l.s
