use Rattle.journal_records.specs.Records.{Paid}
use Rattle.journal_records.proofs.paid.Given as goal

abbrev pub invariant-loop-i : goal.invariant-loop-i
invariant-loop-i l = Paid l.initial.work l.work l.n l.i
