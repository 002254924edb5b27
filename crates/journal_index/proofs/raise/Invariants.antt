use Rattle.journal_index.proofs.Links.{Raising}
use Rattle.journal_index.proofs.raise.Given as goal

abbrev pub invariant-loop-d : goal.invariant-loop-d
invariant-loop-d l = Raising l.initial.work l.place l.root l.work l.p l.n l.d
