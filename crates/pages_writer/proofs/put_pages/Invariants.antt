use Rattle.pages_definition.proofs.PageLaws.{Paging}
use Rattle.pages_writer.proofs.put_pages.Given as goal

abbrev pub invariant-loop-p : goal.invariant-loop-p
invariant-loop-p l = Paging l.sheet l.ledger l.n l.initial.text l.text l.from l.p
