use Rattle.pages_definition.proofs.PageLaws.{Lining}
use Rattle.pages_writer.proofs.put_page.Given as goal

abbrev pub invariant-loop-k : goal.invariant-loop-k
invariant-loop-k l = Lining l.sheet l.ledger l.p l.initial.text l.text l.from l.k
