use Rattle.writer_lists.proofs.Records.{statement_route, statement_other}
use Rattle.writer_lists.proofs.statement.Goals as goal

pub returns-then-a-eq-ROUTE : goal.returns-then-a-eq-ROUTE
returns-then-a-eq-ROUTE c = rw (c.line.ensures, c.word-b.ensures, c.word-c.ensures, c.word-d.ensures, c.word-e.ensures, c.word.ensures, c.word-then-a-eq-ROUTE.ensures) (statement_route _ _ (rw c.word-a.ensures at c.if-a-eq-ROUTE.true))

pub returns : goal.returns
returns c = rw (c.line-2.ensures, c.min.ensures, c.word-a.ensures, c.word-b.ensures) (statement_other _ _ (rw c.word-a.ensures at c.if-a-eq-ROUTE.false))
