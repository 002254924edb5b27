use Rattle.writer_lists.proofs.Records.{order_row}
use Rattle.writer_lists.proofs.head.Goals as goal

pub returns-in-Order : goal.returns-in-Order
returns-in-Order c = rw (c.in-Order.is, c.line.ensures, c.min.ensures, c.word.ensures) (order_row _ _)
