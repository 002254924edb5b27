use Rattle.writer_lists.proofs.Records.{interface_nodes}
use Rattle.writer_lists.proofs.interface.Goals as goal

pub returns-then-class-eq-NODES : goal.returns-then-class-eq-NODES
returns-then-class-eq-NODES c = rw (c.line-then-class-eq-NODES.ensures, c.word-access.ensures, c.word-of.ensures, c.word-name.ensures, c.word-is.ensures, c.word-tag.ensures) (interface_nodes _ _ (rw c.word-class.ensures at c.if-class-eq-NONE.false) (rw c.word-class.ensures at c.if-class-eq-NODES.true) c.requires.n_value)
