use Rattle.writer_lists.proofs.Records.{field_nodes}
use Rattle.writer_lists.proofs.field.Goals as goal

pub returns-then-word-eq-NODES : goal.returns-then-word-eq-NODES
returns-then-word-eq-NODES c = rw (c.line-then-word-eq-NODES.ensures, c.word-name.ensures, c.word-inferred.ensures, c.word-tag.ensures) (field_nodes _ _ (rw c.word.ensures at c.if-word-eq-IS.false) (rw c.word-2.ensures at c.if-word-eq-NODES.true) c.requires.n_value)
