use Rattle.writer_lists.proofs.Records.{interface_ids_lem, interface_no_ids}
use Rattle.writer_lists.proofs.interface_ids.Goals as goal

pub returns-then-word-eq-NODES : goal.returns-then-word-eq-NODES
returns-then-word-eq-NODES c = interface_ids_lem _ _ (rw c.word.ensures at c.if-word-eq-NODES.true) (rw c.word-then-word-eq-NODES.ensures at c.below.ensures)

pub returns : goal.returns
returns c = interface_no_ids _ _ (rw c.word.ensures at c.if-word-eq-NODES.false)
