use Rattle.writer_lists.proofs.Records.{field_is_ids, field_ids_lem}
use Rattle.writer_lists.proofs.field_ids.Goals as goal

pub returns-then-word-eq-IS : goal.returns-then-word-eq-IS
returns-then-word-eq-IS c = field_is_ids _ _ (rw c.word.ensures at c.if-word-eq-IS.true)

pub returns : goal.returns
returns c = field_ids_lem _ _ (rw c.word.ensures at c.if-word-eq-IS.false) c.interface_ids.ensures
