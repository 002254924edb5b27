use mathlib.Core.Path.{◌≡◌}
use Rattle.journal_records.specs.Records.{tag_instance}
use Rattle.journal_reading.specs.WellFormed.{HandleAt}
use Rattle.writer_nodes.specs.Instances.{nested_rows}
use Rattle.writer_lists.proofs.Walks.{Summing}
use Rattle.writer_nodes.proofs.count_nested.Given as goal

abbrev pub invariant-loop-r : goal.invariant-loop-r
invariant-loop-r l = (l.r-iterator.work.now ≡ l.work) × HandleAt l.work l.c tag_instance l.r-iterator.next × Summing (nested_rows l.kind l.work) l.h l.r-iterator.next l.n
