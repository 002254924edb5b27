use mathlib.Core.Path.{◌≡◌}
use Rattle.writer_lists.specs.Lists.{record_rows, chain_rows}
use Rattle.writer_lists.proofs.Walks.{Summing}
use Rattle.writer_lists.proofs.count_list.Given as goal

abbrev pub invariant-loop-r : goal.invariant-loop-r
invariant-loop-r l = (l.r-iterator.work.now ≡ l.work) × Summing (chain_rows (record_rows l.kind l.work) l.work) l.h l.r-iterator.next l.n
