use mathlib.Core.Path.{◌≡◌}
use Rattle.writer_lists.specs.Lists.{record_rows, chain_rows}
use Rattle.writer_lists.proofs.Walks.{Walking}
use Rattle.writer_lists.proofs.list.Given as goal

abbrev pub invariant-loop-r : goal.invariant-loop-r
invariant-loop-r l = (l.r-iterator.work.now ≡ l.work) × Walking (chain_rows (record_rows l.kind l.work) l.work) l.initial.out l.out l.h l.end l.r-iterator.next l.p
