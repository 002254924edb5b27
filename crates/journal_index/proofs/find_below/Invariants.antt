use Rattle.journal_records.specs.Logs.{only_below}
use Rattle.journal_index.specs.Index.{hit}
use Rattle.journal_index.proofs.Index.{Walking}
use Rattle.journal_index.proofs.find_below.Given as goal

abbrev pub invariant-loop-cur : goal.invariant-loop-cur
invariant-loop-cur l = Walking l.work (only_below l.top (hit l.work l.key.tag l.key.x l.key.y)) l.c l.d l.cur

abbrev pub decreases-loop-cur : goal.decreases-loop-cur
decreases-loop-cur l = l.cur
