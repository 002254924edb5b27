use mathlib.Core.Path.{◌≡◌}
use mathlib.Core.List.{[], ◌∷◌}
use Rattle.sheet_rows.specs.Print.{id_row}
use Rattle.journal_records.specs.Records.{cell}
use Rattle.writer_lists.specs.Lists.{chain_rows}
use Rattle.writer_lists.proofs.Walks.{Walking}
use Rattle.writer_lists.proofs.ids.Given as goal

abbrev pub invariant-loop-r : goal.invariant-loop-r
invariant-loop-r l = (l.r-iterator.work.now ≡ l.work) × Walking (chain_rows (λ r. id_row (cell l.work r 1) ∷ []) l.work) l.initial.out l.out l.h l.end l.r-iterator.next l.p
