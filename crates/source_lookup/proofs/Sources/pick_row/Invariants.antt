use mathlib.Core.Path.{◌≡◌}
use lib.ListN.{length}
use Rattle.sheet_rows.specs.declared.part.Part.TheVariants.{Urls}
use Rattle.sheet_rows.specs.Rows.{rows}
use Rattle.sheet_walks.proofs.OverLaws.{Over}
use Rattle.pick_memo.specs.Memo.{MemoSound}
use Rattle.source_lookup.proofs.PickedLaws.{Trying}
use Rattle.source_lookup.proofs.Sources.pick_row.Given as goal

abbrev pub invariant-loop-q : goal.invariant-loop-q
invariant-loop-q l = Over Urls (rows l.sheet) l.q-iterator × (length l.slots ≡ length l.initial.slots) × Trying l.self.root.now l.self.library.now (rows l.sheet) l.row l.q-iterator.next l.mark × MemoSound (rows l.self.library.now) l.slots l.memo
