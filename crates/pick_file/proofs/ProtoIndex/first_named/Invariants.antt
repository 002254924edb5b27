use mathlib.Core.Path.{◌≡◌}
use Rattle.sheet_rows.specs.Rows.{rows}
use Rattle.pick_file.proofs.FileLaws.{Passing}
use Rattle.pick_file.proofs.ProtoIndex.first_named.Given as goal

abbrev pub invariant-loop-top : goal.invariant-loop-top
invariant-loop-top l = (rows l.top-iterator.sheet.now ≡ rows l.self.index.sheet.now) × Passing (rows l.self.index.sheet.now) l.self.index.from l.name l.from l.top-iterator.next
