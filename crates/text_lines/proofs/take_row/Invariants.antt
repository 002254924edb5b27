use Rattle.std.proofs.Common.{◌≡◌}
use Rattle.text_lines.specs.Read.{numbers}
use Rattle.text_lines.proofs.ReadLaws.{row_left}
use Rattle.text_lines.proofs.take_row.Given as goal

abbrev pub invariant-loop-i : goal.invariant-loop-i
invariant-loop-i l = row_left l.line l.i l.row ≡ numbers 8 l.line
