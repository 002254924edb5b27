use Rattle.std.proofs.Common.{◌≡◌}
use Rattle.text_lines.specs.Write.{line}
use Rattle.text_lines.proofs.WriteLaws.{line_left}
use Rattle.text_lines.proofs.put_row.Given as goal

abbrev pub invariant-loop-i : goal.invariant-loop-i
invariant-loop-i l = line_left l.row l.i l.text ≡ line l.row
