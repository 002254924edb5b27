use Rattle.std.proofs.Common.{◌≡◌}
use Rattle.std.proofs.lemmas.List.Edits.{sets}
use Rattle.text_lines.specs.Write.{lines_of}
use Rattle.text_lines.proofs.WriteLaws.{lines_left}
use Rattle.text_lines.proofs.write_lines.Given as goal

abbrev pub invariant-loop-i : goal.invariant-loop-i
invariant-loop-i l = lines_left l.words l.rows l.i l.lines ≡ sets l.initial.lines 0 (lines_of l.rows l.words)
