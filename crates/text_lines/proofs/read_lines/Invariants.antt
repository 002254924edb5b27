use Rattle.std.proofs.Common.{◌≡◌}
use Rattle.std.proofs.lemmas.List.Edits.{sets}
use Rattle.text_lines.specs.Read.{words_of}
use Rattle.text_lines.proofs.ReadLaws.{rows_left}
use Rattle.text_lines.proofs.read_lines.Given as goal

abbrev pub invariant-loop-i : goal.invariant-loop-i
invariant-loop-i l = rows_left l.lines l.rows l.i l.words ≡ sets l.initial.words 0 (words_of l.rows l.lines)
