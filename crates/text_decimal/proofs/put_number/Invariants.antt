use mathlib.Core.Path.{◌≡◌}
use lib.ListN.{length}
use lib.Seq.{sets}
use Rattle.text_decimal.specs.Decimal.{before}
use Rattle.text_decimal.proofs.put_number.Given as goal

abbrev pub invariant-loop-i : goal.invariant-loop-i
invariant-loop-i l = (length l.bytes ≡ length l.initial.bytes) × (sets l.bytes 0 (before l.i l.rest) ≡ sets l.initial.bytes 0 (before l.last l.initial.rest))
