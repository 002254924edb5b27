use Rattle.std.proofs.Common.{◌≡◌}
use Rattle.test_cases.specs.Pattern.{stepped}
use Rattle.test_cases.proofs.FillLaws.{Filled}
use Rattle.test_cases.proofs.fill.fill.Given as goal

abbrev pub invariant-loop-word : goal.invariant-loop-word
invariant-loop-word l = (l.n ≡ stepped l.first l.step l.word-index) × Filled l.first l.step l.words l.word-index
