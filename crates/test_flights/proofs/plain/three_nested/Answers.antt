use mathlib.Core.Path.{◌∙◌}
use Rattle.test_flights.specs.Flights.{three_nested}
use Rattle.test_flights.proofs.plain.three_nested.Goals as goal

pub returns : goal.returns
returns c = c.answer.ensures ∙ three_nested
