use mathlib.Core.Path.{◌∙◌}
use Rattle.test_flights.specs.Flights.{from_the_instance}
use Rattle.test_flights.proofs.loops.from_the_instance.Goals as goal

pub returns : goal.returns
returns c = c.answer.ensures ∙ from_the_instance
