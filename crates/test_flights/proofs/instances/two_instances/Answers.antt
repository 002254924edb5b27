use mathlib.Core.Path.{◌∙◌}
use Rattle.test_flights.specs.Flights.{two_instances}
use Rattle.test_flights.proofs.instances.two_instances.Goals as goal

pub returns : goal.returns
returns c = c.answer.ensures ∙ two_instances
