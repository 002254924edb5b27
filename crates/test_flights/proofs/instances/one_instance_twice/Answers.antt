use mathlib.Core.Path.{◌∙◌}
use Rattle.test_flights.specs.Flights.{one_instance_twice}
use Rattle.test_flights.proofs.instances.one_instance_twice.Goals as goal

pub returns : goal.returns
returns c = c.answer.ensures ∙ one_instance_twice
