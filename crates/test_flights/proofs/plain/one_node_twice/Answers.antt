use mathlib.Core.Path.{◌∙◌}
use Rattle.test_flights.specs.Flights.{one_node_twice}
use Rattle.test_flights.proofs.plain.one_node_twice.Goals as goal

pub returns : goal.returns
returns c = c.answer.ensures ∙ one_node_twice
