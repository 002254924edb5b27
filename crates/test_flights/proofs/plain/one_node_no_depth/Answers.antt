use mathlib.Core.Path.{◌∙◌}
use Rattle.test_flights.specs.Flights.{one_node_no_depth}
use Rattle.test_flights.proofs.plain.one_node_no_depth.Goals as goal

pub returns : goal.returns
returns c = c.answer.ensures ∙ one_node_no_depth
