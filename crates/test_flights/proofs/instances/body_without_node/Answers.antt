use mathlib.Core.Path.{◌∙◌}
use Rattle.test_flights.specs.Flights.{body_without_node}
use Rattle.test_flights.proofs.instances.body_without_node.Goals as goal

pub returns : goal.returns
returns c = c.answer.ensures ∙ body_without_node
