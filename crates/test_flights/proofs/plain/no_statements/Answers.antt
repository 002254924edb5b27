use mathlib.Core.Path.{◌∙◌}
use Rattle.test_flights.specs.Flights.{no_statements}
use Rattle.test_flights.proofs.plain.no_statements.Goals as goal

pub returns : goal.returns
returns c = c.answer.ensures ∙ no_statements
