use mathlib.Core.Path.{ap}
use Rattle.test_flights.specs.Flights.{number_line}
use Rattle.test_flights.proofs.line.Goals as goal

pub returns : goal.returns
returns c = ap number_line c.of-n.ensures
