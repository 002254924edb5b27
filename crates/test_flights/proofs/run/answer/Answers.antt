use mathlib.Core.Path.{ap}
use Rattle.expansion_operation.specs.Operation.{After}
use Rattle.test_flights.specs.Flights.{flight_answer}
use Rattle.test_flights.proofs.run.answer.Goals as goal

pub returns : goal.returns
unfolding flight_answer
returns c = ap (λ (r : After). r.answer) c.expand.ensures.as_defined
