-- the measure is what is left of the input; both sheets stay as long as they were
use Rattle.std.proofs.Common.{◌-◌, length}
use Rattle.test_vectors.proofs.run.Given as goal

abbrev pub decreases-loop-at : goal.decreases-loop-at
decreases-loop-at g l = length l.input - l.at
