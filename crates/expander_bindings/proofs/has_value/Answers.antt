use Rattle.expander_bindings.proofs.Targets.{has_searched}
use Rattle.expander_bindings.proofs.has_value.Goals as goal

pub returns : goal.returns
returns c = rw c.is_some.ensures (has_searched c.args.lim _ c.args.counts _ _ c.in-Some.is c.value_of.ensures)
