use Rattle.expander_bindings.proofs.Associations.{associated}
use Rattle.expander_bindings.proofs.associate.Goals as goal

pub returns-clause-associated : goal.returns-clause-associated
returns-clause-associated c = associated (rw c.association.ensures at c.own.ensures.owned)
