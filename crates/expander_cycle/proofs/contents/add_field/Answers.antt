use Rattle.expander_cycle.proofs.contents.add_field.Goals as goal

pub returns-clause-kept : goal.returns-clause-kept
returns-clause-kept c = rw c.field.ensures at c.keep.ensures.kept
