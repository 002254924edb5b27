use mathlib.Core.Path.{ap}
use Rattle.refine_records.specs.Does.{number_given}
use Rattle.refine_records.proofs.Exits.{exit}
use Rattle.expander_bindings.proofs.Targets.{without, payload, cloned, refused}
use Rattle.expander_bindings.proofs.target_value.Goals as goal

pub returns-in_default-value_of-clause-given : goal.returns-in_default-value_of-clause-given
returns-in_default-value_of-clause-given c = record { case = without c.args.lim _ c.args.journal.now.counts _ _ c.in-Some.is (rw c.lent.ensures at c.value_of.ensures) c.in_default-value_of.is }

pub clone-requires-clause-handle_at : goal.clone-requires-clause-handle_at
clone-requires-clause-handle_at c = payload _ _ _ _ _ c.requires.standing c.requires.env_at c.in-Some.is _ (rw c.lent.ensures at c.value_of.ensures) _ c.in-Some-value_of.is _ _ _ _ c.word-ty.ensures c.word.ensures c.class_of-class.ensures c.word-payload.ensures

pub returns-clause-given : goal.returns-clause-given
returns-clause-given c = record { case = cloned _ _ _ _ _ c.requires.standing c.requires.env_at c.in-Some.is _ (rw c.lent.ensures at c.value_of.ensures) _ c.in-Some-value_of.is _ _ _ _ c.word-ty.ensures c.word.ensures c.class_of-class.ensures c.word-payload.ensures _ _ c.clone.ensures.cloned (ap (number_given _) c.in_ok-clone.was) }

pub returns-in_err-clone-clause-given : goal.returns-in_err-clone-clause-given
returns-in_err-clone-clause-given c = rw (exit c.from_residual.ensures.1) (record { case = refused _ _ _ _ _ c.requires.standing c.requires.env_at c.in-Some.is _ (rw c.lent.ensures at c.value_of.ensures) _ c.in-Some-value_of.is _ _ _ _ c.word-ty.ensures c.word.ensures c.class_of-class.ensures c.word-payload.ensures _ _ c.clone.ensures.cloned (ap (number_given _) c.in_err-clone.was) })
