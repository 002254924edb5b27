use Rattle.refine_records.specs.Does.{done_given}
use mathlib.Core.Path.{ap, ◌∙◌}
use Rattle.std.specs.declared.result.Result.TheVariants.{Ok}
use Rattle.refine_records.proofs.Exits.{exit}
use Rattle.expander_fields.proofs.Fields.{field_refused, stays_keepable, field_stays, field_dropped, value_keepable, field_value, field_full}
use Rattle.expander_bindings.proofs.Associations.{then_standing, then_env}
use Rattle.expander_fields.proofs.is_field.Goals as goal

pub returns-in_err-associate-clause-added : goal.returns-in_err-associate-clause-added
returns-in_err-associate-clause-added c = rw (exit c.from_residual.ensures.1) (rw c.in_err-associate.was at (field_refused _ _ _ _ _ c.args.r _ c.requires.standing c.requires.env_at c.requires.handle_at c.associate.ensures.associated (ap (done_given _) c.in_err-associate.was)))

pub target_value-requires : goal.target_value-requires
target_value-requires c = record { standing = then_standing c.requires.standing c.requires.env_at c.associate.ensures.associated (ap (done_given _) c.in_ok-associate.was); env_at = then_env c.requires.standing c.requires.env_at c.associate.ensures.associated (ap (done_given _) c.in_ok-associate.was) }

pub returns-in-Outside-clause-added : goal.returns-in-Outside-clause-added
returns-in-Outside-clause-added c = field_stays _ _ _ _ _ c.args.r _ c.requires.standing c.requires.env_at c.requires.handle_at c.associate.ensures.associated (ap (done_given _) c.in_ok-associate.was) c.target_value.ensures.given (c.in_ok-target_value.was ∙ ap Ok c.in-Outside.is) (rw c.field_with_is.ensures at c.keep.ensures.kept)

pub returns-in-Without-clause-added : goal.returns-in-Without-clause-added
returns-in-Without-clause-added c = field_dropped _ _ _ _ _ c.args.r _ c.requires.standing c.requires.env_at c.requires.handle_at c.associate.ensures.associated (ap (done_given _) c.in_ok-associate.was) c.target_value.ensures.given (c.in_ok-target_value.was ∙ ap Ok c.in-Without.is)

pub returns-in-With-clause-added : goal.returns-in-With-clause-added
returns-in-With-clause-added c = field_value _ _ _ _ _ c.args.r _ c.requires.standing c.requires.env_at c.requires.handle_at c.associate.ensures.associated (ap (done_given _) c.in_ok-associate.was) c.target_value.ensures.given (c.in_ok-target_value.was ∙ ap Ok c.in-With.is) (rw c.field.ensures at c.keep-in-With.ensures.kept)

pub returns-in_err-target_value-clause-added : goal.returns-in_err-target_value-clause-added
returns-in_err-target_value-clause-added c = rw (exit c.from_residual-in_err-target_value.ensures.1) (field_full _ _ _ _ _ c.args.r _ c.requires.standing c.requires.env_at c.requires.handle_at c.associate.ensures.associated (ap (done_given _) c.in_ok-associate.was) c.target_value.ensures.given c.in_err-target_value.was)

pub keep-requires : goal.keep-requires
keep-requires c = let k = stays_keepable _ _ _ _ _ c.args.r _ c.requires.standing c.requires.env_at c.requires.handle_at c.associate.ensures.associated (ap (done_given _) c.in_ok-associate.was) c.target_value.ensures.given (c.in_ok-target_value.was ∙ ap Ok c.in-Outside.is) in record { standing = k.0; keepable = rw c.field_with_is.ensures k.1 }

pub keep-requires-in-With : goal.keep-requires-in-With
keep-requires-in-With c = let k = value_keepable _ _ _ _ _ c.args.r _ c.requires.standing c.requires.env_at c.requires.handle_at c.associate.ensures.associated (ap (done_given _) c.in_ok-associate.was) c.target_value.ensures.given (c.in_ok-target_value.was ∙ ap Ok c.in-With.is) in record { standing = k.0; keepable = rw c.field.ensures k.1 }
