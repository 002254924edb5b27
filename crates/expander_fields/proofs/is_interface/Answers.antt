use Rattle.refine_records.specs.Does.{done_given}
use mathlib.Core.Path.{ap, ◌∙◌}
use Rattle.std.specs.declared.result.Result.TheVariants.{Ok}
use Rattle.refine_records.proofs.Exits.{exit}
use Rattle.expander_bindings.proofs.Associations.{then_standing, then_env}
use Rattle.expander_fields.proofs.Interfaces.{interface_refused, stays_keepable, interface_stays, bare_keepable, interface_bare, value_keepable, interface_value_lem, interface_full}
use Rattle.expander_fields.proofs.is_interface.Goals as goal

pub returns-in_err-associate-clause-added : goal.returns-in_err-associate-clause-added
returns-in_err-associate-clause-added c = rw (exit c.from_residual.ensures.1) (rw c.in_err-associate.was at (interface_refused _ _ _ _ _ c.args.r _ c.requires.standing c.requires.env_at c.requires.handle_at c.associate.ensures.associated (ap (done_given _) c.in_err-associate.was)))

pub target_value-requires : goal.target_value-requires
target_value-requires c = record { standing = then_standing c.requires.standing c.requires.env_at c.associate.ensures.associated (ap (done_given _) c.in_ok-associate.was); env_at = then_env c.requires.standing c.requires.env_at c.associate.ensures.associated (ap (done_given _) c.in_ok-associate.was) }

pub keep-requires : goal.keep-requires
keep-requires c = let k = stays_keepable _ _ _ _ _ c.args.r _ c.requires.standing c.requires.env_at c.requires.handle_at c.associate.ensures.associated (ap (done_given _) c.in_ok-associate.was) c.target_value.ensures.given (c.in_ok-target_value.was ∙ ap Ok c.in-Outside.is) in record { standing = k.0; keepable = rw c.interface.ensures k.1 }

pub keep-requires-in-Without : goal.keep-requires-in-Without
keep-requires-in-Without c = let k = bare_keepable _ _ _ _ _ c.args.r _ c.requires.standing c.requires.env_at c.requires.handle_at c.associate.ensures.associated (ap (done_given _) c.in_ok-associate.was) c.target_value.ensures.given (c.in_ok-target_value.was ∙ ap Ok c.in-Without.is) in record { standing = k.0; keepable = rw c.interface-in-Without.ensures k.1 }

pub keep-requires-in-With : goal.keep-requires-in-With
keep-requires-in-With c = let k = value_keepable _ _ _ _ _ c.args.r _ c.requires.standing c.requires.env_at c.requires.handle_at c.associate.ensures.associated (ap (done_given _) c.in_ok-associate.was) c.target_value.ensures.given (c.in_ok-target_value.was ∙ ap Ok c.in-With.is) in record { standing = k.0; keepable = rw c.interface-in-With.ensures k.1 }

pub returns-in-Outside-clause-added : goal.returns-in-Outside-clause-added
returns-in-Outside-clause-added c = interface_stays _ _ _ _ _ c.args.r _ c.requires.standing c.requires.env_at c.requires.handle_at c.associate.ensures.associated (ap (done_given _) c.in_ok-associate.was) c.target_value.ensures.given (c.in_ok-target_value.was ∙ ap Ok c.in-Outside.is) c.requires.fact (rw c.interface.ensures at c.keep.ensures.kept)

pub returns-in-Without-clause-added : goal.returns-in-Without-clause-added
returns-in-Without-clause-added c = interface_bare _ _ _ _ _ c.args.r _ c.requires.standing c.requires.env_at c.requires.handle_at c.associate.ensures.associated (ap (done_given _) c.in_ok-associate.was) c.target_value.ensures.given (c.in_ok-target_value.was ∙ ap Ok c.in-Without.is) (rw c.interface-in-Without.ensures at c.keep-in-Without.ensures.kept)

pub returns-in-With-clause-added : goal.returns-in-With-clause-added
returns-in-With-clause-added c = interface_value_lem _ _ _ _ _ c.args.r _ c.requires.standing c.requires.env_at c.requires.handle_at c.associate.ensures.associated (ap (done_given _) c.in_ok-associate.was) c.target_value.ensures.given (c.in_ok-target_value.was ∙ ap Ok c.in-With.is) (rw c.interface-in-With.ensures at c.keep-in-With.ensures.kept)

pub returns-in_err-target_value-clause-added : goal.returns-in_err-target_value-clause-added
returns-in_err-target_value-clause-added c = rw (exit c.from_residual-in_err-target_value.ensures.1) (interface_full _ _ _ _ _ c.args.r _ c.requires.standing c.requires.env_at c.requires.handle_at c.associate.ensures.associated (ap (done_given _) c.in_ok-associate.was) c.target_value.ensures.given c.in_err-target_value.was)
