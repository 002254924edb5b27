use Rattle.refine_records.proofs.Exits.{exit}
use mathlib.Core.Logic.{⊎_elim}
use mathlib.Core.Path.{ap, ◌∙◌}
use Rattle.std.specs.declared.result.Result.TheVariants.{Ok}
use Rattle.expander_bindings.proofs.Stored.{given_outside, given_without, storable, given_stored, given_full}
use Rattle.expander_bindings.proofs.is_given.Goals as goal

pub store-requires : goal.store-requires
store-requires c = record { standing = (storable _ _ _ _ c.args.target c.args.name c.args.h c.requires.standing c.requires.handle_at c.target_value.ensures.given (c.in_ok-target_value.was ∙ ap Ok c.in-With.is)).0; storable = (storable _ _ _ _ c.args.target c.args.name c.args.h c.requires.standing c.requires.handle_at c.target_value.ensures.given (c.in_ok-target_value.was ∙ ap Ok c.in-With.is)).1 }

pub returns-in-Outside-clause-stored : goal.returns-in-Outside-clause-stored
returns-in-Outside-clause-stored c = ⊎_elim (λ q. given_outside _ _ _ _ c.args.target c.args.name c.args.h c.requires.standing c.requires.handle_at c.target_value.ensures.given (c.in_ok-target_value.was ∙ ap Ok q)) (λ q. given_without _ _ _ _ c.args.target c.args.name c.args.h c.requires.standing c.requires.handle_at c.target_value.ensures.given (c.in_ok-target_value.was ∙ ap Ok q)) c.in-Outside.is

pub returns-in-With-clause-stored : goal.returns-in-With-clause-stored
returns-in-With-clause-stored c = given_stored _ _ _ _ c.args.target c.args.name c.args.h c.requires.standing c.requires.handle_at c.target_value.ensures.given (c.in_ok-target_value.was ∙ ap Ok c.in-With.is) c.store.ensures.stored

pub returns-in_err-target_value-clause-stored : goal.returns-in_err-target_value-clause-stored
returns-in_err-target_value-clause-stored c = rw (exit c.from_residual.ensures.1) (given_full _ _ _ _ c.args.target c.args.name c.args.h c.requires.standing c.requires.handle_at c.target_value.ensures.given c.in_err-target_value.was)
