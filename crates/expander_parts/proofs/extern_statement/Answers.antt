use Rattle.refine_records.specs.Does.{number_given}
use mathlib.Core.Path.{ap}
use Rattle.refine_records.proofs.Exits.{exit}
use Rattle.expander_parts.proofs.Said.{extern_stopped, extern_standing, extern_handle, extern_keepable, extern_stated}
use Rattle.expander_parts.proofs.extern_statement.Goals as goal

pub extern_proto-requires : goal.extern_proto-requires
extern_proto-requires c = record { standing = c.requires.standing; lent = c.requires.lent; slot = c.requires.slot }

pub returns-in_err-value-clause-stated : goal.returns-in_err-value-clause-stated
returns-in_err-value-clause-stated c = rw (exit c.from_residual.ensures.1) (rw c.in_err-value.was at (extern_stopped _ _ _ _ _ _ _ _ _ c.requires.standing.sound c.requires.handle_at c.extern_proto.ensures.declared (ap (number_given _) c.in_err-value.was)))

pub keep-requires : goal.keep-requires
keep-requires c = record { standing = extern_standing _ _ _ _ _ _ _ _ c.args.h c.requires.standing.sound c.requires.handle_at c.extern_proto.ensures.declared (ap (number_given _) c.in_ok-value.was) c.requires.standing; keepable = rw c.statement.ensures (extern_keepable _ _ _ _ (extern_handle _ _ _ _ _ _ _ _ _ c.requires.standing.sound c.requires.handle_at c.extern_proto.ensures.declared (ap (number_given _) c.in_ok-value.was))) }

pub returns-clause-stated : goal.returns-clause-stated
returns-clause-stated c = extern_stated _ _ _ _ _ _ _ _ _ c.requires.standing.sound c.requires.handle_at c.extern_proto.ensures.declared (ap (number_given _) c.in_ok-value.was) _ (rw c.statement.ensures at c.keep.ensures.kept)
