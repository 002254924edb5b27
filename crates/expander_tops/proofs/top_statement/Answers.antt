use Rattle.refine_records.specs.Does.{copy_given}
use mathlib.Core.Path.{ap}
use native.Mathlib.Omega.{arith}
use Rattle.refine_records.proofs.Exits.{exit}
use Rattle.expander_contracts.proofs.Run.{went, here_later}
use Rattle.expander_contracts.proofs.TopLaws.{top_node_stop, top_node_ready, top_node_kept, top_proto, top_extern, top_route, top_other}
use Rattle.expander_tops.proofs.top_statement.Goals as goal

pub returns-in_err-copied-in-0-clause-added : goal.returns-in_err-copied-in-0-clause-added
returns-in_err-copied-in-0-clause-added c = rw (exit c.from_residual.ensures.1) (rw c.in_err-copied-in-0.was at (top_node_stop _ _ _ _ _ _ _ _ _ c.args.depth c.requires.here c.requires.handle_at c.row_at-r.ensures c.in-0.is c.copy.ensures.copied (ap (copy_given _) c.in_err-copied-in-0.was)))

pub keep-requires : goal.keep-requires
keep-requires c = record { standing = (here_later (went c.copy.ensures.copied (ap (copy_given _) c.in_ok-copied-in-0.was)) c.requires.here).standing; keepable = rw c.statement.ensures (top_node_ready _ _ _ _ _ _ _ _ _ c.args.depth c.requires.here c.requires.handle_at c.row_at-r.ensures c.in-0.is c.copy.ensures.copied (ap (copy_given _) c.in_ok-copied-in-0.was)) }

pub returns-in_ok-copied-in-0-clause-added : goal.returns-in_ok-copied-in-0-clause-added
returns-in_ok-copied-in-0-clause-added c = top_node_kept _ _ _ _ _ _ _ _ _ c.args.depth c.requires.here c.requires.handle_at c.row_at-r.ensures c.in-0.is c.copy.ensures.copied (ap (copy_given _) c.in_ok-copied-in-0.was) (rw c.statement.ensures at c.keep.ensures.kept)

pub returns-in-1-clause-added : goal.returns-in-1-clause-added
returns-in-1-clause-added c = top_proto _ _ _ _ _ _ _ _ _ c.args.depth c.requires.here c.requires.handle_at c.row_at-r.ensures c.in-1.is

pub returns-in-2-clause-added : goal.returns-in-2-clause-added
returns-in-2-clause-added c = top_extern _ _ _ _ _ _ _ _ _ c.args.depth c.requires.here c.requires.handle_at c.row_at-r.ensures c.in-2.is c.requires.slot_value c.extern_statement.ensures.stated

pub returns-in-3-clause-added : goal.returns-in-3-clause-added
returns-in-3-clause-added c = top_route _ _ _ _ _ _ _ _ _ c.args.depth c.requires.here c.requires.handle_at c.row_at-r.ensures c.in-3.is c.route.ensures.routed

pub returns-in_default-clause-added : goal.returns-in_default-clause-added
returns-in_default-clause-added c = top_other _ _ _ _ _ _ _ _ _ c.args.depth c.requires.here c.requires.handle_at c.row_at-r.ensures (λ q. omega arith) (λ q. omega arith) (λ q. omega arith) (λ q. omega arith) (rw c.statement-in_default.ensures at c.keep-in_default.ensures.kept)
