use native.Mathlib.Omega.{arith}
use Rattle.expander_parts.proofs.Said.{one_route, one_extern_lem, one_dropped}
use Rattle.expander_parts.proofs.statement.Goals as goal

pub returns-in-3-clause-copied : goal.returns-in-3-clause-copied
returns-in-3-clause-copied c = one_route _ c.args.sources.now.root.now c.args.sources.now.library.now c.args.sources.now.dir.now _ _ c.args.env c.args.r _ c.in-3.is _ c.route.ensures.routed

pub returns-in-2-clause-copied : goal.returns-in-2-clause-copied
returns-in-2-clause-copied c = one_extern_lem _ _ _ _ _ _ c.args.env c.args.r _ c.in-2.is _ c.extern_statement.ensures.stated

pub returns-in_default-clause-copied : goal.returns-in_default-clause-copied
returns-in_default-clause-copied c = one_dropped _ c.args.sources.now.root.now c.args.sources.now.library.now c.args.sources.now.dir.now _ _ c.args.env c.args.r _ (λ q. omega arith) (λ q. omega arith) c.requires.standing.sound c.requires.handle_at
