use Rattle.expander_parts.proofs.Routes.{route_law}
use Rattle.expander_parts.proofs.route.Goals as goal

pub returns-clause-routed : goal.returns-clause-routed
returns-clause-routed c = route_law _ _ _ _ c.args.r _ c.requires.handle_at _ _ (rw c.lent.ensures at c.remap-from.ensures) (rw c.lent-2.ensures at c.remap-to.ensures) _ (rw c.route_statement.ensures at c.keep.ensures.kept)
