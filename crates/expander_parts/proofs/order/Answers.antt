use mathlib.Core.Path.{ap}
use Rattle.sheet_rows.specs.Rows.{rows}
use Rattle.expander_parts.proofs.Ordered.{ordering}
use Rattle.expander_parts.proofs.order.Goals as goal

pub returns-clause-ordered : goal.returns-clause-ordered
returns-clause-ordered c = ordering _ _ _ _ _ _ _ _ (ap rows c.sheet_of-sheet.ensures) c.order.ensures.ordered
