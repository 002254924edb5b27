use mathlib.Core.Path.{sym, ◌∙◌}
use Rattle.sheet_check.specs.Grammar.{fits}
use Rattle.sheet_check.proofs.grammar.step.Goals as goal

pub returns-then-shape_fits : goal.returns-then-shape_fits
unfolding fits
returns-then-shape_fits c =
    let shape = rw c.takes_marks.ensures at c.shape_fits.ensures in
    rw (sym c.allows.ensures ∙ c.if-allows.true) (rw (sym shape ∙ c.if-shape_fits.true) c.moves.ensures)
