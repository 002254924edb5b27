use Rattle.refine_records.specs.Does.{scope_given}
use Rattle.refine_records.proofs.Exits.{exit}
use mathlib.Core.Path.{ap, refl}
use Rattle.sheet_rows.specs.declared.part.Part.TheVariants.{Tops}
use Rattle.sheet_walks.proofs.WalkLaws.{stands, missing}
use Rattle.expander_contracts.proofs.TopLaws.{top_few, top_standing, top_stop, top_here, top_none, top_all}
use Rattle.expander_tops.proofs.top.Goals as goal

pub returns-then-lim-lt3-clause-copied : goal.returns-then-lim-lt3-clause-copied
returns-then-lim-lt3-clause-copied c = top_few _ _ _ _ _ _ c.requires c.if-lim-lt3.true refl

pub open-requires : goal.open-requires
open-requires c = top_standing _ _ _ _ _ c.args.depth c.requires c.if-lim-lt3.false c.paid.auto.work c.paid.ensures

pub returns-clause-copied : goal.returns-clause-copied
returns-clause-copied c = top_all _ _ _ _ _ _ c.requires c.if-lim-lt3.false c.paid.auto.work c.paid.ensures c.open.ensures.opened (ap (scope_given _) c.in_ok-opened.was) _ refl refl refl refl (stands Tops _ 1 c.seek.ensures c.in-At.is) c.tops.ensures.copied

pub returns-in_err-opened-clause-copied : goal.returns-in_err-opened-clause-copied
returns-in_err-opened-clause-copied c = rw (exit c.from_residual.ensures.1) (top_stop _ _ _ _ _ _ c.requires c.if-lim-lt3.false c.paid.auto.work c.paid.ensures (rw c.in_err-opened.was at c.open.ensures.opened) refl)

pub returns-in_default-clause-copied : goal.returns-in_default-clause-copied
returns-in_default-clause-copied c = top_none _ _ _ _ _ _ c.requires c.if-lim-lt3.false c.paid.auto.work c.paid.ensures c.open.ensures.opened (ap (scope_given _) c.in_ok-opened.was) _ refl refl refl refl (missing Tops _ 1 c.seek.ensures c.in_default.is)

pub tops-requires : goal.tops-requires
tops-requires c = record { here = top_here _ _ _ _ _ c.args.depth c.requires c.if-lim-lt3.false c.paid.auto.work c.paid.ensures c.open.ensures.opened (ap (scope_given _) c.in_ok-opened.was) _ refl refl refl refl; slot_value = refl; row_in_bounds = (stands Tops _ 1 c.seek.ensures c.in-At.is).below }
