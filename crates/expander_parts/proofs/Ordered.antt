-- The body order of a node, in the sheet of its document.
use mathlib.Core.Path.{◌≡◌, refl}
use mathlib.Core.List.{List, []}
use Prim.Native.Nat.{ℕ, ◌+◌}
use lib.ListN.{drop}
use Rattle.sheet_rows.specs.declared.row.Row.{Row}
use Rattle.sheet_rows.specs.declared.part.Part.TheVariants.{BodyOrder}
use Rattle.sheet_rows.specs.Parse.{elements}
use Rattle.refine_records.specs.declared.Limits.{Limits}
use Rattle.refine_records.specs.Does.{Answer, did}
use Rattle.refine_records.specs.declared.Counts.{Counts}
use Rattle.refine_records.specs.declared.Env as code
use Rattle.refine_records.specs.Sound.{Standing, EnvAt}
use Rattle.expander_marks.specs.Contract.{Ordered}
use Rattle.expander_marks.proofs.Ordering.{order_start, order_end}
use Rattle.expander_parts.specs.Contract.{rows_of, OrderCopied}

module _ (L : Limits) (root library dir w : List ℕ) (t : Counts) (e : code.Env) (row : ℕ) where
  pub ordering : {R : List Row} {w' : List ℕ} {a : Answer} → R ≡ rows_of root library dir e.slot → Ordered L R w t e row w' a → OrderCopied L root library dir w t e row w' a
  ordering {w' = w'} {a = a} q o =
      let y : Ordered L (rows_of root library dir e.slot) w t e row w' a = rw q at o in
      record { does = y.does; done = y.done }

  -- of a node without marks
  pub no_marks : Standing L w t → EnvAt w t.charges e → elements BodyOrder (drop (row + 1) (rows_of root library dir e.slot)) ≡ [] → OrderCopied L root library dir w t e row w (did t 0 0)
  no_marks st x z = ordering refl (order_end L (rows_of root library dir e.slot) w t e row (order_start L (rows_of root library dir e.slot) w t e row st x) z)
