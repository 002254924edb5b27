use Rattle.std.proofs.Common.{rules, ◌∙◌, refl}
use lib.Dec.{ltb}
use Rattle.std.proofs.lemmas.Iterator.{YieldsList-from_slice}
use Rattle.std.proofs.lemmas.Iterator.Search.{any_from_yields_List}
use Rattle.moving_definition.proofs.SumLaws.{over_any}
use Rattle.moving_totals.proofs.any_over.Goals as goal

pub returns : goal.returns
returns c = any_from_yields_List (λ x. ltb 4294967295 x) _ _ c.any.result c.any.ensures.ran (YieldsList-from_slice c.args.counts.now c.iter.ensures.rest) (λ x b q k. search rules) ∙ over_any c.args.counts.now
