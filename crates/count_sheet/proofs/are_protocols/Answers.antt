use Rattle.std.proofs.Common.{eqb, ◌||◌, ◌∙◌, rules, tests}
use Rattle.std.proofs.lemmas.Iterator.{YieldsList-from_slice}
use Rattle.std.proofs.lemmas.Iterator.Search.{all_from_yields_List}
use Rattle.count_sheet.proofs.ListLaws.{protocols_all}
use Rattle.count_sheet.proofs.are_protocols.Goals as goal

pub returns : goal.returns
returns c = let ps = c.args.protocols.now in all_from_yields_List (λ p. eqb p 1 || eqb p 2) _ _ _ c.all.ensures.ran (YieldsList-from_slice ps cc) (λ x b q k. search (rules, tests)) ∙ protocols_all ps
