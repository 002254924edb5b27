use mathlib.Core.Path.{◌∙◌}
use Rattle.std.proofs.lemmas.Iterator.Consumers.{count_from_yields_List}
use Rattle.journal_records.proofs.Handles.{yields}
use Rattle.refine_values.proofs.Walking.{count_law}
use Rattle.refine_values.proofs.count.Goals as goal

pub returns : goal.returns
returns c =
    let e = c.records.ensures in
    count_from_yields_List _ c.count.result c.count.ensures.ran (yields c.records.result) ∙ rw (e.work, e.next) (count_law c.args.journal.now.work.now c.args.ids c.requires)
