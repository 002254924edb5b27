use mathlib.Core.Path.{◌∙◌}
use Rattle.std.proofs.lemmas.Iterator.Consumers.{count_from_yields_List}
use Rattle.journal_records.proofs.Handles.{yields}
use Rattle.writer_lists.proofs.Chains.{ids_count}
use Rattle.writer_lists.proofs.count_ids.Goals as goal

pub returns : goal.returns
returns c =
    let e = c.records.ensures in
    count_from_yields_List _ c.count.result c.count.ensures.ran (yields c.records.result) ∙ rw (e.work, e.next) (ids_count c.args.work.now c.args.h)
