use Rattle.refine_records.proofs.Journal.find.Goals as goal

pub returns : goal.returns
returns c = c.find.ensures
