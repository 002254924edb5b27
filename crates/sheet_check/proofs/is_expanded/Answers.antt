use Rattle.sheet_check.proofs.is_expanded.Goals as goal

pub returns : goal.returns
returns c = c.is_sheet.ensures
