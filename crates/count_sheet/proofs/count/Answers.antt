use mathlib.Core.Path.{refl, sym, ◌∙◌}
use lib.ListN.{length}
use Rattle.count_sheet.proofs.Promised.{too_many_protocols, no_protocol, too_many_names, name_twice, too_few_totals, no_documents, short_work, other_number, all_ready, all_told}
use Rattle.count_sheet.proofs.count.Goals as goal

pub returns-then-protocols-gt4096 : goal.returns-then-protocols-gt4096
returns-then-protocols-gt4096 c = let t = too_many_protocols c.args.documents.now c.args.protocols.now c.args.names.now (length c.args.work.now) c.args.totals.now c.if-protocols-gt4096.true in record { totals_after = t.0; promises = t.1 }

pub returns-then-not-are_protocols : goal.returns-then-not-are_protocols
returns-then-not-are_protocols c = let t = no_protocol c.args.documents.now c.args.protocols.now c.args.names.now (length c.args.work.now) c.args.totals.now c.if-protocols-gt4096.false (sym c.if-not-are_protocols.true ∙ c.are_protocols.ensures) in record { totals_after = t.0; promises = t.1 }

pub returns-then-n-gt64 : goal.returns-then-n-gt64
returns-then-n-gt64 c = let t = too_many_names c.args.documents.now c.args.protocols.now c.args.names.now (length c.args.work.now) c.args.totals.now c.if-protocols-gt4096.false (sym c.if-not-are_protocols.false ∙ c.are_protocols.ensures) c.if-n-gt64.true in record { totals_after = t.0; promises = t.1 }

pub returns-then-repeat : goal.returns-then-repeat
returns-then-repeat c = let t = name_twice c.args.documents.now c.args.protocols.now c.args.names.now (length c.args.work.now) c.args.totals.now c.if-protocols-gt4096.false (sym c.if-not-are_protocols.false ∙ c.are_protocols.ensures) c.if-n-gt64.false (sym c.if-repeat.true ∙ c.repeat.ensures) in record { totals_after = t.0; promises = t.1 }

pub returns-then-totals-n : goal.returns-then-totals-n
returns-then-totals-n c = let t = too_few_totals c.args.documents.now c.args.protocols.now c.args.names.now (length c.args.work.now) c.args.totals.now c.if-protocols-gt4096.false (sym c.if-not-are_protocols.false ∙ c.are_protocols.ensures) c.if-n-gt64.false (sym c.if-repeat.false ∙ c.repeat.ensures) c.if-totals-n.true in record { totals_after = t.0; promises = t.1 }

pub returns-then-not-is_sheet : goal.returns-then-not-is_sheet
returns-then-not-is_sheet c = let t = no_documents c.args.documents.now c.args.protocols.now c.args.names.now (length c.args.work.now) c.args.totals.now c.if-protocols-gt4096.false (sym c.if-not-are_protocols.false ∙ c.are_protocols.ensures) c.if-n-gt64.false (sym c.if-repeat.false ∙ c.repeat.ensures) c.if-totals-n.false (sym c.if-not-is_sheet.true ∙ c.is_sheet.ensures) in record { totals_after = t.0; promises = t.1 }

pub returns-then-work-documents : goal.returns-then-work-documents
returns-then-work-documents c = let t = short_work c.args.documents.now c.args.protocols.now c.args.names.now (length c.args.work.now) c.args.totals.now c.if-protocols-gt4096.false (sym c.if-not-are_protocols.false ∙ c.are_protocols.ensures) c.if-n-gt64.false (sym c.if-repeat.false ∙ c.repeat.ensures) c.if-totals-n.false (sym c.if-not-is_sheet.false ∙ c.is_sheet.ensures) c.if-work-documents.true in record { totals_after = t.0; promises = t.1 }

pub returns-then-count-protocols : goal.returns-then-count-protocols
returns-then-count-protocols c = let t = other_number c.args.documents.now c.args.protocols.now c.args.names.now (length c.args.work.now) c.args.totals.now c.if-protocols-gt4096.false (sym c.if-not-are_protocols.false ∙ c.are_protocols.ensures) c.if-n-gt64.false (sym c.if-repeat.false ∙ c.repeat.ensures) c.if-totals-n.false (sym c.if-not-is_sheet.false ∙ c.is_sheet.ensures) c.if-work-documents.false c.count.ensures c.if-count-protocols.true in record { totals_after = t.0; promises = t.1 }

pub clear-requires : goal.clear-requires
clear-requires c = c.if-totals-n.false

pub count_all-requires : goal.count_all-requires
count_all-requires c = all_ready c.args.documents.now c.args.protocols.now c.args.names.now (length c.args.work.now) c.args.totals.now c.if-protocols-gt4096.false (sym c.if-not-are_protocols.false ∙ c.are_protocols.ensures) c.if-n-gt64.false (sym c.if-repeat.false ∙ c.repeat.ensures) c.if-totals-n.false (sym c.if-not-is_sheet.false ∙ c.is_sheet.ensures) c.if-work-documents.false c.count.ensures c.if-count-protocols.false c.args.work.now refl c.clear.ensures

pub returns : goal.returns
returns c = let t = all_told c.args.documents.now c.args.protocols.now c.args.names.now (length c.args.work.now) c.args.totals.now c.if-protocols-gt4096.false (sym c.if-not-are_protocols.false ∙ c.are_protocols.ensures) c.if-n-gt64.false (sym c.if-repeat.false ∙ c.repeat.ensures) c.if-totals-n.false (sym c.if-not-is_sheet.false ∙ c.is_sheet.ensures) c.if-work-documents.false c.count.ensures c.if-count-protocols.false c.clear.ensures c.count_all.ensures c.count_all.auto.totals in record { totals_after = t.0; promises = t.1 }
