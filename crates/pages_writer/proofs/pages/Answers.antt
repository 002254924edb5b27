use mathlib.Core.Path.{sym, ◌∙◌}
use lib.ListN.{length}
use Rattle.pages_definition.proofs.Promised.{not_expanded, short_work, too_many, other_ledger, too_few_lem, all_told}
use native.Mathlib.Omega.{arith}
use Rattle.pages_writer.proofs.pages.Goals as goal

pub returns-then-not-is_expanded : goal.returns-then-not-is_expanded
returns-then-not-is_expanded c = let t = not_expanded c.args.document.now c.args.ledger.now (length c.args.work.now) c.args.text.now (sym c.if-not-is_expanded.true ∙ c.is_expanded.ensures) in record { text_after = t.0; promises = t.1 }

pub returns-then-work-document : goal.returns-then-work-document
returns-then-work-document c = let t = short_work c.args.document.now c.args.ledger.now (length c.args.work.now) c.args.text.now (sym c.if-not-is_expanded.false ∙ c.is_expanded.ensures) c.if-work-document.true in record { text_after = t.0; promises = t.1 }

pub returns-then-nodes-gt4294967295 : goal.returns-then-nodes-gt4294967295
returns-then-nodes-gt4294967295 c = let t = too_many c.args.document.now c.args.ledger.now (length c.args.work.now) c.args.text.now (sym c.if-not-is_expanded.false ∙ c.is_expanded.ensures) c.if-work-document.false c.count-nodes.ensures c.if-nodes-gt4294967295.true in record { text_after = t.0; promises = t.1 }

pub returns-then-ledger-nodes : goal.returns-then-ledger-nodes
returns-then-ledger-nodes c = let t = other_ledger c.args.document.now c.args.ledger.now (length c.args.work.now) c.args.text.now (sym c.if-not-is_expanded.false ∙ c.is_expanded.ensures) c.if-work-document.false c.count-nodes.ensures c.if-nodes-gt4294967295.false c.if-ledger-nodes.true in record { text_after = t.0; promises = t.1 }

pub returns-then-text-count : goal.returns-then-text-count
returns-then-text-count c = let t = too_few_lem c.args.document.now c.args.ledger.now (length c.args.work.now) c.args.text.now (sym c.if-not-is_expanded.false ∙ c.is_expanded.ensures) c.if-work-document.false c.count-nodes.ensures c.if-nodes-gt4294967295.false c.if-ledger-nodes.false c.div_ceil-count.ensures c.if-text-count.true in record { text_after = t.0; promises = t.1 }

pub put_pages-requires : goal.put_pages-requires
put_pages-requires c = record { entries = record { three = omega (arith, c.if-ledger-nodes.false, c.count-nodes.ensures); few = omega (arith, c.if-nodes-gt4294967295.false, c.count-nodes.ensures) }; small = omega (arith, c.if-nodes-gt4294967295.false); fits = omega (arith, c.if-text-count.false) }

pub returns : goal.returns
returns c = let t = all_told c.args.document.now c.args.ledger.now (length c.args.work.now) c.args.text.now (sym c.if-not-is_expanded.false ∙ c.is_expanded.ensures) c.if-work-document.false c.count-nodes.ensures c.if-nodes-gt4294967295.false c.if-ledger-nodes.false c.div_ceil-count.ensures c.if-text-count.false c.put_pages.ensures in record { text_after = t.0; promises = t.1 }
