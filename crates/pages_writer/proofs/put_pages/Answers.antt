use Rattle.pages_definition.proofs.PageLaws.{pages_start, page_ready, pages_again, pages_end}
use Rattle.pages_writer.proofs.put_pages.Goals as goal

pub loop-p-init : goal.loop-p-init
loop-p-init c = pages_start c.args.sheet.now c.args.ledger.now c.args.n _

pub put_page-from-requires : goal.put_page-from-requires
put_page-from-requires c = page_ready c.args.sheet.now c.args.ledger.now c.args.n _ c.requires c.loop-p.invariant c.loop-p-test.true

pub loop-p-preserved : goal.loop-p-preserved
loop-p-preserved c = pages_again c.args.sheet.now c.args.ledger.now c.args.n _ c.loop-p.invariant c.loop-p-test.true c.put_page-from.auto.text c.put_page-from.ensures

pub returns : goal.returns
returns c = pages_end c.args.sheet.now c.args.ledger.now c.args.n _ c.loop-p.invariant c.loop-p-test.false
