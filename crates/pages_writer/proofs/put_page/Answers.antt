use Rattle.pages_definition.specs.Pages.{heading}
use Rattle.pages_definition.proofs.PageLaws.{lines_start, line_ready, lines_again, page_put}
use native.Mathlib.Omega.{arith}
use Rattle.pages_writer.proofs.put_page.Goals as goal

pub loop-k-init : goal.loop-k-init
loop-k-init c = lines_start c.args.sheet.now c.args.ledger.now c.args.p _ c.requires.here

pub overflow_mul-p : goal.overflow_mul-p
overflow_mul-p c = omega (arith, c.requires.small, c.loop-k.invariant.upto)

pub overflow_add-p-in-loop-k : goal.overflow_add-p-in-loop-k
overflow_add-p-in-loop-k c = omega (arith, c.requires.small, c.loop-k.invariant.upto)

pub overflow_add-base : goal.overflow_add-base
overflow_add-base c = omega (arith, c.requires.small, c.loop-k.invariant.upto)

pub overflow_mul-k : goal.overflow_mul-k
overflow_mul-k c = omega (arith, c.requires.small, c.loop-k.invariant.upto)

pub overflow_add-base-in-loop-k : goal.overflow_add-base-in-loop-k
overflow_add-base-in-loop-k c = omega (arith, c.requires.small, c.loop-k.invariant.upto)

pub put_line-from-requires : goal.put_line-from-requires
put_line-from-requires c = line_ready c.args.sheet.now c.args.ledger.now c.args.p _ c.requires.entries c.loop-k.invariant c.loop-k-test.true c.put_heading.auto.text c.requires.fits

pub loop-k-preserved : goal.loop-k-preserved
loop-k-preserved c = lines_again c.args.sheet.now c.args.ledger.now c.args.p _ c.loop-k.invariant c.loop-k-test.true c.put_line-from.auto.text c.put_line-from.ensures

pub returns : goal.returns
unfolding heading
returns c = page_put c.args.sheet.now c.args.ledger.now c.args.p _ c.args.text.now c.loop-k.invariant c.loop-k-test.false c.put_heading.ensures
