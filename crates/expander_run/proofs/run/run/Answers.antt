use Rattle.std.specs.declared.result.Result.TheVariants.{Ok}
use Rattle.refine_records.proofs.Exits.{exit}
use Rattle.expander_run.proofs.Runs.{blank, run_refused, writable, run_written}
use Rattle.expander_run.proofs.run.run.Goals as goal

pub top-requires : goal.top-requires
top-requires c = blank _ _ _ _ _ _ _ _ _ c.requires c.prepare.ensures

pub write-requires : goal.write-requires
write-requires c = rw c.lent.ensures (writable _ _ _ _ _ _ _ _ _ c.requires c.prepare.ensures (rw c.in_ok-tops.was at c.top.ensures.copied))

pub returns : goal.returns
returns c = run_written _ _ _ _ _ _ _ _ _ c.requires c.prepare.ensures (rw c.in_ok-tops.was at c.top.ensures.copied) (Ok c.write.result) (rw c.lent.ensures at c.write.ensures)

pub returns-in_err-tops : goal.returns-in_err-tops
returns-in_err-tops c = rw (exit c.from_residual.ensures.1) (run_refused _ _ _ _ _ _ _ _ _ c.requires c.prepare.ensures (rw c.in_err-tops.was at c.top.ensures.copied))
