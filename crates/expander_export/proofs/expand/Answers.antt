use Rattle.expander_run.specs.Calls.{call_of}
use Rattle.expander_export.proofs.ExportLaws.{expand_short, expand_told}
use Rattle.expander_export.proofs.expand.Goals as goal

pub returns : goal.returns
returns c = let d = expand_told (call_of c.args.root.now c.args.library.now c.args.max_nodes c.args.max_depth c.args.max_rows c.args.out.now c.args.ledger.now c.args.scopes.now c.args.work.now) c.args.answer.now c.if-answer-lt7.false c.expand.result c.of-n.ensures (c.expand.ensures.as_defined, (c.expand.ensures.demand1, c.expand.ensures.demand3)) c.put_words.ensures in record { says_c = d.0; demand1c = d.1.0; demand3c = d.1.1 }

pub returns-then-answer-lt7 : goal.returns-then-answer-lt7
returns-then-answer-lt7 c = let d = expand_short (call_of c.args.root.now c.args.library.now c.args.max_nodes c.args.max_depth c.args.max_rows c.args.out.now c.args.ledger.now c.args.scopes.now c.args.work.now) c.args.answer.now c.if-answer-lt7.true in rw c.from.ensures (record { says_c = d.0; demand1c = d.1.0; demand3c = d.1.1 })
