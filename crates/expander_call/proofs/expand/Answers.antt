use mathlib.Core.Path.{sym, ◌∙◌}
use Rattle.sheet_check.specs.declared.grammar.Form.TheVariants as form
use Rattle.std.specs.declared.result.Result.TheVariants.{Err}
use Rattle.expander_run.specs.Calls.{NoRoom, WrongLength, Malformed, call_of}
use Rattle.expander_call.proofs.Refusals.{bad_low, at_1, at_2_root, at_2_library, allowed, at_3_root, at_3_library, past_3, demands}
use native.Mathlib.Omega.{arith}
use Rattle.expander_call.proofs.expand.Goals as goal

pub overflow_cast-result : goal.overflow_cast-result
overflow_cast-result c = omega (arith, bad_low form.Root c.args.root.now (sym c.check.ensures ∙ c.in-Err.is), (allowed (call_of c.args.root.now c.args.library.now c.args.max_nodes c.args.max_depth c.args.max_rows c.args.out.now c.args.ledger.now c.args.scopes.now c.args.work.now) (sym c.lacks_room.ensures ∙ c.if-lacks_room.false) (sym c.wrong_length.ensures ∙ c.if-wrong_length.false) (sym c.wrong_length-2.ensures ∙ c.if-wrong_length-2.false)).1.0.cap)

pub overflow_cast-result-in-Err-check : goal.overflow_cast-result-in-Err-check
overflow_cast-result-in-Err-check c = omega (arith, bad_low form.Library c.args.library.now (sym c.check-2.ensures ∙ c.in-Err-check.is), (allowed (call_of c.args.root.now c.args.library.now c.args.max_nodes c.args.max_depth c.args.max_rows c.args.out.now c.args.ledger.now c.args.scopes.now c.args.work.now) (sym c.lacks_room.ensures ∙ c.if-lacks_room.false) (sym c.wrong_length.ensures ∙ c.if-wrong_length.false) (sym c.wrong_length-2.ensures ∙ c.if-wrong_length-2.false)).1.1.cap)

pub returns : goal.returns
returns c = let d = demands (call_of c.args.root.now c.args.library.now c.args.max_nodes c.args.max_depth c.args.max_rows c.args.out.now c.args.ledger.now c.args.scopes.now c.args.work.now) (λ i. omega (arith, c.type_inv.root i)) (λ i. omega (arith, c.type_inv.library i)) c.run.result (past_3 _ (sym c.lacks_room.ensures ∙ c.if-lacks_room.false) (sym c.wrong_length.ensures ∙ c.if-wrong_length.false) (sym c.wrong_length-2.ensures ∙ c.if-wrong_length-2.false) (sym c.check.ensures ∙ c.in_default.is) (sym c.check-2.ensures ∙ c.in_default-check.is) c.run.result c.run.ensures) in record { as_defined = d.0; demand1 = d.1.0; demand3 = d.1.1 }

pub returns-in-Err : goal.returns-in-Err
returns-in-Err c = let d = demands (call_of c.args.root.now c.args.library.now c.args.max_nodes c.args.max_depth c.args.max_rows c.args.out.now c.args.ledger.now c.args.scopes.now c.args.work.now) (λ i. omega (arith, c.type_inv.root i)) (λ i. omega (arith, c.type_inv.library i)) (Err (Malformed 0 _)) (at_3_root _ (sym c.lacks_room.ensures ∙ c.if-lacks_room.false) (sym c.wrong_length.ensures ∙ c.if-wrong_length.false) (sym c.wrong_length-2.ensures ∙ c.if-wrong_length-2.false) (sym c.check.ensures ∙ c.in-Err.is)) in record { as_defined = d.0; demand1 = d.1.0; demand3 = d.1.1 }

pub returns-in-Err-check : goal.returns-in-Err-check
returns-in-Err-check c = let d = demands (call_of c.args.root.now c.args.library.now c.args.max_nodes c.args.max_depth c.args.max_rows c.args.out.now c.args.ledger.now c.args.scopes.now c.args.work.now) (λ i. omega (arith, c.type_inv.root i)) (λ i. omega (arith, c.type_inv.library i)) (Err (Malformed 1 _)) (at_3_library _ (sym c.lacks_room.ensures ∙ c.if-lacks_room.false) (sym c.wrong_length.ensures ∙ c.if-wrong_length.false) (sym c.wrong_length-2.ensures ∙ c.if-wrong_length-2.false) (sym c.check.ensures ∙ c.in_default.is) (sym c.check-2.ensures ∙ c.in-Err-check.is)) in record { as_defined = d.0; demand1 = d.1.0; demand3 = d.1.1 }

pub returns-then-lacks_room : goal.returns-then-lacks_room
returns-then-lacks_room c = let d = demands (call_of c.args.root.now c.args.library.now c.args.max_nodes c.args.max_depth c.args.max_rows c.args.out.now c.args.ledger.now c.args.scopes.now c.args.work.now) (λ i. omega (arith, c.type_inv.root i)) (λ i. omega (arith, c.type_inv.library i)) (Err NoRoom) (at_1 _ (sym c.lacks_room.ensures ∙ c.if-lacks_room.true)) in record { as_defined = d.0; demand1 = d.1.0; demand3 = d.1.1 }

pub returns-then-wrong_length : goal.returns-then-wrong_length
returns-then-wrong_length c = let d = demands (call_of c.args.root.now c.args.library.now c.args.max_nodes c.args.max_depth c.args.max_rows c.args.out.now c.args.ledger.now c.args.scopes.now c.args.work.now) (λ i. omega (arith, c.type_inv.root i)) (λ i. omega (arith, c.type_inv.library i)) (Err WrongLength) (at_2_root _ (sym c.lacks_room.ensures ∙ c.if-lacks_room.false) (sym c.wrong_length.ensures ∙ c.if-wrong_length.true)) in record { as_defined = d.0; demand1 = d.1.0; demand3 = d.1.1 }

pub returns-then-wrong_length-2 : goal.returns-then-wrong_length-2
returns-then-wrong_length-2 c = let d = demands (call_of c.args.root.now c.args.library.now c.args.max_nodes c.args.max_depth c.args.max_rows c.args.out.now c.args.ledger.now c.args.scopes.now c.args.work.now) (λ i. omega (arith, c.type_inv.root i)) (λ i. omega (arith, c.type_inv.library i)) (Err WrongLength) (at_2_library _ (sym c.lacks_room.ensures ∙ c.if-lacks_room.false) (sym c.wrong_length.ensures ∙ c.if-wrong_length.false) (sym c.wrong_length-2.ensures ∙ c.if-wrong_length-2.true)) in record { as_defined = d.0; demand1 = d.1.0; demand3 = d.1.1 }
