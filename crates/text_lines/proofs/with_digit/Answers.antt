use Rattle.std.proofs.Common.{◌≡◌, ◌+◌, ◌*◌, ◌-◌, sym, ap, ◌∙◌, arith}
use borrow.Author.Tests.{le-leb, lt-leb}
use Rattle.text_lines.specs.declared.Field.TheVariants.{Number}
use Rattle.text_lines.specs.Read.{with_digit}
use Rattle.text_lines.proofs.with_digit.Goals as goal

pub returns-then-not-is_ascii_digit : goal.returns-then-not-is_ascii_digit
unfolding with_digit
returns-then-not-is_ascii_digit c = rw (sym c.is_ascii_digit.ensures.value ∙ c.if-not-is_ascii_digit.true)

pub returns-in-Ok : goal.returns-in-Ok
unfolding with_digit
returns-in-Ok c =
    let e : c.in-Ok.m ≡ 10 * c.args.n + (c.args.b - 48) = omega (arith, c.in-Ok.ensures) in
    rw (sym c.is_ascii_digit.ensures.value ∙ c.if-not-is_ascii_digit.false, le-leb (10 * c.args.n + (c.args.b - 48)) 4294967295 (omega (arith, c.in-Ok.ensures))) (ap Number e)

pub returns-in-Err : goal.returns-in-Err
unfolding with_digit
returns-in-Err c =
    rw (sym c.is_ascii_digit.ensures.value ∙ c.if-not-is_ascii_digit.false, lt-leb (10 * c.args.n + (c.args.b - 48)) 4294967295 (omega (arith, c.in-Err.ensures)))
