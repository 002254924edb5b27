use native.Mathlib.Omega.{arith}
use Rattle.text_decimal.specs.Decimal.{justified}
use Rattle.text_decimal.proofs.DecimalLaws.{justified_length}
use Rattle.text_decimal.proofs.StoreLaws.{part_put}
use Rattle.pages_definition.proofs.TextLaws.{ended_put}
use Rattle.pages_text.proofs.put_heading.Goals as goal

pub returns : goal.returns
returns c =
    let text = c.args.text.now in
    let at = c.args.at in
    let n = c.args.number in
    ended_put text at (justified 72 n) (part_put at _ 72 text (λ w. justified w n) (λ w. justified_length w n) (omega arith) (omega (arith, c.requires)) c.put_number.ensures) (justified_length 72 n)
