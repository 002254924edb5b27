use native.Mathlib.Omega.{arith}
use Rattle.text_decimal.specs.Decimal.{spaces}
use Rattle.text_decimal.proofs.StoreLaws.{part_put}
use Rattle.pages_definition.specs.Pages.{blank_line}
use Rattle.pages_definition.proofs.TextLaws.{ended_put}
use Rattle.pages_definition.proofs.PageLaws.{spaces_length}
use Rattle.pages_text.proofs.put_blank_line.Goals as goal

pub returns : goal.returns
unfolding blank_line
returns c =
    let text = c.args.text.now in
    let at = c.args.at in
    ended_put text at (spaces 72) (part_put at _ 72 text spaces spaces_length (omega arith) (omega (arith, c.requires)) c.put_spaces.ensures) (spaces_length 72)
