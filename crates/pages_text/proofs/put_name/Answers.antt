use native.Mathlib.Omega.{arith}
use Rattle.text_decimal.specs.Decimal.{justified, spaces}
use Rattle.text_decimal.proofs.DecimalLaws.{justified_length}
use Rattle.text_decimal.proofs.StoreLaws.{part_put}
use Rattle.pages_definition.proofs.PageLaws.{name_blank, name_given, spaces_length}
use Rattle.pages_text.proofs.put_name.Goals as goal

pub returns-then-name-eq-NONE : goal.returns-then-name-eq-NONE
returns-then-name-eq-NONE c = name_blank c.args.text.now c.args.at c.args.name c.if-name-eq-NONE.true (part_put c.args.at _ 12 c.args.text.now spaces spaces_length (omega arith) (omega (arith, c.requires)) c.put_spaces.ensures)

pub returns-else-name-eq-NONE : goal.returns-else-name-eq-NONE
returns-else-name-eq-NONE c = name_given c.args.text.now c.args.at c.args.name c.if-name-eq-NONE.false (part_put c.args.at _ 12 c.args.text.now (λ w. justified w c.args.name) (λ w. justified_length w c.args.name) (omega arith) (omega (arith, c.requires)) c.put_number.ensures)
