use Rattle.std.proofs.Common.{◌∙◌, ap, ◌+◌, ◌-◌, ◌*◌, get_or, arith}
use Rattle.text_decimal.specs.Decimal.{justified}
use Rattle.text_decimal.proofs.StoreLaws.{part_put}
use Rattle.text_decimal.proofs.DecimalLaws.{justified_length}
use Rattle.text_lines.proofs.WriteLaws.{line_left, line_start, line_turn}
use Rattle.text_lines.proofs.put_row.Goals as goal

pub loop-i-init : goal.loop-i-init
loop-i-init c = line_start _ _ c.requires.eight c.requires.long

pub loop-i-preserved : goal.loop-i-preserved
loop-i-preserved c =
    let i = c.loop-i.i in
    let text = c.loop-i.text in
    let row = c.args.row.now in
    let n = get_or row i 0 in
    let put = part_put (11 * i) (11 * (i + 1) - 11 * i) 11 text (λ w. justified w n) (λ w. justified_length w n) (omega arith) (omega (arith, c.loop-i.auto.text, c.requires)) c.put_number.ensures in
    ap (λ l. line_left row (i + 1) l) put ∙ line_turn row i text c.loop-i-test.true ∙ c.loop-i.invariant
