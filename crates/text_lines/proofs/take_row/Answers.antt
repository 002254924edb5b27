use Rattle.std.proofs.Common.{◌≡◌, ◌∙◌, ap, ◌+◌, ◌-◌, ◌*◌, take, drop, set, arith}
use Rattle.text_lines.specs.Read.{field_number, column_read}
use Rattle.text_lines.proofs.ReadLaws.{row_left, row_start, row_turn, number_or}
use Rattle.text_lines.proofs.take_row.Goals as goal

pub loop-i-init : goal.loop-i-init
loop-i-init c = row_start _ _ c.requires.eight

pub loop-i-preserved : goal.loop-i-preserved
loop-i-preserved c =
    let i = c.loop-i.i in
    let line = c.args.line.now in
    let n : 11 * (i + 1) - 11 * i ≡ 11 = omega arith in
    let word : c.unwrap_or.result ≡ field_number (column_read (take 11 (drop (11 * i) line))) = rw c.number.ensures at c.unwrap_or.ensures ∙ number_or c.of.result ∙ ap field_number (c.of.ensures ∙ ap (λ k. column_read (take k (drop (11 * i) line))) n) in
    ap (λ w. row_left line (i + 1) (set c.loop-i.row i w)) word ∙ row_turn line i c.loop-i.row (omega arith) ∙ c.loop-i.invariant
