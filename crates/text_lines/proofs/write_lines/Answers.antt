use Rattle.std.proofs.Common.{◌≡◌, ◌∙◌, sym, ap, ◌+◌, ◌-◌, ◌*◌, ◌/◌, length, take, drop, arith}
use lib.ListN.{length-take, length-drop}
use Rattle.std.proofs.lemmas.List.Edits.{sets}
use Rattle.text_lines.specs.Write.{line}
use Rattle.text_decimal.proofs.StoreLaws.{mid_sets}
use Rattle.text_lines.proofs.WriteLaws.{uneven, too_few, all_fit, line_length, lines_left, lines_turn, lines_end}
use Rattle.text_lines.proofs.write_lines.Goals as goal
use Rattle.text_lines.proofs.write_lines.Goals.{then-words-ne0-via-then-words-ne0, then-words-ne0-via-else-words-ne0+then-lines-rows}

pub returns-then-words-ne0 : goal.returns-then-words-ne0
returns-then-words-ne0 c =
    elim c.then-words-ne0.branch [
      | then-words-ne0-via-then-words-ne0 w ↦ uneven _ _ w.if-words-ne0.true
      | then-words-ne0-via-else-words-ne0+then-lines-rows w ↦ too_few _ _ w.if-words-ne0.false w.if-lines-rows.true
    ]

pub loop-i-preserved : goal.loop-i-preserved
loop-i-preserved c =
    let i = c.loop-i.i in
    let words = c.args.words.now in
    let n : 8 * (i + 1) - 8 * i ≡ 8 = omega arith in
    let row : c.put_row.new.text ≡ line (take 8 (drop (8 * i) words)) = c.put_row.ensures ∙ ap (λ k. line (take k (drop (8 * i) words))) n in
    let long : length (take 8 (drop (8 * i) words)) ≡ 8 = simp (length-take, length-drop) (omega arith) in
    let put = mid_sets (89 * i) (89 * (i + 1) - 89 * i) c.loop-i.lines c.put_row.new.text (omega arith) (omega (arith, ap length row, line_length (take 8 (drop (8 * i) words)) long)) in
    ap (λ w. lines_left words (length words / 8) (i + 1) w) (put ∙ ap (λ r. sets c.loop-i.lines (89 * i) r) row) ∙ lines_turn words (length words / 8) i c.loop-i.lines c.loop-i-test.true (omega arith) ∙ c.loop-i.invariant

pub returns : goal.returns
returns c = all_fit _ _ c.if-words-ne0.false c.if-lines-rows.false _ (sym (lines_end c.args.words.now _ c.loop-i.i _ c.loop-i-test.false) ∙ c.loop-i.invariant)
