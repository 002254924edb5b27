use Rattle.std.proofs.Common.{◌≡◌, ◌∙◌, sym, ap, ◌+◌, ◌-◌, ◌*◌, ◌/◌, length, take, drop, arith}
use Rattle.std.proofs.lemmas.List.Edits.{sets}
use Rattle.text_lines.specs.Read.{numbers}
use Rattle.text_decimal.proofs.StoreLaws.{mid_sets}
use Rattle.text_lines.proofs.ReadLaws.{uneven, too_many, first_bad, all_good, numbers_front, rows_left, rows_turn, rows_end}
use Rattle.text_lines.proofs.read_lines.Goals as goal
use Rattle.text_lines.proofs.read_lines.Goals.{then-lines-ne0-via-then-lines-ne0, then-lines-ne0-via-else-lines-ne0+then-words-rows}

pub returns-then-lines-ne0 : goal.returns-then-lines-ne0
returns-then-lines-ne0 c =
    elim c.then-lines-ne0.branch [
      | then-lines-ne0-via-then-lines-ne0 w ↦ uneven _ _ w.if-lines-ne0.true
      | then-lines-ne0-via-else-lines-ne0+then-words-rows w ↦ too_many _ _ w.if-lines-ne0.false w.if-words-rows.true
    ]

pub returns-in-Some : goal.returns-in-Some
returns-in-Some c = rw c.in-Some.ensures.0 at (first_bad _ c.args.words.now c.if-lines-ne0.false c.if-words-rows.false (omega (arith, c.in-Some.ensures.0, c.in-Some.ensures.1)))

pub loop-i-preserved : goal.loop-i-preserved
loop-i-preserved c =
    let i = c.loop-i.i in
    let lines = c.args.lines.now in
    let n : 89 * (i + 1) - 89 * i ≡ 89 = omega arith in
    let row : c.take_row.new.row ≡ numbers 8 (drop (89 * i) lines) = c.take_row.ensures ∙ ap (λ k. numbers 8 (take k (drop (89 * i) lines))) n ∙ numbers_front 8 89 (drop (89 * i) lines) (omega arith) in
    let put = mid_sets (8 * i) (8 * (i + 1) - 8 * i) c.loop-i.words c.take_row.new.row (omega arith) (omega (arith, ap length row)) in
    ap (λ w. rows_left lines (length lines / 89) (i + 1) w) (put ∙ ap (λ r. sets c.loop-i.words (8 * i) r) row) ∙ rows_turn lines (length lines / 89) i c.loop-i.words c.loop-i-test.true ∙ c.loop-i.invariant

pub returns : goal.returns
returns c = all_good _ _ c.if-lines-ne0.false c.if-words-rows.false (omega (arith, c.in_default.ensures)) _ (sym (rows_end c.args.lines.now _ c.loop-i.i _ c.loop-i-test.false) ∙ c.loop-i.invariant)
