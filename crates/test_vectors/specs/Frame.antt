-- Lines and rows at a place of the input, read into lent words: the place after them, if they are well formed, and the
-- words then.
use Rattle.std.specs.Prelude.{Option, Some, None, ◌&&◌, List, [], ◌∷◌, ◌++◌, ℕ, ◌+◌, ◌*◌, ◌-◌, leb, eqb, length, take, drop}
use Rattle.ast.specs.Choice.{choose}
use Rattle.text_lines.specs.Answer.{Answer}
use Rattle.text_lines.specs.Read.{read_lines}

-- the place after what was read, if that is accepted
abbrev pub placed : ℕ → Answer × List ℕ → Option ℕ × List ℕ
placed end x = (choose (eqb x.0.refusal 0) (Some end) None, x.1)

-- n lines, by Read lines: all of them in the input, and good; else the words stay
unfoldable pub lines_at : List ℕ → ℕ → ℕ → List ℕ → Option ℕ × List ℕ
lines_at input at n w =
    choose (leb (at + 89 * n) (length input))
    (placed (at + 89 * n) (read_lines (take (89 * n) (drop at input)) w))
    (None, w)

-- n rows, the first of which are kept: the others, as lines, come behind them
unfoldable pub rows_read : List ℕ → ℕ → ℕ → ℕ → List ℕ → Option ℕ × List ℕ
rows_read input at kept n w =
    let x = lines_at input at (n - kept) (drop (8 * kept) w) in
    choose (leb kept n && leb (8 * kept) (length w)) (x.0, take (8 * kept) w ++ x.1) (None, w)

-- the numbers of a case's line: its tag, and four of the answer
abbrev pub case_numbers : ℕ → ℕ → ℕ → ℕ → ℕ → List ℕ
case_numbers tag a b c d = tag ∷ a ∷ b ∷ c ∷ d ∷ 0 ∷ 0 ∷ 0 ∷ []
