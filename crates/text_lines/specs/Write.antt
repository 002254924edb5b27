-- Rows of words, written as lines of text (document 01, Write lines and Lines).
use Rattle.std.specs.Prelude.{Result, Ok, Err, not, ◌||◌, List, [], ◌∷◌, ◌++◌, ℕ, zero, suc, ◌*◌, ◌/◌, ◌%◌, ltb, eqb, length, take, drop}
use Rattle.text_lines.specs.declared.WriteError.{WriteError}
use Rattle.text_lines.specs.declared.WriteError.TheVariants.{WrongLength}
use Rattle.ast.specs.Choice.{choose}
use Rattle.text_decimal.specs.Decimal.{justified}
use Rattle.text_lines.specs.Answer.{Answer, accepted, refused}

-- ---- Lines: "each without leading zeros, right-justified with spaces in 11 bytes"

abbrev pub column : ℕ → List ℕ
column n = justified 11 n

-- ---- Lines: "A row is eight numbers, .., then byte 10"

abbrev pub fields : List ℕ → List ℕ
fields [] = []
fields (n ∷ w) = column n ++ fields w

abbrev pub line : List ℕ → List ℕ
line w = fields w ++ (10 ∷ [])

-- the lines of n rows of words
abbrev pub lines_of : ℕ → List ℕ → List ℕ
lines_of zero w = []
lines_of (suc n) w = line (take 8 w) ++ lines_of n (drop 8 w)

-- ---- Write lines

-- "14, words not a multiple of 8, or the lent bytes too few. The bytes stay. Accepted, it answers the byte count; bytes
-- past it stay."
unfoldable pub write_lines : List ℕ → List ℕ → Answer × List ℕ
write_lines w l =
    let n = length w / 8 in
    choose (not (eqb (length w % 8) 0) || ltb (length l) (89 * n))
    (refused 14 0, l)
    (accepted (89 * n), lines_of n w ++ drop (89 * n) l)

-- document 01's number for the error
abbrev pub write_number : WriteError → ℕ
write_number WrongLength = 14

abbrev pub write_answer : Result ℕ WriteError → Answer
write_answer (Ok n) = accepted n
write_answer (Err e) = refused (write_number e) 0
