-- Lines of text, read back as rows of words (document 01, Read lines and Lines).
use Rattle.std.specs.Prelude.{Result, Ok, Err, Option, Some, None, Bool, true, false, not, ◌&&◌, ◌||◌, List, [], ◌∷◌, ◌++◌, ℕ, zero, suc, ◌+◌, ◌*◌, ◌-◌, ◌/◌, ◌%◌, leb, ltb, eqb, length, take, drop, get_or}
use Rattle.text_lines.specs.declared.Field.{Field}
use Rattle.text_lines.specs.declared.Field.TheVariants.{Spaces, Number, Bad}
use Rattle.text_lines.specs.declared.ReadError.{ReadError}
use Rattle.text_lines.specs.declared.ReadError.TheVariants.{WrongLength, BadLine}
use Rattle.ast.specs.Choice.{choose}
use Rattle.text_lines.specs.Answer.{Answer, accepted, refused}

-- ---- Lines: "each without leading zeros, right-justified with spaces in 11 bytes"

-- What bytes come to, from left to right, is a Field: Spaces, spaces alone; a Number; or Bad.

-- a number with the digit b (48 is '0') after it; a word is at most 4294967295
unfoldable pub with_digit : ℕ → ℕ → Field
with_digit n b = choose (leb 48 b && leb b 57 && leb (10 * n + (b - 48)) 4294967295) (Number (10 * n + (b - 48))) Bad

-- one byte more: spaces (32) come before the first digit, and no digit after a leading 0
unfoldable pub next : Field → ℕ → Field
next Spaces b = choose (eqb b 32) Spaces (with_digit 0 b)
next (Number n) b = choose (eqb n 0) Bad (with_digit n b)
next Bad b = Bad

-- the bytes of a list, one after the other
abbrev pub reads : Field → List ℕ → Field
reads f [] = f
reads f (b ∷ l) = reads (next f b) l

-- what the bytes of a field come to
abbrev pub column_read : List ℕ → Field
column_read l = reads Spaces l

abbrev pub is_number : Field → Bool
is_number Spaces = false
is_number (Number n) = true
is_number Bad = false

abbrev pub number_in : Field → Option ℕ
number_in Spaces = None
number_in (Number n) = Some n
number_in Bad = None

abbrev pub field_number : Field → ℕ
field_number Spaces = 0
field_number (Number n) = n
field_number Bad = 0

-- ---- Lines: "A row is eight numbers, .., then byte 10"

-- whether n fields in front are numbers, and these
abbrev pub are_numbers : ℕ → List ℕ → Bool
are_numbers zero l = true
are_numbers (suc n) l = is_number (column_read (take 11 l)) && are_numbers n (drop 11 l)

abbrev pub numbers : ℕ → List ℕ → List ℕ
numbers zero l = []
numbers (suc n) l = field_number (column_read (take 11 l)) ∷ numbers n (drop 11 l)

-- whether the line in front is good
unfoldable pub good_line : List ℕ → Bool
good_line l = are_numbers 8 l && eqb (get_or l 88 0) 10

-- how many of n lines come before the first bad one: n if all are good, else its number from 0
abbrev pub good_lines : ℕ → List ℕ → ℕ
good_lines zero l = 0
good_lines (suc n) l = choose (good_line l) (suc (good_lines n (drop 89 l))) 0

-- the words of n lines
abbrev pub words_of : ℕ → List ℕ → List ℕ
words_of zero l = []
words_of (suc n) l = numbers 8 l ++ words_of n (drop 89 l)

-- ---- Read lines

-- "12, length not a multiple of 89 bytes, or more rows than the lent words hold; 13, the first bad line, with its number
-- from 0. The words stay. Accepted, it answers the row count; words past the rows stay."
unfoldable pub read_lines : List ℕ → List ℕ → Answer × List ℕ
read_lines l w =
    let n = length l / 89 in
    choose (not (eqb (length l % 89) 0) || ltb (length w / 8) n)
    (refused 12 0, w)
    (choose (ltb (good_lines n l) n) (refused 13 (good_lines n l), w) (accepted n, words_of n l ++ drop (8 * n) w))

-- document 01's number for each error, and the place that it tells
abbrev pub read_number : ReadError → ℕ
read_number WrongLength = 12
read_number (BadLine i) = 13

abbrev pub read_place : ReadError → ℕ
read_place WrongLength = 0
read_place (BadLine i) = i

abbrev pub read_answer : Result ℕ ReadError → Answer
read_answer (Ok n) = accepted n
read_answer (Err e) = refused (read_number e) (read_place e)
