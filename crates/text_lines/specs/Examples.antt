-- Worked examples of the definitions.
use Rattle.std.specs.Prelude.{◌≡◌, refl, false, List, [], ◌∷◌, ◌++◌, ℕ, replicate}
use Prim.Native.Char.{code}
use Prim.Native.String.{String, [] as none, ◌∷◌ as ◌∷ˢ◌}
use Rattle.text_decimal.specs.Decimal.{digit_left, before, justified}
use Rattle.text_lines.specs.declared.Field.TheVariants.{Spaces, Number, Bad}
use Rattle.text_lines.specs.Answer.{accepted, refused}
use Rattle.text_lines.specs.Read.{with_digit, next, column_read, good_line, read_lines}
use Rattle.text_lines.specs.Write.{write_lines}

-- the bytes of a text
bytes : String → List ℕ
bytes none = []
bytes (c ∷ˢ s) = code c ∷ bytes s

-- ---- document 01's line (Program): written and read back

row : List ℕ
row = 0 ∷ 0 ∷ 0 ∷ 0 ∷ 1 ∷ 1 ∷ 6 ∷ 0 ∷ []

text : String
text = "          0          0          0          0          1          1          6          0\n"

row_written : write_lines row (replicate 90 7) ≡ (accepted 89, bytes text ++ (7 ∷ []))
unfolding bytes row text digit_left before justified write_lines
row_written = refl

-- into nine words: the last one stays
row_read : read_lines (bytes text) (replicate 9 7) ≡ (accepted 1, row ++ (7 ∷ []))
unfolding bytes row text with_digit next good_line read_lines
row_read = refl

-- ---- refusals: 12, a line cut short, or words too few; 13, a second line with a leading zero; 14

bad : String
bad = "         00          0          0          0          0          0          0          0\n"

cut_short : read_lines (bytes "          0\n") (replicate 8 7) ≡ (refused 12 0, replicate 8 7)
unfolding bytes with_digit next good_line read_lines
cut_short = refl

no_words : read_lines (bytes text) (replicate 7 7) ≡ (refused 12 0, replicate 7 7)
unfolding bytes text with_digit next good_line read_lines
no_words = refl

second_bad : read_lines (bytes text ++ bytes bad) (replicate 16 7) ≡ (refused 13 1, replicate 16 7)
unfolding bytes text bad with_digit next good_line read_lines
second_bad = refl

seven_words : write_lines (replicate 7 0) (replicate 90 7) ≡ (refused 14 0, replicate 90 7)
unfolding write_lines
seven_words = refl

few_bytes : write_lines row (replicate 88 7) ≡ (refused 14 0, replicate 88 7)
unfolding row write_lines
few_bytes = refl

-- ---- fields

most : column_read (bytes " 4294967295") ≡ Number 4294967295
unfolding bytes with_digit next
most = refl

one_more : column_read (bytes " 4294967296") ≡ Bad
unfolding bytes with_digit next
one_more = refl

leading_zero : column_read (bytes "         01") ≡ Bad
unfolding bytes with_digit next
leading_zero = refl

blank : column_read (bytes "           ") ≡ Spaces
unfolding bytes with_digit next
blank = refl

signed : column_read (bytes "         +1") ≡ Bad
unfolding bytes with_digit next
signed = refl

tabbed : column_read (bytes "\t         1") ≡ Bad
unfolding bytes with_digit next
tabbed = refl

interrupted : column_read (bytes "        1 2") ≡ Bad
unfolding bytes with_digit next
interrupted = refl

to_the_left : column_read (bytes "12         ") ≡ Bad
unfolding bytes with_digit next
to_the_left = refl

-- ---- the end of a line

other_end : good_line (bytes "          0          0          0          0          1          1          6          0\r") ≡ false
unfolding bytes with_digit next good_line
other_end = refl
