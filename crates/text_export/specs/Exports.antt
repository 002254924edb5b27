-- Read lines and Write lines as C calls them: the result, and every word of every lent slice after a call, from the words before it.
use Rattle.std.specs.Prelude.{List, [], ◌∷◌, ℕ, ◌/◌, length, ltb}
use Rattle.ast.specs.Choice.{choose}
use Rattle.text_lines.specs.Answer.{Answer, refused}
use Rattle.text_lines.specs.Read.{read_lines}
use Rattle.text_lines.specs.Write.{write_lines}
use Rattle.words_lent.specs.Words.{over}

-- after a call; lent: the words read to, or the bytes written to
pub record AfterLines : Type 0 where
  pub result : ℕ
  pub lent : List ℕ
  pub answer : List ℕ

-- "refusal, place, count"
abbrev pub line_words : Answer → List ℕ
line_words a = a.refusal ∷ a.place ∷ a.count ∷ []

-- what stands after a call with an answer of three words or more; r: the answer, and the lent slice
abbrev pub told : Answer × List ℕ → List ℕ → AfterLines
told r answer = record { result = r.0.refusal; lent = r.1; answer = over (line_words r.0) answer }

-- an answer of fewer than three words is refused with n, and every word stays
unfoldable pub unless_short : ℕ → (lent answer : List ℕ) → Answer × List ℕ → AfterLines
unless_short n lent answer r = choose (ltb (length answer) 3) (record { result = n; lent = lent; answer = answer }) (told r answer)

-- more lines than a u32 counts are refused with 12
unfoldable pub read_counted : (lines words : List ℕ) → Answer × List ℕ
read_counted lines words = choose (ltb 4294967295 (length lines / 89)) (refused 12 0, words) (read_lines lines words)

abbrev pub read_c : (lines words answer : List ℕ) → AfterLines
read_c lines words answer = unless_short 12 words answer (read_counted lines words)

-- rows of more bytes than a u32 counts are refused with 14
unfoldable pub write_counted : (words lines : List ℕ) → Answer × List ℕ
write_counted words lines = choose (ltb 48258059 (length words / 8)) (refused 14 0, lines) (write_lines words lines)

abbrev pub write_c : (words lines answer : List ℕ) → AfterLines
write_c words lines answer = unless_short 14 lines answer (write_counted words lines)
