-- The answer of a C export of document 02, and what stands after its call.
use Rattle.std.specs.Prelude.{Result, Ok, Err, List, ◌∷◌, ℕ, zero, suc, length, replicate, ltb}
use Rattle.ast.specs.Choice.{choose}
use Rattle.words_lent.specs.Words.{over}

-- What an operation says: its refusal, 0 where it accepts; the numbers that follow in the answer, of which the first is how much
-- it listed or wrote; and the words of the slice that it lists or writes to, after the call.
pub record Said : Type 0 where
  pub refusal : ℕ
  pub numbers : List ℕ
  pub lent : List ℕ

-- "on a refusal all after the first are 0"
abbrev pub unless_refused : ℕ → ℕ → ℕ
unless_refused zero number = number
unless_refused (suc n) number = 0

abbrev pub numbers_after : ℕ → List ℕ → List ℕ
numbers_after zero numbers = numbers
numbers_after (suc n) numbers = replicate (length numbers) 0

-- "refusal, how much was listed or written, then what is named below"
abbrev pub answer_words : ℕ → List ℕ → List ℕ
answer_words refusal numbers = refusal ∷ numbers_after refusal numbers

-- what the code hands on, numbers or a refusal: its refusal, and its words where n numbers follow
abbrev pub refusal_of : Result (List ℕ) ℕ → ℕ
refusal_of (Ok numbers) = 0
refusal_of (Err refusal) = refusal

abbrev pub words_of : ℕ → Result (List ℕ) ℕ → List ℕ
words_of n (Ok numbers) = 0 ∷ numbers
words_of n (Err refusal) = refusal ∷ replicate n 0

-- the result, and every word of the two lent slices, after a call; of work nothing is said
pub record AfterExport : Type 0 where
  pub result : ℕ
  pub lent : List ℕ
  pub answer : List ℕ

-- "The result .. is the refusal. An answer that is too short is refused before anything else with the number in the last column,
-- and nothing is written."; "words past these stay". short: that number; n: the words of an answer
unfoldable pub exported : (short n : ℕ) → (lent answer : List ℕ) → Said → AfterExport
exported short n lent answer s =
    choose (ltb (length answer) n)
    (record { result = short; lent = lent; answer = answer })
    (record { result = s.refusal; lent = s.lent; answer = over (answer_words s.refusal s.numbers) answer })
