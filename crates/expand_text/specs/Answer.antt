-- What the program writes, by what Expand answers (document 01, Program).
use Rattle.std.specs.Prelude.{List, [], ◌∷◌, ◌≡◌, ℕ, ◌*◌, ◌≤◌, ◌<◌, length, take, replicate}
use Rattle.std.specs.declared.result.Result as either
use Rattle.std.specs.declared.result.Result.TheVariants.{Ok, Err}
use Rattle.expansion_operation.specs.Operation.{Call, Numbers, expand_words}
use Rattle.expander_run.specs.Calls.{call_of, numbers_of}
use Rattle.expander_run.specs.declared.Expanded.{Expanded}
use Rattle.expand_text.specs.declared.answer.SceneError.{SceneError}
use Rattle.expand_text.specs.declared.answer.SceneError.TheVariants.{WrongLength, BadLine, Expand}
use Rattle.text_lines.specs.Read.{read_lines}

-- what the program answers: the counts of an expansion, or why there is none
abbrev pub Scene : Type 0
Scene = either.Result Expanded SceneError

-- the numbers of a refusal of the program's own
abbrev pub refused_numbers : ℕ → ℕ → Numbers
refused_numbers n place = record { refusal = n; first_place = place; second_place = 0; nodes = 0; scopes = 0; charges = 0; rows = 0 }

-- the numbers of an answer: those of Expand, and "Refusals of Read lines print there too, 13 with its line number as first place"
abbrev pub scene_numbers : Scene → Numbers
scene_numbers (Ok x) = numbers_of (Ok x)
scene_numbers (Err WrongLength) = refused_numbers 12 0
scene_numbers (Err (BadLine line)) = refused_numbers 13 line
scene_numbers (Err (Expand x')) = numbers_of (Err x')

-- "It prints a line (refusal or 0, two place numbers, 0, nodes, scopes, charges, 0)"
abbrev pub line_of : Numbers → List ℕ
line_of n = n.refusal ∷ n.first_place ∷ n.second_place ∷ 0 ∷ n.nodes ∷ n.scopes ∷ n.charges ∷ 0 ∷ []

abbrev pub first_line : Scene → List ℕ
first_line o = line_of (scene_numbers o)

-- "then the output rows": all of them; a refusal has none
abbrev pub answer_rows : Scene → ℕ
answer_rows o = (scene_numbers o).rows

-- at most K, so that out holds them
pub record Few (o : Scene) : Type 0 where
  pub rows : answer_rows o ≤ 400

-- "root on standard input, empty library, N = 400, D = 64, K = 400"
abbrev pub call_on : (root out : List ℕ) → Call
call_on root out = call_of root [] 400 64 400 out (replicate 1200 0) (replicate 2000 0) (replicate 10560 0)

-- the answer and out's words are those of Expand on these rows
pub record Expands (root out : List ℕ) (o : Scene) (out' : List ℕ) : Type 0 where
  pub answer : scene_numbers o ≡ (expand_words (call_on root out)).answer
  pub words : out' ≡ (expand_words (call_on root out)).out

-- "Refusals of Read lines print there too, 13 with its line number as first place": the answer to a text that Read lines
-- refuses, with room for 500 rows
unfoldable pub ReadRefused : List ℕ → Scene → Type 0
ReadRefused text o =
    (words : List ℕ) → length words ≡ 4000 → 0 < (read_lines text words).0.refusal → scene_numbers o ≡ refused_numbers (read_lines text words).0.refusal (read_lines text words).0.place

-- a text that Read lines takes is answered as Expand answers its rows
unfoldable pub ReadExpanded : (text out : List ℕ) → Scene → List ℕ → Type 0
ReadExpanded text out o out' =
    (read_lines text (replicate 4000 0)).0.refusal ≡ 0 → Expands (take (8 * (read_lines text (replicate 4000 0)).0.count) (read_lines text (replicate 4000 0)).1) out o out'
