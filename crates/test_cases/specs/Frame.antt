-- What a case is read as. No contract can say what stands on standard input: an Ok says that some good lines did.
use Rattle.std.specs.Prelude.{◌≡◌, ℕ, ◌+◌, ◌-◌, ◌*◌, ◌/◌, ◌≤◌, Result, Ok, Err, List, length, take, drop, slice_index}
use Rattle.text_lines.specs.Answer.{accepted}
use Rattle.text_lines.specs.Read.{read_lines}
use Rattle.test_cases.specs.declared.frame.Call.{Call}
use Rattle.test_cases.specs.declared.frame.FrameError.{FrameError}

-- the numbers of a case's two lines: seven of the first, four of the second
abbrev pub call_read : List ℕ → Call
call_read w =
    record {
      max_nodes = slice_index w 0;
      max_depth = slice_index w 1;
      max_rows = slice_index w 2;
      root = slice_index w 3;
      library = slice_index w 4;
      root_kept = slice_index w 5;
      library_kept = slice_index w 6;
      out = slice_index w 8;
      ledger = slice_index w 9;
      scopes = slice_index w 10;
      work = slice_index w 11;
    }

-- what an Ok says of the words before and after; at an error they stay
abbrev pub or_stay : {T : Type 0} → Result T FrameError → (List ℕ → List ℕ → Type 0) → List ℕ → List ℕ → Type 0
or_stay (Ok x) P w v = P w v
or_stay (Err e) P w v = v ≡ w

-- the lines of a text, all good, by Read lines
abbrev pub Text : List ℕ → List ℕ → List ℕ → Type 0
Text text w v = read_lines text w ≡ (accepted (length text / 89), v)

-- n good lines of some text
pub record Lines (n : ℕ) (w v : List ℕ) : Type 0 where
  pub text : List ℕ
  pub long : length text ≡ 89 * n
  pub read : read_lines text w ≡ (accepted n, v)

-- the rows of a sheet of n words: those that are kept stay, and the others are lines
pub record SheetRead (kept n : ℕ) (w v : List ℕ) : Type 0 where
  pub within : kept ≤ (n + 7) / 8
  pub room : 8 * kept ≤ length w
  pub front : take (8 * kept) v ≡ take (8 * kept) w
  pub others : Lines ((n + 7) / 8 - kept) (drop (8 * kept) w) (drop (8 * kept) v)
