-- Lines and rows at a place, by the tests that led to each return.
use mathlib.Core.Path.{◌≡◌, refl, ◌∙◌}
use mathlib.Core.List.{List, ◌++◌, append-nil}
use Prim.Native.Nat.{ℕ, ◌+◌, ◌*◌, ◌-◌, ◌/◌, ◌≤◌, ◌<◌}
use native.Mathlib.Omega.{arith}
use borrow.Author.Tests.{le-leb, lt-leb}
use lib.ListN.{length, take, drop, length-drop, drop_of_length-le}
use lib.Seq.{take_all}
use Rattle.std.specs.Prelude.{Option, Some, None, Result, Ok, Err}
use Rattle.std.specs.Result.{result_ok}
use Rattle.text_lines.specs.declared.ReadError.{ReadError}
use Rattle.text_lines.specs.declared.ReadError.TheVariants.{WrongLength, BadLine}
use Rattle.text_lines.specs.Read.{read_lines, read_answer}
use Rattle.test_vectors.specs.Frame.{placed, lines_at, rows_read}

module _ (input : List ℕ) (at n : ℕ) (w : List ℕ) where
  pub too_far : length input < at → lines_at input at n w ≡ (None, w)
  unfolding lines_at
  too_far h = rw (lt-leb (at + 89 * n) (length input) (omega arith))

  pub too_few : at ≤ length input → (length input - at) / 89 < n → lines_at input at n w ≡ (None, w)
  unfolding lines_at
  too_few h k = rw (lt-leb (at + 89 * n) (length input) (omega arith))

  module _ (v : List ℕ) (r : Result ℕ ReadError) (h : at ≤ length input) (k : n ≤ (length input - at) / 89) (e : read_lines (take (at + 89 * n - at) (drop at input)) w ≡ (read_answer r, v)) where
    as_read : lines_at input at n w ≡ placed (at + 89 * n) (read_answer r, v)
    unfolding lines_at
    as_read = let q : at + 89 * n - at ≡ 89 * n = omega arith in rw (le-leb (at + 89 * n) (length input) (omega arith), rw q at e)

    all_good : (m : ℕ) → r ≡ Ok m → lines_at input at n w ≡ (Some (at + 89 * n), v)
    all_good m q = as_read ∙ rw q

    not_read : (e : ReadError) → r ≡ Err e → lines_at input at n w ≡ (None, v)
    not_read WrongLength q = as_read ∙ rw q
    not_read (BadLine m) q = as_read ∙ rw q

    -- by what is left of the answer where only its rows are asked for
    pub some_read : (m : ℕ) → result_ok r ≡ Some m → lines_at input at n w ≡ (Some (at + 89 * n), v)
    some_read m q = go r refl q
      where
        go : (x : Result ℕ ReadError) → r ≡ x → result_ok x ≡ Some m → lines_at input at n w ≡ (Some (at + 89 * n), v)
        go (Ok k) e z = all_good k e
        go (Err k) e z = cc

    pub none_read : result_ok r ≡ None → lines_at input at n w ≡ (None, v)
    none_read q = go r refl q
      where
        go : (x : Result ℕ ReadError) → r ≡ x → result_ok x ≡ None → lines_at input at n w ≡ (None, v)
        go (Ok k) e z = cc
        go (Err k) e z = not_read k e

module _ (input : List ℕ) (at kept n : ℕ) (w : List ℕ) where
  pub more_kept : n < kept → rows_read input at kept n w ≡ (None, w)
  unfolding rows_read
  more_kept h = rw (lt-leb kept n h)

  pub no_room : kept ≤ n → length w < 8 * kept → rows_read input at kept n w ≡ (None, w)
  unfolding rows_read
  no_room h k = rw (le-leb kept n h, lt-leb (8 * kept) (length w) k)

  -- the part that is lent ends where the words do
  pub behind : kept ≤ n → 8 * kept ≤ length w → (r : Option ℕ) (v : List ℕ) → lines_at input at (n - kept) (take (length w - 8 * kept) (drop (8 * kept) w)) ≡ (r, v) → rows_read input at kept n w ≡ (r, take (8 * kept) w ++ (v ++ drop (length w - 8 * kept) (drop (8 * kept) w)))
  unfolding rows_read
  behind h k r v e =
      let l = drop (8 * kept) w in
      let q : length l ≤ length w - 8 * kept = simp length-drop (omega arith) in
      rw (le-leb kept n h, le-leb (8 * kept) (length w) k, rw (take_all (length w - 8 * kept) l q) at e, drop_of_length-le l q, append-nil v)
