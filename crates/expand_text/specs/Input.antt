-- What reading to the end may find.
use Rattle.std.specs.Prelude.{Result, Ok, Err, ℕ, ◌≤◌}
use Rattle.expand_text.specs.declared.input.InputError.{InputError}

-- where the input has an end, at most n bytes come before it
abbrev pub EndsWithin : Result ℕ InputError → ℕ → Type 0
EndsWithin (Ok m) n = m ≤ n
EndsWithin (Err e) n = Unit
