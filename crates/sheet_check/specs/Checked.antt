-- What the check answers: a sheet fits, or a row is the first that doesn't.
use Rattle.std.specs.Prelude.{ℕ, Result, Ok, Err}
use Rattle.sheet_check.specs.declared.BadRow.{BadRow}

abbrev pub Checked : Type 0
Checked = Result (Unit {0}) BadRow

abbrev pub Fits : Checked
Fits = Ok tt

abbrev pub Bad : ℕ → Checked
Bad n = Err (record { 0 = n })
