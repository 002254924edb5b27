-- The url that a pick took, as a number (document 02, wish 1).
use Rattle.std.proofs.Math.Option.{Option, none, some}
use Rattle.std.specs.Prelude.{ℕ, zero, suc}

-- the url that was taken as a number: its index with one added, 0 where none was
abbrev pub mark_of : Option ℕ → ℕ
mark_of none = 0
mark_of (some k) = suc k

abbrev pub url_by : ℕ → Option ℕ
url_by zero = none
url_by (suc k) = some k
