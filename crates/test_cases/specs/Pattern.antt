-- What lent words hold before a call.
use Rattle.std.specs.Prelude.{ℕ, zero, suc, ◌+◌, ◌%◌, ◌^◌}

-- the word at a place: each a step more than the one before, wrapped
unfoldable pub stepped : ℕ → ℕ → ℕ → ℕ
stepped first step zero = first
stepped first step (suc k) = (stepped first step k + step) % 2 ^ 32
