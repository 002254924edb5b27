-- A sum over numbers, in which each one and its place count.
use Rattle.std.specs.Prelude.{List, [], ◌∷◌, ℕ, ◌+◌, ◌*◌, ◌%◌}

abbrev pub with : ℕ → ℕ → ℕ
with s n = (65599 * s + n + 1) % 4294967291

abbrev pub checksum_of : ℕ → List ℕ → ℕ
checksum_of s [] = s
checksum_of s (n ∷ l) = checksum_of (with s n) l
