-- A number as decimal text, "without leading zeros, right-justified with spaces", in any width (document 01, Lines: 11 bytes; document 02, wish 13: 12 and 72).
use Rattle.std.specs.Prelude.{List, [], ◌∷◌, ◌++◌, ℕ, zero, suc, ◌+◌, ◌/◌, ◌%◌, replicate, eqb}
use Rattle.ast.specs.Choice.{choose}

-- the last digit (48 is '0') of what is left of a number, or a space (32) if nothing is
unfoldable pub digit_left : ℕ → ℕ
digit_left n = choose (eqb n 0) 32 (48 + n % 10)

-- what is left of a number, right-justified with spaces in k bytes
unfoldable pub before : ℕ → ℕ → List ℕ
before zero n = []
before (suc k) n = before k (n / 10) ++ (digit_left n ∷ [])

-- a number in a width ends in its last digit, which may be 0
unfoldable pub justified : (width : ℕ) → ℕ → List ℕ
justified zero n = []
justified (suc k) n = before k (n / 10) ++ ((48 + n % 10) ∷ [])

-- a width of blanks
abbrev pub spaces : ℕ → List ℕ
spaces width = replicate width 32
