-- Computed examples of decimal text.
use Rattle.std.specs.Prelude.{◌≡◌, refl, [], ◌∷◌}
use Rattle.text_decimal.specs.Decimal.{digit_left, before, justified}

-- the last digit may be 0
nought : justified 3 0 ≡ 32 ∷ 32 ∷ 48 ∷ []
unfolding justified before digit_left
nought = refl

-- no leading zero, but zeros within
ten : justified 4 105 ≡ 32 ∷ 49 ∷ 48 ∷ 53 ∷ []
unfolding justified before digit_left
ten = refl

-- the largest word in just enough bytes
most : justified 10 4294967295 ≡ 52 ∷ 50 ∷ 57 ∷ 52 ∷ 57 ∷ 54 ∷ 55 ∷ 50 ∷ 57 ∷ 53 ∷ []
unfolding justified before digit_left
most = refl
