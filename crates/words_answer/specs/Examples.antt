-- Computed examples of the answer of a C export.
use Rattle.std.specs.Prelude.{◌≡◌, refl, [], ◌∷◌}
use Rattle.words_answer.specs.Answer.{exported}

-- accepted: refusal 0, then the numbers; words past these stay
accepts : exported 27 3 (7 ∷ 7 ∷ []) (9 ∷ 9 ∷ 9 ∷ 9 ∷ []) (record { refusal = 0; numbers = 2 ∷ 5 ∷ []; lent = 1 ∷ 2 ∷ [] }) ≡ record { result = 0; lent = 1 ∷ 2 ∷ []; answer = 0 ∷ 2 ∷ 5 ∷ 9 ∷ [] }
unfolding exported
accepts = refl

-- refused: all after the first are 0
refuses : exported 27 3 (7 ∷ []) (9 ∷ 9 ∷ 9 ∷ 9 ∷ []) (record { refusal = 26; numbers = 2 ∷ 5 ∷ []; lent = 7 ∷ [] }) ≡ record { result = 26; lent = 7 ∷ []; answer = 26 ∷ 0 ∷ 0 ∷ 9 ∷ [] }
unfolding exported
refuses = refl

-- an answer of two words where three are wanted: whatever the operation would say, nothing is written
too_short : exported 27 3 (7 ∷ []) (9 ∷ 9 ∷ []) (record { refusal = 25; numbers = 0 ∷ 0 ∷ []; lent = 1 ∷ [] }) ≡ record { result = 27; lent = 7 ∷ []; answer = 9 ∷ 9 ∷ [] }
unfolding exported
too_short = refl
