-- Lists made of lists.
use Rattle.std.specs.Prelude.{List, [], ◌∷◌, ◌++◌}

-- of each, in order
abbrev pub flat : {A B : Type 0} → (A → List B) → List A → List B
flat g [] = []
flat g (a ∷ l) = g a ++ flat g l
