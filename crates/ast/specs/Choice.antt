-- Choosing between two, and going on with what was found.
use Rattle.std.specs.Prelude.{Bool, true, false, List, [], ◌∷◌}
use Rattle.std.proofs.Math.Option.{Option, none, some}

abbrev pub choose : {A : Type 0} → Bool → A → A → A
choose true x y = x
choose false x y = y

abbrev pub and_then : {A B : Type 0} → Option A → (A → Option B) → Option B
and_then none k = none
and_then (some a) k = k a

abbrev pub or_else : {A : Type 0} → Option A → Option A → Option A
or_else none b = b
or_else (some a) b = some a

abbrev pub map_o : {A B : Type 0} → (A → B) → Option A → Option B
map_o f none = none
map_o f (some a) = some (f a)

abbrev pub first : {A : Type 0} → List A → Option A
first [] = none
first (a ∷ l) = some a
