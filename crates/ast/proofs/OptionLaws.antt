-- Choosing the first of several that is there.
use mathlib.Core.Path.{◌≡◌, refl}
use mathlib.Core.Option.{Option, none, some}
use Rattle.ast.specs.Choice.{or_else}

pub or_assoc : {A : Type 0} (a b c : Option A) → or_else (or_else a b) c ≡ or_else a (or_else b c)
or_assoc none b c = refl
or_assoc (some x) b c = refl

pub or_none_lem : {A : Type 0} (a : Option A) → or_else a none ≡ a
or_none_lem none = refl
or_none_lem (some x) = refl
