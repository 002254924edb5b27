-- What holds of each of a list, and of what is there.
use mathlib.Core.Path.{refl}
use mathlib.Core.List.{List, [], ◌∷◌, ◌++◌, map, Memᴰ}
use mathlib.Core.Option.{Option, none, some}
use Prim.Native.Nat.{ℕ, zero, suc}
use lib.ListN.{get_elem?, set}
use Rattle.ast.specs.Choice.{and_then}
use Rattle.expansion_definition.specs.PlainCopy.{somes}
use Rattle.ast.specs.Each.{Each}

-- nothing, or one with P
abbrev pub Opt : {A : Type 0} → (A → Type 0) → Option A → Type 0
Opt P none = Unit {0}
Opt P (some a) = P a

module _ {A : Type 0} (P : A → Type 0) where
  pub each_append : (l k : List A) → Each P l → Each P k → Each P (l ++ k)
  each_append [] k h g = g
  each_append (x ∷ l) k h g = (h.0, each_append l k h.1 g)

  -- one more at the end
  pub each_snoc : (l : List A) (x : A) → Each P l → P x → Each P (l ++ (x ∷ []))
  each_snoc l x h p = each_append l (x ∷ []) h (p, tt)

  pub each_set : (l : List A) (n : ℕ) (x : A) → Each P l → P x → Each P (set l n x)
  each_set [] n x h p = tt
  each_set (y ∷ l) zero x h p = (p, h.1)
  each_set (y ∷ l) (suc n) x h p = (h.0, each_set l n x h.1 p)

  pub each_get : (l : List A) (n : ℕ) → Each P l → Opt P (get_elem? l n)
  each_get [] n h = tt
  each_get (x ∷ l) zero h = h.0
  each_get (x ∷ l) (suc n) h = each_get l n h.1

  pub each_somes : (l : List (Option A)) → Each (Opt P) l → Each P (somes l)
  unfolding somes
  each_somes [] h = tt
  each_somes (none ∷ l) h = each_somes l h.1
  each_somes (some a ∷ l) h = (h.0, each_somes l h.1)

module _ {A B : Type 0} (P : A → Type 0) (Q : B → Type 0) where
  pub each_map : (f : A → B) → ((a : A) → P a → Q (f a)) → (l : List A) → Each P l → Each Q (map f l)
  each_map f k [] h = tt
  each_map f k (x ∷ l) h = (k x h.0, each_map f k l h.1)

  pub opt_then : (o : Option A) (f : A → Option B) → Opt P o → ((a : A) → P a → Opt Q (f a)) → Opt Q (and_then o f)
  opt_then none f h k = tt
  opt_then (some a) f h k = k a h

-- two facts of each
pub each_both : {A : Type 0} (P Q : A → Type 0) (l : List A) → Each P l → Each Q l → Each (λ a. P a × Q a) l
each_both P Q [] h k = tt
each_both P Q (x ∷ l) h k = ((h.0, k.0), each_both P Q l h.1 k.1)
