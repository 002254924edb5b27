-- The names that have a value in a body's scope are those of the instance's values.
use mathlib.Core.Path.{◌≡◌, refl, ap, sym, ◌∙◌}
use mathlib.Core.Bool.{Bool, true, false, ◌||◌}
use mathlib.Core.List.{List, [], ◌∷◌, ◌++◌}
use mathlib.Core.Option.{Option, none, some}
use Prim.Native.Nat.{ℕ, suc}
use native.Mathlib.Omega.{arith}
use lib.Dec.{eqb}
use Rattle.ast.specs.Ast.{FieldValue, FieldBinding, Field, InterfaceDecl}
use Rattle.ast.specs.Choice.{choose, and_then}
use Rattle.ast.specs.Lists.{flat}
use Rattle.pick_definition.specs.Picks.{Prototype, member}
use Rattle.expansion_definition.specs.Input.{Input, last_field}
use Rattle.expansion_definition.specs.Scopes.{Scope}
use Rattle.expansion_definition.specs.State.{State, Result, refusal, ok, bind_r}
use Rattle.expansion_definition.specs.Charges.{charge, paid}
use Rattle.expansion_definition.specs.Values.{Values, value_named, Env, Copier}
use Rattle.expansion_definition.specs.Instances.{take_default, clone_or, interface_value, store, values}
use Rattle.expansion_definition.specs.Reached.{Known, gives, is_given, name_if_valued}
use Rattle.expansion_definition.proofs.Outcome.{Outcome, refused, accepted, Any, bind_out, map_out, each}

-- the names are those that have a value in the scope
abbrev pub Shows : Env → List ℕ → Type 0
Shows env names = (t : ℕ) → member t names ≡ is_given (and_then env.is_values (value_named t))

-- the scope of an Env, as the steps know it
abbrev pub known : Env → List ℕ → Known
known env names = record { entry = env.entry; names = names }

-- No name is shown where nothing has a value.
pub none_shown : (t : ℕ) → member t [] ≡ false
unfolding member
none_shown t = refl

abbrev Out : {A : Type 0} → (A → State → Type 0) → Result A → Type 0
Out P m = Outcome Any P m

-- Nothing is said of the answer.
pub anything : {A : Type 0} (m : Result A) → Out (λ a s. Unit {0}) m
anything (refusal c d i) = refused tt
anything (ok a s) = accepted tt

or_assoc : (a b c : Bool) → ((a || b) || c) ≡ (a || (b || c))
or_assoc true b c = refl
or_assoc false b c = refl

or_move : (a b c : Bool) → (b || (a || c)) ≡ ((a || b) || c)
or_move true true c = refl
or_move true false c = refl
or_move false true c = refl
or_move false false c = refl

or_false : (a : Bool) → (a || false) ≡ a
or_false true = refl
or_false false = refl

member_append : (t : ℕ) (l k : List ℕ) → member t (l ++ k) ≡ (member t l || member t k)
unfolding member
member_append t [] k = refl
member_append t (x ∷ l) k = ap (λ (b : Bool). eqb x t || b) (member_append t l k) ∙ sym (or_assoc (eqb x t) (member t l) (member t k))

module _ (I : Input) (f : Env → Copier) where
  take_default_some : (e : Scope) (default : Option FieldValue) (st : State) → Out (λ v s. is_given v ≡ is_given default) (take_default I f e default st)
  unfolding take_default
  take_default_some e none st = accepted refl
  take_default_some e (some v) st = bind_out (anything _) (λ n s u. bind_out (anything _) (λ v' s' u'. accepted refl))

  -- after a store, t has a value if one is stored under it, or it had one
  abbrev Has : ℕ → List ℕ → Values → Values → Type 0
  Has t new vs vs' = is_given (value_named t vs') ≡ (member t new || is_given (value_named t vs))

  -- b: whether there is a value to store
  store_has : (name t : ℕ) (vs : Values) (v : Option FieldValue) (b : Bool) → is_given v ≡ b → (st : State) → Out (λ vs' s. Has t (choose b (name ∷ []) []) vs vs') (store I name vs v st)
  unfolding store paid value_named member bind_r
  store_has name t vs none true q st = absurd (let z : ◌≡◌ {A = ℕ} 0 1 = cc in omega arith)
  store_has name t vs none false q st = accepted refl
  store_has name t vs (some v) false q st = absurd (let z : ◌≡◌ {A = ℕ} 0 1 = cc in omega arith)
  store_has name t vs (some v) true q st = bind_out (anything (charge I st)) (λ u s h. accepted (first (eqb name t)))
    where
      first : (b : Bool) → is_given (choose b (some v) (value_named t vs)) ≡ ((b || false) || is_given (value_named t vs))
      first true = refl
      first false = refl

  -- in a scope of which the names are shown
  module _ (env : Env) (names : List ℕ) (hn : Shows env names) where
    -- An interface has a value where its field gives one or there is a default.
    interface_value_some : (e : Scope) (default : Option FieldValue) (given : Option FieldBinding) (st : State) → Out (λ v s. is_given v ≡ (gives names given || is_given default)) (interface_value I f env e default given st)
    unfolding interface_value clone_or
    interface_value_some e default (some (FieldBinding.Value v)) st = bind_out (anything _) (λ v' s u. accepted refl)
    interface_value_some e default (some (FieldBinding.Is t)) st = rw (hn t) (is (and_then env.is_values (value_named t)))
      where
        is : (o : Option FieldValue) → Out (λ v s. is_given v ≡ (is_given o || is_given default)) (clone_or I (take_default I f e default) o st)
        is none = take_default_some e default st
        is (some v) = bind_out (anything _) (λ v' s u. accepted refl)
    interface_value_some e default none st = take_default_some e default st

    values_has : (t : ℕ) (p : Prototype) (fields : List Field) (k : ℕ) (l : List InterfaceDecl) (vs : Values) (st : State) → Out (λ vs' s. Has t (flat (name_if_valued names fields) l) vs vs') (values I f env p fields k l vs st)
    unfolding values member
    values_has t p fields k [] vs st = accepted refl
    values_has t p fields k (d ∷ l) vs st =
        bind_out (interface_value_some (Scope.Default p k env.scope) d.value (last_field d.name fields) st)
        (λ v s1 q. bind_out (store_has d.name t vs v _ q s1) (λ vs1 s2 q1. map_out (values_has t p fields (suc k) l vs1 s2) (λ vs2 s3 q2. joined vs1 vs2 q1 q2)))
      where
        joined : (vs1 vs2 : Values) → Has t (name_if_valued names fields d) vs vs1 → Has t (flat (name_if_valued names fields) l) vs1 vs2 → Has t (name_if_valued names fields d ++ flat (name_if_valued names fields) l) vs vs2
        joined vs1 vs2 q1 q2 = rw (q2, q1, member_append) (or_move (member t (name_if_valued names fields d)) (member t (flat (name_if_valued names fields) l)) (is_given (value_named t vs)))

    -- The body of an instance with these fields, of a PROTO with these interfaces, shows the names of those that have a value.
    pub values_shown : (p : Prototype) (fields : List Field) (l : List InterfaceDecl) (st : State) → Out (λ vs s. (t : ℕ) → member t (flat (name_if_valued names fields) l) ≡ is_given (value_named t vs)) (values I f env p fields 0 l [] st)
    unfolding value_named
    values_shown p fields l st = each _ 0 (λ t. map_out (values_has t p fields 0 l [] st) (λ vs s q. sym (q ∙ or_false (member t (flat (name_if_valued names fields) l)))))
