-- A list of rows that fit, one after the other.
use mathlib.Core.Path.{◌≡◌, refl}
use mathlib.Core.List.{List, [], ◌∷◌}
use mathlib.Core.Bool.{Bool, true, false}
use Prim.Native.Nat.{ℕ, suc}
use native.Mathlib.Omega.{arith}
use Rattle.sheet_rows.specs.declared.row.Row.{Row}
use Rattle.sheet_check.specs.declared.grammar.Form.{Form}
use Rattle.sheet_check.specs.declared.grammar.State.{State}
use Rattle.std.specs.Prelude.{Option, Some, None}
use Rattle.sheet_check.specs.Checked.{Fits, Bad}
use Rattle.ast.specs.Choice.{choose}
use Rattle.sheet_check.specs.Grammar.{fits, run, go_on, has_ended}

-- a state by its columns
abbrev pub at : ℕ → ℕ → ℕ → ℕ → ℕ → State
at p la i ro ass = record { part = p; last = la; ids = i; routes = ro; associations = ass }

-- nothing is owed
abbrev pub bare : ℕ → ℕ → State
bare p la = at p la 0 0 0

-- a refusal is no step
pub no_go : {A : Type 0} {t : State} → None ≡ Some t → A
no_go h = let z : ◌≡◌ {A = ℕ} 0 1 = cc in absurd (omega arith)

-- a step leads to one state
pub go_inj : {u t : State} → Some u ≡ Some t → u ≡ t
go_inj h = cc

-- a step that is made by a test: the test holds
pub go_l : (b : Bool) (x : Option State) (t : State) → choose b x None ≡ Some t → b ≡ true
go_l true x t h = refl
go_l false x t h = no_go h

-- and the step is that of its first branch
pub go_r : (b : Bool) (x : Option State) (t : State) → choose b x None ≡ Some t → x ≡ Some t
go_r true x t h = h
go_r false x t h = no_go h

-- a refusal does not fit
bad_fits : {A : Type 0} {n : ℕ} → Bad n ≡ Fits → A
bad_fits h = let z : ◌≡◌ {A = ℕ} 0 1 = cc in absurd (omega arith)

-- a sheet that fits may end
end_of : (b : Bool) (n : ℕ) → choose b Fits (Bad n) ≡ Fits → b ≡ true
end_of true n h = refl
end_of false n h = bad_fits h

-- the rows fit from a state on, and the sheet may end after them
abbrev pub Accepts : Form → State → List Row → Type 0
Accepts form s [] = has_ended form s ≡ true
Accepts form s (r ∷ l) = (t : State) × (fits form s r ≡ Some t) × Accepts form t l

-- where the check says so, they do
pub accepts : (form : Form) (R : List Row) (s : State) (n : ℕ) → run form s n R ≡ Fits → Accepts form s R
unfolding run
accepts form [] s n h = end_of (has_ended form s) n h
accepts form (r ∷ l) s n h = go (fits form s r) refl h (λ (t : State) (k : run form t (suc n) l ≡ Fits). accepts form l t (suc n) k)
  where
    go : (x : Option State) → fits form s r ≡ x → go_on x (λ t. run form t (suc n) l) n ≡ Fits → ((t : State) → run form t (suc n) l ≡ Fits → Accepts form t l) → Accepts form s (r ∷ l)
    go (Some t) e k ih = (t, e, ih t k)
    go None e k ih = bad_fits k

-- and where they do, the check says so
pub accepted : (form : Form) (R : List Row) (s : State) (n : ℕ) → Accepts form s R → run form s n R ≡ Fits
unfolding run
accepted form [] s n h = rw h
accepted form (r ∷ l) s n h = rw h.1 (accepted form l h.0 (suc n) h.2)
