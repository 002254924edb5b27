-- What charges have paid for: sums of rows, associations that wait for their scope, and the books of a state.
use mathlib.Core.Path.{◌≡◌, refl, ap}
use mathlib.Core.List.{List, [], ◌∷◌, ◌++◌, map, Memᴰ}
use mathlib.Core.Option.{Option, none, some}
use mathlib.Core.Bool.{Bool, true, false, ◌||◌}
use Prim.Native.Nat.{ℕ, zero, suc, ◌+◌, ◌≤◌, ◌<◌}
use native.Mathlib.Omega.{arith}
use lib.ListN.{length, get_elem?, set}
use lib.Dec.{T, eqb, eqb→eq}
use Rattle.ast.specs.Ast.{Field, InterfaceDecl, Statement, Association, Node}
use Rattle.ast.specs.Choice.{choose}
use Rattle.expansion_definition.specs.Input.{Input}
use Rattle.expansion_definition.specs.State.{State, Result, Comp}
use Rattle.expansion_definition.specs.Externs.{no_value}
use Rattle.expansion_definition.specs.PlainCopy.{blank_node, somes}
use Rattle.expansion_definition.specs.Instances.{associations_of}
use Rattle.expansion_definition.specs.Outputs.{sum_of, field_row_count, interface_row_count, content_rows, node_row_count, extern_row_count}
use Rattle.expansion_definition.proofs.Outcome.{Outcome}

-- the numbers of the steps' refusals; where there is no place, 0 and 0
pub data Numbered : ℕ → ℕ → ℕ → Type 0 where
  four : (d i : ℕ) → Numbered 4 d i
  five : (d i : ℕ) → Numbered 5 d i
  six : (d i : ℕ) → Numbered 6 d i
  seven : (d i : ℕ) → Numbered 7 d i
  eight : Numbered 8 0 0
  nine : Numbered 9 0 0
  ten : Numbered 10 0 0

abbrev pub Out : {A : Type 0} → (A → State → Type 0) → Result A → Type 0
Out P m = Outcome Numbered P m

-- ---- sums

abbrev pub one_if : Bool → ℕ
one_if true = 1
one_if false = 0

-- A sum over two lists behind one another.
pub sum_append : {A : Type 0} (g : A → ℕ) (l r : List A) → sum_of g (l ++ r) ≡ sum_of g l + sum_of g r
sum_append g [] r = omega arith
sum_append g (x ∷ l) r = omega (arith, sum_append g l r)

-- A node replaced adds at most its contents' rows.
pub set_sum : (l : List Node) (i : ℕ) (x : Node) → sum_of node_row_count (set l i x) ≤ sum_of node_row_count l + content_rows x
set_sum [] i x = omega arith
set_sum (y ∷ l) zero x = omega arith
set_sum (y ∷ l) (suc i) x = omega (arith, set_sum l i x)

-- A node replaced adds its rows and loses the old one's.
pub set_at : (l : List Node) (i : ℕ) (y x : Node) → get_elem? l i ≡ some y → sum_of node_row_count (set l i x) + node_row_count y ≡ sum_of node_row_count l + node_row_count x
set_at [] i y x e = absurd (let z : ◌≡◌ {A = ℕ} 0 1 = cc in omega arith)
set_at (a ∷ l) zero y x e = let q : a ≡ y = cc in omega (arith, ap content_rows q)
set_at (a ∷ l) (suc i) y x e = omega (arith, set_at l i y x e)

-- An interface without a value is one row.
pub valueless_rows : (l : List InterfaceDecl) → sum_of interface_row_count (map no_value l) ≡ length l
valueless_rows [] = refl
valueless_rows (d ∷ l) = omega (arith, valueless_rows l)

-- A node with nothing in it has no rows below its own.
pub blank_rows : content_rows blank_node ≡ 0
unfolding content_rows
blank_rows = refl

abbrev pub option_row : {A : Type 0} → Option A → ℕ
option_row none = 0
option_row (some a) = 1

abbrev pub option_field : Option Field → ℕ
option_field none = 0
option_field (some f) = field_row_count f

-- The rows of the fields that are kept.
pub somes_fields : (l : List (Option Field)) → sum_of field_row_count (somes l) ≡ sum_of option_field l
unfolding somes
somes_fields [] = refl
somes_fields (none ∷ l) = omega (arith, somes_fields l)
somes_fields (some x ∷ l) = omega (arith, somes_fields l)

-- The rows of the statements that are kept.
pub somes_rows : {A : Type 0} (l : List (Option A)) → length (somes l) ≡ sum_of option_row l
unfolding somes
somes_rows [] = refl
somes_rows (none ∷ l) = omega (arith, somes_rows l)
somes_rows (some x ∷ l) = omega (arith, somes_rows l)

-- ---- associations that wait for their scope's record: those of the scopes that ω holds

abbrev pub waiting : (ℕ → Bool) → List (ℕ × Association) → ℕ
waiting ω l = sum_of (λ x. one_if (ω x.0)) l

-- one scope more
abbrev pub also : (ℕ → Bool) → ℕ → ℕ → Bool
also ω n s = ω s || eqb s n

-- every association is of one of the first n scopes
abbrev pub ScopesBelow : ℕ → List (ℕ × Association) → Type 0
ScopesBelow n l = (x : ℕ × Association) → Memᴰ x l → x.0 < n

-- A scope that no association is of yet adds nothing.
pub waiting_new : (ω : ℕ → Bool) (n : ℕ) (l : List (ℕ × Association)) → ScopesBelow n l → waiting (also ω n) l ≡ waiting ω l
waiting_new ω n [] h = refl
waiting_new ω n (x ∷ l) h = go (ω x.0) (eqb x.0 n) (eqb→eq x.0 n) (waiting_new ω n l (λ y q. h y (Memᴰ.tail q)))
  where
    lt : x.0 < n
    lt = h x (Memᴰ.head refl)

    go : (a b : Bool) → (T b → x.0 ≡ n) → waiting (also ω n) l ≡ waiting ω l → one_if (a || b) + waiting (also ω n) l ≡ one_if a + waiting ω l
    go true b q e = omega arith
    go false true q e = absurd (omega (arith, q tt, lt))
    go false false q e = omega arith

-- A scope's own associations, taken out.
pub waiting_own : (ω : ℕ → Bool) (n : ℕ) → ω n ≡ false → (l : List (ℕ × Association)) → waiting (also ω n) l ≡ waiting ω l + length (associations_of n l)
unfolding associations_of
waiting_own ω n e [] = refl
waiting_own ω n e (x ∷ l) = go (ω x.0) refl (eqb x.0 n) (eqb→eq x.0 n) (waiting_own ω n e l)
  where
    apart : ω x.0 ≡ true → x.0 ≡ n → ⊥
    apart p q = let h : ω x.0 ≡ false = rw q e in let z : ◌≡◌ {A = ℕ} 0 1 = never (ω x.0) p h in omega arith
      where
        never : (b : Bool) → b ≡ true → b ≡ false → ◌≡◌ {A = ℕ} 0 1
        never b p q = cc

    go : (a : Bool) → ω x.0 ≡ a → (b : Bool) → (T b → x.0 ≡ n) → waiting (also ω n) l ≡ waiting ω l + length (associations_of n l)
        → one_if (a || b) + waiting (also ω n) l ≡ one_if a + waiting ω l + length (choose b (x.1 ∷ associations_of n l) (associations_of n l))
    go true ea true q h = absurd (apart ea (q tt))
    go true ea false q h = omega arith
    go false ea true q h = omega arith
    go false ea false q h = omega arith

-- ---- the books

abbrev pub count : State → ℕ
count st = length st.world.scopes

-- what charges have paid for: rows that are there, associations that wait, scopes
abbrev pub worth : (ℕ → Bool) → State → ℕ
worth ω st = sum_of node_row_count st.nodes + sum_of extern_row_count st.extern_protos + waiting ω st.is_map + count st

-- the charges pay for that and for k more
pub record Books (I : Input) (ω : ℕ → Bool) (k : ℕ) (st : State) : Type 0 where
  pub below : ScopesBelow (count st) st.is_map
  pub capped : st.charges ≤ I.limits.max_rows
  pub covers : worth ω st + k ≤ st.charges

-- of an accepted expansion with the top statements l
pub record Covered (I : Input) (l : List Statement) (st : State) : Type 0 where
  pub capped : st.charges ≤ I.limits.max_rows
  pub covers : sum_of node_row_count st.nodes + sum_of extern_row_count st.extern_protos + length st.world.scopes + (2 + length l) ≤ st.charges

-- after a step: no scope is gone, and the charges pay for all and for k more
pub record Booked (I : Input) (ω : ℕ → Bool) (k : ℕ) (st st' : State) : Type 0 where
  pub grown : count st ≤ count st'
  pub books : Books I ω k st'

-- ω holds no scope from number n on
abbrev pub Unopened : (ℕ → Bool) → ℕ → Type 0
Unopened ω n = (s : ℕ) → n ≤ s → ω s ≡ false

-- with n scopes open, on credit k, a computation leaves the credit m of its answer
abbrev pub Cov : {A : Type 0} → Input → ℕ → (ℕ → Bool) → ℕ → Comp A → (A → ℕ) → Type 0
Cov I n ω k c m = (st : State) → n ≤ count st → Unopened ω (count st) → Books I ω k st → Out (λ a st'. Booked I ω (m a) st st') (c st)
