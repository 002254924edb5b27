-- The state of an expansion, and refusals: a step gives an answer and the next state, or a refusal.
use Rattle.std.specs.Prelude.{◌&&◌, List, [], ◌∷◌, ℕ, eqb}
use Rattle.std.proofs.Math.Option.{Option, none, some}
use Rattle.ast.specs.Ast.{Association, Node, ExternProtoDecl}
use Rattle.ast.specs.Choice.{choose}
use Rattle.expansion_definition.specs.Scopes.{Scope}

-- ---- the state

-- an entry of a scope's map from source id to output id
pub record Entry : Type 0 where
  pub scope : ℕ
  pub id : ℕ
  pub out : ℕ

-- the maps of all scopes, newest entry first; of each output node the scope and the source id; the scopes in the order opened
pub record Bookkeeping : Type 0 where
  pub map : List Entry
  pub ledger : List (ℕ × ℕ)
  pub scopes : List Scope

-- an extern that is declared: its document and id, its id in the output
pub record ExternEntry : Type 0 where
  pub document : ℕ
  pub id : ℕ
  pub out : ℕ

-- is_map: the associations of all scopes, each behind its scope's number, in the order met
pub record State : Type 0 where
  pub world : Bookkeeping
  pub nodes : List Node
  pub extern_protos : List ExternProtoDecl
  pub extern_map : List ExternEntry
  pub is_map : List (ℕ × Association)
  pub charges : ℕ

abbrev pub start_state : State
start_state = record { world = record { map = []; ledger = []; scopes = [] }; nodes = []; extern_protos = []; extern_map = []; is_map = []; charges = 0 }

abbrev pub with_world : Bookkeeping → State → State
with_world w st = record { world = w; nodes = st.nodes; extern_protos = st.extern_protos; extern_map = st.extern_map; is_map = st.is_map; charges = st.charges }

abbrev pub with_nodes : List Node → State → State
with_nodes l st = record { world = st.world; nodes = l; extern_protos = st.extern_protos; extern_map = st.extern_map; is_map = st.is_map; charges = st.charges }

-- the output id of a source id in a scope
unfoldable pub lookup : List Entry → ℕ → ℕ → Option ℕ
lookup [] s i = none
lookup (e ∷ l) s i = choose (eqb e.scope s && eqb e.id i) (some e.out) (lookup l s i)

-- ---- steps and refusals

-- a refusal: its number and two place numbers
pub data Result (A : Type 0) : Type 0 where
  refusal : ℕ → ℕ → ℕ → Result A
  ok : A → State → Result A

-- a step with an answer in A
abbrev pub Comp : Type 0 → Type 0
Comp A = State → Result A

unfoldable pub bind_r : {A B : Type 0} → Result A → (A → Comp B) → Result B
bind_r (refusal c d i) k = refusal c d i
bind_r (ok a st) k = k a st

-- one step, then the next; a refusal ends all
infixl 1 ◌>>=◌ ◌>>◌
abbrev pub ◌>>=◌ : {A B : Type 0} → Comp A → (A → Comp B) → Comp B
◌>>=◌ m k = λ st. bind_r (m st) k

abbrev pub ◌>>◌ : {A B : Type 0} → Comp A → Comp B → Comp B
◌>>◌ m k = λ st. bind_r (m st) (λ a. k)

abbrev pub ret : {A : Type 0} → A → Comp A
ret a st = ok a st

abbrev pub fail : {A : Type 0} → ℕ → ℕ → ℕ → Comp A
fail c d i st = refusal c d i

-- each element in order
unfoldable pub map_m : {A B : Type 0} → (A → Comp B) → List A → Comp (List B)
map_m g [] = ret []
map_m g (a ∷ l) = do
  b ← g a
  bs ← map_m g l
  ret (b ∷ bs)

-- each element in order, from what the ones before gave
unfoldable pub fold_m : {A B : Type 0} → (B → A → Comp B) → B → List A → Comp B
fold_m g b [] = ret b
fold_m g b (a ∷ l) = do
  c ← g b a
  fold_m g c l
