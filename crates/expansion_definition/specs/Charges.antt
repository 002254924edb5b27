-- Charges (document 01, Charges): "one each; the one that would make more than K gives 10".
use Rattle.std.specs.Prelude.{Bool, true, false, List, [], ◌∷◌, suc, ltb}
use Rattle.expansion_definition.specs.Input.{Input}
use Rattle.expansion_definition.specs.State.{State, refusal, ok, Comp, ◌>>=◌, ◌>>◌, ret}

abbrev pub one_more : State → State
one_more st = record { world = st.world; nodes = st.nodes; extern_protos = st.extern_protos; extern_map = st.extern_map; is_map = st.is_map; charges = suc st.charges }

unfoldable pub charge_if : Bool → Comp (Unit {0})
charge_if true st = ok tt (one_more st)
charge_if false st = refusal 10 0 0

unfoldable pub charge : Input → Comp (Unit {0})
charge I st = charge_if (ltb st.charges I.limits.max_rows) st

-- a charge for each element
unfoldable pub charge_each : {A : Type 0} → Input → List A → Comp (Unit {0})
charge_each I [] = ret tt
charge_each I (x ∷ l) = do
  charge I
  charge_each I l

-- "The moment is the Rust's push, insert or clone.": first what is pushed, then its charge
unfoldable pub paid : {A : Type 0} → Input → Comp A → Comp A
paid I m = do
  a ← m
  charge I
  ret a
