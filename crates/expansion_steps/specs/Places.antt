-- Where the steps come to on their way: a run up to a node, whether or not the steps go on from there.
use Rattle.std.specs.Prelude.{◌≡◌, List, [], ◌∷◌, ◌++◌, map, true, false, ℕ, suc}
use Rattle.expansion_steps.specs.Steps.{instance_node, Action, copy_id, open_default, Graph, Plain, World, add_mapped, add_plain, add_default, add_body, Mapped, count, Task, one, all, Run, mapped_step, plain_step, instance_step, no_action, then_copy, then_default}

-- The task, begun in the world w, comes to the id i of scope number m, whose entry is s: k nodes of the task are open then, and v is the world.
-- All that stands before that id in the order of the steps is run to its end; a node is open from its first step to its last.
pub data Comes (G : Graph) : Task G.Scope → World G.Scope → ℕ → ℕ → G.Scope → ℕ → World G.Scope → Type 0 where
  here : {n id : ℕ} {e : G.Scope} {w : World G.Scope} → Comes G (one n e id) w 0 n e id w
  -- in the contents of a plain node
  in_plain : {n id k m i : ℕ} {e s : G.Scope} {w v : World G.Scope} → (Mapped w n id → ⊥) → Plain G e id
      → Comes G (all n e (G.actions e id)) (add_plain n id w) k m s i v → Comes G (one n e id) w (suc k) m s i v
  -- in the values of an instance
  in_values : {n id k m i : ℕ} {e s : G.Scope} {w v : World G.Scope} (b : ℕ → G.Scope) → (Mapped w n id → ⊥) → G.kind e id ≡ instance_node b
      → Comes G (all n e (G.actions e id)) w k m s i v → Comes G (one n e id) w (suc k) m s i v
  -- in the first root of its body
  in_root : {n id k m i : ℕ} {e s : G.Scope} {w w1 v : World G.Scope} (b : ℕ → G.Scope) (r : ℕ) (rs : List ℕ)
      → (Mapped w n id → ⊥) → G.kind e id ≡ instance_node b → G.is_body (b n) ≡ true → G.starts (b n) ≡ r ∷ rs
      → Run G (all n e (G.actions e id)) w w1 → Comes G (one (count w1) (b n) r) (add_body n id (b n) w1) k m s i v → Comes G (one n e id) w (suc k) m s i v
  -- in the other roots
  in_others : {n id k m i : ℕ} {e s : G.Scope} {w w1 w2 v : World G.Scope} (b : ℕ → G.Scope) (r : ℕ) (rs : List ℕ)
      → (Mapped w n id → ⊥) → G.kind e id ≡ instance_node b → G.is_body (b n) ≡ true → G.starts (b n) ≡ r ∷ rs
      → Run G (all n e (G.actions e id)) w w1 → Run G (one (count w1) (b n) r) (add_body n id (b n) w1) w2
      → Comes G (all (count w1) (b n) (map copy_id rs)) (add_mapped n id w2) k m s i v → Comes G (one n e id) w (suc k) m s i v
  -- in the first action, or after it
  in_copy : {n j k m i : ℕ} {e s : G.Scope} {l : List (Action G.Scope)} {w v : World G.Scope}
      → Comes G (one n e j) w k m s i v → Comes G (all n e (copy_id j ∷ l)) w k m s i v
  after_copy : {n j k m i : ℕ} {e s : G.Scope} {l : List (Action G.Scope)} {w w1 v : World G.Scope}
      → Run G (one n e j) w w1 → Comes G (all n e l) w1 k m s i v → Comes G (all n e (copy_id j ∷ l)) w k m s i v
  in_default : {n k m i : ℕ} {e s : G.Scope} {l : List (Action G.Scope)} {w v : World G.Scope} (b : ℕ → G.Scope) → G.is_body (b n) ≡ false
      → Comes G (all (count w) (b n) (map copy_id (G.starts (b n)))) (add_default (b n) w) k m s i v → Comes G (all n e (open_default b ∷ l)) w k m s i v
  after_default : {n k m i : ℕ} {e s : G.Scope} {l : List (Action G.Scope)} {w w1 v : World G.Scope} (b : ℕ → G.Scope) → G.is_body (b n) ≡ false
      → Run G (all (count w) (b n) (map copy_id (G.starts (b n)))) (add_default (b n) w) w1 → Comes G (all n e l) w1 k m s i v → Comes G (all n e (open_default b ∷ l)) w k m s i v

module _ {G : Graph} {n : ℕ} {e : G.Scope} where
  -- Where actions come to, they come to with others behind them,
  pub comes_left : {l : List (Action G.Scope)} (r : List (Action G.Scope)) {w v : World G.Scope} {k m i : ℕ} {s : G.Scope} → Comes G (all n e l) w k m s i v → Comes G (all n e (l ++ r)) w k m s i v
  comes_left r (in_copy c) = in_copy c
  comes_left r (after_copy a c) = after_copy a (comes_left r c)
  comes_left r (in_default b tb c) = in_default b tb c
  comes_left r (after_default b tb a c) = after_default b tb a (comes_left r c)

  -- and those behind them, once they are run.
  pub comes_right : {l r : List (Action G.Scope)} {w w1 v : World G.Scope} {k m i : ℕ} {s : G.Scope} → Run G (all n e l) w w1 → Comes G (all n e r) w1 k m s i v → Comes G (all n e (l ++ r)) w k m s i v
  comes_right no_action c = c
  comes_right (then_copy a x) c = after_copy a (comes_right x c)
  comes_right (then_default b tb x y) c = after_default b tb x (comes_right y c)
