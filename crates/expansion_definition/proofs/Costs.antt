-- What a state holds beside what it was charged, and the runs with what they count, taken apart.
use mathlib.Core.Path.{◌≡◌, refl, ap, sym, ◌∙◌, subst}
use mathlib.Core.List.{List, [], ◌∷◌, ◌++◌, map, append_assoc, append-nil}
use Prim.Native.Nat.{ℕ, ◌+◌}
use native.Mathlib.Omega.{arith}
use lib.ListN.{length}
use Rattle.expansion_steps.specs.Steps.{Kind, plain_node, instance_node, Action, copy_id, open_default, add_mapped, add_plain, add_default, add_body, Mapped, count, Task, one, all, Run, mapped_step, plain_step, instance_step, no_action, then_copy, then_default}
use Rattle.expansion_steps.specs.Steps
use Rattle.expansion_definition.specs.Input.{Input}
use Rattle.expansion_definition.specs.State.{Bookkeeping, State}
use Rattle.expansion_definition.specs.Values.{Values}
use Rattle.expansion_definition.specs.Reached.{Known, node_in_scope, graph}
use Rattle.expansion_definition.specs.Outputs.{sum_of, extern_row_count}
use Rattle.expansion_definition.specs.Counted.{of_node, of_scope, associations_in, body_values, of_run}
use Rattle.expansion_definition.proofs.Worlds.{key}
use Rattle.expansion_definition.proofs.Sizes.{size}

module _ (I : Input) where
  -- ---- the books

  -- what is there of what is counted in the output and the scope list
  abbrev pub worth : State → ℕ
  worth st = sum_of of_node st.nodes + sum_of extern_row_count st.extern_protos + sum_of (of_scope I) st.world.scopes

  abbrev pub kepts : State → List ℕ
  kepts st = map of_node st.nodes

  -- with x charged that isn't there, a step leaves y charged that isn't there; the nodes that were there count as before
  pub record Spent (x : ℕ) (st st' : State) (y : ℕ) : Type 0 where
    pub more : List ℕ
    pub nodes : kepts st' ≡ kepts st ++ more
    pub paid' : st'.charges + worth st + x ≡ st.charges + worth st' + y

  pub spent_then : {x y z : ℕ} {a b c : State} → Spent x a b y → Spent y b c z → Spent x a c z
  spent_then {a = a} p q = record { more = p.more ++ q.more; nodes = q.nodes ∙ ap (λ (l : List ℕ). l ++ q.more) p.nodes ∙ append_assoc (kepts a) p.more q.more; paid' = omega arith }

  -- Other credits, as far apart.
  pub spent_as : {x y : ℕ} {a b : State} (x' y' : ℕ) → x + y' ≡ x' + y → Spent x a b y → Spent x' a b y'
  spent_as x' y' e p = record { more = p.more; nodes = p.nodes; paid' = omega arith }

  -- A step that leaves the nodes as they are.
  pub spent_still : {x y : ℕ} (a b : State) → kepts b ≡ kepts a → b.charges + worth a + x ≡ a.charges + worth b + y → Spent x a b y
  spent_still a b e q = record { more = []; nodes = e ∙ sym (append-nil (kepts a)); paid' = q }

  -- ---- the world that a run is in

  pub record Sees (w : Steps.World Known) (v : Bookkeeping) : Type 0 where
    pub mapped : w.mapped ≡ map key v.map
    pub scopes : length w.scopes ≡ length v.scopes

  pub sees_same : {w w' : Steps.World Known} {v v' : Bookkeeping} → w ≡ w' → v' ≡ v → Sees w v → Sees w' v'
  sees_same p q s = record { mapped = ap (λ (u : Steps.World Known). u.mapped) (sym p) ∙ s.mapped ∙ ap (λ (u : Bookkeeping). map key u.map) (sym q); scopes = ap (λ (u : Steps.World Known). length u.scopes) (sym p) ∙ s.scopes ∙ ap (λ (u : Bookkeeping). length u.scopes) (sym q) }

  -- ---- runs and what they count, taken apart

  pub record Costs (vs : Values) (t : Task Known) (w w' : Steps.World Known) (k : ℕ) : Type 0 where
    pub run : Run (graph I) t w w'
    pub is : of_run I vs run ≡ k

  pub none_costs : {vs : Values} {n : ℕ} {e : Known} {w w' : Steps.World Known} {k : ℕ} → Costs vs (all n e []) w w' k → (w ≡ w') × (k ≡ 0)
  unfolding of_run
  none_costs {vs} {n} {e} {w} {w'} {k} c = go w' c.run c.is
    where
      go : (v : Steps.World Known) (r : Run (graph I) (all n e []) w v) → of_run I vs r ≡ k → (w ≡ v) × (k ≡ 0)
      go v no_action q = (refl, sym q)

  pub no_costs : {vs : Values} {n : ℕ} {e : Known} {w : Steps.World Known} → Costs vs (all n e []) w w 0
  unfolding of_run
  no_costs = record { run = no_action; is = refl }

  -- one task after the other
  pub record Split (vs : Values) (t t' : Task Known) (w w' : Steps.World Known) (k : ℕ) : Type 0 where
    pub mid : Steps.World Known
    pub k1 : ℕ
    pub k2 : ℕ
    pub first : Costs vs t w mid k1
    pub second : Costs vs t' mid w' k2
    pub sum : k ≡ k1 + k2

  module _ {vs : Values} {n : ℕ} {e : Known} where
    split_run : (l k : List (Action Known)) (w w' : Steps.World Known) (r : Run (graph I) (all n e (l ++ k)) w w') → Split vs (all n e l) (all n e k) w w' (of_run I vs r)
    unfolding of_run
    split_run [] k w w' r = record { mid = w; k1 = 0; k2 = of_run I vs r; first = record { run = no_action; is = refl }; second = record { run = r; is = refl }; sum = omega arith }
    split_run (copy_id i ∷ l) k w w' (then_copy {w1 = v} a b) =
        let s = split_run l k v w' b in
        record { mid = s.mid; k1 = of_run I vs a + s.k1; k2 = s.k2; first = record { run = then_copy a s.first.run; is = ap (λ (x : ℕ). of_run I vs a + x) s.first.is }; second = s.second; sum = omega (arith, s.sum) }
    split_run (open_default d ∷ l) k w w' (then_default {w1 = v} b tb x y) =
        let s = split_run l k v w' y in
        record { mid = s.mid; k1 = of_run I [] x + s.k1; k2 = s.k2; first = record { run = then_default b tb x s.first.run; is = ap (λ (z : ℕ). of_run I [] x + z) s.first.is }; second = s.second; sum = omega (arith, s.sum) }

    pub split_costs : (l k : List (Action Known)) {w w' : Steps.World Known} {c : ℕ} → Costs vs (all n e (l ++ k)) w w' c → Split vs (all n e l) (all n e k) w w' c
    split_costs l k {w} {w'} cs = subst (λ (c : ℕ). Split vs (all n e l) (all n e k) w w' c) cs.is (split_run l k w w' cs.run)

    head_run : (i : ℕ) (l : List (Action Known)) (w w' : Steps.World Known) (r : Run (graph I) (all n e (copy_id i ∷ l)) w w') → Split vs (one n e i) (all n e l) w w' (of_run I vs r)
    unfolding of_run
    head_run i l w w' (then_copy {w1 = v} a b) = record { mid = v; k1 = of_run I vs a; k2 = of_run I vs b; first = record { run = a; is = refl }; second = record { run = b; is = refl }; sum = refl }

    pub head_costs : {i : ℕ} {l : List (Action Known)} {w w' : Steps.World Known} {c : ℕ} → Costs vs (all n e (copy_id i ∷ l)) w w' c → Split vs (one n e i) (all n e l) w w' c
    head_costs {i} {l} {w} {w'} cs = subst (λ (c : ℕ). Split vs (one n e i) (all n e l) w w' c) cs.is (head_run i l w w' cs.run)

  default_run : (vs : Values) (n : ℕ) (e : Known) (b : ℕ → Known) (w w' : Steps.World Known) (r : Run (graph I) (all n e (open_default b ∷ [])) w w') → Costs [] (all (count w) (b n) (map copy_id ((graph I).starts (b n)))) (add_default (b n) w) w' (of_run I vs r)
  unfolding of_run
  default_run vs n e d w w' (then_default b tb x no_action) = record { run = x; is = omega arith }

  -- a default scope, and nothing after it
  pub default_costs : {vs : Values} {n : ℕ} {e : Known} {b : ℕ → Known} {w w' : Steps.World Known} {c : ℕ} → Costs vs (all n e (open_default b ∷ [])) w w' c → Costs [] (all (count w) (b n) (map copy_id ((graph I).starts (b n)))) (add_default (b n) w) w' c
  default_costs {vs} {n} {e} {b} {w} {w'} cs = subst (λ (c : ℕ). Costs [] (all (count w) (b n) (map copy_id ((graph I).starts (b n)))) (add_default (b n) w) w' c) cs.is (default_run vs n e b w w' cs.run)

  -- ---- one id

  plain_not_instance : {k : Kind Known} {b : ℕ → Known} → k ≡ plain_node → k ≡ instance_node b → ⊥
  plain_not_instance p q = let z : ◌≡◌ {A = ℕ} 0 1 = cc in omega arith

  same_body : {k : Kind Known} (b c : ℕ → Known) → k ≡ instance_node b → k ≡ instance_node c → b ≡ c
  same_body b c p q = cc

  pub record PlainCosts (vs : Values) (n : ℕ) (e : Known) (i : ℕ) (w w' : Steps.World Known) (c : ℕ) : Type 0 where
    pub k : ℕ
    pub inside : Costs vs (all n e ((graph I).actions e i)) (add_plain n i w) w' k
    pub sum : c ≡ associations_in (node_in_scope I e.entry i) + k

  pub record InstanceCosts (vs : Values) (n : ℕ) (e : Known) (i : ℕ) (b : ℕ → Known) (w w' : Steps.World Known) (c : ℕ) : Type 0 where
    pub w1 : Steps.World Known
    pub w2 : Steps.World Known
    pub r : ℕ
    pub rs : List ℕ
    pub starts : (graph I).starts (b n) ≡ r ∷ rs
    pub k1 : ℕ
    pub k2 : ℕ
    pub k3 : ℕ
    pub values' : Costs vs (all n e ((graph I).actions e i)) w w1 k1
    pub first : Costs (body_values I vs e i (b n).entry) (one (count w1) (b n) r) (add_body n i (b n) w1) w2 k2
    pub others : Costs (body_values I vs e i (b n).entry) (all (count w1) (b n) (map copy_id rs)) (add_mapped n i w2) w' k3
    pub sum : c ≡ k1 + size (body_values I vs e i (b n).entry) + k2 + k3

  module _ (vs : Values) (n : ℕ) (e : Known) (i : ℕ) (w : Steps.World Known) where
    pub mapped_run : Mapped w n i → (w' : Steps.World Known) (r : Run (graph I) (one n e i) w w') → (w ≡ w') × (of_run I vs r ≡ 0)
    unfolding of_run
    mapped_run m w' (mapped_step m') = (refl, refl)
    mapped_run m w' (plain_step un p r) = absurd (un m)
    mapped_run m w' (instance_step b r rs un q tb eb rv r2 r3) = absurd (un m)

    pub plain_run : (Mapped w n i → ⊥) → (graph I).kind e i ≡ plain_node → (w' : Steps.World Known) (r : Run (graph I) (one n e i) w w') → PlainCosts vs n e i w w' (of_run I vs r)
    unfolding of_run
    plain_run un p w' (mapped_step m) = absurd (un m)
    plain_run un p w' (plain_step un' p' r) = record { k = of_run I vs r; inside = record { run = r; is = refl }; sum = refl }
    plain_run un p w' (instance_step b r rs un' q tb eb rv r2 r3) = absurd (plain_not_instance p q)

    pub instance_run : (b : ℕ → Known) → (Mapped w n i → ⊥) → (graph I).kind e i ≡ instance_node b → (w' : Steps.World Known) (r : Run (graph I) (one n e i) w w') → InstanceCosts vs n e i b w w' (of_run I vs r)
    unfolding of_run
    instance_run b un q w' (mapped_step m) = absurd (un m)
    instance_run b un q w' (plain_step un' p r) = absurd (plain_not_instance p q)
    instance_run b un q w' (instance_step {w1 = w1} {w2 = w2} c r rs un' q' tb eb rv r2 r3) = subst (λ (x : ℕ → Known). InstanceCosts vs n e i x w w' (of_run I vs rv + size (body_values I vs e i (c n).entry) + of_run I (body_values I vs e i (c n).entry) r2 + of_run I (body_values I vs e i (c n).entry) r3)) (same_body c b q' q) (record {
      w1 = w1;
      w2 = w2;
      r = r;
      rs = rs;
      starts = eb;
      k1 = of_run I vs rv;
      k2 = of_run I (body_values I vs e i (c n).entry) r2;
      k3 = of_run I (body_values I vs e i (c n).entry) r3;
      values' = record { run = rv; is = refl };
      first = record { run = r2; is = refl };
      others = record { run = r3; is = refl };
      sum = refl;
    })
