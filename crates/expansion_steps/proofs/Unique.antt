-- The steps leave no choice, and a sum over the scopes has one value.
use mathlib.Core.Path.{◌≡◌, refl, ap, sym, ◌∙◌, subst}
use mathlib.Core.List.{List, [], ◌∷◌, map}
use Prim.Native.Nat.{ℕ}
use native.Mathlib.Omega.{arith}
use native.Mathlib.Nat.{le_antisymm}
use lib.ListN.{length}
use Rattle.expansion_steps.proofs.ListLaws.{nodup_length, sum_same}
use Rattle.expansion_steps.specs.Sums.{Count, Sum}
use Rattle.expansion_steps.specs.Steps.{Kind, plain_node, instance_node, Action, copy_id, open_default, Graph, Plain, World, add_mapped, add_plain, add_default, add_body, count, Mapped, Task, one, all, Run, mapped_step, plain_step, instance_step, no_action, then_copy, then_default}

plain_not_instance : {S : Type 0} {k : Kind S} {b : ℕ → S} → k ≡ plain_node → k ≡ instance_node b → ⊥
plain_not_instance p q = let z : ◌≡◌ {A = ℕ} 0 1 = cc in omega arith

same_body : {S : Type 0} {k : Kind S} (b c : ℕ → S) → k ≡ instance_node b → k ≡ instance_node c → b ≡ c
same_body b c p q = cc

same_head : (x y : ℕ) (l k : List ℕ) → ◌≡◌ {A = List ℕ} (x ∷ l) (y ∷ k) → x ≡ y
same_head x y l k e = cc

same_tail : (x y : ℕ) (l k : List ℕ) → ◌≡◌ {A = List ℕ} (x ∷ l) (y ∷ k) → l ≡ k
same_tail x y l k e = cc

-- Every run of the task from w ends in u.
abbrev Ends : (G : Graph) → Task G.Scope → World G.Scope → World G.Scope → Type 0
Ends G t w u = (v : World G.Scope) → Run G t w v → u ≡ v

module _ {G : Graph} {n id : ℕ} {e : G.Scope} {w : World G.Scope} where
  mapped_ends : Mapped w n id → Ends G (one n e id) w w
  mapped_ends m v (mapped_step m') = refl
  mapped_ends m v (plain_step un p r) = absurd (un m)
  mapped_ends m v (instance_step b r rs un i tb eb rv r2 r3) = absurd (un m)

  plain_ends : {u : World G.Scope} → (Mapped w n id → ⊥) → Plain G e id → Ends G (all n e (G.actions e id)) (add_plain n id w) u → Ends G (one n e id) w u
  plain_ends un p h v (mapped_step m) = absurd (un m)
  plain_ends un p h v (plain_step un' p' r) = h v r
  plain_ends un p h v (instance_step b r rs un' i tb eb rv r2 r3) = absurd (plain_not_instance p i)

  module _ {w1 w2 w3 : World G.Scope} (b : ℕ → G.Scope) (r : ℕ) (rs : List ℕ) (i : G.kind e id ≡ instance_node b) (eb : G.starts (b n) ≡ r ∷ rs) (h1 : Ends G (all n e (G.actions e id)) w w1) (h2 : Ends G (one (count w1) (b n) r) (add_body n id (b n) w1) w2) (h3 : Ends G (all (count w1) (b n) (map copy_id rs)) (add_mapped n id w2) w3) where
    body_ends : (c : ℕ → G.Scope) (q : ℕ) (qs : List ℕ) (v1 v2 v3 : World G.Scope) → w1 ≡ v1 → b ≡ c → r ≡ q → rs ≡ qs
        → Run G (one (count v1) (c n) q) (add_body n id (c n) v1) v2 → Run G (all (count v1) (c n) (map copy_id qs)) (add_mapped n id v2) v3 → w3 ≡ v3
    body_ends c q qs v1 v2 v3 e1 ec er es s2 s3 =
        let s2' : Run G (one (count w1) (b n) r) (add_body n id (b n) w1) v2 = rw (e1, ec, er) s2 in
        let s3' : Run G (all (count w1) (b n) (map copy_id rs)) (add_mapped n id w2) v3 = rw (h2 v2 s2', e1, ec, es) s3 in
        h3 v3 s3'

    instance_ends : (Mapped w n id → ⊥) → Ends G (one n e id) w w3
    instance_ends un v (mapped_step m) = absurd (un m)
    instance_ends un v (plain_step un' p' r') = absurd (plain_not_instance p' i)
    instance_ends un v (instance_step {w1 = v1} {w2 = v2} c q qs un' i' tb' eb' rv' s2 s3) =
        let ec : b ≡ c = same_body b c i i' in
        let es : r ∷ rs ≡ q ∷ qs = sym eb ∙ ap (λ (x : ℕ → G.Scope). G.starts (x n)) ec ∙ eb' in
        body_ends c q qs v1 v2 v (h1 v1 rv') ec (same_head r q rs qs es) (same_tail r q rs qs es) s2 s3

module _ {G : Graph} {n : ℕ} {e : G.Scope} where
  nothing_ends : {w : World G.Scope} → Ends G (all n e []) w w
  nothing_ends v no_action = refl

  copy_ends : {w w1 w2 : World G.Scope} {i : ℕ} {l : List (Action G.Scope)} → Ends G (one n e i) w w1 → Ends G (all n e l) w1 w2 → Ends G (all n e (copy_id i ∷ l)) w w2
  copy_ends {l = l} h1 h2 v (then_copy {w1 = v1} a b) = h2 v (subst (λ (x : World G.Scope). Run G (all n e l) x v) (sym (h1 v1 a)) b)

  default_ends : {w w1 w2 : World G.Scope} {b : ℕ → G.Scope} {l : List (Action G.Scope)} → Ends G (all (count w) (b n) (map copy_id (G.starts (b n)))) (add_default (b n) w) w1 → Ends G (all n e l) w1 w2
      → Ends G (all n e (open_default b ∷ l)) w w2
  default_ends {l = l} h1 h2 v (then_default {w1 = v1} b tb x y) = h2 v (subst (λ (z : World G.Scope). Run G (all n e l) z v) (sym (h1 v1 x)) y)

-- Two runs of one task from one world end in one world.
pub run_unique : {G : Graph} {t : Task G.Scope} {w u : World G.Scope} → Run G t w u → (v : World G.Scope) → Run G t w v → u ≡ v
run_unique (mapped_step m) = mapped_ends m
run_unique (plain_step un p r) = plain_ends un p (run_unique r)
run_unique (instance_step b r rs un i tb eb rv r2 r3) = instance_ends b r rs i eb (run_unique rv) (run_unique r2) (run_unique r3) un
run_unique no_action = nothing_ends
run_unique (then_copy a b) = copy_ends (run_unique a) (run_unique b)
run_unique (then_default b tb x y) = default_ends (run_unique x) (run_unique y)

-- The number of the things with Q is one.
pub count_unique : {A : Type 0} {Q : A → Type 0} {k l : ℕ} → Count Q k → Count Q l → k ≡ l
count_unique a b =
    sym a.size ∙ le_antisymm (nodup_length _ _ a.once (λ x m. (b.exact x).1 ((a.exact x).0 m))) (nodup_length _ _ b.once (λ x m. (a.exact x).1 ((b.exact x).0 m))) ∙ b.size

-- The sum over the scopes is one.
pub sum_unique : (G : Graph) {A : Type 0} {Q : G.Scope → A → Type 0} {scopes : List G.Scope} {n m : ℕ} → Sum G Q scopes n → Sum G Q scopes m → n ≡ m
sum_unique G {scopes = scopes} a b = a.total ∙ sum_same (length scopes) a.each b.each (λ s h. count_unique (a.counts s h) (b.counts s h)) ∙ sym b.total
