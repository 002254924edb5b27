-- Runs that open at most so many nodes at once, each with P; and what a whole run does at each place that the steps come to.
use mathlib.Core.Path.{◌≡◌, refl, ap, sym, ◌∙◌, subst}
use mathlib.Core.List.{List, [], ◌∷◌, ◌++◌, map}
use mathlib.Core.Bool.{true, false}
use Prim.Native.Nat.{ℕ, suc, ◌≤◌, ◌<◌}
use native.Mathlib.Nat.{le_refl, le_trans}
use native.Mathlib.Omega.{arith}
use lib.ListN.{length, length-append}
use Rattle.expansion_steps.specs.Steps.{Kind, plain_node, instance_node, Action, copy_id, open_default, Graph, Plain, World, add_mapped, add_plain, add_default, add_body, Mapped, count, Task, one, all, Run, mapped_step, plain_step, instance_step, no_action, then_copy, then_default}
use Rattle.expansion_steps.specs.Places.{Comes, here, in_plain, in_values, in_root, in_others, in_copy, after_copy, in_default, after_default}
use Rattle.expansion_steps.proofs.Unique.{run_unique}

-- ---- runs with so many nodes to open, each of which has P

pub data Within (G : Graph) (P : G.Scope → ℕ → Type 0) : ℕ → Task G.Scope → World G.Scope → World G.Scope → Type 0 where
  mapped_within : {left n id : ℕ} {e : G.Scope} {w : World G.Scope} → Mapped w n id → Within G P left (one n e id) w w
  plain_within : {left n id : ℕ} {e : G.Scope} {w w' : World G.Scope} → (Mapped w n id → ⊥) → Plain G e id → P e id → Within G P left (all n e (G.actions e id)) (add_plain n id w) w' → Within G P (suc left) (one n e id) w w'
  instance_within : {left n id : ℕ} {e : G.Scope} {w w1 w2 w3 : World G.Scope} (b : ℕ → G.Scope) (r : ℕ) (rs : List ℕ)
      → (Mapped w n id → ⊥) → G.kind e id ≡ instance_node b → G.is_body (b n) ≡ true → G.starts (b n) ≡ r ∷ rs → P e id
      → Within G P left (all n e (G.actions e id)) w w1 → Within G P left (one (count w1) (b n) r) (add_body n id (b n) w1) w2
      → Within G P left (all (count w1) (b n) (map copy_id rs)) (add_mapped n id w2) w3 → Within G P (suc left) (one n e id) w w3
  no_within : {left n : ℕ} {e : G.Scope} {w : World G.Scope} → Within G P left (all n e []) w w
  copy_within : {left n i : ℕ} {e : G.Scope} {l : List (Action G.Scope)} {w w1 w2 : World G.Scope}
      → Within G P left (one n e i) w w1 → Within G P left (all n e l) w1 w2 → Within G P left (all n e (copy_id i ∷ l)) w w2
  default_within : {left n : ℕ} {e : G.Scope} {l : List (Action G.Scope)} {w w1 w2 : World G.Scope} (b : ℕ → G.Scope) → G.is_body (b n) ≡ false
      → Within G P left (all (count w) (b n) (map copy_id (G.starts (b n)))) (add_default (b n) w) w1 → Within G P left (all n e l) w1 w2 → Within G P left (all n e (open_default b ∷ l)) w w2

-- They are runs.
pub within_run : {G : Graph} {P : G.Scope → ℕ → Type 0} {left : ℕ} {t : Task G.Scope} {w w' : World G.Scope} → Within G P left t w w' → Run G t w w'
within_run (mapped_within m) = mapped_step m
within_run (plain_within un p z r) = plain_step un p (within_run r)
within_run (instance_within b r rs un i tb e z rv r2 r3) = instance_step b r rs un i tb e (within_run rv) (within_run r2) (within_run r3)
within_run no_within = no_action
within_run (copy_within a b) = then_copy (within_run a) (within_run b)
within_run (default_within b tb x y) = then_default b tb (within_run x) (within_run y)

-- Two of them, one after the other.
pub append_within : {G : Graph} {P : G.Scope → ℕ → Type 0} {left n : ℕ} {e : G.Scope} {l k : List (Action G.Scope)} {w w1 w2 : World G.Scope} → Within G P left (all n e l) w w1 → Within G P left (all n e k) w1 w2 → Within G P left (all n e (l ++ k)) w w2
append_within no_within q = q
append_within (copy_within a b) q = copy_within a (append_within b q)
append_within (default_within b tb x y) q = default_within b tb x (append_within y q)

-- ---- what a run does at a place

-- The ledger grows.
ledger_grows : {G : Graph} {t : Task G.Scope} {w w' : World G.Scope} → Run G t w w' → length w.ledger ≤ length w'.ledger
ledger_grows (mapped_step m) = le_refl _
ledger_grows {w = w} (plain_step {n} {id} un p r) = omega (arith, length-append w.ledger ((n, id) ∷ []), ledger_grows r)
ledger_grows (instance_step b r rs un i tb e rv r2 r3) = le_trans (ledger_grows rv) (le_trans (ledger_grows r2) (ledger_grows r3))
ledger_grows no_action = le_refl _
ledger_grows (then_copy a b) = le_trans (ledger_grows a) (ledger_grows b)
ledger_grows (then_default b tb x y) = le_trans (ledger_grows x) (ledger_grows y)

-- With k of `left` nodes open, the id i of scope number m, of which s is known, is copied in the world v, and in the end the world is u: P, and a plain node, which is listed; or an instance, whose body has a root.
pub data Passes (G : Graph) (P : G.Scope → ℕ → Type 0) (left k m : ℕ) (s : G.Scope) (i : ℕ) (v u : World G.Scope) : Type 0 where
  pass_plain : k < left → P s i → Plain G s i → length v.ledger < length u.ledger → Passes G P left k m s i v u
  pass_instance : k < left → P s i → (b : ℕ → G.Scope) (r : ℕ) (rs : List ℕ) → G.kind s i ≡ instance_node b → G.starts (b m) ≡ r ∷ rs → Passes G P left k m s i v u

plain_not_instance : {S : Type 0} {k : Kind S} {b : ℕ → S} → k ≡ plain_node → k ≡ instance_node b → ⊥
plain_not_instance p q = let z : ◌≡◌ {A = ℕ} 0 1 = cc in omega arith

same_body : {S : Type 0} {k : Kind S} (b c : ℕ → S) → k ≡ instance_node b → k ≡ instance_node c → b ≡ c
same_body b c p q = cc

same_head : (x y : ℕ) (l k : List ℕ) → ◌≡◌ {A = List ℕ} (x ∷ l) (y ∷ k) → x ≡ y
same_head x y l k e = cc

same_tail : (x y : ℕ) (l k : List ℕ) → ◌≡◌ {A = List ℕ} (x ∷ l) (y ∷ k) → l ≡ k
same_tail x y l k e = cc

-- every such run of the task from w passes the place
abbrev PassedBy : (G : Graph) (P : G.Scope → ℕ → Type 0) (k m : ℕ) (s : G.Scope) (i : ℕ) (v : World G.Scope) → Task G.Scope → World G.Scope → Type 0
PassedBy G P k m s i v t w = (left : ℕ) (u : World G.Scope) → Within G P left t w u → Passes G P left k m s i v u

module _ {G : Graph} {P : G.Scope → ℕ → Type 0} {k m i : ℕ} {s : G.Scope} {v : World G.Scope} where
  -- inside a further node
  up : {left : ℕ} {u : World G.Scope} → Passes G P left k m s i v u → Passes G P (suc left) (suc k) m s i v u
  up (pass_plain l z p h) = pass_plain (omega arith) z p h
  up (pass_instance l z b r rs q e) = pass_instance (omega arith) z b r rs q e

  -- and further on
  on : {left : ℕ} {u u' : World G.Scope} → length u.ledger ≤ length u'.ledger → Passes G P left k m s i v u → Passes G P left k m s i v u'
  on g (pass_plain l z p h) = pass_plain l z p (omega arith)
  on g (pass_instance l z b r rs q e) = pass_instance l z b r rs q e

  module _ {n id : ℕ} {e : G.Scope} {w : World G.Scope} where
    plain_passes : (Mapped w n id → ⊥) → Plain G e id → PassedBy G P k m s i v (all n e (G.actions e id)) (add_plain n id w) → PassedBy G P (suc k) m s i v (one n e id) w
    plain_passes un p h left u (mapped_within x) = absurd (un x)
    plain_passes un p h left u (plain_within un' p' z r) = up (h _ u r)
    plain_passes un p h left u (instance_within b r rs un' q tb eb z rv r2 r3) = absurd (plain_not_instance p q)

    module _ (b : ℕ → G.Scope) (un : Mapped w n id → ⊥) (q : G.kind e id ≡ instance_node b) where
      values_pass : PassedBy G P k m s i v (all n e (G.actions e id)) w → PassedBy G P (suc k) m s i v (one n e id) w
      values_pass h left u (mapped_within x) = absurd (un x)
      values_pass h left u (plain_within un' p' z r) = absurd (plain_not_instance p' q)
      values_pass h left u (instance_within c r rs un' q' tb eb z rv r2 r3) = up (on (le_trans (ledger_grows (within_run r2)) (ledger_grows (within_run r3))) (h _ _ rv))

      module _ {w1 : World G.Scope} (r : ℕ) (rs : List ℕ) (eb : G.starts (b n) ≡ r ∷ rs) (a : Run G (all n e (G.actions e id)) w w1) where
        root_passes : PassedBy G P k m s i v (one (count w1) (b n) r) (add_body n id (b n) w1) → PassedBy G P (suc k) m s i v (one n e id) w
        root_passes h left u (mapped_within x) = absurd (un x)
        root_passes h left u (plain_within un' p' z r') = absurd (plain_not_instance p' q)
        root_passes h left u (instance_within {w1 = v1} {w2 = v2} c y ys un' q' tb eb' z rv s2 s3) =
            let ec : b ≡ c = same_body b c q q' in
            let es : r ∷ rs ≡ y ∷ ys = sym eb ∙ ap (λ (x : ℕ → G.Scope). G.starts (x n)) ec ∙ eb' in
            up (on (ledger_grows (within_run s3)) (h _ v2 (rw (run_unique a v1 (within_run rv), ec, same_head r y rs ys es) s2)))

        others_pass : {w2 : World G.Scope} → Run G (one (count w1) (b n) r) (add_body n id (b n) w1) w2 → PassedBy G P k m s i v (all (count w1) (b n) (map copy_id rs)) (add_mapped n id w2) → PassedBy G P (suc k) m s i v (one n e id) w
        others_pass c h left u (mapped_within x) = absurd (un x)
        others_pass c h left u (plain_within un' p' z r') = absurd (plain_not_instance p' q)
        others_pass {w2} c h left u (instance_within {left = left'} {w1 = v1} {w2 = v2} d y ys un' q' tb eb' z rv s2 s3) =
            let ec : b ≡ d = same_body b d q q' in
            let es : r ∷ rs ≡ y ∷ ys = sym eb ∙ ap (λ (x : ℕ → G.Scope). G.starts (x n)) ec ∙ eb' in
            let e1 : w1 ≡ v1 = run_unique a v1 (within_run rv) in
            let s2' : Run G (one (count w1) (b n) r) (add_body n id (b n) w1) v2 = rw (e1, ec, same_head r y rs ys es) (within_run s2) in
            let s3' : Within G P left' (all (count w1) (b n) (map copy_id rs)) (add_mapped n id w2) u = rw (run_unique c v2 s2', e1, ec, same_tail r y rs ys es) s3 in
            up (h _ u s3')

  module _ {n : ℕ} {e : G.Scope} {l : List (Action G.Scope)} {w : World G.Scope} where
    copy_passes : {j : ℕ} → PassedBy G P k m s i v (one n e j) w → PassedBy G P k m s i v (all n e (copy_id j ∷ l)) w
    copy_passes h left u (copy_within a b) = on (ledger_grows (within_run b)) (h left _ a)

    after_passes : {j : ℕ} {w1 : World G.Scope} → Run G (one n e j) w w1 → PassedBy G P k m s i v (all n e l) w1 → PassedBy G P k m s i v (all n e (copy_id j ∷ l)) w
    after_passes x h left u (copy_within {w1 = v1} a b) = h left u (rw (run_unique x v1 (within_run a)) b)

    default_passes : {b : ℕ → G.Scope} → PassedBy G P k m s i v (all (count w) (b n) (map copy_id (G.starts (b n)))) (add_default (b n) w) → PassedBy G P k m s i v (all n e (open_default b ∷ l)) w
    default_passes h left u (default_within b tb x y) = on (ledger_grows (within_run y)) (h left _ x)

    later_passes : {b : ℕ → G.Scope} {w1 : World G.Scope} → Run G (all (count w) (b n) (map copy_id (G.starts (b n)))) (add_default (b n) w) w1 → PassedBy G P k m s i v (all n e l) w1 → PassedBy G P k m s i v (all n e (open_default b ∷ l)) w
    later_passes z h left u (default_within {w1 = v1} b tb x y) = h left u (rw (run_unique z v1 (within_run x)) y)

here_passes : {G : Graph} {P : G.Scope → ℕ → Type 0} {n id : ℕ} {e : G.Scope} {w : World G.Scope} → (Mapped w n id → ⊥) → (left : ℕ) (u : World G.Scope) → Within G P left (one n e id) w u → Passes G P left 0 n e id w u
here_passes un left u (mapped_within m) = absurd (un m)
here_passes {n = n} {id} {w = w} un left u (plain_within un' p z r) = pass_plain (omega arith) z p (omega (arith, length-append w.ledger ((n, id) ∷ []), ledger_grows (within_run r)))
here_passes un left u (instance_within b r rs un' q tb e z rv r2 r3) = pass_instance (omega arith) z b r rs q e

-- Wherever the steps come to an id that is not mapped, a whole run copies it.
pub passes_unmapped : {G : Graph} {P : G.Scope → ℕ → Type 0} {t : Task G.Scope} {w v : World G.Scope} {k m i : ℕ} {s : G.Scope} → Comes G t w k m s i v → (Mapped v m i → ⊥) → (left : ℕ) (u : World G.Scope) → Within G P left t w u → Passes G P left k m s i v u
passes_unmapped here un = here_passes un
passes_unmapped (in_plain x p c) un = plain_passes x p (passes_unmapped c un)
passes_unmapped (in_values b x q c) un = values_pass b x q (passes_unmapped c un)
passes_unmapped (in_root b r rs x q tb eb a c) un = root_passes b x q r rs eb a (passes_unmapped c un)
passes_unmapped (in_others b r rs x q tb eb a a2 c) un = others_pass b x q r rs eb a a2 (passes_unmapped c un)
passes_unmapped (in_copy c) un = copy_passes (passes_unmapped c un)
passes_unmapped (after_copy a c) un = after_passes a (passes_unmapped c un)
passes_unmapped (in_default b tb c) un = default_passes {b = b} (passes_unmapped c un)
passes_unmapped (after_default b tb a c) un = later_passes {b = b} a (passes_unmapped c un)
