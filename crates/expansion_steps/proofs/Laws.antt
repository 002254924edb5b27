-- First laws of runs.
use mathlib.Core.Path.{◌≡◌, refl, ap, sym, ◌∙◌}
use mathlib.Core.Logic.{⊎_elim, ◌↔◌}
use mathlib.Core.List.Memᴰ
use mathlib.Core.List.{List, [], ◌∷◌, ◌++◌, map, append_assoc, append-nil, Memᴰ}
use Prim.Native.Nat.{ℕ}
use native.Mathlib.Omega.{arith}
use Rattle.expansion_steps.specs.Steps.{Action, copy_id, open_default, copies, defaults, Graph, World, Task, all, Run, mapped_step, plain_step, instance_step, no_action, then_copy, then_default, opened}

-- A copy opens no default scope,
pub copy_no_default : {S A : Type 0} (i : ℕ) (b : ℕ → S) → ◌≡◌ {A = Action S} (copy_id i) (open_default b) → A
copy_no_default i b q = absurd (let z : ◌≡◌ {A = ℕ} 0 1 = cc in omega arith)

-- and an opening opens one.
pub same_default : {S : Type 0} (b c : ℕ → S) → ◌≡◌ {A = Action S} (open_default b) (open_default c) → b ≡ c
same_default b c q = cc

-- Copying ids copies these ids,
pub copies_map : (S : Type 0) (l : List ℕ) → copies {S = S} (map copy_id l) ≡ l
copies_map S [] = refl
copies_map S (i ∷ l) = ap (λ (k : List ℕ). i ∷ k) (copies_map S l)

-- and opens no default scope.
pub defaults_map : (S : Type 0) (l : List ℕ) → defaults {S = S} (map copy_id l) ≡ []
defaults_map S [] = refl
defaults_map S (i ∷ l) = defaults_map S l

-- Actions after actions.
pub defaults_append : {S : Type 0} (l k : List (Action S)) → defaults (l ++ k) ≡ defaults l ++ defaults k
defaults_append [] k = refl
defaults_append (copy_id i ∷ l) k = defaults_append l k
defaults_append (open_default b ∷ l) k = ap (λ r. b ∷ r) (defaults_append l k)

-- A default scope that actions open is one of them.
pub defaults_mem : {S : Type 0} (b : ℕ → S) (l : List (Action S)) → Memᴰ b (defaults l) ↔ Memᴰ (open_default b) l
defaults_mem b l = (out l, into l)
  where
    out : (l : List (Action _)) → Memᴰ b (defaults l) → Memᴰ (open_default b) l
    out [] m = absurd (Memᴰ.not-nil m)
    out (copy_id i ∷ l) m = Memᴰ.tail (out l m)
    out (open_default c ∷ l) m = ⊎_elim (λ q. Memᴰ.head (ap open_default q)) (λ k. Memᴰ.tail (out l k)) (Memᴰ.cases_cons m)

    into : (l : List (Action _)) → Memᴰ (open_default b) l → Memᴰ b (defaults l)
    into [] m = absurd (Memᴰ.not-nil m)
    into (copy_id i ∷ l) m = ⊎_elim (λ q. copy_no_default i b (sym q)) (λ k. into l k) (Memᴰ.cases_cons m)
    into (open_default c ∷ l) m = ⊎_elim (λ q. Memᴰ.head (same_default b c q)) (λ k. Memᴰ.tail (into l k)) (Memᴰ.cases_cons m)

append_append : {A : Type 0} {c d : List A} (a x y : List A) → c ≡ a ++ x → d ≡ c ++ y → d ≡ a ++ (x ++ y)
append_append a x y p q = q ∙ ap (λ l. l ++ y) p ∙ append_assoc a x y

-- The scope list has one entry for each scope that the run opens, in order, and no other.
pub opened_all : {G : Graph} {t : Task G.Scope} {w w' : World G.Scope} (r : Run G t w w') → w'.scopes ≡ w.scopes ++ opened r
unfolding opened
opened_all {w = w} (mapped_step m) = sym (append-nil w.scopes)
opened_all (plain_step un p r) = opened_all r
opened_all {w = w} (instance_step {n} {w1 = w1} b r rs un i tb e rv r2 r3) =
    append_append w.scopes _ _ (opened_all rv)
    (append_append w1.scopes (b n ∷ []) (opened r2 ++ opened r3) refl (append_append (w1.scopes ++ (b n ∷ [])) (opened r2) (opened r3) (opened_all r2) (opened_all r3)))
opened_all {w = w} no_action = sym (append-nil w.scopes)
opened_all {w = w} (then_copy a b) = append_append w.scopes (opened a) (opened b) (opened_all a) (opened_all b)
opened_all {w = w} (then_default {n} b tb x y) = append_append w.scopes (b n ∷ opened x) (opened y) (append_append w.scopes (b n ∷ []) (opened x) refl (opened_all x)) (opened_all y)

-- Two runs of actions, one after the other, are a run.
pub append_run : {G : Graph} {n : ℕ} {e : G.Scope} {l k : List (Action G.Scope)} {w w1 w2 : World G.Scope} → Run G (all n e l) w w1 → Run G (all n e k) w1 w2 → Run G (all n e (l ++ k)) w w2
append_run no_action q = q
append_run (then_copy a b) q = then_copy a (append_run b q)
append_run (then_default b tb x y) q = then_default b tb x (append_run y q)
