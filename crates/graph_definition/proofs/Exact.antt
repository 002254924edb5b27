-- The list of reached nodes has exactly the nodes that are reached, each once; and the mentions that the walk meets are those of the definition.
use mathlib.Core.Path.{◌≡◌, refl, sym, ap, subst, ◌∙◌}
use mathlib.Core.Bool.{Bool, true, false}
use mathlib.Core.Logic.{◌⊎◌, inl, inr, ◌↔◌}
use mathlib.Core.List.Memᴰ
use mathlib.Core.List.{List, [], ◌∷◌, ◌++◌, append_assoc, append-nil, Memᴰ}
use mathlib.Core.Option.{Option, none, some}
use Prim.Native.Nat.{ℕ, zero, suc, ◌+◌, ◌≤◌, ◌<◌}
use native.Mathlib.Omega.{arith}
use lib.ListN.{length, get_or, get_elem?, take, length-append}
use lib.Seq.{take-suc, take_all, take-append-le}
use lib.Dec.{ltb}
use borrow.Author.Tests.{ltb-true, ltb-false}
use Rattle.ast.specs.Ast.{Node, Document}
use Rattle.ast.specs.Choice.{choose}
use Rattle.ast.specs.Lists.{flat}
use Rattle.expansion_steps.specs.Lists.{Nodup}
use Rattle.graph_definition.specs.Graph.{nexts, value_ids_in, top_node_ids, Reached, start, step, node_count, distinct, walked, reached, mentions}
use Rattle.graph_definition.proofs.Distinct.{More, distinct_more, distinct_once, distinct_from, distinct_to, distinct_length, mem_at}

-- ---- lists made of lists

pub flat_append : {A B : Type 0} (g : A → List B) (a b : List A) → flat g (a ++ b) ≡ flat g a ++ flat g b
flat_append g [] b = refl
flat_append g (x ∷ a) b = ap (λ l. g x ++ l) (flat_append g a b) ∙ sym (append_assoc (g x) (flat g a) (flat g b))

pub flat_to : {A B : Type 0} (g : A → List B) (l : List A) (x : A) (y : B) → Memᴰ x l → Memᴰ y (g x) → Memᴰ y (flat g l)
flat_to g [] x y m k = absurd (Memᴰ.not-nil m)
flat_to {A} {B} g (z ∷ l) x y m k = go (Memᴰ.cases_cons m) (λ q. flat_to g l x y q k)
  where
    go : (x ≡ z) ⊎ Memᴰ x l → (Memᴰ x l → Memᴰ y (flat g l)) → Memᴰ y (g z ++ flat g l)
    go (inl e) f = Memᴰ.append_left (flat g l) (subst (λ (u : A). Memᴰ y (g u)) e k)
    go (inr q) f = Memᴰ.append_right (g z) (f q)

-- an id that leads nowhere leads to nothing
beyond : (l : List Node) (i : ℕ) → length l ≤ i → get_elem? l i ≡ none
beyond [] i h = refl
beyond (x ∷ l) zero h = absurd (omega arith)
beyond (x ∷ l) (suc i) h = beyond l i (omega arith)

module _ (d : Document) where
  pub nexts_nowhere : (i : ℕ) → node_count d ≤ i → nexts d i ≡ []
  unfolding nexts
  nexts_nowhere i h = rw (beyond d.nodes i h)

  pub nexts_node : (i j : ℕ) → Memᴰ j (nexts d i) → i < node_count d
  nexts_node i j m = go (ltb i (node_count d)) refl
    where
      go : (b : Bool) → ltb i (node_count d) ≡ b → i < node_count d
      go true e = ltb-true i (node_count d) e
      go false e = absurd (Memᴰ.not-nil (rw (nexts_nowhere i (ltb-false i (node_count d) e)) at m))

  abbrev nodes : List ℕ → List ℕ
  nodes m = distinct (node_count d) m

  -- ---- the walk: the mentions are the starts and those of the nodes before the k-th

  pub record Walking (k : ℕ) (m : List ℕ) : Type 0 where
    pub upto : k ≤ length (nodes m)
    pub met : m ≡ top_node_ids d ++ flat (nexts d) (take k (nodes m))
    pub each : (i : ℕ) → Memᴰ i m → Reached d i

  pub walk_start : Walking 0 (top_node_ids d)
  walk_start = record { upto = omega arith; met = sym (append-nil (top_node_ids d)); each = λ i h. start h }

  -- the nodes before the next one, after its mentions
  pub walk_nodes : (k : ℕ) (m t : List ℕ) → k < length (nodes m) → take (suc k) (nodes (m ++ t)) ≡ take k (nodes m) ++ (get_or (nodes m) k 0 ∷ [])
  walk_nodes k m t h =
      let x = distinct_more (node_count d) m t in
      ap (take (suc k)) x.is ∙ take-append-le (suc k) (nodes m) x.more (omega arith) ∙ take-suc (nodes m) k 0 h

  pub walk_step : (k : ℕ) (m : List ℕ) → k < length (nodes m) → Walking k m → Walking (suc k) (m ++ nexts d (get_or (nodes m) k 0))
  walk_step k m h w =
      let i = get_or (nodes m) k 0 in
      let t = nexts d i in
      let x = distinct_more (node_count d) m t in
      record {
        upto = omega (arith, ap length x.is, length-append (nodes m) x.more);
        met =
            ap (λ l. l ++ t) w.met ∙
            append_assoc (top_node_ids d) (flat (nexts d) (take k (nodes m))) t ∙
            ap (λ l. top_node_ids d ++ l) (ap (λ l. flat (nexts d) (take k (nodes m)) ++ l) (sym (append-nil t)) ∙ sym (flat_append (nexts d) (take k (nodes m)) (i ∷ [])) ∙ ap (flat (nexts d)) (sym (walk_nodes k m t h)));
        each = λ j q. side j (Memᴰ.append_cases m q);
      }
    where
      side : (j : ℕ) → Memᴰ j m ⊎ Memᴰ j (nexts d (get_or (nodes m) k 0)) → Reached d j
      side j (inl q) = w.each j q
      side j (inr q) = step (w.each (get_or (nodes m) k 0) (distinct_from (node_count d) m (get_or (nodes m) k 0) (mem_at (nodes m) k h)).0) q

  -- all that the walk meets, once it has turns enough
  pub record Walked (m : List ℕ) : Type 0 where
    pub met : m ≡ top_node_ids d ++ flat (nexts d) (nodes m)
    pub each : (i : ℕ) → Memᴰ i m → Reached d i

  pub walk_end : (k : ℕ) (m : List ℕ) → length (nodes m) ≤ k → Walking k m → Walked m
  walk_end k m h w = record { met = w.met ∙ ap (λ l. top_node_ids d ++ flat (nexts d) l) (take_all k (nodes m) h); each = w.each }

  pub walked_all : (t k : ℕ) (m : List ℕ) → node_count d ≤ t + k → Walking k m → Walked (walked d t k m)
  unfolding walked
  walked_all zero k m h w = walk_end k m (omega (arith, distinct_length (node_count d) m)) w
  walked_all (suc t) k m h w = go (ltb k (length (nodes m))) refl (λ v. walked_all t (suc k) (m ++ nexts d (get_or (nodes m) k 0)) (omega arith) v)
    where
      go : (b : Bool) → ltb k (length (nodes m)) ≡ b → (Walking (suc k) (m ++ nexts d (get_or (nodes m) k 0)) → Walked (walked d t (suc k) (m ++ nexts d (get_or (nodes m) k 0)))) → Walked (choose b (walked d t (suc k) (m ++ nexts d (get_or (nodes m) k 0))) m)
      go true e f = f (walk_step k m (ltb-true k (length (nodes m)) e) w)
      go false e f = walk_end k m (ltb-false k (length (nodes m)) e) w

  abbrev met_all : List ℕ
  met_all = walked d (node_count d) 0 (top_node_ids d)

  whole : Walked met_all
  whole = walked_all (node_count d) 0 (top_node_ids d) (omega arith) walk_start

  -- The walk meets just the mentions.
  pub walked_mentions : met_all ≡ mentions d
  unfolding mentions reached
  walked_mentions = whole.met

  pub reached_distinct : reached d ≡ nodes (mentions d)
  unfolding reached
  reached_distinct = ap nodes walked_mentions

  -- ---- exactly these

  pub mention_reached : (i : ℕ) → Memᴰ i (mentions d) → Reached d i
  mention_reached i m = whole.each i (rw walked_mentions m)

  pub reached_mention : (i : ℕ) → Reached d i → Memᴰ i (mentions d)
  unfolding mentions
  reached_mention i (start m) = Memᴰ.append_left (flat (nexts d) (reached d)) m
  reached_mention j (step {i} r m) =
      Memᴰ.append_right (top_node_ids d) (flat_to (nexts d) (reached d) i j (rw reached_distinct (distinct_to (node_count d) (mentions d) i (nexts_node i j m) (reached_mention i r))) m)

  pub reached_once : Nodup (reached d)
  reached_once = rw reached_distinct (distinct_once (node_count d) (mentions d))

  pub reached_exact : (i : ℕ) → Memᴰ i (reached d) ↔ ((i < node_count d) × Reached d i)
  reached_exact i = (
    λ m. let h = distinct_from (node_count d) (mentions d) i (rw reached_distinct at m) in (h.1, mention_reached i h.0),
    λ h. rw reached_distinct (distinct_to (node_count d) (mentions d) i h.0 (reached_mention i h.1)),
  )
