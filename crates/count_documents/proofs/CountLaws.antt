-- Counts: of mentions by the nodes that they lead to, of nodes once each.
use mathlib.Core.Path.{◌≡◌, refl, sym, ap, subst, ◌∙◌}
use mathlib.Core.Bool.{Bool, true, false}
use mathlib.Core.Logic.{◌⊎◌, inl, inr}
use mathlib.Core.List.Memᴰ
use mathlib.Core.List.{List, [], ◌∷◌, Memᴰ}
use Prim.Native.Nat.{ℕ, zero, suc, ◌+◌, ◌≤◌, ◌<◌}
use native.Mathlib.Omega.{arith}
use native.Mathlib.Decide.{ℕ_discrete, dec_lt}
use lib.ListN.{length, get_elem?}
use lib.Dec.{eqb}
use borrow.Author.Tests.{eq-eqb, ne_eqb}
use Rattle.ast.specs.Ast.{Node, Document}
use Rattle.ast.specs.Choice.{choose}
use Rattle.sheet_rows.specs.Print.{document_rows}
use Rattle.expansion_steps.specs.Lists.{Nodup, one_if, count_if, sum_to}
use Rattle.expansion_steps.proofs.ListLaws.{sum_same}
use Rattle.graph_definition.specs.Graph.{among, node_count, reached, mentions}
use Rattle.graph_definition.proofs.Distinct.{among_yes, among_no, distinct_to, distinct_from}
use Rattle.graph_definition.proofs.Exact.{reached_distinct, reached_once}
use Rattle.graph_walk.specs.State.{occurs}
use Rattle.graph_walk.proofs.Bounds.{mentions_rows}
use Rattle.count_documents.specs.Count.{is_of_type, named, count}
use Rattle.count_documents.specs.Steps.{weighed}

-- ---- sums

sum_add : (n : ℕ) (f g h : ℕ → ℕ) → ((i : ℕ) → h i ≡ f i + g i) → sum_to n h ≡ sum_to n f + sum_to n g
sum_add zero f g h e = refl
sum_add (suc n) f g h e = omega (arith, e n, sum_add n f g h e)

sum_le : (n : ℕ) (f g : ℕ → ℕ) → ((i : ℕ) → i < n → f i ≤ g i) → sum_to n f ≤ sum_to n g
sum_le zero f g h = omega arith
sum_le (suc n) f g h = omega (arith, h n (omega arith), sum_le n f g (λ i q. h i (omega arith)))

-- a part of a sum
sum_upto : (k n : ℕ) (f : ℕ → ℕ) → k ≤ n → sum_to k f ≤ sum_to n f
sum_upto k zero f h = let e : k ≡ 0 = omega arith in rw e (omega arith)
sum_upto k (suc n) f h = go (dec_lt n k) (sum_upto k n f)
  where
    go : Dec (n < k) → (k ≤ n → sum_to k f ≤ sum_to n f) → sum_to k f ≤ sum_to n f + f n
    go (yes q) ih = let e : k ≡ suc n = omega arith in rw e (omega arith)
    go (no q) ih = omega (arith, ih (omega arith))

-- ---- how often an id is in a list

occurs_one : (i : ℕ) (m : List ℕ) → Memᴰ i m → 1 ≤ occurs i m
occurs_one i [] k = absurd (Memᴰ.not-nil k)
occurs_one i (j ∷ m) k = go (Memᴰ.cases_cons k) (occurs_one i m)
  where
    go : (i ≡ j) ⊎ Memᴰ i m → (Memᴰ i m → 1 ≤ occurs i m) → 1 ≤ one_if (eqb j i) + occurs i m
    go (inl e) f = omega (arith, ap one_if (eq-eqb j i (sym e)))
    go (inr q) f = omega (arith, f q)

occurs_zero : (i : ℕ) (m : List ℕ) → (Memᴰ i m → ⊥) → occurs i m ≡ 0
occurs_zero i [] h = refl
occurs_zero i (j ∷ m) h = omega (arith, ap one_if (ne_eqb j i (λ e. h (Memᴰ.head (sym e)))), occurs_zero i m (λ q. h (Memᴰ.tail q)))

-- where none is twice
occurs_once : (i : ℕ) (l : List ℕ) → Nodup l → Memᴰ i l → occurs i l ≡ 1
occurs_once i [] d k = absurd (Memᴰ.not-nil k)
occurs_once i (j ∷ l) d k = go (ℕ_discrete j i) (Memᴰ.cases_cons k) (occurs_once i l d.1)
  where
    go : Dec (j ≡ i) → (i ≡ j) ⊎ Memᴰ i l → (Memᴰ i l → occurs i l ≡ 1) → one_if (eqb j i) + occurs i l ≡ 1
    go (yes e) c f = omega (arith, ap one_if (eq-eqb j i e), occurs_zero i l (λ q. d.0 (Memᴰ.cast e q)))
    go (no e) (inl q) f = absurd (e (sym q))
    go (no e) (inr q) f = omega (arith, ap one_if (ne_eqb j i e), f q)

-- ---- a count by ids

module _ (P : ℕ → Bool) where
  abbrev hit : ℕ → ℕ → ℕ
  hit x i = choose (P i) (one_if (eqb x i)) 0

  hit_other : (x i : ℕ) → (x ≡ i → ⊥) → hit x i ≡ 0
  hit_other x i h = go (P i)
    where
      go : (b : Bool) → choose b (one_if (eqb x i)) 0 ≡ 0
      go true = ap one_if (ne_eqb x i h)
      go false = refl

  hit_same : (x i : ℕ) → x ≡ i → hit x i ≡ one_if (P x)
  hit_same x i e = subst (λ (j : ℕ). hit x j ≡ one_if (P x)) e (go (P x))
    where
      go : (b : Bool) → choose b (one_if (eqb x x)) 0 ≡ one_if b
      go true = ap one_if (eq-eqb x x refl)
      go false = refl

  hit_none : (n x : ℕ) → n ≤ x → sum_to n (hit x) ≡ 0
  hit_none zero x h = refl
  hit_none (suc n) x h = omega (arith, hit_none n x (omega arith), hit_other x n (λ e. omega arith))

  hit_one : (n x : ℕ) → x < n → sum_to n (hit x) ≡ one_if (P x)
  hit_one zero x h = absurd (omega arith)
  hit_one (suc n) x h = go (ℕ_discrete x n) (hit_one n x)
    where
      go : Dec (x ≡ n) → (x < n → sum_to n (hit x) ≡ one_if (P x)) → sum_to n (hit x) + hit x n ≡ one_if (P x)
      go (yes e) f = omega (arith, hit_none n x (omega arith), hit_same x n e)
      go (no e) f = omega (arith, f (omega arith), hit_other x n e)

  hits : (n x : ℕ) → (P x ≡ true → x < n) → sum_to n (hit x) ≡ one_if (P x)
  hits n x h = go (dec_lt x n) (P x) refl
    where
      go : Dec (x < n) → (b : Bool) → P x ≡ b → sum_to n (hit x) ≡ one_if (P x)
      go (yes q) b e = hit_one n x q
      go (no q) true e = absurd (q (h e))
      go (no q) false e = hit_none n x (omega arith) ∙ ap one_if (sym e)

  -- what each id counts among m
  abbrev pub times : List ℕ → ℕ → ℕ
  times m i = choose (P i) (occurs i m) 0

  pub count_times : (n : ℕ) (m : List ℕ) → ((i : ℕ) → Memᴰ i m → P i ≡ true → i < n) → sum_to n (times m) ≡ count_if P m
  count_times n [] h = none n
    where
      zero_of : (b : Bool) → ◌≡◌ {A = ℕ} (choose b 0 0) 0
      zero_of true = refl
      zero_of false = refl

      none : (n : ℕ) → sum_to n (times []) ≡ 0
      none zero = refl
      none (suc n) = omega (arith, none n, zero_of (P n))
  count_times n (x ∷ m) h =
      sum_add n (hit x) (times m) (times (x ∷ m)) (λ i. go (P i) i) ∙
      omega (arith, hits n x (h x (Memᴰ.head refl)), count_times n m (λ i k. h i (Memᴰ.tail k)))
    where
      go : (b : Bool) (i : ℕ) → choose b (one_if (eqb x i) + occurs i m) 0 ≡ choose b (one_if (eqb x i)) 0 + choose b (occurs i m) 0
      go true i = refl
      go false i = refl

  pub count_length : (l : List ℕ) → count_if P l ≤ length l
  count_length [] = omega arith
  count_length (x ∷ l) = go (P x) (count_length l)
    where
      go : (b : Bool) → count_if P l ≤ length l → one_if b + count_if P l ≤ suc (length l)
      go true h = omega arith
      go false h = omega arith

-- ---- of a document

below : (l : List Node) (t i : ℕ) → is_of_type t (get_elem? l i) ≡ true → i < length l
below [] t i e = absurd (let z : ◌≡◌ {A = ℕ} 0 1 = cc in omega arith)
below (x ∷ l) t zero e = omega arith
below (x ∷ l) t (suc i) e = omega (arith, below l t i e)

-- a reached node is reached once, if it is mentioned
reached_times : (d : Document) (i : ℕ) → i < node_count d → occurs i (reached d) ≡ choose (eqb (occurs i (mentions d)) 0) 0 1
reached_times d i h = go (among i (mentions d)) refl
  where
    go : (b : Bool) → among i (mentions d) ≡ b → occurs i (reached d) ≡ choose (eqb (occurs i (mentions d)) 0) 0 1
    go true e =
        let k = among_yes i (mentions d) e in
        rw (ne_eqb (occurs i (mentions d)) 0 (λ z. omega (arith, occurs_one i (mentions d) k))) (occurs_once i (reached d) (reached_once d) (rw (reached_distinct d) (distinct_to (node_count d) (mentions d) i h k)))
    go false e =
        let k = among_no i (mentions d) e in
        rw (eq-eqb (occurs i (mentions d)) 0 (occurs_zero i (mentions d) k)) (occurs_zero i (reached d) (λ m. k (distinct_from (node_count d) (mentions d) i (rw (reached_distinct d) at m)).0))

module _ (d : Document) (t : ℕ) where
  pub named_below : (i : ℕ) → named d t i ≡ true → i < node_count d
  unfolding named
  named_below i e = below d.nodes t i e

  -- how much a node counts
  abbrev pub weight_of : ℕ → ℕ → ℕ
  weight_of p i = choose (named d t i) (weighed p (occurs i (mentions d))) 0

  -- counts by the nodes
  count_by : (m : List ℕ) → sum_to (node_count d) (times (named d t) m) ≡ count_if (named d t) m
  count_by m = count_times (named d t) (node_count d) m (λ i k e. named_below i e)

  pub weights : (p : ℕ) → sum_to (node_count d) (weight_of p) ≡ count p d t
  unfolding count
  weights p = go (eqb p 1)
    where
      go : (b : Bool) → sum_to (node_count d) (λ i. choose (named d t i) (choose b (occurs i (mentions d)) (choose (eqb (occurs i (mentions d)) 0) 0 1)) 0) ≡ count_if (named d t) (choose b (mentions d) (reached d))
      go true = count_by (mentions d)
      go false =
          sum_same (node_count d) (λ i. choose (named d t i) (choose (eqb (occurs i (mentions d)) 0) 0 1) 0) (times (named d t) (reached d)) (λ i h. ap (λ x. choose (named d t i) x 0) (sym (reached_times d i h))) ∙
          count_by (reached d)

  mentions_few : length (mentions d) ≤ length (document_rows d)
  unfolding mentions
  mentions_few = mentions_rows d (reached d) (reached_once d) (λ i m. (distinct_from (node_count d) (mentions d) i (rw (reached_distinct d) at m)).1)

  pub two_one : count_if (named d t) (reached d) ≤ count_if (named d t) (mentions d)
  two_one = omega (arith, count_by (reached d), count_by (mentions d), sum_le (node_count d) (times (named d t) (reached d)) (times (named d t) (mentions d)) (λ i h. go (named d t i) i (most i h)))
    where
      most : (i : ℕ) → i < node_count d → occurs i (reached d) ≤ occurs i (mentions d)
      most i h = rw (reached_times d i h) (at_least (ℕ_discrete (occurs i (mentions d)) 0))
        where
          at_least : Dec (occurs i (mentions d) ≡ 0) → choose (eqb (occurs i (mentions d)) 0) 0 1 ≤ occurs i (mentions d)
          at_least (yes e) = rw (eq-eqb (occurs i (mentions d)) 0 e) (omega arith)
          at_least (no e) = rw (ne_eqb (occurs i (mentions d)) 0 e) (omega arith)

      go : (b : Bool) (i : ℕ) → occurs i (reached d) ≤ occurs i (mentions d) → choose b (occurs i (reached d)) 0 ≤ choose b (occurs i (mentions d)) 0
      go true i h = h
      go false i h = omega arith

  pub count_rows : (p : ℕ) → count p d t ≤ length (document_rows d)
  unfolding count
  count_rows p = go (eqb p 1)
    where
      go : (b : Bool) → count_if (named d t) (choose b (mentions d) (reached d)) ≤ length (document_rows d)
      go true = omega (arith, count_length (named d t) (mentions d), mentions_few)
      go false = omega (arith, two_one, count_length (named d t) (mentions d), mentions_few)

  pub at_most_lem : count 2 d t ≤ count 1 d t
  unfolding count
  at_most_lem = two_one

-- a part of the nodes
pub weights_upto : (d : Document) (t p k : ℕ) → k ≤ node_count d → sum_to k (weight_of d t p) ≤ length (document_rows d)
weights_upto d t p k h = omega (arith, sum_upto k (node_count d) (weight_of d t p) h, weights d t p, count_rows d t p)
