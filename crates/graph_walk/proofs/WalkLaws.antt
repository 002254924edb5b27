-- The walk over all that is reached: the nodes reached are visited in their order.
use mathlib.Core.Path.{◌≡◌, refl, sym, ap, subst, ◌∙◌}
use mathlib.Core.List.Memᴰ
use mathlib.Core.List.{List, [], ◌∷◌, ◌++◌, Memᴰ}
use mathlib.Core.Logic.{◌⊎◌, inl, inr}
use Prim.Native.Nat.{ℕ, zero, suc, ◌+◌, ◌-◌, ◌*◌, ◌≤◌, ◌<◌}
use native.Mathlib.Numerals.{add-one}
use native.Mathlib.Omega.{arith}
use lib.ListN.{length, get_or, drop, take, length-append}
use borrow.Author.Tests.{lt-ltb, le-ltb}
use Rattle.ast.specs.Ast.{Document}
use Rattle.sheet_rows.specs.declared.row.Row.{Row}
use Rattle.sheet_rows.specs.Print.{document_rows}
use Rattle.expansion_steps.specs.Lists.{Nodup}
use Rattle.graph_definition.specs.Graph.{node_count, top_node_ids, nexts, distinct, walked, mentions}
use Rattle.graph_definition.proofs.Distinct.{distinct_once, distinct_from, distinct_length, distinct_below}
use Rattle.graph_definition.proofs.Exact.{Walking, walk_start, walk_step, walked_mentions, reached_distinct}
use Rattle.graph_walk.specs.Scan.{places_from, ids_from, starts_from}
use Rattle.graph_walk.specs.State.{pair_at, WalkState}
use Rattle.graph_walk.specs.Steps.{most_nodes, Mentionable, MentionsNoted, NodesIndexed, Started, NodeStands, WalkReady, Reaches}
use Rattle.graph_walk.proofs.Printed.{places_count, node_at, nexts_at, starts_at, end_at, document_within}
use Rattle.graph_walk.proofs.Bounds.{mentions_rows}

-- ---- the first of a list without repetition

mem_take : {A : Type 0} (k : ℕ) (l : List A) (x : A) → Memᴰ x (take k l) → Memᴰ x l
mem_take zero l x m = absurd (Memᴰ.not-nil m)
mem_take (suc k) [] x m = m
mem_take (suc k) (y ∷ l) x m = go (Memᴰ.cases_cons m) (mem_take k l x)
  where
    go : (x ≡ y) ⊎ Memᴰ x (take k l) → (Memᴰ x (take k l) → Memᴰ x l) → Memᴰ x (y ∷ l)
    go (inl e) f = Memᴰ.head e
    go (inr q) f = Memᴰ.tail (f q)

once_take : {A : Type 0} (k : ℕ) (l : List A) → Nodup l → Nodup (take k l)
once_take zero l d = tt
once_take (suc k) [] d = d
once_take (suc k) (x ∷ l) d = (λ m. d.0 (mem_take k l x m), once_take k l d.1)

-- ---- the walk of the definition, a turn at a time

module _ (d : Document) where
  pub walked_on : (t k : ℕ) (m : List ℕ) → k < length (distinct (node_count d) m) → walked d (suc t) k m ≡ walked d t (suc k) (m ++ nexts d (get_or (distinct (node_count d) m) k 0))
  unfolding walked
  walked_on t k m h = rw (lt-ltb k (length (distinct (node_count d) m)) h)

  pub walked_done : (t k : ℕ) (m : List ℕ) → length (distinct (node_count d) m) ≤ k → walked d t k m ≡ m
  unfolding walked
  walked_done zero k m h = refl
  walked_done (suc t) k m h = rw (le-ltb k (length (distinct (node_count d) m)) h)

  -- what is mentioned with the next node's fits the rows
  pub next_rows : (k : ℕ) (m : List ℕ) → k < length (distinct (node_count d) m) → Walking d k m → length m + length (nexts d (get_or (distinct (node_count d) m) k 0)) ≤ length (document_rows d)
  next_rows k m h w =
      let l = distinct (node_count d) m in
      let w' = walk_step d k m h w in
      let m' = m ++ nexts d (get_or l k 0) in
      let l' = distinct (node_count d) m' in
      omega (arith, length-append m (nexts d (get_or l k 0)), ap length w'.met, mentions_rows d (take (suc k) l') (once_take (suc k) l' (distinct_once (node_count d) m')) (λ i q. (distinct_from (node_count d) m' i (mem_take (suc k) l' i q)).1))

  pub starts_few : length (top_node_ids d) ≤ length (document_rows d)
  starts_few = rw append_nothing at (mentions_rows d [] tt (λ i q. absurd (Memᴰ.not-nil q)))
    where
      append_nothing : top_node_ids d ++ [] ≡ top_node_ids d
      append_nothing = sym (walk_start d).met

-- ---- the loop, for a document that stands there

whole_left : (n : ℕ) → n - 0 ≡ n
whole_left n = omega arith

-- m has been mentioned, and the nodes before the k-th are visited
pub record On (R : List Row) (from : ℕ) (d : Document) (n k tail : ℕ) (w : List ℕ) : Type 0 where
  pub m : List ℕ
  pub nodes : n ≡ node_count d
  pub state : WalkState n (places_from (from + 1) (drop (from + 1) R)) m tail w
  pub walking : Walking d k m
  pub same : walked d (node_count d - k) k m ≡ mentions d

-- and the top statements end at a row
pub record Going (R : List Row) (from n k tail next : ℕ) (w₀ w : List ℕ) : Type 0 where
  pub on : (d : Document) (ds : List Document) → NodeStands R from d ds → On R from d n k tail w
  pub ends : (d : Document) (ds : List Document) → NodeStands R from d ds → next ≡ from + length (document_rows d)
  pub long : length w ≡ length w₀

module _ {R : List Row} {from : ℕ} {w₀ : List ℕ} (few : length R < most_nodes) where
  -- ---- before the loop

  module _ {w : List ℕ} {n top : ℕ} (x : NodesIndexed R (from + 1) w n top) where
    pub start_ready : WalkReady R from w₀ → Mentionable n 0 w (starts_from (drop (top + 1) R))
    start_ready r =
        record {
          places = places_from (from + 1) (drop (from + 1) R);
          m = [];
          state = x.state;
          few =
              let d = r.document in
              omega (arith, ap length (starts_at R from d r.after r.here top x.top), starts_few d, document_within R from d r.after r.here);
        }

    pub going_start : {tail next : ℕ} {w' : List ℕ} → Started R (top + 1) n w tail next w' → length w' ≡ length w₀ → Going R from n 0 tail next w₀ w'
    going_start {tail} {next} {w'} s long =
        record {
          on = λ d ds e.
              record {
                m = top_node_ids d;
                nodes = x.state.count ∙ places_count R from d ds e;
                state = subst (λ (l : List ℕ). WalkState n (places_from (from + 1) (drop (from + 1) R)) l tail w') (starts_at R from d ds e top x.top) (s.mentioned (places_from (from + 1) (drop (from + 1) R)) [] x.state);
                walking = walk_start d;
                same = ap (λ z. walked d z 0 (top_node_ids d)) (whole_left (node_count d)) ∙ walked_mentions d;
              };
          ends = λ d ds e. s.next ∙ end_at R from d ds e top x.top;
          long = long;
        }

  -- ---- a turn

  module _ {n k tail next : ℕ} {w : List ℕ} (g : Going R from n k tail next w₀ w) (h : k < tail) where
    module _ (d : Document) (ds : List Document) (e : NodeStands R from d ds) where
      o : On R from d n k tail w
      o = g.on d ds e

      abbrev here : ℕ
      here = get_or (distinct (node_count d) (g.on d ds e).m) k 0

      tails : tail ≡ length (distinct (node_count d) (g.on d ds e).m)
      tails = (g.on d ds e).state.tails ∙ ap (λ z. length (distinct z (g.on d ds e).m)) (g.on d ds e).nodes

      id_is : get_or w (5 * k + 4) 0 ≡ here
      id_is = (g.on d ds e).state.queue k h ∙ ap (λ z. get_or (distinct z (g.on d ds e).m) k 0) (g.on d ds e).nodes

      id_below : here < node_count d
      id_below = distinct_below (node_count d) (g.on d ds e).m k (omega (arith, tails))

      pub turn_room : 5 * k + 5 ≤ length w
      turn_room = omega (arith, (g.on d ds e).state.room, (g.on d ds e).nodes, tails, distinct_length (node_count d) (g.on d ds e).m)

      pub turn_id : (id : ℕ) → id ≡ get_or w (5 * k + 4) 0 → 5 * id + 5 ≤ length w
      turn_id id q = omega (arith, (g.on d ds e).state.room, (g.on d ds e).nodes, id_below, id_is)

      place_is : (id place : ℕ) → id ≡ get_or w (5 * k + 4) 0 → place ≡ pair_at w (5 * id) → place ≡ get_or (places_from (from + 1) (drop (from + 1) R)) here 0
      place_is id place q p = p ∙ ap (λ z. pair_at w (5 * z)) (q ∙ id_is) ∙ (g.on d ds e).state.place here (omega (arith, id_below, (g.on d ds e).nodes))

      ids_are : (id place : ℕ) → id ≡ get_or w (5 * k + 4) 0 → place ≡ pair_at w (5 * id) → ids_from (drop (place + 1) R) ≡ nexts d here
      ids_are id place q p = ap (λ z. ids_from (drop (z + 1) R)) (place_is id place q p) ∙ nexts_at R from d ds e here id_below

      pub turn_place : (id place : ℕ) → id ≡ get_or w (5 * k + 4) 0 → place ≡ pair_at w (5 * id) → place < length R
      turn_place id place q p = omega (arith, place_is id place q p, (node_at R from d ds e here id_below).below)

      pub turn_ready : (id place : ℕ) → id ≡ get_or w (5 * k + 4) 0 → place ≡ pair_at w (5 * id) → Mentionable n tail w (ids_from (drop (place + 1) R))
      turn_ready id place q p =
          record {
            places = places_from (from + 1) (drop (from + 1) R);
            m = (g.on d ds e).m;
            state = (g.on d ds e).state;
            few = omega (arith, ap length (ids_are id place q p), next_rows d k (g.on d ds e).m (omega (arith, tails)) (g.on d ds e).walking, document_within R from d ds e);
          }

      turn_on : (id place : ℕ) → id ≡ get_or w (5 * k + 4) 0 → place ≡ pair_at w (5 * id) → {tail' : ℕ} {w' : List ℕ} → MentionsNoted n tail w (ids_from (drop (place + 1) R)) tail' w' → On R from d n (k + 1) tail' w'
      turn_on id place q p {tail'} {w'} f =
          let m = (g.on d ds e).m in
          let lt : k < length (distinct (node_count d) m) = omega (arith, tails) in
          let m' = m ++ nexts d here in
          record {
            m = m';
            nodes = (g.on d ds e).nodes;
            state = subst (λ (l : List ℕ). WalkState n (places_from (from + 1) (drop (from + 1) R)) (m ++ l) tail' w') (ids_are id place q p) (f (places_from (from + 1) (drop (from + 1) R)) m (g.on d ds e).state);
            walking = subst (λ (z : ℕ). Walking d z m') (sym (add-one k)) (walk_step d k m lt (g.on d ds e).walking);
            same =
                let left : node_count d - k ≡ suc (node_count d - (k + 1)) = omega (arith, distinct_length (node_count d) m) in
                ap (λ z. walked d (node_count d - (k + 1)) z m') (add-one k) ∙ sym (walked_on d (node_count d - (k + 1)) k m lt) ∙ ap (λ z. walked d z k m) (sym left) ∙ (g.on d ds e).same;
          }

    pub going_on : (id place : ℕ) → id ≡ get_or w (5 * k + 4) 0 → place ≡ pair_at w (5 * id) → {tail' : ℕ} {w' : List ℕ} → MentionsNoted n tail w (ids_from (drop (place + 1) R)) tail' w' → length w' ≡ length w → Going R from n (k + 1) tail' next w₀ w'
    going_on id place q p f long = record { on = λ d ds e. turn_on d ds e id place q p f; ends = g.ends; long = long ∙ g.long }

  -- ---- after the loop

  pub going_end : {n k tail next : ℕ} {w : List ℕ} → Going R from n k tail next w₀ w → tail ≤ k → Reaches R from n tail next w
  going_end {n} {k} {tail} {next} {w} g h =
      λ d ds e.
      let o = g.on d ds e in
      let tails : tail ≡ length (distinct (node_count d) o.m) = o.state.tails ∙ ap (λ z. length (distinct z o.m)) o.nodes in
      let all : o.m ≡ mentions d = sym (walked_done d (node_count d - k) k o.m (omega (arith, tails))) ∙ o.same in
      record {
        nodes = o.nodes;
        tail = tails ∙ ap (λ l. length (distinct (node_count d) l)) all ∙ ap length (sym (reached_distinct d));
        next = g.ends d ds e;
        state = subst (λ (l : List ℕ). WalkState n (places_from (from + 1) (drop (from + 1) R)) l tail w) all o.state;
      }
