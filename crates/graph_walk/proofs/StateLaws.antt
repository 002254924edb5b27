-- The words of a walk: a node more, a mention more.
use mathlib.Core.Path.{◌≡◌, refl, sym, ap, subst, ◌∙◌}
use mathlib.Core.Bool.{Bool, true, false}
use mathlib.Core.List.Memᴰ
use mathlib.Core.List.{List, [], ◌∷◌, ◌++◌, Memᴰ}
use mathlib.Core.Logic.{◌⊎◌, inl, inr}
use Prim.Native.Nat.{ℕ, suc, ◌+◌, ◌*◌, ◌/◌, ◌%◌, ◌≤◌, ◌<◌}
use native.Mathlib.Nat.{div-add-mod'}
use native.Mathlib.Omega.{arith}
use native.Mathlib.Decide.{ℕ_discrete, dec_lt}
use lib.ListN.{length, get_or, set, length-set, length-append, get_or-append}
use lib.Seq.{get_or-set_same, get_or-set_other, get_or_at}
use lib.Dec.{eqb}
use borrow.Author.Tests.{eqb-true, eq-eqb, ne_eqb}
use Rattle.expansion_steps.specs.Lists.{one_if}
use Rattle.expansion_steps.proofs.ListLaws.{count_append}
use Rattle.graph_definition.specs.Graph.{noted_all, distinct}
use Rattle.graph_definition.proofs.Distinct.{Noted, fresh, stays, noted_is, distinct_snoc, distinct_from, distinct_to, distinct_length}
use Rattle.graph_walk.specs.State.{pair_at, occurs, WalkState}
use Rattle.graph_walk.specs.Steps.{with_pair}

-- ---- a number in two words

module _ (w : List ℕ) (a x : ℕ) where
  pub pair_long : length (with_pair w a x) ≡ length w
  pair_long = length-set (set w a (x % 4294967296)) (a + 1) (x / 4294967296) ∙ length-set w a (x % 4294967296)

  -- a word that is neither of the two
  pub pair_word : (k : ℕ) → (k ≡ a → ⊥) → (k ≡ a + 1 → ⊥) → get_or (with_pair w a x) k 0 ≡ get_or w k 0
  pair_word k p q = get_or-set_other (set w a (x % 4294967296)) (a + 1) k (x / 4294967296) 0 q ∙ get_or-set_other w a k (x % 4294967296) 0 p

  pub pair_is : a + 2 ≤ length w → pair_at (with_pair w a x) a ≡ x
  pair_is h =
      let lo : get_or (with_pair w a x) a 0 ≡ x % 4294967296 = get_or-set_other (set w a (x % 4294967296)) (a + 1) a (x / 4294967296) 0 (λ e. omega arith) ∙ get_or-set_same w a (x % 4294967296) 0 (omega arith) in
      let hi : get_or (with_pair w a x) (a + 1) 0 ≡ x / 4294967296 = get_or-set_same (set w a (x % 4294967296)) (a + 1) (x / 4294967296) 0 (omega (arith, length-set w a (x % 4294967296))) in
      omega (arith, lo, hi, div-add-mod' x 4294967296)

  pub pair_other : (k : ℕ) → k + 1 < a ⊎ a + 1 < k → pair_at (with_pair w a x) k ≡ pair_at w k
  pair_other k (inl h) = omega (arith, pair_word k (λ e. omega arith) (λ e. omega arith), pair_word (k + 1) (λ e. omega arith) (λ e. omega arith))
  pair_other k (inr h) = omega (arith, pair_word k (λ e. omega arith) (λ e. omega arith), pair_word (k + 1) (λ e. omega arith) (λ e. omega arith))

-- ---- mentions of an id

pub occurs_more : (i : ℕ) (m : List ℕ) (j : ℕ) → occurs i (m ++ (j ∷ [])) ≡ occurs i m + one_if (eqb j i)
occurs_more i m j = omega (arith, count_append (λ k. eqb k i) m (j ∷ []))

occurs_none : (i : ℕ) (m : List ℕ) → occurs i m ≡ 0 → Memᴰ i m → ⊥
occurs_none i [] e k = Memᴰ.not-nil k
occurs_none i (j ∷ m) e k = go (Memᴰ.cases_cons k) (occurs_none i m (omega arith))
  where
    go : (i ≡ j) ⊎ Memᴰ i m → (Memᴰ i m → ⊥) → ⊥
    go (inl p) f = omega (arith, ap one_if (eq-eqb j i (sym p)))
    go (inr p) f = f p

occurs_some : (i : ℕ) (m : List ℕ) → 0 < occurs i m → Memᴰ i m
occurs_some i [] h = absurd (omega arith)
occurs_some i (j ∷ m) h = go (eqb j i) refl (occurs_some i m)
  where
    go : (b : Bool) → eqb j i ≡ b → (0 < occurs i m → Memᴰ i m) → Memᴰ i (j ∷ m)
    go true e f = Memᴰ.head (sym (eqb-true j i e))
    go false e f = Memᴰ.tail (f (omega (arith, ap one_if e)))

-- mentions are at most as many as the list is long
pub occurs_length : (i : ℕ) (m : List ℕ) → occurs i m ≤ length m
occurs_length i [] = omega arith
occurs_length i (j ∷ m) = go (eqb j i) (occurs_length i m)
  where
    go : (b : Bool) → occurs i m ≤ length m → one_if b + occurs i m ≤ suc (length m)
    go true h = omega arith
    go false h = omega arith

-- ---- one mention

module _ {n : ℕ} {places m : List ℕ} {tail : ℕ} {w : List ℕ} (s : WalkState n places m tail w) (id : ℕ) where
  abbrev m' : List ℕ
  m' = m ++ (id ∷ [])

  -- where it stays
  same_nodes : (id < n → Memᴰ id (distinct n m)) → distinct n m' ≡ distinct n m
  same_nodes h = distinct_snoc n m id ∙ go (noted_is n (distinct n m) id)
    where
      go : {r : List ℕ} → Noted n (distinct n m) id r → r ≡ distinct n m
      go (fresh a b e) = absurd (b (h a))
      go (stays a e) = e

  more_nodes : id < n → (Memᴰ id (distinct n m) → ⊥) → distinct n m' ≡ distinct n m ++ (id ∷ [])
  more_nodes l h = distinct_snoc n m id ∙ go (noted_is n (distinct n m) id)
    where
      go : {r : List ℕ} → Noted n (distinct n m) id r → r ≡ distinct n m ++ (id ∷ [])
      go (fresh a b e) = e
      go (stays a e) = absurd (h (a l))

  other_mentions : (i : ℕ) → (id ≡ i → ⊥) → occurs i m' ≡ occurs i m
  other_mentions i h = omega (arith, occurs_more i m id, ap one_if (ne_eqb id i h))

  own_mentions : occurs id m' ≡ occurs id m + 1
  own_mentions = omega (arith, occurs_more id m id, ap one_if (eq-eqb id id refl))

  -- an id that leads nowhere
  pub mention_nowhere : n ≤ id → WalkState n places m' tail w
  mention_nowhere h =
      let e = same_nodes (λ l. absurd (omega arith)) in
      record {
        count = s.count;
        room = s.room;
        place = s.place;
        mentioned = λ i l. s.mentioned i l ∙ sym (other_mentions i (λ q. omega arith));
        tails = s.tails ∙ ap length (sym e);
        queue = λ k l. s.queue k l ∙ ap (λ q. get_or q k 0) (sym e);
      }

  module _ (l : id < n) where
    abbrev times : ℕ
    times = pair_at w (5 * id + 2)

    abbrev up : List ℕ
    up = with_pair w (5 * id + 2) (times + 1)

    up_place : (i : ℕ) → i < n → pair_at up (5 * i) ≡ get_or places i 0
    up_place i h = go (dec_lt i (id + 1))
      where
        go : Dec (i < id + 1) → pair_at up (5 * i) ≡ get_or places i 0
        go (yes q) = pair_other w (5 * id + 2) (times + 1) (5 * i) (inl (omega arith)) ∙ s.place i h
        go (no q) = pair_other w (5 * id + 2) (times + 1) (5 * i) (inr (omega arith)) ∙ s.place i h

    up_mentioned : (i : ℕ) → i < n → pair_at up (5 * i + 2) ≡ occurs i m'
    up_mentioned i h = go (ℕ_discrete id i) (dec_lt i id)
      where
        go : Dec (id ≡ i) → Dec (i < id) → pair_at up (5 * i + 2) ≡ occurs i m'
        go (yes q) c = subst (λ (j : ℕ). pair_at up (5 * j + 2) ≡ occurs j m') q (pair_is w (5 * id + 2) (times + 1) (omega (arith, s.room)) ∙ omega (arith, own_mentions, s.mentioned id l))
        go (no q) (yes c) = pair_other w (5 * id + 2) (times + 1) (5 * i + 2) (inl (omega arith)) ∙ s.mentioned i h ∙ sym (other_mentions i q)
        go (no q) (no c) = pair_other w (5 * id + 2) (times + 1) (5 * i + 2) (inr (omega arith)) ∙ s.mentioned i h ∙ sym (other_mentions i q)

    up_queue : (k : ℕ) → get_or up (5 * k + 4) 0 ≡ get_or w (5 * k + 4) 0
    up_queue k = pair_word w (5 * id + 2) (times + 1) (5 * k + 4) (λ e. omega arith) (λ e. omega arith)

    -- a node that is reached already
    pub mention_again : (times ≡ 0 → ⊥) → WalkState n places m' tail up
    mention_again h =
        let e = same_nodes (λ q. distinct_to n m id l (occurs_some id m (omega (arith, s.mentioned id l)))) in
        record {
          count = s.count;
          room = omega (arith, s.room, pair_long w (5 * id + 2) (times + 1));
          place = up_place;
          mentioned = up_mentioned;
          tails = s.tails ∙ ap length (sym e);
          queue = λ k q. up_queue k ∙ s.queue k q ∙ ap (λ z. get_or z k 0) (sym e);
        }

    module _ (h : times ≡ 0) where
      abbrev fresh_nodes : List ℕ
      fresh_nodes = distinct n m ++ (id ∷ [])

      fresh_is : distinct n m' ≡ fresh_nodes
      fresh_is = more_nodes l (λ q. occurs_none id m (omega (arith, s.mentioned id l)) (distinct_from n m id q).0)

      -- there is room
      pub mention_room : tail < n
      mention_room = omega (arith, s.tails, distinct_length n m', ap length fresh_is, length-append (distinct n m) (id ∷ []))

      abbrev put : List ℕ
      put = set up (5 * tail + 4) id

      put_long : length put ≡ length w
      put_long = length-set up (5 * tail + 4) id ∙ pair_long w (5 * id + 2) (times + 1)

      put_word : (k : ℕ) → (k ≡ 5 * tail + 4 → ⊥) → get_or put k 0 ≡ get_or up k 0
      put_word k q = get_or-set_other up (5 * tail + 4) k id 0 q

      put_queue : (k : ℕ) → k < tail + 1 → get_or put (5 * k + 4) 0 ≡ get_or fresh_nodes k 0
      put_queue k q = go (ℕ_discrete k tail)
        where
          go : Dec (k ≡ tail) → get_or put (5 * k + 4) 0 ≡ get_or fresh_nodes k 0
          go (yes e) = rw e (get_or-set_same up (5 * tail + 4) id 0 (omega (arith, mention_room, s.room, pair_long w (5 * id + 2) (times + 1))) ∙ sym (get_or_at (distinct n m) id [] 0 tail (sym s.tails)))
          go (no e) = put_word (5 * k + 4) (λ z. omega arith) ∙ up_queue k ∙ s.queue k (omega arith) ∙ sym (get_or-append (distinct n m) (id ∷ []) 0 k (omega (arith, s.tails)))

      -- a node that is mentioned first
      pub mention_first : WalkState n places m' (tail + 1) put
      mention_first =
          record {
            count = s.count;
            room = omega (arith, s.room, put_long);
            place = λ i q. omega (arith, put_word (5 * i) (λ e. omega arith), put_word (5 * i + 1) (λ e. omega arith), up_place i q);
            mentioned = λ i q. omega (arith, put_word (5 * i + 2) (λ e. omega arith), put_word (5 * i + 2 + 1) (λ e. omega arith), up_mentioned i q);
            tails = omega (arith, s.tails, ap length fresh_is, length-append (distinct n m) (id ∷ []));
            queue = λ k q. put_queue k q ∙ ap (λ z. get_or z k 0) (sym fresh_is);
          }

-- ---- the same, as the code meets it: i is the id made wide, t how often the node was mentioned, w₁ the words with one mention more

module _ {n : ℕ} {places m : List ℕ} {tail : ℕ} {w : List ℕ} (s : WalkState n places m tail w) (id : ℕ) {i t : ℕ} (same : i ≡ id) (l : i < n) (is : t ≡ pair_at w (5 * i + 2)) where
  below : id < n
  below = omega arith

  counted : t ≡ pair_at w (5 * id + 2)
  counted = is ∙ ap (λ k. pair_at w (5 * k + 2)) same

  pub met_few : (k : ℕ) → length m + 1 < k → t + 1 < k
  met_few k h = omega (arith, counted, s.mentioned id below, occurs_length id m)

  pub met_room : t ≡ 0 → 5 * tail + 5 ≤ length w
  met_room z = omega (arith, s.room, mention_room s id below (sym counted ∙ z))

  module _ {w₁ : List ℕ} (e : w₁ ≡ with_pair w (5 * i + 2) (t + 1)) where
    up_is : with_pair w (5 * id + 2) (pair_at w (5 * id + 2) + 1) ≡ w₁
    up_is = sym (e ∙ ap (λ k. with_pair w (5 * k + 2) (t + 1)) same ∙ ap (λ k. with_pair w (5 * id + 2) (k + 1)) counted)

    pub met_again : (t ≡ 0 → ⊥) → WalkState n places (m ++ (id ∷ [])) tail w₁
    met_again h = subst (λ (v : List ℕ). WalkState n places (m ++ (id ∷ [])) tail v) up_is (mention_again s id below (λ z. h (counted ∙ z)))

    pub met_first : t ≡ 0 → WalkState n places (m ++ (id ∷ [])) (tail + 1) (set w₁ (5 * tail + 4) id)
    met_first z = subst (λ (v : List ℕ). WalkState n places (m ++ (id ∷ [])) (tail + 1) (set v (5 * tail + 4) id)) up_is (mention_first s id below (sym counted ∙ z))

-- ---- one node more

pub state_start : (w : List ℕ) → WalkState 0 [] [] 0 w
unfolding noted_all
state_start w = record { count = refl; room = omega arith; place = λ i h. absurd (omega arith); mentioned = λ i h. absurd (omega arith); tails = refl; queue = λ k h. absurd (omega arith) }

module _ {n : ℕ} {places : List ℕ} {w : List ℕ} (s : WalkState n places [] 0 w) (at : ℕ) (h : 5 * n + 5 ≤ length w) where
  abbrev one : List ℕ
  one = with_pair w (5 * n) at

  abbrev two : List ℕ
  two = with_pair one (5 * n + 2) 0

  two_place : (i : ℕ) → i < n + 1 → pair_at two (5 * i) ≡ get_or (places ++ (at ∷ [])) i 0
  two_place i q = go (ℕ_discrete i n)
    where
      go : Dec (i ≡ n) → pair_at two (5 * i) ≡ get_or (places ++ (at ∷ [])) i 0
      go (yes e) = rw e (pair_other one (5 * n + 2) 0 (5 * n) (inl (omega arith)) ∙ pair_is w (5 * n) at (omega arith) ∙ sym (get_or_at places at [] 0 n (sym s.count)))
      go (no e) = pair_other one (5 * n + 2) 0 (5 * i) (inl (omega arith)) ∙ pair_other w (5 * n) at (5 * i) (inl (omega arith)) ∙ s.place i (omega arith) ∙ sym (get_or-append places (at ∷ []) 0 i (omega (arith, s.count)))

  two_mentioned : (i : ℕ) → i < n + 1 → pair_at two (5 * i + 2) ≡ 0
  two_mentioned i q = go (ℕ_discrete i n)
    where
      go : Dec (i ≡ n) → pair_at two (5 * i + 2) ≡ 0
      go (yes e) = rw e (pair_is one (5 * n + 2) 0 (omega (arith, pair_long w (5 * n) at)))
      go (no e) = pair_other one (5 * n + 2) 0 (5 * i + 2) (inl (omega arith)) ∙ pair_other w (5 * n) at (5 * i + 2) (inl (omega arith)) ∙ s.mentioned i (omega arith)

  pub state_node : WalkState (n + 1) (places ++ (at ∷ [])) [] 0 two
  unfolding noted_all
  state_node =
      record {
        count = omega (arith, s.count, length-append places (at ∷ []));
        room = omega (arith, pair_long w (5 * n) at, pair_long one (5 * n + 2) 0);
        place = two_place;
        mentioned = two_mentioned;
        tails = refl;
        queue = λ k q. absurd (omega arith);
      }
