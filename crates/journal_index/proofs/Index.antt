-- The index is kept by whatever keeps the records, their links and the heads, goes over a record that is not keyed, takes a
-- keyed one at the root of its slot's tree, and leads a search to the newest record of its key.
use mathlib.Core.Path.{◌≡◌, refl, sym, ap, ◌∙◌}
use mathlib.Core.List.{List}
use mathlib.Core.Bool.{Bool, true, false}
use mathlib.Core.Option.{none, some}
use Prim.Native.Nat.{ℕ, zero, suc, ◌+◌, ◌*◌, ◌-◌, ◌<◌, ◌≤◌, ◌^◌}
use native.Mathlib.Numerals.{add-one}
use native.Mathlib.Omega.{arith}
use lib.ListN.{length, get_or, set}
use lib.Seq.{get_or-set_same, get_or-set_other}
use lib.Dec.{eqb, ltb}
use borrow.Author.Tests.{eqb-true, eqb-false, ltb-true, ltb-false}
use Rattle.journal_records.specs.declared.Record.{Record}
use Rattle.journal_records.specs.Records.{keyed, cell, stays, Same, Fixed, Holds, Pushed, SetWord, Paid}
use Rattle.journal_records.specs.Logs.{newest_below, only_below}
use Rattle.journal_index.specs.Index.{slot_of, number_of, side_of, side_at, link_at, hit, in_slot, headed, going, newest, Tree, SlotsIndexed, IndexRoom, Slotted, Raisable, Rooted, Raised, linked, SameButLinks, RecordEntered}
use Rattle.journal_index.specs.Index.Tree.{empty, root}
use Rattle.journal_records.proofs.Cells.{set_cell}
use Rattle.journal_records.proofs.Lists.{last_here, last_other, last_finer, newest_last, newest_zero, under_is, newest_under}
use Rattle.journal_records.proofs.Frame.{steady_tag, steady_first, same_fixed, set_fixed, stays_most}
use Rattle.journal_index.proofs.Keys.{keyed_stays, side_two, side_kept, Hit, hit_is, hit_side, slot_here, slot_tag, slot_apart, slot_is, slot_kept, slot_stable, head_here, head_far, head_step, head_fixed}
use Rattle.journal_index.proofs.Trees.{going_here, going_same, tree_root, root_side, tree_newest, tree_low, tree_higher, tree_kept}

-- a link or not
either : {A : Type 0} (j : ℕ) → ((9 ≤ j → j < 11 → ⊥) → A) → (9 ≤ j → j < 11 → A) → A
either {A} j f g = by (ltb j 9) refl (ltb j 11) refl
  where
    by : (s : Bool) → ltb j 9 ≡ s → (t : Bool) → ltb j 11 ≡ t → A
    by true e t q = let l : j < 9 = ltb-true j 9 e in f (λ lo hi. omega arith)
    by false e true q = g (ltb-false j 9 e) (ltb-true j 11 q)
    by false e false q = let l : 11 ≤ j = ltb-false j 11 q in f (λ lo hi. omega arith)

-- ---- no records: the words may be any
pub index_none : (w : List ℕ) (at slots : ℕ) → 0 < slots → slots ≤ 2 ^ 32 → SlotsIndexed w at slots 0
index_none w at slots h k = record { some = h; few = k; trees = λ b lb. rw (head_far w slots b 0 (get_or w (at + b) 0) (omega arith)) (empty {d = 0} {test = in_slot w slots b} {bound = 0} (λ r lr. absurd (omega arith))) }

-- ---- the keyed records, their links and the heads are as they were
pub record LinksKept (c : ℕ) (w w' : List ℕ) : Type 0 where
  pub keeps : (r j : ℕ) → r < c → keyed (cell w r 0) ≡ true → 9 ≤ j → j < 11 → cell w' r j ≡ cell w r j

pub same_links : {c : ℕ} {w w' : List ℕ} → Same c w w' → LinksKept c w w'
same_links s = record { keeps = λ r j lr e lo hi. s.keeps r j lr (omega arith) }

module _ {w w' : List ℕ} {c : ℕ} (f : Fixed c w w') where
  sides_fixed : (r : ℕ) → r < c → (e : ℕ) → side_at w' e r ≡ side_at w e r
  sides_fixed r lr = side_kept w w' r (steady_tag (f.steady r lr)) (steady_first (f.steady r lr) 1 (omega arith)) (steady_first (f.steady r lr) 2 (omega arith))

  -- the tree of a slot
  slot_tree : (slots b : ℕ) {n : ℕ} → ((r j : ℕ) → r < c → in_slot w slots b r ≡ true → 9 ≤ j → j < 11 → cell w' r j ≡ cell w r j) → Tree (side_at w) (link_at w) 0 (in_slot w slots b) c n → Tree (side_at w') (link_at w') 0 (in_slot w' slots b) c n
  slot_tree slots b k t =
      tree_kept (side_at w') (link_at w') (in_slot w' slots b) t (λ r lr. (slot_stable slots b).same r w w' (f.steady r lr)) (λ r lr e i. sides_fixed r lr i) (λ r lr e s ls. k r (9 + s) lr e (omega arith) (omega arith))

  pub index_keep : {at slots : ℕ} → LinksKept c w w' → SlotsIndexed w at slots c → ((b : ℕ) → b < slots → get_or w' (at + b) 0 ≡ get_or w (at + b) 0) → SlotsIndexed w' at slots c
  index_keep {at} {slots} k ix h = record {
    some = ix.some;
    few = ix.few;
    trees = λ b lb. rw (h b lb, head_fixed f slots b (get_or w (at + b) 0)) (slot_tree slots b (λ r j lr e lo hi. k.keeps r j lr (slot_is w slots b r e).0 lo hi) (ix.trees b lb));
  }

-- ---- one record more that is not keyed
pub index_step : {w : List ℕ} {at slots c : ℕ} → SlotsIndexed w at slots c → keyed (cell w c 0) ≡ false → SlotsIndexed w at slots (c + 1)
index_step {w} {at} {slots} {c} ix e = record {
  some = ix.some;
  few = ix.few;
  trees = λ b lb. rw (head_step w slots b c (get_or w (at + b) 0) (slot_tag w slots b c e)) (tree_higher (ix.trees b lb) (c + 1) (omega arith) (λ r lo hi. let z : r ≡ c = omega arith in rw z (slot_tag w slots b c e)));
}

-- ---- what the functions write
pub index_push : {w w' : List ℕ} {at slots c : ℕ} {r : Record} → Pushed w w' c r → c * 12 + 12 ≤ at → keyed r.tag ≡ false → SlotsIndexed w at slots c → SlotsIndexed w' at slots (c + 1)
index_push p l e ix = index_step (index_keep (same_fixed p.same) (same_links p.same) ix (λ b lb. p.above _ (omega arith))) (rw p.holds.at0 e)

-- a word that may change, and is no link
pub index_set : {w w' : List ℕ} {at slots c n j v : ℕ} → SetWord w w' n j v → j < 12 → stays (cell w n 0) ≤ j → (keyed (cell w n 0) ≡ true → 11 ≤ j) → n * 12 + 12 ≤ at → SlotsIndexed w at slots c → SlotsIndexed w' at slots c
index_set {w} {w'} {at} {slots} {c} {n} {j} {v} s lj st free l ix =
    index_keep (set_fixed _ s lj st) (record { keeps = λ r i lr e lo hi. set_cell w w' n j v lj s r i (omega arith) (λ z q. let k : 11 ≤ j = free (rw z at e) in omega arith) }) ix (λ b lb. s.other _ (λ e. omega arith))

pub index_paid : {w w' : List ℕ} {at slots c n : ℕ} → Paid w w' c n → (c + n) * 12 ≤ at → SlotsIndexed w at slots c → SlotsIndexed w' at slots (c + n)
index_paid {w} {w'} {at} {slots} {c} {n} p l ix = over n (omega arith)
  where
    over : (k : ℕ) → k ≤ n → SlotsIndexed w' at slots (c + k)
    over zero le =
        let z : c + 0 ≡ c = omega arith in
        rw z (index_keep (same_fixed p.same) (same_links p.same) ix (λ b lb. p.above (at + b) (omega arith)))
    over (suc k) le =
        let z : c + suc k ≡ (c + k) + 1 = omega arith in
        rw z (index_step (over k (omega arith)) (rw (p.tags (c + k) (omega arith) (omega arith))))

-- ---- a keyed record
-- all but the links
pub links_fixed : {c : ℕ} {w w' : List ℕ} → SameButLinks c w w' → Fixed c w w'
links_fixed {c} {w} {w'} s = record { steady = λ r lr. record { keeps = λ j lj. s.keeps r j lr (omega (arith, stays_most (cell w r 0))) (λ e lo hi. few r j e lj lo) } }
  where
    few : (r j : ℕ) → keyed (cell w r 0) ≡ true → j < stays (cell w r 0) → 9 ≤ j → ⊥
    few r j e lj lo = omega (arith, keyed_stays (cell w r 0) e)

module _ (w : List ℕ) (at slots c : ℕ) (r : Record) (room : IndexRoom w at slots (c + 1)) (ix : SlotsIndexed w at slots c) (key : keyed r.tag ≡ true) (b : ℕ) (sl : Slotted slots r.a r.b b)
    (q : ℕ) (hd : q ≡ headed w slots b c (get_or w (at + b) 0)) (w1 : List ℕ) (len : length w1 ≡ length w) (pu : Pushed w w1 c (linked r 0 0)) where
  -- the tree of the slot, where record c stands already
  tree1 : Tree (side_at w1) (link_at w1) 0 (in_slot w1 slots b) c q
  tree1 = rw hd (slot_tree (same_fixed pu.same) slots b (λ n j ln e lo hi. pu.same.keeps n j ln (omega arith)) (ix.trees b sl.below))

  pub enter_raise : Raisable w1 c q 0
  enter_raise = record { room = omega (arith, room.records, room.heads); narrow = omega (arith, room.narrow); test = in_slot w1 slots b; tree = tree1 }

  module _ (w2 : List ℕ) (len2 : length w2 ≡ length w1) (ra : Raised w1 w2 c q 0) where
    abbrev w3 : List ℕ
    w3 = set w2 (at + b) c

    keeps : (m : ℕ) → (m ≡ at + b → ⊥) → get_or w3 m 0 ≡ get_or w2 m 0
    keeps m ne = get_or-set_other w2 (at + b) m c 0 ne

    cells : (n j : ℕ) → n < c + 1 → j < 12 → cell w3 n j ≡ cell w2 n j
    unfolding cell
    cells n j ln lj = keeps (n * 12 + j) (λ e. omega (arith, room.records))

    -- all but links
    words : (n j : ℕ) → n < c + 1 → j < 12 → (9 ≤ j → j < 11 → ⊥) → cell w3 n j ≡ cell w1 n j
    words n j ln lj ne = cells n j ln lj ∙ ra.words n j lj ne

    -- the links of records that are not of the slot
    apart : (n j : ℕ) → n < c → in_slot w1 slots b n ≡ false → 9 ≤ j → j < 11 → cell w3 n j ≡ cell w1 n j
    apart n j ln e lo hi =
        let z : 9 + (j - 9) ≡ j = omega arith in
        cells n j (omega arith) (omega arith) ∙ (rw z at (ra.kept (side_at w1) (λ i k lk. refl) (in_slot w1 slots b) tree1 n (λ y. omega arith) (λ l. e) (j - 9) (omega arith)))

    enter_same : SameButLinks c w w3
    enter_same = record { keeps = λ n j ln lj ne. by n j ln lj ne (in_slot w1 slots b n) refl ∙ pu.same.keeps n j ln lj }
      where
        by : (n j : ℕ) → n < c → j < 12 → (keyed (cell w n 0) ≡ true → 9 ≤ j → j < 11 → ⊥) → (t : Bool) → in_slot w1 slots b n ≡ t → cell w3 n j ≡ cell w1 n j
        by n j ln lj ne true e = words n j (omega arith) lj (λ lo hi. ne (rw (pu.same.keeps n 0 ln (omega arith)) at (slot_is w1 slots b n e).0) lo hi)
        by n j ln lj ne false e = either j (λ out. words n j (omega arith) lj out) (λ lo hi. apart n j ln e lo hi)

    fx : Fixed c w w3
    fx = links_fixed enter_same

    side3 : (n : ℕ) → n < c + 1 → (i : ℕ) → side_at w3 i n ≡ side_at w1 i n
    side3 n ln = side_kept w1 w3 n (words n 0 ln (omega arith) (λ lo hi. omega arith)) (words n 1 ln (omega arith) (λ lo hi. omega arith)) (words n 2 ln (omega arith) (λ lo hi. omega arith))

    slot3 : (u n : ℕ) → n < c + 1 → in_slot w3 slots u n ≡ in_slot w1 slots u n
    slot3 u n ln = slot_kept w1 w3 slots u n (words n 0 ln (omega arith) (λ lo hi. omega arith)) (words n 1 ln (omega arith) (λ lo hi. omega arith)) (words n 2 ln (omega arith) (λ lo hi. omega arith))

    word : (j : ℕ) → j < 12 → (9 ≤ j → j < 11 → ⊥) → cell w3 c j ≡ cell w1 c j
    word j lj ne = words c j (omega arith) lj ne

    enter_words : Holds w3 c (linked r (cell w3 c 9) (cell w3 c 10))
    enter_words = record {
      at0 = word 0 (omega arith) (λ lo hi. omega arith) ∙ pu.holds.at0;
      at1 = word 1 (omega arith) (λ lo hi. omega arith) ∙ pu.holds.at1;
      at2 = word 2 (omega arith) (λ lo hi. omega arith) ∙ pu.holds.at2;
      at3 = word 3 (omega arith) (λ lo hi. omega arith) ∙ pu.holds.at3;
      at4 = word 4 (omega arith) (λ lo hi. omega arith) ∙ pu.holds.at4;
      at5 = word 5 (omega arith) (λ lo hi. omega arith) ∙ pu.holds.at5;
      at6 = word 6 (omega arith) (λ lo hi. omega arith) ∙ pu.holds.at6;
      at7 = word 7 (omega arith) (λ lo hi. omega arith) ∙ pu.holds.at7;
      at8 = word 8 (omega arith) (λ lo hi. omega arith) ∙ pu.holds.at8;
      at9 = refl;
      at10 = refl;
      at11 = word 11 (omega arith) (λ lo hi. omega arith) ∙ pu.holds.at11;
    }

    -- its slot
    own : slot_of slots (cell w3 c 1) (cell w3 c 2) ≡ b
    own = rw (enter_words.at1, enter_words.at2) (sym sl.same)

    here : in_slot w3 slots b c ≡ true
    here = slot_here w3 slots b c (rw enter_words.at0 key) own

    -- the tree of a side of the record
    side_tree : (s : ℕ) → s < 2 → Tree (side_at w1) (link_at w2) 1 (going (side_at w1) (in_slot w1 slots b) 0 s) c (link_at w2 s c) → Tree (side_at w3) (link_at w3) 1 (going (side_at w3) (in_slot w3 slots b) 0 s) c (link_at w3 s c)
    side_tree s ls t =
        rw (cells c (9 + s) (omega arith) (omega arith))
        (tree_kept (side_at w3) (link_at w3) (going (side_at w3) (in_slot w3 slots b) 0 s) t
        (λ n ln. going_same (side_at w1) (side_at w3) (in_slot w1 slots b) (in_slot w3 slots b) 0 0 s n (slot3 b n (omega arith)) (λ e. side3 n (omega arith) 0))
        (λ n ln g i. side3 n (omega arith) i)
        (λ n ln g o lo. cells n (9 + o) (omega arith) (omega arith)))

    -- the tree of its own slot, and of another
    enter_trees : (u : ℕ) → u < slots → Tree (side_at w3) (link_at w3) 0 (in_slot w3 slots u) (c + 1) (headed w3 slots u (c + 1) (get_or w3 (at + u) 0))
    enter_trees u lu = by (eqb u b) refl
      where
        by : (t : Bool) → eqb u b ≡ t → Tree (side_at w3) (link_at w3) 0 (in_slot w3 slots u) (c + 1) (headed w3 slots u (c + 1) (get_or w3 (at + u) 0))
        by true e =
            let both : Rooted (side_at w1) (link_at w2) 0 (in_slot w1 slots b) c = ra.rooted (side_at w1) (λ i k lk. refl) (in_slot w1 slots b) tree1 in
            rw (eqb-true u b e, get_or-set_same w2 (at + b) c 0 (omega (arith, room.heads, sl.below)), head_here w3 slots b (c + 1) c (omega arith) here)
            (root {d = 0} {test = in_slot w3 slots b} {bound = c + 1} {m = c} (omega arith) here (λ n lo hi. absurd (omega arith)) (side_tree 0 (omega arith) both.zero) (side_tree 1 (omega arith) both.one))
        by false e =
            let ne : u ≡ b → ⊥ = eqb-false u b e in
            let far : in_slot w3 slots u c ≡ false = slot_apart w3 slots u c (λ z. ne (sym z ∙ own)) in
            let at3 : get_or w3 (at + u) 0 ≡ get_or w (at + u) 0 = keeps (at + u) (λ z. ne (omega arith)) ∙ ra.above (at + u) (omega (arith, room.records)) ∙ pu.above (at + u) (omega (arith, room.records)) in
            rw (at3, head_step w3 slots u c (get_or w (at + u) 0) far, head_fixed fx slots u (get_or w (at + u) 0))
            (tree_higher
            (slot_tree fx slots u
            (λ n j ln i lo hi.
            apart n j ln (slot_kept w w1 slots b n (pu.same.keeps n 0 ln (omega arith)) (pu.same.keeps n 1 ln (omega arith)) (pu.same.keeps n 2 ln (omega arith)) ∙ slot_apart w slots b n (λ z. ne (sym (slot_is w slots u n i).1 ∙ z))) lo hi
            ∙ pu.same.keeps n j ln (omega arith))
            (ix.trees u lu))
            (c + 1)
            (omega arith)
            (λ n lo hi. let z : n ≡ c = omega arith in rw z far))

    pub enter_law : RecordEntered w w3 at slots c r
    enter_law = record {
      same = enter_same;
      holds = enter_words;
      between = λ m l h. keeps m (λ e. omega arith) ∙ ra.above m l ∙ pu.above m l;
      above = λ m l. keeps m (λ e. omega (arith, sl.below)) ∙ ra.above m (omega (arith, room.records)) ∙ pu.above m (omega (arith, room.records));
      index = record { some = ix.some; few = ix.few; trees = enter_trees };
    }

-- ---- the search for what passes a test: where it stands
pub record Walking (w : List ℕ) (p : ℕ → Bool) (c d cur : ℕ) : Type 0 where
  pub test : ℕ → Bool
  pub bound : ℕ
  pub low : bound + d ≤ c
  pub tree : Tree (side_at w) (link_at w) d test bound cur
  pub finer : (r : ℕ) → r < bound → p r ≡ true → test r ≡ true
  pub same : newest_below p c ≡ newest_below p bound

module _ (w : List ℕ) (at slots c top t x y : ℕ) (ix : SlotsIndexed w at slots c) (key : keyed t ≡ true) (tc : top ≤ c) where
  abbrev p : ℕ → Bool
  p = only_below top (hit w t x y)

  is_hit : (r : ℕ) → p r ≡ true → Hit w t x y r
  is_hit r e = hit_is w t x y r (under_is (hit w t x y) top r e).1

  pub walk_start : (b : ℕ) → Slotted slots x y b → (cur : ℕ) → cur ≡ headed w slots b c (get_or w (at + b) 0) → Walking w p c 0 cur
  walk_start b sl cur e = record {
    test = in_slot w slots b;
    bound = c;
    low = omega arith;
    tree = rw e (ix.trees b sl.below);
    finer = λ r lr q. let h : Hit w t x y r = is_hit r q in slot_here w slots b r (rw h.tag key) (rw (h.one, h.two) (sym sl.same));
    same = refl;
  }

  -- the word of the head has the key, and so it is of the slot
  pub walk_first : (b : ℕ) → Slotted slots x y b → (first : ℕ) → first ≡ get_or w (at + b) 0 → first < c → p first ≡ true → newest w t x y top ≡ some first
  walk_first b sl first e lt q =
      let h : Hit w t x y first = is_hit first q in
      let i : in_slot w slots b first ≡ true = slot_here w slots b first (rw h.tag key) (rw (h.one, h.two) (sym sl.same)) in
      let r : suc first ≡ newest_below (in_slot w slots b) c = sym (head_here w slots b c first lt i) ∙ rw e (tree_newest (ix.trees b sl.below)) in
      let z : newest_below p (suc first) ≡ suc first = rw (add-one first) at (last_here p first q) in
      sym (newest_under (hit w t x y) top c tc)
      ∙ newest_last p c first (last_finer (in_slot w slots b) p c (λ n ln k. let g : Hit w t x y n = is_hit n k in slot_here w slots b n (rw g.tag key) (rw (g.one, g.two) (sym sl.same))) ∙ rw (← r) z)

  module _ {d cur : ℕ} (u : Walking w p c d cur) where
    -- as far as the root
    found : newest_below p c ≡ newest_below p cur
    found = u.same ∙ last_finer u.test p u.bound u.finer ∙ rw (← tree_newest u.tree)

    pub walk_low : cur + d ≤ c
    walk_low = omega (arith, u.low, tree_low u.tree)

    pub walk_none : cur ≤ 0 → newest w t x y top ≡ none
    unfolding newest_below
    walk_none le = let e : cur ≡ 0 = omega arith in sym (newest_under (hit w t x y) top c tc) ∙ newest_zero p c (found ∙ rw e)

    module _ (lt : 0 < cur) where
      up : cur ≡ (cur - 1) + 1
      up = omega arith

      pub walk_here : p (cur - 1) ≡ true → newest w t x y top ≡ some (cur - 1)
      walk_here e = sym (newest_under (hit w t x y) top c tc) ∙ newest_last p c (cur - 1) (found ∙ ap (newest_below p) up ∙ last_here p (cur - 1) e)

      module _ (k s : ℕ) (ek : k ≡ number_of t x y) (es : s ≡ side_of d k) where
        pub walk_side : s < 2
        walk_side = rw es (side_two d k)

        module _ (nx : ℕ) (e : nx ≡ cell w (cur - 1) (9 + s)) where
          below : Tree (side_at w) (link_at w) (suc d) (going (side_at w) u.test d s) (cur - 1) nx
          below = rw e (root_side (tree_root u.tree lt) s walk_side)

          pub walk_less : nx < cur
          walk_less = omega (arith, tree_low below)

          pub walk_next : p (cur - 1) ≡ false → Walking w p c (d + 1) nx
          walk_next f = record {
            test = going (side_at w) u.test d s;
            bound = cur - 1;
            low = omega (arith, walk_low);
            tree = rw (add-one d) below;
            finer = λ r lr q. going_here (side_at w) u.test d s r (u.finer r (omega (arith, tree_low u.tree)) q) (hit_side w t x y r d (is_hit r q) ∙ sym (es ∙ rw ek));
            same = found ∙ ap (newest_below p) up ∙ last_other p (cur - 1) f;
          }
