-- The links of a record are written; a record comes to stand above another, and above a tree.
use mathlib.Core.Path.{◌≡◌, refl, sym, ◌∙◌}
use mathlib.Core.Bool.{Bool, true, false}
use mathlib.Core.List.{List}
use Prim.Native.Nat.{ℕ, suc, ◌+◌, ◌*◌, ◌-◌, ◌<◌, ◌≤◌}
use native.Mathlib.Omega.{arith}
use native.Mathlib.Numerals.{add-one}
use lib.ListN.{length}
use lib.Dec.{eqb}
use borrow.Author.Tests.{eq-eqb, ne_eqb, eqb-true, eqb-false}
use Rattle.ast.specs.Choice.{choose}
use Rattle.journal_records.specs.Records.{cell, SetWord}
use Rattle.journal_index.specs.Index.{bits, side_of, number_at, side_at, link_at, going, Tree, LinksWritten, Displaced, Raisable, Rooted, Raised}
use Rattle.journal_index.specs.Index.Tree.{empty, root}
use Rattle.journal_index.proofs.Keys.{side_deep, side_two, side_here, side_kept}
use Rattle.journal_index.proofs.Trees.{going_here, going_not, going_apart, going_is, Root, tree_root, root_side, tree_none, tree_low, tree_higher, tree_kept, tree_deeper}

pub link_law : (w w1 w2 : List ℕ) (p x y : ℕ) → SetWord w w1 p 9 x → SetWord w1 w2 p 10 y → LinksWritten w w2 p x y
unfolding cell
link_law w w1 w2 p x y a b = record {
  first = b.other (p * 12 + 9) (λ e. omega arith) ∙ a.here;
  second = b.here;
  other = λ m n k. b.other m k ∙ a.other m n;
}

-- the words of other records, and the other words of the record
pub link_cell : {w w' : List ℕ} {p zero one : ℕ} → LinksWritten w w' p zero one → (r j : ℕ) → j < 12 → (r ≡ p → 9 ≤ j → j < 11 → ⊥) → cell w' r j ≡ cell w r j
unfolding cell
link_cell x r j lj ne = x.other (r * 12 + j) (λ e. ne (omega arith) (omega arith) (omega arith)) (λ e. ne (omega arith) (omega arith) (omega arith))

link_side : {w w' : List ℕ} {p zero one : ℕ} → LinksWritten w w' p zero one → (e r : ℕ) → side_at w' e r ≡ side_at w e r
link_side {w} {w'} x e r = side_kept w w' r (link_cell x r 0 (omega arith) (λ z a b. omega arith)) (link_cell x r 1 (omega arith) (λ z a b. omega arith)) (link_cell x r 2 (omega arith) (λ z a b. omega arith)) e

link_apart : {w w' : List ℕ} {p zero one : ℕ} → LinksWritten w w' p zero one → (r : ℕ) → (r ≡ p → ⊥) → (s : ℕ) → s < 2 → link_at w' s r ≡ link_at w s r
link_apart x r ne s ls = link_cell x r (9 + s) (omega arith) (λ z a b. ne z)

-- ---- one record above another
module _ (w : List ℕ) (m d k s : ℕ) (ek : k ≡ number_at w m) (es : s ≡ side_of d k) (zero one : ℕ) (ez : zero ≡ cell w m 9) (eo : one ≡ cell w m 10) where
  is : s ≡ side_at w d m
  is = es ∙ rw ek (side_here w d m)

  pub displace_zero : {w' : List ℕ} {p : ℕ} → s ≡ 0 → LinksWritten w w' p (m + 1) one → (next : ℕ) → next ≡ zero → Displaced w w' p m d next
  displace_zero q x next e =
      let t : eqb (side_at w d m) 0 ≡ true = eq-eqb (side_at w d m) 0 (sym is ∙ q) in
      record { written = rw (t, ← eo) x; own = rw (t, ← ez) e }

  pub displace_one : {w' : List ℕ} {p : ℕ} → (s ≡ 0 → ⊥) → LinksWritten w w' p zero (m + 1) → (next : ℕ) → next ≡ one → Displaced w w' p m d next
  displace_one q x next e =
      let t : eqb (side_at w d m) 0 ≡ false = ne_eqb (side_at w d m) 0 (λ z. q (is ∙ z)) in
      record { written = rw (t, ← ez) x; own = rw (t, ← eo) e }

-- ---- above a tree
never : false ≡ true → ⊥
never z = let k : ◌≡◌ {A = ℕ} 0 1 = cc in omega arith

-- where nothing stands below
pub raise_none : {w w' : List ℕ} {p n d : ℕ} → n ≡ 0 → LinksWritten w w' p 0 0 → Raised w w' p n d
raise_none {w} {w'} {p} {n} {d} e x = record {
  rooted = λ side k test t. record { zero = rw x.first (empty (λ r lr. going_not side test d 0 r (tree_none t e r lr))); one = rw x.second (empty (λ r lr. going_not side test d 1 r (tree_none t e r lr))) };
  kept = λ side k test t r ne f s ls. link_apart x r ne s ls;
  words = λ r j lj ne. link_cell x r j lj (λ z. ne);
  above = λ m le. x.other m (λ z. omega arith) (λ z. omega arith);
}

-- below the last bit
pub raise_deep : {w w' : List ℕ} {p n d : ℕ} → bits ≤ d → LinksWritten w w' p n 0 → Raised w w' p n d
raise_deep {w} {w'} {p} {n} {d} le x = record {
  rooted = λ side k test t. record {
    zero =
        rw x.first
        (tree_kept side (link_at w') (going side test d 0)
        (tree_deeper t (λ e r l lr. zeros side k e r (omega arith) lr) (going side test d 0) (λ r lr. all side k test r lr))
        (λ r lr. refl) (λ r lr g e. refl) (λ r lr g s ls. link_apart x r (λ z. omega arith) s ls));
    one = rw x.second (empty {d = suc d} {test = going side test d 1} {bound = p} (λ r lr. going_apart side test d 1 r (λ z. omega (arith, zeros side k d r le lr))));
  };
  kept = λ side k test t r ne f s ls. link_apart x r ne s ls;
  words = λ r j lj ne. link_cell x r j lj (λ z. ne);
  above = λ m l. x.other m (λ z. omega arith) (λ z. omega arith);
}
  where
    zeros : (side : ℕ → ℕ → ℕ) → ((e r : ℕ) → r < p → side e r ≡ side_at w e r) → (e r : ℕ) → bits ≤ e → r < p → side e r ≡ 0
    zeros side k e r l lr = k e r lr ∙ sym (side_here w e r) ∙ side_deep e (number_at w r) l

    all : (side : ℕ → ℕ → ℕ) → ((e r : ℕ) → r < p → side e r ≡ side_at w e r) → (test : ℕ → Bool) → (r : ℕ) → r < p → going side test d 0 r ≡ test r
    all side k test r lr = by (test r) refl
      where
        by : (u : Bool) → test r ≡ u → going side test d 0 r ≡ test r
        by true e = going_here side test d 0 r e (zeros side k d r le lr) ∙ sym e
        by false e = going_not side test d 0 r e ∙ sym e

-- a root gives way, and goes down its own side
module _ {w w1 : List ℕ} {p m d next : ℕ} (x : Displaced w w1 p m d next) where
  -- the side of m
  abbrev S : ℕ
  S = side_at w d m

  two : S < 2
  two = rw (← side_here w d m) (side_two d (number_at w m))

  next_is : next ≡ link_at w S m
  next_is = by (eqb S 0) refl x.own
    where
      by : (t : Bool) → eqb S 0 ≡ t → next ≡ choose t (link_at w 0 m) (link_at w 1 m) → next ≡ link_at w S m
      by true e q = let z : S ≡ 0 = eqb-true S 0 e in rw z q
      by false e q = let ne : S ≡ 0 → ⊥ = eqb-false S 0 e in let z : S ≡ 1 = omega (arith, two) in rw z q

  own_link : link_at w1 S p ≡ m + 1
  own_link = by (eqb S 0) refl x.written
    where
      by : (t : Bool) → eqb S 0 ≡ t → LinksWritten w w1 p (choose t (m + 1) (link_at w 0 m)) (choose t (link_at w 1 m) (m + 1)) → link_at w1 S p ≡ m + 1
      by true e q = let z : S ≡ 0 = eqb-true S 0 e in rw z q.first
      by false e q = let ne : S ≡ 0 → ⊥ = eqb-false S 0 e in let z : S ≡ 1 = omega (arith, two) in rw z q.second

  other_link : (o : ℕ) → o < 2 → (o ≡ S → ⊥) → link_at w1 o p ≡ link_at w o m
  other_link o lo apart = by (eqb S 0) refl x.written
    where
      by : (t : Bool) → eqb S 0 ≡ t → LinksWritten w w1 p (choose t (m + 1) (link_at w 0 m)) (choose t (link_at w 1 m) (m + 1)) → link_at w1 o p ≡ link_at w o m
      by true e q = let z : S ≡ 0 = eqb-true S 0 e in let y : o ≡ 1 = omega arith in rw y q.second
      by false e q = let ne : S ≡ 0 → ⊥ = eqb-false S 0 e in let z : S ≡ 1 = omega (arith, two) in let y : o ≡ 0 = omega arith in rw y q.first

  -- what is left to be done can be
  pub raise_next : Raisable w p (m + 1) d → length w1 ≡ length w → Raisable w1 m next (d + 1)
  raise_next a len = record {
    room = omega (arith, a.room, at.low);
    narrow = omega (arith, a.narrow, at.low);
    test = going (side_at w) a.test d S;
    tree =
        rw (add-one d, next_is)
        (tree_kept (side_at w1) (link_at w1) (going (side_at w) a.test d S) (root_side at S two) (λ r lr. refl) (λ r lr g e. link_side x.written e r) (λ r lr g s ls. link_apart x.written r (λ z. omega (arith, at.low)) s ls));
  }
    where
      at : Root (side_at w) (link_at w) d a.test p m
      at = let z : m + 1 - 1 ≡ m = omega arith in rw z at (tree_root a.tree (omega arith))

  module _ {w2 : List ℕ} (lt : m < p) (y : Raised w1 w2 m next (suc d)) where
    module _ (side : ℕ → ℕ → ℕ) (k : (e r : ℕ) → r < p → side e r ≡ side_at w e r) (test : ℕ → Bool) (t : Tree side (link_at w) d test p (m + 1)) where
      at : Root side (link_at w) d test p m
      at = let z : m + 1 - 1 ≡ m = omega arith in rw z at (tree_root t (omega arith))

      -- those that go to the side of m
      abbrev G : ℕ → Bool
      G = going side test d S

      k1 : (e r : ℕ) → r < m → side e r ≡ side_at w1 e r
      k1 e r lr = k e r (omega (arith, at.low)) ∙ sym (link_side x.written e r)

      below : Tree side (link_at w1) (suc d) G m next
      below = rw next_is (tree_kept side (link_at w1) G (root_side at S two) (λ r lr. refl) (λ r lr g e. refl) (λ r lr g s ls. link_apart x.written r (λ z. omega (arith, at.low)) s ls))

      here : side d m ≡ S
      here = k d m at.low

      -- the links of p itself
      link_p : (o : ℕ) → o < 2 → link_at w2 o p ≡ link_at w1 o p
      link_p o lo = y.kept side k1 G below p (λ z. omega (arith, at.low)) (λ l. absurd (omega (arith, at.low))) o lo

      child : (o : ℕ) → o < 2 → Tree side (link_at w2) (suc d) (going side test d o) p (link_at w2 o p)
      child o lo = by (eqb o S) refl
        where
          inner : Rooted side (link_at w2) (suc d) G m
          inner = y.rooted side k1 G below

          by : (u : Bool) → eqb o S ≡ u → Tree side (link_at w2) (suc d) (going side test d o) p (link_at w2 o p)
          by true e =
              let z : o ≡ S = eqb-true o S e in
              rw (z, link_p S two, own_link, add-one m) (root {d = suc d} {test = going side test d S} {bound = p} {m = m} at.low (going_here side test d S m at.here here) (λ r a b. going_not side test d S r (at.over r a b)) inner.zero inner.one)
          by false e =
              let ne : o ≡ S → ⊥ = eqb-false o S e in
              rw (link_p o lo, other_link o lo ne)
              (tree_higher
              (tree_kept side (link_at w2) (going side test d o) (root_side at o lo) (λ r lr. refl) (λ r lr g i. refl)
              (λ r lr g s ls.
              y.kept side k1 G below r (λ z. omega arith) (λ l. going_apart side test d S r (λ z. ne (sym (going_is side test d o r g).1 ∙ z))) s ls ∙ link_apart x.written r (λ z. omega (arith, at.low)) s ls))
              p
              (omega (arith, at.low))
              (λ r a b. between r a b (eqb r m) refl))
            where
              between : (r : ℕ) → m ≤ r → r < p → (u : Bool) → eqb r m ≡ u → going side test d o r ≡ false
              between r a b true q = let z : r ≡ m = eqb-true r m q in rw z (going_apart side test d o m (λ i. eqb-false o S e (sym i ∙ here)))
              between r a b false q = let z : r ≡ m → ⊥ = eqb-false r m q in going_not side test d o r (at.over r (omega arith) b)

      rooted : Rooted side (link_at w2) d test p
      rooted = record { zero = child 0 (omega arith); one = child 1 (omega arith) }

      kept : (r : ℕ) → (r ≡ p → ⊥) → (r < p → test r ≡ false) → (s : ℕ) → s < 2 → link_at w2 s r ≡ link_at w s r
      kept r ne f s ls =
          y.kept side k1 G below r (λ z. let g : test r ≡ true = rw z at.here in never (sym (f (omega (arith, at.low))) ∙ g)) (λ l. going_not side test d S r (f (omega (arith, at.low)))) s ls ∙ link_apart x.written r ne s ls

    pub raise_over : Raised w w2 p (m + 1) d
    raise_over = record {
      rooted = rooted;
      kept = kept;
      words = λ r j lj ne. y.words r j lj ne ∙ link_cell x.written r j lj (λ z. ne);
      above = λ i le. y.above i (omega arith) ∙ x.written.other i (λ z. omega arith) (λ z. omega arith);
    }

  pub raise_step : {w2 : List ℕ} → Raised w1 w2 m next (d + 1) → m < p → Raised w w2 p (m + 1) d
  raise_step y lt = raise_over lt (rw (add-one d) at y)

-- ---- a record comes to stand above a tree, a root at a time: what is left to be done, and that it leads to the whole
pub record Raising (w₀ : List ℕ) (place root : ℕ) (w : List ℕ) (p n d : ℕ) : Type 0 where
  pub long : length w ≡ length w₀
  pub most : d ≤ bits
  pub left : Raisable w p n d
  pub rest : (w' : List ℕ) → Raised w w' p n d → Raised w₀ w' place root 0

pub raising_start : {w : List ℕ} {place root : ℕ} → Raisable w place root 0 → Raising w place root w place root 0
raising_start a = record { long = refl; most = omega arith; left = a; rest = λ w' y. y }

module _ {w₀ : List ℕ} {place root : ℕ} {w : List ℕ} {p n d : ℕ} (g : Raising w₀ place root w p n d) where
  pub raising_low : n ≤ p
  raising_low = tree_low g.left.tree

  pub raising_next : (n ≡ 0 → ⊥) → d < bits → {w1 : List ℕ} {next : ℕ} → Displaced w w1 p (n - 1) d next → length w1 ≡ length w → Raising w₀ place root w1 (n - 1) next (d + 1)
  raising_next some lt {w1} {next} x len =
      let z : n - 1 + 1 ≡ n = omega arith in
      record {
        long = len ∙ g.long;
        most = omega arith;
        left = raise_next x (rw z g.left) len;
        rest = λ w' y. g.rest w' (rw z at (raise_step x y (omega (arith, raising_low))));
      }

  pub raising_none : n ≡ 0 → {w' : List ℕ} → LinksWritten w w' p 0 0 → Raised w₀ w' place root 0
  raising_none e {w'} x = g.rest w' (raise_none e x)

  pub raising_deep : bits ≤ d → {w' : List ℕ} → LinksWritten w w' p n 0 → Raised w₀ w' place root 0
  raising_deep le {w'} x = g.rest w' (raise_deep le x)
