-- Trees of records: what is at the root and below it, that a tree stays while its links do, and how a record comes to stand
-- above one.
use mathlib.Core.Path.{◌≡◌, refl, sym, ◌∙◌}
use mathlib.Core.Bool.{Bool, true, false}
use Prim.Native.Nat.{ℕ, suc, ◌-◌, ◌<◌, ◌≤◌}
use native.Mathlib.Omega.{arith}
use lib.Dec.{eqb, ltb}
use borrow.Author.Tests.{eq-eqb, ne_eqb, eqb-true, eqb-false, ltb-true, ltb-false}
use Rattle.ast.specs.Choice.{choose}
use Rattle.journal_records.specs.Logs.{newest_below}
use Rattle.journal_records.proofs.Lists.{last_none, last_at}
use Rattle.journal_index.specs.Index.{going, Tree}
use Rattle.journal_index.specs.Index.Tree.{empty, root}

-- ---- those that go to a side
module _ (side : ℕ → ℕ → ℕ) (test : ℕ → Bool) (d s r : ℕ) where
  pub going_here : test r ≡ true → side d r ≡ s → going side test d s r ≡ true
  unfolding going
  going_here e f = rw (e, eq-eqb (side d r) s f)

  pub going_not : test r ≡ false → going side test d s r ≡ false
  unfolding going
  going_not e = rw e

  pub going_apart : (side d r ≡ s → ⊥) → going side test d s r ≡ false
  unfolding going
  going_apart ne = rw (ne_eqb (side d r) s ne) (by (test r))
    where
      by : (u : Bool) → choose u false false ≡ false
      by true = refl
      by false = refl

  pub going_is : going side test d s r ≡ true → (test r ≡ true) × (side d r ≡ s)
  unfolding going
  going_is e = by (test r) refl e
    where
      by : (u : Bool) → test r ≡ u → choose u (eqb (side d r) s) false ≡ true → (test r ≡ true) × (side d r ≡ s)
      by true q f = (q, eqb-true (side d r) s f)
      by false q f = let z : ◌≡◌ {A = ℕ} 0 1 = cc in absurd (omega arith)

-- a test and sides that are the same
pub going_same : (side side' : ℕ → ℕ → ℕ) (test test' : ℕ → Bool) (d d' s r : ℕ) → test' r ≡ test r → (test r ≡ true → side' d' r ≡ side d r) → going side' test' d' s r ≡ going side test d s r
unfolding going
going_same side side' test test' d d' s r e f = rw e (by (test r) f)
  where
    by : (u : Bool) → (u ≡ true → side' d' r ≡ side d r) → choose u (eqb (side' d' r) s) false ≡ choose u (eqb (side d r) s) false
    by true g = rw (g refl)
    by false g = refl

-- below a place or not
two : {A : Type 0} (r bound : ℕ) → (r < bound → A) → (bound ≤ r → A) → A
two {A} r bound f g = by (ltb r bound) refl
  where
    by : (t : Bool) → ltb r bound ≡ t → A
    by true e = f (ltb-true r bound e)
    by false e = g (ltb-false r bound e)

-- ---- what stands at a root m
pub record Root (side link : ℕ → ℕ → ℕ) (d : ℕ) (test : ℕ → Bool) (bound m : ℕ) : Type 0 where
  pub low : m < bound
  pub here : test m ≡ true
  pub over : (r : ℕ) → m < r → r < bound → test r ≡ false
  pub zero : Tree side link (suc d) (going side test d 0) m (link 0 m)
  pub one : Tree side link (suc d) (going side test d 1) m (link 1 m)

module _ {side link : ℕ → ℕ → ℕ} where
  pub tree_root : {d : ℕ} {test : ℕ → Bool} {bound n : ℕ} → Tree side link d test bound n → 0 < n → Root side link d test bound (n - 1)
  tree_root (empty h) lt = absurd (omega arith)
  tree_root (root {m = m} a b c x y) lt = let z : suc m - 1 ≡ m = omega arith in rw z (record { low = a; here = b; over = c; zero = x; one = y })

  -- the tree of a side
  pub root_side : {d : ℕ} {test : ℕ → Bool} {bound m : ℕ} → Root side link d test bound m → (s : ℕ) → s < 2 → Tree side link (suc d) (going side test d s) m (link s m)
  root_side {d} {test} {bound} {m} x s ls = by (eqb s 0) refl
    where
      by : (t : Bool) → eqb s 0 ≡ t → Tree side link (suc d) (going side test d s) m (link s m)
      by true e = rw (eqb-true s 0 e) x.zero
      by false e = let ne : s ≡ 0 → ⊥ = eqb-false s 0 e in let z : s ≡ 1 = omega arith in rw z x.one

  pub tree_none : {d : ℕ} {test : ℕ → Bool} {bound n : ℕ} → Tree side link d test bound n → n ≡ 0 → (r : ℕ) → r < bound → test r ≡ false
  tree_none (empty h) e r lr = h r lr
  tree_none (root a b c x y) e r lr = absurd (omega arith)

  -- it is the newest of all
  pub tree_newest : {d : ℕ} {test : ℕ → Bool} {bound n : ℕ} → Tree side link d test bound n → n ≡ newest_below test bound
  tree_newest (empty {test = test} {bound = bound} h) = sym (last_none test bound h)
  tree_newest (root {test = test} {bound = bound} {m = m} a b c x y) = sym (last_at test bound m a b c)

  pub tree_low : {d : ℕ} {test : ℕ → Bool} {bound n : ℕ} → Tree side link d test bound n → n ≤ bound
  tree_low (empty h) = omega arith
  tree_low (root a b c x y) = omega arith

  -- none pass the test from the bound up to a higher one
  pub tree_higher : {d : ℕ} {test : ℕ → Bool} {bound n : ℕ} → Tree side link d test bound n → (higher : ℕ) → bound ≤ higher → ((r : ℕ) → bound ≤ r → r < higher → test r ≡ false) → Tree side link d test higher n
  tree_higher (empty {bound = bound} h) higher le none = empty (λ r lr. two r bound (λ l. h r l) (λ l. none r l lr))
  tree_higher (root {bound = bound} {m = m} a b c x y) higher le none = root {bound = higher} {m = m} (omega arith) b (λ r m lr. two r bound (λ l. c r m l) (λ l. none r l lr)) x y

-- ---- a tree stays while its links, its sides and its test do
pub tree_kept : {side link : ℕ → ℕ → ℕ} (side' link' : ℕ → ℕ → ℕ) {d : ℕ} {test : ℕ → Bool} {bound n : ℕ} (test' : ℕ → Bool) → Tree side link d test bound n → ((r : ℕ) → r < bound → test' r ≡ test r)
    → ((r : ℕ) → r < bound → test r ≡ true → (e : ℕ) → side' e r ≡ side e r) → ((r : ℕ) → r < bound → test r ≡ true → (s : ℕ) → s < 2 → link' s r ≡ link s r) → Tree side' link' d test' bound n
tree_kept side' link' test' (empty h) t k l = empty (λ r lr. t r lr ∙ h r lr)
tree_kept {side} side' link' test' (root {d = d} {test = test} {bound = bound} {m = m} a b c x y) t k l =
    root {d = d} {test = test'} {bound = bound} {m = m} a (t m a ∙ b) (λ r u v. t r v ∙ c r u v)
    (rw (l m a b 0 (omega arith)) (tree_kept side' link' (going side' test' d 0) x (λ r lr. going_same side side' test test' d d 0 r (t r (omega arith)) (λ e. k r (omega arith) e d)) (λ r lr e. k r (omega arith) (going_is side test d 0 r e).0) (λ r lr e. l r (omega arith) (going_is side test d 0 r e).0)))
    (rw (l m a b 1 (omega arith)) (tree_kept side' link' (going side' test' d 1) y (λ r lr. going_same side side' test test' d d 1 r (t r (omega arith)) (λ e. k r (omega arith) e d)) (λ r lr e. k r (omega arith) (going_is side test d 1 r e).0) (λ r lr e. l r (omega arith) (going_is side test d 1 r e).0)))

-- ---- below the last bit, where all go to side 0, a tree may stand a level deeper
pub tree_deeper : {side link : ℕ → ℕ → ℕ} {d : ℕ} {test : ℕ → Bool} {bound n : ℕ} → Tree side link d test bound n → ((e r : ℕ) → d ≤ e → r < bound → side e r ≡ 0) → (test' : ℕ → Bool) → ((r : ℕ) → r < bound → test' r ≡ test r) → Tree side link (suc d) test' bound n
tree_deeper (empty h) z test' t = empty (λ r lr. t r lr ∙ h r lr)
tree_deeper {side} (root {d = d} {test = test} {bound = bound} {m = m} a b c x y) z test' t =
    root {d = suc d} {test = test'} {bound = bound} {m = m} a (t m a ∙ b) (λ r u v. t r v ∙ c r u v)
    (tree_deeper x (λ e r le lr. z e r (omega arith) (omega arith)) (going side test' (suc d) 0) (λ r lr. going_same side side test test' d (suc d) 0 r (t r (omega arith)) (λ e. z (suc d) r (omega arith) (omega arith) ∙ sym (z d r (omega arith) (omega arith)))))
    (tree_deeper y (λ e r le lr. z e r (omega arith) (omega arith)) (going side test' (suc d) 1) (λ r lr. going_same side side test test' d (suc d) 1 r (t r (omega arith)) (λ e. z (suc d) r (omega arith) (omega arith) ∙ sym (z d r (omega arith) (omega arith)))))
