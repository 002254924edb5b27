-- Stores one after the other.
use mathlib.Core.Path.{◌≡◌, sym, ap, ◌∙◌}
use mathlib.Core.List.{List, [], ◌∷◌, ◌++◌, append_assoc}
use Prim.Native.Nat.{ℕ, suc, ◌+◌, ◌≤◌}
use native.Mathlib.Omega.{arith}
use lib.ListN.{length, take, drop, set, length-take, length-drop}
use lib.Seq.{set_comm, sets, sets-eq, drop-drop}
use borrow.Rule.Slice.PartMut.{put_mid}

module _ {A : Type 0} where
  pub sets_append : (l : List A) (i j : ℕ) (a b : List A) → i + length a ≡ j → sets l i (a ++ b) ≡ sets (sets l i a) j b
  sets_append l i j [] b h = let e : i ≡ j = omega arith in rw e
  sets_append l i j (x ∷ a) b h = sets_append (set l i x) (suc i) j a b (omega arith)

  -- the last of several stores may come first
  pub sets_last : (l : List A) (i j : ℕ) (a : List A) (x : A) → i + length a ≡ j → sets l i (a ++ (x ∷ [])) ≡ sets (set l j x) i a
  sets_last l i j [] x h = let e : i ≡ j = omega arith in rw e
  sets_last l i j (y ∷ a) x h =
      sets_last (set l i y) (suc i) j a x (omega arith) ∙ ap (λ (m : List A). sets m (suc i) a) (set_comm l i j y x (λ e. omega arith))

  -- stores from the start on leave what comes after
  pub sets_front : (l a : List A) (n : ℕ) → length a ≡ n → n ≤ length l → sets l 0 a ≡ a ++ drop n l
  sets_front l a n h k = let e : 0 + length a ≡ n = omega arith in sets-eq a l 0 (omega arith) ∙ rw e

  -- a part that was lent comes back as stores at its place
  pub mid_sets : (p n : ℕ) (xs ys : List A) → p + n ≤ length xs → length ys ≡ n → put_mid p n xs ys ≡ sets xs p ys
  mid_sets p n xs ys h e =
      let q : p + n ≡ p + length ys = omega arith in
      sym
      (sets-eq ys xs p (omega arith) ∙ append_assoc (take p xs) ys (drop (p + length ys) xs) ∙ ap (λ (r : List A). take p xs ++ (ys ++ r)) (sym (drop-drop n p xs ∙ ap (λ (k : ℕ). drop k xs) q)))

  -- a part that was filled
  pub part_put : (p n m : ℕ) (l : List A) (f : ℕ → List A) → ((k : ℕ) → length (f k) ≡ k) → n ≡ m → p + m ≤ length l → {x : List A} → x ≡ f (length (take n (drop p l))) → put_mid p n l x ≡ sets l p (f m)
  part_put p n m l f long e h {x} is =
      let k : length (take n (drop p l)) ≡ m = simp (length-take, length-drop) (omega arith) in
      let y : x ≡ f m = is ∙ ap f k in
      mid_sets p n l x (omega arith) (omega (arith, ap length y, long m)) ∙ ap (λ (r : List A). sets l p r) y
