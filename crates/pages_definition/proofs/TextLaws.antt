-- Texts one after another: stored, counted, and found again.
use mathlib.Core.Path.{◌≡◌, refl, sym, ap, ◌∙◌}
use mathlib.Core.List.{List, [], ◌++◌, append_assoc, append-nil}
use Prim.Native.Nat.{ℕ, zero, suc, ◌+◌, ◌*◌, ◌<◌}
use native.Mathlib.Omega.{arith}
use native.Mathlib.Numerals.{add-one}
use native.Mathlib.Decide.{ℕ_discrete}
use lib.ListN.{length, set, length-append}
use lib.Seq.{sets}
use Rattle.text_decimal.proofs.StoreLaws.{sets_append}
use Rattle.pages_definition.specs.Pages.{each, line_end}

-- a store behind another
pub then : (t₀ : List ℕ) (i j : ℕ) (a b : List ℕ) {t₁ t₂ : List ℕ} → t₁ ≡ sets t₀ i a → t₂ ≡ sets t₁ j b → i + length a ≡ j → t₂ ≡ sets t₀ i (a ++ b)
then t₀ i j a b e f h = f ∙ rw e (sym (sets_append t₀ i j a b h))

-- 72 bytes and a line end
pub ended_put : (t₀ : List ℕ) (at : ℕ) (a : List ℕ) {t₁ : List ℕ} → t₁ ≡ sets t₀ at a → length a ≡ 72 → set t₁ (at + 72) 10 ≡ sets t₀ at (a ++ line_end)
ended_put t₀ at a e h = then t₀ at (at + 72) a line_end e refl (ap (λ (n : ℕ). at + n) h)

-- three fields
pub three_put : (t₀ : List ℕ) (at : ℕ) (a b c : List ℕ) {t₁ t₂ t₃ : List ℕ} → length a ≡ 12 → length b ≡ 12 → t₁ ≡ sets t₀ at a → t₂ ≡ sets t₁ (at + 12) b → t₃ ≡ sets t₂ (at + 24) c → t₃ ≡ sets t₀ at (a ++ (b ++ c))
three_put t₀ at a b c p q e f g =
    then t₀ at (at + 24) (a ++ b) c (then t₀ at (at + 12) a b e f (ap (λ (n : ℕ). at + n) p)) g (omega (arith, length-append a b)) ∙
    ap (λ (l : List ℕ). sets t₀ at l) (append_assoc a b c)

-- the six fields of a line and its end
pub line_put : (t₀ : List ℕ) (at : ℕ) (a b c d e f : List ℕ) {t₁ t₂ t₃ t₄ : List ℕ} → length a ≡ 12 → length b ≡ 12 → length c ≡ 12 → length d ≡ 12 → length e ≡ 12 → length f ≡ 12 → t₁ ≡ sets t₀ at (a ++ (b ++ c)) → t₂ ≡ sets t₁ (at + 36) d → t₃ ≡ sets t₂ (at + 48) e → t₄ ≡ sets t₃ (at + 60) f → set t₄ (at + 72) 10 ≡ sets t₀ at (a ++ (b ++ (c ++ (d ++ (e ++ (f ++ line_end))))))
line_put t₀ at a b c d e f p₁ p₂ p₃ p₄ p₅ p₆ e₁ e₂ e₃ e₄ =
    let abc = a ++ (b ++ c) in
    let n₁ : length abc ≡ 36 = omega (arith, length-append a (b ++ c), length-append b c) in
    let n₂ : length (abc ++ d) ≡ 48 = omega (arith, length-append abc d) in
    let n₃ : length ((abc ++ d) ++ e) ≡ 60 = omega (arith, length-append (abc ++ d) e) in
    let n₄ : length (((abc ++ d) ++ e) ++ f) ≡ 72 = omega (arith, length-append ((abc ++ d) ++ e) f) in
    let s₂ = then t₀ at (at + 36) abc d e₁ e₂ (ap (λ (n : ℕ). at + n) n₁) in
    let s₃ = then t₀ at (at + 48) (abc ++ d) e s₂ e₃ (ap (λ (n : ℕ). at + n) n₂) in
    let s₄ = then t₀ at (at + 60) ((abc ++ d) ++ e) f s₃ e₄ (ap (λ (n : ℕ). at + n) n₃) in
    let z : (((abc ++ d) ++ e) ++ f) ++ line_end ≡ a ++ (b ++ (c ++ (d ++ (e ++ (f ++ line_end))))) = simp append_assoc in
    ended_put t₀ at (((abc ++ d) ++ e) ++ f) s₄ n₄ ∙ ap (λ (l : List ℕ). sets t₀ at l) z

-- ---- one after another

-- one more
pub each_more : (t₀ : List ℕ) (at k j : ℕ) (f : ℕ → List ℕ) {t₁ t₂ : List ℕ} → at + length (each k f) ≡ j → t₁ ≡ sets t₀ at (each k f) → t₂ ≡ sets t₁ j (f k) → t₂ ≡ sets t₀ at (each (k + 1) f)
unfolding each
each_more t₀ at k j f h e g = rw (add-one k) (then t₀ at j (each k f) (f k) e g h)

-- the k-th of them, what comes before it and after it
pub record Split (n k : ℕ) (f : ℕ → List ℕ) : Type 0 where
  pub after : List ℕ
  pub is : each n f ≡ each k f ++ (f k ++ after)

split_more : {n k : ℕ} {f : ℕ → List ℕ} → Split n k f → Split (suc n) k f
unfolding each
split_more {n} {k} {f} s = record { after = s.after ++ f n; is = rw s.is (simp append_assoc) }

split_last : (n k : ℕ) (f : ℕ → List ℕ) → k ≡ n → Split (suc n) k f
unfolding each
split_last n k f e = record { after = []; is = rw (e, append-nil (f n)) }

split_by : (n k : ℕ) (f : ℕ → List ℕ) → k < suc n → Dec (k ≡ n) → (k < n → Split n k f) → Split (suc n) k f
split_by n k f h (yes e) next = split_last n k f e
split_by n k f h (no e) next = split_more (next (omega arith))

pub split : (n k : ℕ) (f : ℕ → List ℕ) → k < n → Split n k f
split zero k f h = absurd (omega arith)
split (suc n) k f h = split_by n k f h (ℕ_discrete k n) (split n k f)

-- ---- how long

module _ (f : ℕ → List ℕ) where
  pub lines_length : ((k : ℕ) → length (f k) ≡ 73) → (n : ℕ) → length (each n f) ≡ 73 * n
  unfolding each
  lines_length h zero = refl
  lines_length h (suc n) = omega (arith, length-append (each n f) (f n), lines_length h n, h n)

  pub pages_length : ((k : ℕ) → length (f k) ≡ 4380) → (n : ℕ) → length (each n f) ≡ 4380 * n
  unfolding each
  pages_length h zero = refl
  pages_length h (suc n) = omega (arith, length-append (each n f) (f n), pages_length h n, h n)
