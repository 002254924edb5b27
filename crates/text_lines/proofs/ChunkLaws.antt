-- The parts of a list, as the library's chunks of exactly one size give them.
use mathlib.Core.Path.{◌≡◌, refl, sym, ap, ◌∙◌}
use mathlib.Core.List.{List, [], ◌∷◌}
use Prim.Native.Nat.{ℕ, zero, suc, ◌+◌, ◌*◌, ◌≤◌, ◌<◌}
use native.Mathlib.Omega.{arith}
use native.Mathlib.Nat.{mul-suc}
use lib.ListN.{length, take, drop, length-append, length-drop}
use lib.Seq.{take_at, drop_at}
use Rattle.std.specs.declared.slice.ChunksExact.{ChunksExact}
use Rattle.std.specs.Slice.Iter.{chunks_exact_rest, chunks_exact_size, chunks_exact_steps}
use Rattle.std.specs.Iterator.{AlwaysYields}
use Rattle.std.proofs.lemmas.Iterator.{YieldsList}

-- the first k parts of n
abbrev pub parts : ℕ → ℕ → List ℕ → List (List ℕ)
parts n zero l = []
parts n (suc k) l = take n l ∷ parts n k (drop n l)

pub parts_length : (n k : ℕ) (l : List ℕ) → length (parts n k l) ≡ k
parts_length n zero l = refl
parts_length n (suc k) l = let h = parts_length n k (drop n l) in omega arith

come : (n k : ℕ) (l : List ℕ) (s : ChunksExact ℕ) → 0 < n → chunks_exact_rest s ≡ l → chunks_exact_size s ≡ n → n * k ≤ length l → length l < n * k + n → AlwaysYields chunks_exact_steps (λ y. y.now) s (parts n k l)
come n zero l s p e z a b = λ x j h. let g = length-append x.now (chunks_exact_rest j) in let f = ap length h.1.0 in let d = ap length e in omega (arith, h.1.1)
come n (suc k) l s p e z a b = (
  λ j h. let d = ap length e in omega (arith, h.1.0, mul-suc n k),
  λ x j h.
      let f = sym e ∙ h.1.0 in
      let w = h.1.1 ∙ z in
      let g : take n l ≡ x.now = rw f (take_at x.now (chunks_exact_rest j) n w) in
      let q : drop n l ≡ chunks_exact_rest j = rw f (drop_at x.now (chunks_exact_rest j) n w) in
      let m = length-drop n l in
      (sym g, come n k (drop n l) j p (sym q) (h.0 ∙ z) (omega (arith, mul-suc n k)) (omega (arith, mul-suc n k))),
)

pub parts_come : (n k : ℕ) (l : List ℕ) {s : ChunksExact ℕ} → 0 < n → chunks_exact_rest s ≡ l → chunks_exact_size s ≡ n → n * k ≤ length l → length l < n * k + n → YieldsList chunks_exact_steps (λ y. y.now) s (parts n k l)
parts_come n k l {s} p e z a b = record { runs = come n k l s p e z a b }
