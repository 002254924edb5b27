-- The library's file of a base: the newest, and no other.
use mathlib.Core.Path.{◌≡◌, refl, sym, ap, ◌∙◌}
use mathlib.Core.Bool.{Bool, true, false}
use mathlib.Core.List.{List, [], ◌∷◌, ◌++◌}
use mathlib.Core.Option.{Option, none, some}
use Prim.Native.Nat.{ℕ, zero, suc, ◌+◌, ◌-◌, ◌≤◌, ◌<◌}
use native.Mathlib.Omega.{arith}
use lib.ListN.{length, get_elem?}
use lib.Dec.{eqb}
use borrow.Author.Tests.{eq-eqb, ne_eqb}
use Rattle.ast.specs.Ast.{File}
use Rattle.ast.specs.Choice.{choose, or_else}
use Rattle.pick_definition.specs.Picks.{library_file, pick_url}
use Rattle.pick_definition.specs.Newer.{Newest, NewerCounts}

-- the library's file of a base is the one of its number
pub file_at_lem : (base n : ℕ) (l : List File) (m : ℕ) (f : File) → library_file base n l ≡ some (m, f) → (n ≤ m) × (get_elem? l (m - n) ≡ some f)
unfolding library_file
file_at_lem base n [] m f e = let z : ◌≡◌ {A = ℕ} 0 1 = cc in absurd (omega arith)
file_at_lem base n (x ∷ l) m f e = go (library_file base (suc n) l) (file_at_lem base (suc n) l m f) (eqb x.base base) e
  where
    go : (o : Option (ℕ × File)) → (o ≡ some (m, f) → (suc n ≤ m) × (get_elem? l (m - suc n) ≡ some f)) → (b : Bool) → or_else o (choose b (some (n, x)) none) ≡ some (m, f) → (n ≤ m) × (get_elem? (x ∷ l) (m - n) ≡ some f)
    go none r true e =
        let p : ◌≡◌ {A = ℕ × File} (n, x) (m, f) = cc in
        let z : n ≡ m = ap (λ (q : ℕ × File). q.0) p in
        let y : x ≡ f = ap (λ (q : ℕ × File). q.1) p in
        let w : m - n ≡ 0 = omega arith in
        (omega arith, rw (w, y))
    go none r false e = let z : ◌≡◌ {A = ℕ} 0 1 = cc in absurd (omega arith)
    go (some y) r b e =
        let z = r e in
        let w : m - n ≡ suc (m - suc n) = omega (arith, z.0) in
        (omega (arith, z.0), rw w z.1)

-- a file has one number, however it is reckoned
numbered : {m n : ℕ} (f : File) → m ≡ n → ◌≡◌ {A = Option (ℕ × File)} (some (m, f)) (some (n, f))
numbered f e = rw e

module _ (base : ℕ) where
  unresolved : (n : ℕ) (l : List File) → ((k : ℕ) (f : File) → get_elem? l k ≡ some f → f.base ≡ base → ⊥) → library_file base n l ≡ none
  unfolding library_file
  unresolved n [] h = refl
  unresolved n (x ∷ l) h = rw (unresolved (suc n) l (λ k f. h (suc k) f), ne_eqb x.base base (h 0 x refl))

  used : (n : ℕ) (l : List File) (k : ℕ) (f : File) → Newest l base k f → library_file base n l ≡ some (n + k, f)
  unfolding library_file
  used n [] k f w = let e = w.here in let z : ◌≡◌ {A = ℕ} 0 1 = cc in absurd (omega arith)
  used n (x ∷ l) zero f w =
      let e = w.here in
      let z : x ≡ f = cc in
      rw (unresolved (suc n) l (λ j g. w.last (suc j) g (omega arith)), eq-eqb x.base base (ap (λ (y : File). y.base) z ∙ w.is), z)
      (numbered f (omega arith))
  used n (x ∷ l) (suc k) f w =
      rw (used (suc n) l k f (record { here = w.here; is = w.is; last = λ j g h. w.last (suc j) g (omega arith) }))
      (numbered f (omega arith))

  -- with a file of the base at the end
  added : (n : ℕ) (l : List File) (f : File) → f.base ≡ base → library_file base n (l ++ (f ∷ [])) ≡ some (n + length l, f)
  unfolding library_file
  added n [] f e = rw (eq-eqb f.base base e) (numbered f (omega arith))
  added n (x ∷ l) f e = rw (added (suc n) l f e) (numbered f (omega arith))

  -- with a file of another
  unmoved : (n : ℕ) (l : List File) (f : File) → (f.base ≡ base → ⊥) → library_file base n (l ++ (f ∷ [])) ≡ library_file base n l
  unfolding library_file
  unmoved n [] f ne = rw (ne_eqb f.base base ne)
  unmoved n (x ∷ l) f ne = rw (unmoved (suc n) l f ne)

-- the law of the newer file
pub newer_counts : (library : List File) → NewerCounts library
unfolding pick_url
newer_counts library = record {
  used = λ base k f w. used base 1 library k f w ∙ numbered f (omega arith);
  unresolved = λ base h. unresolved base 1 library h;
  corrected = λ f u e.
      let i : 1 + length library ≡ length library + 1 = omega arith in
      rw (added u.base 1 library f (sym e), i);
  others = λ f u ne. rw (unmoved u.base 1 library f (λ e. ne (sym e)));
}
