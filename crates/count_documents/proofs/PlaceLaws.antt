-- Which of the names a name is.
use mathlib.Core.Path.{◌≡◌, subst, ◌∙◌}
use mathlib.Core.List.{List}
use Prim.Native.Nat.{ℕ, ◌+◌, ◌<◌}
use native.Mathlib.Omega.{arith}
use native.Mathlib.Decide.{ℕ_discrete}
use lib.ListN.{get_or, set, replicate, length-set, length-replicate, get_or-replicate}
use Rattle.std.specs.Prelude.{Option, Some, None}
use lib.Seq.{get_or-set_same, get_or-set_other}
use Rattle.count_documents.specs.declared.Looked.{Looked}
use Rattle.count_documents.specs.Steps.{PlaceUpTo, Place, slots, unlooked, Remembers}

pub place_start : (names : List ℕ) (x : ℕ) → PlaceUpTo names x 0 None
place_start names x = λ j h e. absurd (omega arith)

module _ (names : List ℕ) (x i : ℕ) where
  pub place_hit : get_or names i 0 ≡ x → PlaceUpTo names x (i + 1) (Some i)
  place_hit e = (omega arith, e)

  pub place_miss : (r : Option ℕ) → PlaceUpTo names x i r → (get_or names i 0 ≡ x → ⊥) → PlaceUpTo names x (i + 1) r
  place_miss None h n = λ j q e. go j q e (ℕ_discrete j i)
    where
      go : (j : ℕ) → j < i + 1 → get_or names j 0 ≡ x → Dec (j ≡ i) → ⊥
      go j q e (yes p) = n (rw p at e)
      go j q e (no p) = h j (omega arith) e
  place_miss (Some j) h n = (omega (arith, h.0), h.1)

-- ---- names that were looked for

module _ {names : List ℕ} {looked : List Looked} (r : Remembers names looked) {s : ℕ} (h : s < slots) where
  pub remembered : (name : ℕ) → (get_or looked s unlooked).name ≡ name → Place names name (get_or looked s unlooked).place
  remembered name e = subst (λ (x : ℕ). Place names x (get_or looked s unlooked).place) e (r.each s h)

  pub remembers_more : (x : Looked) → Place names x.name x.place → Remembers names (set looked s x)
  remembers_more x p =
      record {
        long = length-set looked s x ∙ r.long;
        each = λ i q. go i q (ℕ_discrete i s);
      }
    where
      go : (i : ℕ) → i < slots → Dec (i ≡ s) → Place names (get_or (set looked s x) i unlooked).name (get_or (set looked s x) i unlooked).place
      go i q (yes e) = rw (e, get_or-set_same looked s x unlooked (omega (arith, r.long))) p
      go i q (no e) = rw (get_or-set_other looked s i x unlooked e) (r.each i q)

pub remembers_start : (names : List ℕ) (x : Looked) → Place names x.name x.place → Remembers names (replicate slots x)
remembers_start names x p =
    record {
      long = length-replicate slots x;
      each = λ i q. rw (get_or-replicate slots i x unlooked q) p;
    }
