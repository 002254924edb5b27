-- Words that are written: one word, a record, a run of charges.
use mathlib.Core.Path.{◌≡◌, refl, sym, ap, ◌∙◌}
use mathlib.Core.Bool.{Bool, true, false}
use mathlib.Core.List.{List, [], ◌∷◌, ◌++◌}
use Prim.Native.Nat.{ℕ, ◌+◌, ◌-◌, ◌*◌, ◌<◌, ◌≤◌}
use native.Mathlib.Omega.{arith}
use lib.ListN.{length, get_or, take, drop, set, get_or-append}
use lib.Seq.{length-take-le, get_or-set_same, get_or-set_other, get_or-append-add, get_or-take, get_or-drop}
use lib.Dec.{eqb}
use borrow.Author.Tests.{eqb-true, eqb-false}
use Rattle.journal_records.specs.declared.Record.{Record}
use Rattle.journal_records.specs.Records.{tag_paid, cell, Holds, Pushed, SetWord, Paid}

-- one word
pub set_law : (w : List ℕ) (n j v : ℕ) → n * 12 + 12 ≤ length w → j < 12 → SetWord w (set w (n * 12 + j) v) n j v
unfolding cell
set_law w n j v len lj = record { here = get_or-set_same w (n * 12 + j) v 0 (omega arith); other = λ m ne. get_or-set_other w (n * 12 + j) m v 0 ne }

-- the words of other records, and the other words of the record
pub set_cell : (w w' : List ℕ) (n j v : ℕ) → j < 12 → SetWord w w' n j v → (r i : ℕ) → i < 12 → (r ≡ n → i ≡ j → ⊥) → cell w' r i ≡ cell w r i
unfolding cell
set_cell w w' n j v lj s r i li ne = s.other (r * 12 + i) (λ e. ne (omega arith) (omega arith))

-- a record, its words in the place of m words
module _ (w : List ℕ) (n m : ℕ) (r : Record) (len : n * 12 + 12 ≤ length w) (e : m ≡ 12) where
  abbrev text : List ℕ
  text = r.tag ∷ r.a ∷ r.b ∷ r.c ∷ r.d ∷ r.e ∷ r.f ∷ r.g ∷ r.h ∷ r.i ∷ r.j ∷ r.k ∷ []

  abbrev rest : List ℕ
  rest = drop m (drop (n * 12) w)

  abbrev after : List ℕ
  after = take (n * 12) w ++ (text ++ rest)

  front : length (take (n * 12) w) ≡ n * 12
  front = length-take-le (n * 12) w (omega arith)

  inside : (k : ℕ) → k < 12 → get_or after (n * 12 + k) 0 ≡ get_or text k 0
  inside k i =
      let z : n * 12 + k ≡ length (take (n * 12) w) + k = omega (arith, front) in
      rw (z, get_or-append-add (take (n * 12) w) (text ++ rest) k 0) (get_or-append text rest 0 k i)

  under : (k : ℕ) → k < n * 12 → get_or after k 0 ≡ get_or w k 0
  under k i = get_or-append (take (n * 12) w) (text ++ rest) 0 k (omega (arith, front)) ∙ get_or-take (n * 12) w k 0 i

  past : (k j : ℕ) → k ≡ n * 12 + (12 + j) → get_or after k 0 ≡ get_or w k 0
  past k j q =
      let z : k ≡ length (take (n * 12) w) + (12 + j) = omega (arith, front) in
      let y : get_or rest j 0 ≡ get_or w (n * 12 + (12 + j)) 0 = get_or-drop m (drop (n * 12) w) j 0 ∙ rw e (get_or-drop (n * 12) w (12 + j) 0) in
      ap (λ (i : ℕ). get_or after i 0) z ∙ get_or-append-add (take (n * 12) w) (text ++ rest) (12 + j) 0 ∙ get_or-append-add text rest j 0 ∙ y ∙ ap (λ (i : ℕ). get_or w i 0) (sym q)

  pub push_law : Pushed w after n r
  unfolding cell
  push_law = record {
    same = record { keeps = λ q j lq lj. under (q * 12 + j) (omega arith) };
    holds = record {
      at0 = inside 0 (omega arith);
      at1 = inside 1 (omega arith);
      at2 = inside 2 (omega arith);
      at3 = inside 3 (omega arith);
      at4 = inside 4 (omega arith);
      at5 = inside 5 (omega arith);
      at6 = inside 6 (omega arith);
      at7 = inside 7 (omega arith);
      at8 = inside 8 (omega arith);
      at9 = inside 9 (omega arith);
      at10 = inside 10 (omega arith);
      at11 = inside 11 (omega arith);
    };
    above = λ k le. past k (k - (n * 12 + 12)) (omega arith);
  }

-- a record whose words are kept
pub holds_kept : {w w' : List ℕ} {n : ℕ} {r : Record} → ((j : ℕ) → j < 12 → cell w' n j ≡ cell w n j) → Holds w n r → Holds w' n r
holds_kept k h = record {
  at0 = k 0 (omega arith) ∙ h.at0;
  at1 = k 1 (omega arith) ∙ h.at1;
  at2 = k 2 (omega arith) ∙ h.at2;
  at3 = k 3 (omega arith) ∙ h.at3;
  at4 = k 4 (omega arith) ∙ h.at4;
  at5 = k 5 (omega arith) ∙ h.at5;
  at6 = k 6 (omega arith) ∙ h.at6;
  at7 = k 7 (omega arith) ∙ h.at7;
  at8 = k 8 (omega arith) ∙ h.at8;
  at9 = k 9 (omega arith) ∙ h.at9;
  at10 = k 10 (omega arith) ∙ h.at10;
  at11 = k 11 (omega arith) ∙ h.at11;
}

-- charges that keep nothing: none yet, and one more
pub paid_start : (w : List ℕ) (n : ℕ) → Paid w w n 0
paid_start w n = record { same = record { keeps = λ r j lr lj. refl }; tags = λ r lr hr. absurd (omega arith); above = λ m le. refl }

pub paid_again : (w₀ w : List ℕ) (n i : ℕ) → (n + i) * 12 < length w → Paid w₀ w n i → Paid w₀ (set w ((n + i) * 12) 0) n (i + 1)
unfolding cell
paid_again w₀ w n i len p = record {
  same = record { keeps = λ r j lr lj. get_or-set_other w ((n + i) * 12) (r * 12 + j) 0 0 (λ e. omega arith) ∙ p.same.keeps r j lr lj };
  tags = tags;
  above = λ m le. get_or-set_other w ((n + i) * 12) m 0 0 (λ e. omega arith) ∙ p.above m (omega arith);
}
  where
    tags : (r : ℕ) → n ≤ r → r < n + (i + 1) → get_or (set w ((n + i) * 12) 0) (r * 12 + 0) 0 ≡ tag_paid
    tags r lr hr = by (eqb r (n + i)) refl
      where
        by : (t : Bool) → eqb r (n + i) ≡ t → get_or (set w ((n + i) * 12) 0) (r * 12 + 0) 0 ≡ 0
        by true q =
            let e : r * 12 + 0 ≡ (n + i) * 12 = omega (arith, eqb-true r (n + i) q) in
            rw e (get_or-set_same w ((n + i) * 12) 0 0 len)
        by false q =
            let ne : r ≡ n + i → ⊥ = eqb-false r (n + i) q in
            get_or-set_other w ((n + i) * 12) (r * 12 + 0) 0 0 (λ e. ne (omega arith)) ∙ p.tags r lr (omega arith)

pub paid_end : (w w' : List ℕ) (n count i : ℕ) → i ≤ count → count ≤ i → Paid w w' n i → Paid w w' n count
paid_end w w' n count i le ge p = let e : count ≡ i = omega arith in rw e p
