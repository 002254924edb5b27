-- Families are kept by whatever keeps the stored records and adds none; a stored record joins one or starts one.
use mathlib.Core.Path.{◌≡◌, refl, sym, ◌∙◌}
use mathlib.Core.List.{List}
use mathlib.Core.Bool.{Bool, true, false}
use Prim.Native.Nat.{ℕ, zero, suc, ◌+◌, ◌-◌, ◌<◌, ◌≤◌}
use native.Mathlib.Numerals.{add-one}
use native.Mathlib.Omega.{arith}
use lib.Dec.{eqb}
use borrow.Author.Tests.{eqb-true, eqb-false}
use Rattle.journal_records.specs.declared.Record.{Record}
use Rattle.journal_records.specs.Records.{tag_stored, keyed, cell, stays, Same, Fixed, Holds, SetWord, Paid}
use Rattle.journal_index.specs.Index.{RecordEntered, Enterable, SlotsIndexed}
use Rattle.journal_lists.specs.Owned.{owned_by, last_owned, Appended}
use Rattle.journal_lists.specs.Families.{First, Families, Behind, Joins, Joinable, family_joined, Joined}
use Rattle.journal_records.proofs.Cells.{set_cell}
use Rattle.journal_records.proofs.Lists.{last_here, last_other}
use Rattle.journal_records.proofs.Frame.{stays_most, steady_tag, steady_first, steady_is, same_fixed, set_fixed, fixed_less, last_fixed}
use Rattle.journal_index.proofs.Keys.{keyed_stays}
use Rattle.journal_index.proofs.Index.{index_set, links_fixed}
use Rattle.journal_lists.proofs.Owned.{owned_here, owned_tag, owned_apart, owned_stable, split, append_fixed}

pub families_none : (w : List ℕ) → Families w 0
families_none w = record { low = λ r l e. absurd (omega arith); first = λ r l e. absurd (omega arith); links = λ r l e h. absurd (omega arith); tips = λ f l x. absurd (omega arith) }

-- ---- the words that never change are as they were
module _ {w w' : List ℕ} {c : ℕ} (fx : Fixed c w w') (fa : Families w c) where
  was : (r : ℕ) → r < c → cell w' r 0 ≡ tag_stored → cell w r 0 ≡ tag_stored
  was r l e = sym (steady_tag (fx.steady r l)) ∙ e

  one : (r : ℕ) → r < c → cell w' r 1 ≡ cell w r 1
  one r l = steady_first (fx.steady r l) 1 (omega arith)

  first_was : (f : ℕ) → f < c → First w' f → First w f
  first_was f l x = record { tag = was f l x.tag; own = sym (one f l) ∙ x.own }

  first_kept : (f : ℕ) → f < c → First w f → First w' f
  first_kept f l x = record { tag = steady_tag (fx.steady f l) ∙ x.tag; own = one f l ∙ x.own }

  last_kept : (f k : ℕ) → k ≤ c → last_owned w' tag_stored f k ≡ last_owned w tag_stored f k
  last_kept f k le = last_fixed (fixed_less le fx) (λ u. owned_by u tag_stored f) (owned_stable tag_stored f)

  low_more : (r : ℕ) → r < c → cell w' r 0 ≡ tag_stored → cell w' r 1 ≤ r
  low_more r l e = rw (one r l) (fa.low r l (was r l e))

  first_more : (r : ℕ) → r < c → cell w' r 0 ≡ tag_stored → First w' (cell w' r 1)
  first_more r l e = let z = was r l e in rw (one r l) (first_kept (cell w r 1) (omega (arith, fa.low r l z)) (fa.first r l z))

  links_more : (r : ℕ) → r < c → cell w' r 0 ≡ tag_stored → cell w' r 1 < r → cell w' r 8 ≡ last_owned w' tag_stored (cell w' r 1) r
  links_more r l e h =
      let z = was r l e in
      rw (one r l, steady_is (fx.steady r l) tag_stored z 8 (omega arith), last_kept (cell w r 1) r (omega arith)) (fa.links r l z (rw (one r l) at h))

  tips_more : (f : ℕ) → f < c → First w' f → cell w' f 11 ≡ cell w f 11 → cell w' f 11 ≡ last_owned w' tag_stored f c
  tips_more f l x e = e ∙ fa.tips f l (first_was f l x) ∙ sym (last_kept f c (omega arith))

-- and so is the newest of each family; n records more, none of them stored
pub families_more : {w w' : List ℕ} {c : ℕ} → Fixed c w w' → ((r : ℕ) → r < c → cell w r 0 ≡ tag_stored → cell w' r 11 ≡ cell w r 11) → (n : ℕ) → ((r : ℕ) → c ≤ r → r < c + n → cell w' r 0 ≡ tag_stored → ⊥) → Families w c → Families w' (c + n)
families_more {w} {w'} {c} fx kept n none fa = over n (omega arith)
  where
    step : {k : ℕ} → (cell w' k 0 ≡ tag_stored → ⊥) → Families w' k → Families w' (k + 1)
    step {k} ne x = record {
      low = λ r l e. split r k l (λ h. x.low r h e) (λ z. absurd (ne (rw z at e)));
      first = λ r l e. split r k l (λ h. x.first r h e) (λ z. absurd (ne (rw z at e)));
      links = λ r l e h. split r k l (λ b. x.links r b e h) (λ z. absurd (ne (rw z at e)));
      tips = λ f l y. split f k l (λ b. x.tips f b y ∙ sym (last_other (owned_by w' tag_stored f) k (owned_tag w' tag_stored f k ne))) (λ z. absurd (ne (rw z at y.tag)));
    }

    over : (k : ℕ) → k ≤ n → Families w' (c + k)
    over zero le =
        let z : c + 0 ≡ c = omega arith in
        rw z (record { low = low_more fx fa; first = first_more fx fa; links = links_more fx fa; tips = λ f l x. tips_more fx fa f l x (kept f l (was fx fa f l x.tag)) })
    over (suc k) le =
        let z : c + suc k ≡ (c + k) + 1 = omega arith in
        rw z (step (none (c + k) (omega arith) (omega arith)) (over k (omega arith)))

-- ---- what the functions write
-- one record, that is not stored
pub families_one : {w w' : List ℕ} {c : ℕ} → Same c w w' → (cell w' c 0 ≡ tag_stored → ⊥) → Families w c → Families w' (c + 1)
families_one {w} {w'} {c} s ne fa = families_more (same_fixed s) (λ r l e. s.keeps r 11 l (omega arith)) 1 (λ r l h e. let z : r ≡ c = omega arith in ne (rw z at e)) fa

-- a keyed record, that is not stored
pub families_enter : {w w' : List ℕ} {at slots c : ℕ} {r : Record} → RecordEntered w w' at slots c r → (cell w' c 0 ≡ tag_stored → ⊥) → Families w c → Families w' (c + 1)
families_enter {w} {w'} {at} {slots} {c} p ne fa =
    families_more (links_fixed p.same) (λ r l e. p.same.keeps r 11 l (omega arith) (λ k lo hi. omega arith)) 1 (λ r l h e. let z : r ≡ c = omega arith in ne (rw z at e)) fa

pub families_paid : {w w' : List ℕ} {c n : ℕ} → Paid w w' c n → Families w c → Families w' (c + n)
families_paid {w} {w'} {c} {n} p fa = families_more (same_fixed p.same) (λ r l e. p.same.keeps r 11 l (omega arith)) n (λ r l h e. omega (arith, p.tags r l h)) fa

-- no record more
pub families_keep : {w w' : List ℕ} {c : ℕ} → Fixed c w w' → ((r : ℕ) → r < c → cell w r 0 ≡ tag_stored → cell w' r 11 ≡ cell w r 11) → Families w c → Families w' c
families_keep {w} {w'} {c} fx kept fa = let z : c + 0 ≡ c = omega arith in rw z at (families_more fx kept 0 (λ r l h e. omega arith) fa)

-- a word that may change, of a record that is not stored
pub families_set : {w w' : List ℕ} {c n j v : ℕ} → SetWord w w' n j v → j < 12 → stays (cell w n 0) ≤ j → (cell w n 0 ≡ tag_stored → ⊥) → Families w c → Families w' c
families_set {w} {w'} {c} {n} {j} {v} s lj st ne fa = families_keep (set_fixed c s lj st) (λ r l e. set_cell w w' n j v lj s r 11 (omega arith) (λ z q. ne (rw z at e))) fa

pub families_append : {w w' : List ℕ} {s c : ℕ} {r : Record} → Appended w w' s c r → Families w c → Families w' (c + 1)
families_append {w} {w'} {s} {c} {r} a fa =
    families_more (append_fixed a) (λ n l e. a.other n 11 l (omega arith) (λ z q. absurd (omega (arith, a.scope, (rw z at e))))) 1
    (λ n l h e. let z : n ≡ c = omega arith in omega (arith, a.holds.at0, a.tag.low, (rw z at e)))
    fa

-- ---- the family that a record joins
module _ (w : List ℕ) (c h : ℕ) (b : Behind w c h) where
  pub joins_new : Joins w c h c
  joins_new = record { low = omega arith; first = λ l. absurd (omega arith); tip = λ l. absurd (omega arith) }

  module _ (some : h ≡ 0 → ⊥) (k : ℕ) (ek : k ≡ h) (f x : ℕ) (ex : x ≡ cell w (k - 1) 1) (ef : f ≡ x) where
    is : cell w (h - 1) 0 ≡ tag_stored
    is = b.tag (omega (arith, some))

    at : h - 1 < c
    at = omega (arith, some, b.low)

    same : f ≡ cell w (h - 1) 1
    same = ef ∙ ex ∙ rw ek

    pub joins_low : f < c
    joins_low = omega (arith, same, b.families.low (h - 1) at is, at)

    pub joins_tip : (v : ℕ) → v ≡ cell w f 11 → v ≡ h → Joins w c h f
    joins_tip v ev eh =
        let x : First w f = rw same (b.families.first (h - 1) at is) in
        record { low = omega (arith, joins_low); first = λ l. x; tip = λ l. sym eh ∙ ev ∙ b.families.tips f l x }

-- ---- a stored record
-- where only the newest of a family and links may change
tips_fixed : {w w' : List ℕ} {c : ℕ} → ((n j : ℕ) → n < c → j < 12 → (cell w n 0 ≡ tag_stored → j ≡ 11 → ⊥) → (keyed (cell w n 0) ≡ true → 9 ≤ j → j < 11 → ⊥) → cell w' n j ≡ cell w n j) → Fixed c w w'
tips_fixed {w} h = record { steady = λ n l. record { keeps = λ j lj. h n j l (omega (arith, stays_most (cell w n 0))) (λ z q. let k : j < 9 = rw z at lj in omega arith) (λ z lo hi. omega (arith, keyed_stays (cell w n 0) z)) } }

pub join_fixed : {w w' : List ℕ} {at slots c : ℕ} {r : Record} → Joined w w' at slots c r → Fixed c w w'
join_fixed x = tips_fixed x.other

abbrev pub within : Record → ℕ → Record
within r f = record { tag = r.tag; a = f; b = r.b; c = r.c; d = r.d; e = r.e; f = r.f; g = r.g; h = r.h; i = r.i; j = r.j; k = r.k }

pub join_enter : {w : List ℕ} {at slots c : ℕ} {r : Record} → Joinable w at slots c r → (f : ℕ) → Enterable w at slots c (within r f)
join_enter p f = record { room = p.room; index = p.index; key = rw p.tag }

module _ (w : List ℕ) (at slots c : ℕ) (r : Record) (pre : Joinable w at slots c r) (f : ℕ) (jo : Joins w c r.h f) (w1 w2 : List ℕ) (en : RecordEntered w w1 at slots c (within r f)) (st : SetWord w1 w2 f 11 (c + 1)) where
  tag_was : (n : ℕ) → n < c → cell w1 n 0 ≡ cell w n 0
  tag_was n l = en.same.keeps n 0 l (omega arith) (λ e lo hi. omega arith)

  -- the first of the family, before and after
  tag1 : cell w1 f 0 ≡ tag_stored
  tag1 = split f c (omega (arith, jo.low)) (λ l. tag_was f l ∙ (jo.first l).tag) (λ z. rw z (en.holds.at0 ∙ pre.tag))

  others : (n j : ℕ) → n < c → j < 12 → (cell w n 0 ≡ tag_stored → j ≡ 11 → ⊥) → (keyed (cell w n 0) ≡ true → 9 ≤ j → j < 11 → ⊥) → cell w2 n j ≡ cell w n j
  others n j l lj ne link = set_cell w1 w2 f 11 (c + 1) (omega arith) st n j lj (λ z q. ne (sym (tag_was n l) ∙ rw z tag1) q) ∙ en.same.keeps n j l lj link

  fx : Fixed c w w2
  fx = tips_fixed others

  words : (j : ℕ) → j < 11 → cell w2 c j ≡ cell w1 c j
  words j lj = set_cell w1 w2 f 11 (c + 1) (omega arith) st c j (omega arith) (λ z q. omega arith)

  holds : Holds w2 c (family_joined w2 c r)
  holds = record {
    at0 = words 0 (omega arith) ∙ en.holds.at0;
    at1 = refl;
    at2 = words 2 (omega arith) ∙ en.holds.at2;
    at3 = words 3 (omega arith) ∙ en.holds.at3;
    at4 = words 4 (omega arith) ∙ en.holds.at4;
    at5 = words 5 (omega arith) ∙ en.holds.at5;
    at6 = words 6 (omega arith) ∙ en.holds.at6;
    at7 = words 7 (omega arith) ∙ en.holds.at7;
    at8 = words 8 (omega arith) ∙ en.holds.at8;
    at9 = refl;
    at10 = refl;
    at11 = refl;
  }

  family : cell w2 c 1 ≡ f
  family = words 1 (omega arith) ∙ en.holds.at1

  tag2 : cell w2 c 0 ≡ tag_stored
  tag2 = holds.at0 ∙ pre.tag

  index : SlotsIndexed w2 at slots (c + 1)
  index = index_set st (omega arith) (rw tag1 (omega arith)) (λ e. omega arith) (omega (arith, jo.low, pre.room.records)) en.index

  abbrev fa : Families w c
  fa = pre.behind.families

  families : Families w2 (c + 1)
  families = record {
    low = λ n l e. split n c l (λ b. low_more fx fa n b e) (λ z. rw (z, family) jo.low);
    first = λ n l e. split n c l (λ b. first_more fx fa n b e) (λ z. rw (z, family) first);
    links = λ n l e h. split n c l (λ b. links_more fx fa n b e h) (λ z. let b : f < c = rw (z, family) at h in rw (z, family) (holds.at8 ∙ jo.tip b ∙ sym (last_kept fx fa f c (omega arith))));
    tips = λ g l x. tips g l x (eqb g f) refl;
  }
    where
      first : First w2 f
      first = split f c (omega (arith, jo.low)) (λ l. first_kept fx fa f l (jo.first l)) (λ z. record { tag = rw z tag2; own = rw z (family ∙ z) })

      tips : (g : ℕ) → g < c + 1 → First w2 g → (t : Bool) → eqb g f ≡ t → cell w2 g 11 ≡ last_owned w2 tag_stored g (c + 1)
      tips g l x true e = rw (eqb-true g f e) (st.here ∙ add-one c ∙ sym (last_here (owned_by w2 tag_stored f) c (owned_here w2 tag_stored f c tag2 family)))
      tips g l x false e =
          let ne : g ≡ f → ⊥ = eqb-false g f e in
          split g c l (λ b.
          tips_more fx fa g b x (set_cell w1 w2 f 11 (c + 1) (omega arith) st g 11 (omega arith) (λ z q. ne z) ∙ en.same.keeps g 11 b (omega arith) (λ y lo hi. omega arith))
          ∙ sym (last_other (owned_by w2 tag_stored g) c (owned_apart w2 tag_stored g c (λ z. ne (sym (sym family ∙ z))))))
          (λ z. absurd (ne (sym x.own ∙ rw z family)))

  pub join_law : Joined w w2 at slots c r
  join_law = record {
    other = others;
    holds = holds;
    above = λ m l. st.other m (λ e. omega (arith, jo.low, pre.room.records)) ∙ en.above m l;
    index = index;
    families = families;
  }
