-- Owned lists are kept by whatever keeps the words that never change and the scopes' heads, go over other records, start empty
-- with a scope, and take a record at their end.
use mathlib.Core.Path.{◌≡◌, refl, sym, ap, ◌∙◌}
use mathlib.Core.List.{List}
use mathlib.Core.Bool.{Bool, true, false}
use Prim.Native.Nat.{ℕ, zero, suc, ◌+◌, ◌*◌, ◌-◌, ◌<◌, ◌≤◌}
use native.Mathlib.Numerals.{add-one}
use native.Mathlib.Omega.{arith}
use lib.ListN.{get_or}
use lib.Dec.{eqb, ltb}
use borrow.Author.Tests.{eq-eqb, ne_eqb, eqb-true, eqb-false, ltb-true, ltb-false}
use Rattle.ast.specs.Choice.{choose}
use Rattle.journal_records.specs.declared.Record.{Record}
use Rattle.journal_records.specs.Records.{tag_scope, tag_association, keyed, cell, stays, Same, Fixed, Holds, Pushed, SetWord, Paid}
use Rattle.journal_index.specs.Index.{hit, SlotsIndexed, RecordEntered}
use Rattle.journal_lists.specs.Owned.{tagged, OwnedTag, head_word, owned_by, last_owned, scopes_below, Owned, Ownable, linked_after, Appended}
use Rattle.journal_records.proofs.Cells.{set_cell, holds_kept}
use Rattle.journal_records.proofs.Lists.{last_here, last_other, last_none, count_above, count_more}
use Rattle.journal_records.proofs.Frame.{stays_nine, stays_most, steady_tag, steady_first, steady_is, same_fixed, set_fixed, fixed_less, Stable, last_fixed, count_fixed}
use Rattle.journal_index.proofs.Keys.{unkeyed, keyed_low}
use Rattle.journal_index.proofs.Index.{index_keep, index_step, links_fixed}

-- ---- the tests
pub tagged_here : (w : List ℕ) (t r : ℕ) → cell w r 0 ≡ t → tagged w t r ≡ true
unfolding tagged
tagged_here w t r e = eq-eqb (cell w r 0) t e

pub tagged_other : (w : List ℕ) (t r : ℕ) → (cell w r 0 ≡ t → ⊥) → tagged w t r ≡ false
unfolding tagged
tagged_other w t r ne = ne_eqb (cell w r 0) t ne

pub tagged_is : (w : List ℕ) (t r : ℕ) → tagged w t r ≡ true → cell w r 0 ≡ t
unfolding tagged
tagged_is w t r e = eqb-true (cell w r 0) t e

pub tagged_stable : (t : ℕ) → Stable (λ w. tagged w t)
unfolding tagged
tagged_stable t = record { same = λ r w w' s. rw (steady_tag s) }

pub owned_here : (w : List ℕ) (t s r : ℕ) → cell w r 0 ≡ t → cell w r 1 ≡ s → owned_by w t s r ≡ true
unfolding owned_by
owned_here w t s r e f = rw (eq-eqb (cell w r 0) t e, eq-eqb (cell w r 1) s f)

pub owned_tag : (w : List ℕ) (t s r : ℕ) → (cell w r 0 ≡ t → ⊥) → owned_by w t s r ≡ false
unfolding owned_by
owned_tag w t s r ne = rw (ne_eqb (cell w r 0) t ne)

pub owned_apart : (w : List ℕ) (t s r : ℕ) → (cell w r 1 ≡ s → ⊥) → owned_by w t s r ≡ false
unfolding owned_by
owned_apart w t s r ne = rw (ne_eqb (cell w r 1) s ne) (by (eqb (cell w r 0) t))
  where
    by : (u : Bool) → choose u false false ≡ false
    by true = refl
    by false = refl

pub owned_is : (w : List ℕ) (t s r : ℕ) → owned_by w t s r ≡ true → (cell w r 0 ≡ t) × (cell w r 1 ≡ s)
unfolding owned_by
owned_is w t s r e = by (eqb (cell w r 0) t) refl e
  where
    by : (u : Bool) → eqb (cell w r 0) t ≡ u → choose u (eqb (cell w r 1) s) false ≡ true → (cell w r 0 ≡ t) × (cell w r 1 ≡ s)
    by true q f = (eqb-true (cell w r 0) t q, eqb-true (cell w r 1) s f)
    by false q f = let z : ◌≡◌ {A = ℕ} 0 1 = cc in absurd (omega arith)

pub owned_stable : (t s : ℕ) → Stable (λ w. owned_by w t s)
unfolding owned_by
owned_stable t s = record { same = λ r w w' st. rw (steady_tag st, steady_first st 1 (omega arith)) }

-- a record is below the last, or the last
pub split : {P : Type 0} (r c : ℕ) → r < c + 1 → (r < c → P) → (r ≡ c → P) → P
split {P} r c l f g = by (eqb r c) refl
  where
    by : (t : Bool) → eqb r c ≡ t → P
    by true q = g (eqb-true r c q)
    by false q = let ne : r ≡ c → ⊥ = eqb-false r c q in f (omega arith)

-- another scope has another number
pub scopes_apart : {w : List ℕ} {c s n : ℕ} → Owned w c → s < c → cell w s 0 ≡ tag_scope → n < c → cell w n 0 ≡ tag_scope → (n ≡ s → ⊥) → cell w s 6 ≡ cell w n 6 → ⊥
scopes_apart {w} {c} {s} {n} ow ls es ln en ne y = by (ltb n s) refl
  where
    below : (i j : ℕ) → i < j → cell w i 0 ≡ tag_scope → scopes_below w i < scopes_below w j
    below i j l f = count_above (tagged w tag_scope) i j l (tagged_here w tag_scope i f)

    by : (t : Bool) → ltb n s ≡ t → ⊥
    by true z = omega (arith, ow.numbers s ls es, ow.numbers n ln en, below n s (ltb-true n s z) en)
    by false z = let l : s ≤ n = ltb-false n s z in omega (arith, ow.numbers s ls es, ow.numbers n ln en, below s n (omega (arith, ne)) es)

-- an owned record of the name
pub hit_owned : (w : List ℕ) (t x y r : ℕ) → hit w t x y r ≡ choose (owned_by w t x r) (eqb (cell w r 2) y) false
unfolding hit owned_by
hit_owned w t x y r = by (eqb (cell w r 0) t)
  where
    by : (u : Bool) → choose u (choose (eqb (cell w r 1) x) (eqb (cell w r 2) y) false) false ≡ choose (choose u (eqb (cell w r 1) x) false) (eqb (cell w r 2) y) false
    by true = refl
    by false = refl

-- ---- no records
pub owned_none : (w : List ℕ) → Owned w 0
owned_none w = record { numbers = λ r lr e. absurd (omega arith); heads = λ r t lr e o. absurd (omega arith); links = λ r t lr e o. absurd (omega arith); known = λ r t lr e o. absurd (omega arith) }

-- ---- the words that never change, and the heads, are as they were
module _ {w w' : List ℕ} {c : ℕ} (f : Fixed c w w') (ow : Owned w c) where
  was : (r t : ℕ) → r < c → cell w' r 0 ≡ t → cell w r 0 ≡ t
  was r t lr e = sym (steady_tag (f.steady r lr)) ∙ e

  number_kept : (r : ℕ) → r < c → cell w r 0 ≡ tag_scope → cell w' r 6 ≡ cell w r 6
  number_kept r lr e = steady_is (f.steady r lr) tag_scope e 6 (omega arith)

  word_kept : (r t : ℕ) → r < c → cell w r 0 ≡ t → OwnedTag t → (j : ℕ) → j < 9 → cell w' r j ≡ cell w r j
  word_kept r t lr e o j lj = steady_is (f.steady r lr) t e j (omega (arith, stays_nine t (λ q. omega (arith, o.low))))

  fewer : (r : ℕ) → r < c → Fixed r w w'
  fewer r lr = fixed_less (omega arith) f

  pub numbers_kept : (r : ℕ) → r < c → cell w' r 0 ≡ tag_scope → cell w' r 6 ≡ scopes_below w' r
  numbers_kept r lr e =
      let e' : cell w r 0 ≡ tag_scope = was r tag_scope lr e in
      number_kept r lr e' ∙ ow.numbers r lr e' ∙ sym (count_fixed (fewer r lr) (λ u. tagged u tag_scope) (tagged_stable tag_scope))

  pub links_kept : (r t : ℕ) → r < c → cell w' r 0 ≡ t → OwnedTag t → cell w' r 8 ≡ last_owned w' t (cell w' r 1) r
  links_kept r t lr e o =
      let e' : cell w r 0 ≡ t = was r t lr e in
      rw (word_kept r t lr e' o 8 (omega arith), word_kept r t lr e' o 1 (omega arith))
      (ow.links r t lr e' o ∙ sym (last_fixed (fewer r lr) (λ u. owned_by u t (cell w r 1)) (owned_stable t (cell w r 1))))

  pub known_kept : (r t : ℕ) → r < c → cell w' r 0 ≡ t → OwnedTag t → cell w' r 1 < scopes_below w' r
  known_kept r t lr e o =
      let e' : cell w r 0 ≡ t = was r t lr e in
      rw (word_kept r t lr e' o 1 (omega arith), count_fixed (fewer r lr) (λ u. tagged u tag_scope) (tagged_stable tag_scope)) (ow.known r t lr e' o)

  pub heads_kept : (r t : ℕ) → r < c → cell w' r 0 ≡ tag_scope → OwnedTag t → cell w' r (head_word t) ≡ cell w r (head_word t) → cell w' r (head_word t) ≡ last_owned w' t (cell w' r 6) c
  heads_kept r t lr e o h =
      let e' : cell w r 0 ≡ tag_scope = was r tag_scope lr e in
      h ∙ ow.heads r t lr e' o ∙ sym (rw (number_kept r lr e') (last_fixed f (λ u. owned_by u t (cell w r 6)) (owned_stable t (cell w r 6))))

  pub owned_keep : ((r t : ℕ) → r < c → cell w r 0 ≡ tag_scope → OwnedTag t → cell w' r (head_word t) ≡ cell w r (head_word t)) → Owned w' c
  owned_keep h = record { numbers = numbers_kept; heads = λ r t lr e o. heads_kept r t lr e o (h r t lr (was r tag_scope lr e) o); links = links_kept; known = known_kept }

pub owned_same : {w w' : List ℕ} {c : ℕ} → Same c w w' → Owned w c → Owned w' c
owned_same s ow = owned_keep (same_fixed s) ow (λ r t lr e o. s.keeps r (head_word t) lr (omega (arith, o.high)))

-- ---- one record more: of another kind, and a scope
module _ {w : List ℕ} {c : ℕ} (ow : Owned w c) where
  pub owned_step : (tag_scope ≤ cell w c 0 → cell w c 0 ≤ tag_association → ⊥) → Owned w (c + 1)
  owned_step ne = record {
    numbers = λ r lr e. split r c lr (λ l. ow.numbers r l e) (λ z. absurd (not_scope r z e));
    heads = λ r t lr e o. split r c lr (λ l. ow.heads r t l e o ∙ sym (last_other (owned_by w t (cell w r 6)) c (owned_tag w t (cell w r 6) c (λ q. not_owned c t refl q o)))) (λ z. absurd (not_scope r z e));
    links = λ r t lr e o. split r c lr (λ l. ow.links r t l e o) (λ z. absurd (not_owned r t z e o));
    known = λ r t lr e o. split r c lr (λ l. ow.known r t l e o) (λ z. absurd (not_owned r t z e o));
  }
    where
      not_scope : (r : ℕ) → r ≡ c → cell w r 0 ≡ tag_scope → ⊥
      not_scope r z e = let q : cell w c 0 ≡ tag_scope = rw z at e in ne (omega arith) (omega arith)

      not_owned : (r t : ℕ) → r ≡ c → cell w r 0 ≡ t → OwnedTag t → ⊥
      not_owned r t z e o = let q : cell w c 0 ≡ t = rw z at e in ne (omega (arith, o.low)) (omega (arith, o.high))

  module _ (sc : cell w c 0 ≡ tag_scope) where
    other_tag : (r t : ℕ) → r ≡ c → cell w r 0 ≡ t → OwnedTag t → ⊥
    other_tag r t z e o = let q : cell w c 0 ≡ t = rw z at e in omega (arith, o.low)

    -- no record is of a scope that is not there yet
    unowned : (t s : ℕ) → OwnedTag t → scopes_below w c ≤ s → (r : ℕ) → r < c → owned_by w t s r ≡ false
    unowned t s o le r lr = by (owned_by w t s r) refl
      where
        by : (u : Bool) → owned_by w t s r ≡ u → owned_by w t s r ≡ false
        by false q = q
        by true q =
            let p = owned_is w t s r q in
            let k : cell w r 1 < scopes_below w r = ow.known r t lr p.0 o in
            let z : r + (c - r) ≡ c = omega arith in
            let m : scopes_below w r ≤ scopes_below w c = rw z at (count_more (tagged w tag_scope) r (c - r)) in
            absurd (omega (arith, p.1))

    pub scope_step : cell w c 6 ≡ scopes_below w c → ((t : ℕ) → OwnedTag t → cell w c (head_word t) ≡ 0) → Owned w (c + 1)
    scope_step num zeros = record {
      numbers = λ r lr e. split r c lr (λ l. ow.numbers r l e) (λ z. rw z num);
      heads = λ r t lr e o. split r c lr (λ l. ow.heads r t l e o ∙ sym (passed r t o)) (λ z. rw z (zeros t o ∙ sym (passed c t o ∙ last_none (owned_by w t (cell w c 6)) c (unowned t (cell w c 6) o (omega (arith, num))))));
      links = λ r t lr e o. split r c lr (λ l. ow.links r t l e o) (λ z. absurd (other_tag r t z e o));
      known = λ r t lr e o. split r c lr (λ l. ow.known r t l e o) (λ z. absurd (other_tag r t z e o));
    }
      where
        passed : (r t : ℕ) → OwnedTag t → last_owned w t (cell w r 6) (c + 1) ≡ last_owned w t (cell w r 6) c
        passed r t o = last_other (owned_by w t (cell w r 6)) c (owned_tag w t (cell w r 6) c (λ q. other_tag c t refl q o))

-- ---- what the functions write
pub owned_push : {w w' : List ℕ} {c : ℕ} {r : Record} → Pushed w w' c r → (tag_scope ≤ r.tag → r.tag ≤ tag_association → ⊥) → Owned w c → Owned w' (c + 1)
owned_push p ne ow = owned_step (owned_same p.same ow) (λ a b. ne (rw p.holds.at0 at a) (rw p.holds.at0 at b))

pub owned_enter : {w w' : List ℕ} {at slots c : ℕ} {r : Record} → RecordEntered w w' at slots c r → keyed r.tag ≡ true → Owned w c → Owned w' (c + 1)
owned_enter {w} {w'} {at} {slots} {c} {r} p key ow =
    owned_step
    (owned_keep (links_fixed p.same) ow (λ n t ln e o. p.same.keeps n (head_word t) ln (omega (arith, o.high)) (λ k lo hi. omega (arith, (keyed_low (cell w n 0) k).0))))
    (λ a b. omega (arith, p.holds.at0, (keyed_low r.tag key).0))

pub owned_scope : {w w' : List ℕ} {c : ℕ} {r : Record} → Pushed w w' c r → r.tag ≡ tag_scope → r.f ≡ scopes_below w c → r.i ≡ 0 → r.j ≡ 0 → r.k ≡ 0 → Owned w c → Owned w' (c + 1)
owned_scope {w} {w'} {c} {r} p e num z9 z10 z11 ow =
    scope_step
    (owned_same p.same ow)
    (p.holds.at0 ∙ e)
    (p.holds.at6 ∙ num ∙ sym (count_fixed (same_fixed p.same) (λ u. tagged u tag_scope) (tagged_stable tag_scope)))
    zeros
  where
    zeros : (t : ℕ) → OwnedTag t → cell w' c (head_word t) ≡ 0
    zeros t o = by (eqb t 11) refl (eqb t 12) refl
      where
        by : (u : Bool) → eqb t 11 ≡ u → (v : Bool) → eqb t 12 ≡ v → cell w' c (head_word t) ≡ 0
        by true q v s = rw (eqb-true t 11 q) (p.holds.at9 ∙ z9)
        by false q true s = rw (eqb-true t 12 s) (p.holds.at10 ∙ z10)
        by false q false s =
            let a : t ≡ 11 → ⊥ = eqb-false t 11 q in
            let b : t ≡ 12 → ⊥ = eqb-false t 12 s in
            let k : t ≡ 13 = omega (arith, o.low, o.high) in
            rw k (p.holds.at11 ∙ z11)

-- a word that may change, of a record that is no scope
pub owned_set : {w w' : List ℕ} {c n j v : ℕ} → SetWord w w' n j v → j < 12 → stays (cell w n 0) ≤ j → (cell w n 0 ≡ tag_scope → ⊥) → Owned w c → Owned w' c
owned_set {w} {w'} {c} {n} {j} {v} s lj st ne ow = owned_keep (set_fixed c s lj st) ow (λ r t lr e o. set_cell w w' n j v lj s r (head_word t) (omega (arith, o.high)) (λ z q. ne (rw z at e)))

pub owned_paid : {w w' : List ℕ} {c n : ℕ} → Paid w w' c n → Owned w c → Owned w' (c + n)
owned_paid {w} {w'} {c} {n} p ow = over n (omega arith)
  where
    over : (k : ℕ) → k ≤ n → Owned w' (c + k)
    over zero le = let z : c + 0 ≡ c = omega arith in rw z (owned_same p.same ow)
    over (suc k) le =
        let z : c + suc k ≡ (c + k) + 1 = omega arith in
        rw z (owned_step (over k (omega arith)) (λ a b. omega (arith, p.tags (c + k) (omega arith) (omega arith))))

-- ---- a record at the end of its scope's list
head_alone : {w w' : List ℕ} {s c t : ℕ} → cell w s 0 ≡ tag_scope → OwnedTag t → ((n j : ℕ) → n < c → j < 12 → (n ≡ s → j ≡ head_word t → ⊥) → cell w' n j ≡ cell w n j) → Fixed c w w'
head_alone {w} {w'} {s} {c} {t} e o h = record { steady = λ n ln. record { keeps = λ j lj. h n j ln (omega (arith, stays_most (cell w n 0))) (λ z q. low n j z q lj) } }
  where
    low : (n j : ℕ) → n ≡ s → j ≡ head_word t → j < stays (cell w n 0) → ⊥
    low n j z q lj = let l : j < 9 = rw (z, e) at lj in omega (arith, o.low)

pub append_fixed : {w w' : List ℕ} {s c : ℕ} {r : Record} → Appended w w' s c r → Fixed c w w'
append_fixed a = head_alone a.scope a.tag a.other

pub index_append : {w w' : List ℕ} {at slots s c : ℕ} {r : Record} → Appended w w' s c r → c * 12 + 12 ≤ at → SlotsIndexed w at slots c → SlotsIndexed w' at slots (c + 1)
index_append {w} {w'} {at} {slots} {s} {c} {r} a l ix =
    index_step (index_keep (append_fixed a) (record { keeps = λ n j ln e lo hi. a.other n j ln (omega arith) (λ z q. omega (arith, a.scope, (keyed_low (cell w n 0) e).0, ap (λ (k : ℕ). cell w k 0) z)) }) ix (λ b lb. a.above (at + b) (omega arith))) (rw a.holds.at0 (unkeyed r.tag (λ e. omega (arith, a.tag.low)) (λ e. omega (arith, a.tag.low)) (λ e. omega (arith, a.tag.low))))

module _ (w : List ℕ) (s c : ℕ) (r : Record) (pre : Ownable w s c r) (w1 w2 : List ℕ) (q : ℕ) (eq : q ≡ cell w s (head_word r.tag)) (pu : Pushed w w1 c (linked_after r q))
    (st : SetWord w1 w2 s (head_word r.tag) (c + 1)) where
  abbrev T : OwnedTag r.tag
  T = pre.tag

  lh : head_word r.tag < 12
  lh = omega (arith, T.high)

  others : (n j : ℕ) → n < c → j < 12 → (n ≡ s → j ≡ head_word r.tag → ⊥) → cell w2 n j ≡ cell w n j
  others n j ln lj ne = set_cell w1 w2 s (head_word r.tag) (c + 1) lh st n j lj ne ∙ pu.same.keeps n j ln lj

  words : Holds w2 c (linked_after r (cell w s (head_word r.tag)))
  words = rw (← eq) (holds_kept (λ j lj. set_cell w1 w2 s (head_word r.tag) (c + 1) lh st c j lj (λ z y. omega (arith, pre.below))) pu.holds)

  past : (m : ℕ) → c * 12 + 12 ≤ m → get_or w2 m 0 ≡ get_or w m 0
  past m le = st.other m (λ e. omega (arith, pre.below)) ∙ pu.above m le

  fx : Fixed c w w2
  fx = head_alone pre.scope T others

  abbrev ow : Owned w c
  ow = pre.owned

  -- the scope's number, before and after, is the record's
  number : cell w2 c 1 ≡ cell w s 6
  number = words.at1 ∙ pre.number

  not_last : (n : ℕ) → n ≡ c → cell w2 n 0 ≡ tag_scope → ⊥
  not_last n z e = let y : cell w2 c 0 ≡ tag_scope = rw z at e in omega (arith, words.at0, T.low)

  append_heads : (n t : ℕ) → n < c + 1 → cell w2 n 0 ≡ tag_scope → OwnedTag t → cell w2 n (head_word t) ≡ last_owned w2 t (cell w2 n 6) (c + 1)
  append_heads n t ln e o = split n c ln (λ l. by l (eqb n s) refl (eqb t r.tag) refl) (λ z. absurd (not_last n z e))
    where
      kept : n < c → (n ≡ s → t ≡ r.tag → ⊥) → owned_by w2 t (cell w2 n 6) c ≡ false → cell w2 n (head_word t) ≡ last_owned w2 t (cell w2 n 6) (c + 1)
      kept l ne f =
          heads_kept fx ow n t l e o (others n (head_word t) l (omega (arith, o.high)) (λ z y. ne z (omega (arith, o.low, T.low)))) ∙ sym (last_other (owned_by w2 t (cell w2 n 6)) c f)

      by : n < c → (u : Bool) → eqb n s ≡ u → (v : Bool) → eqb t r.tag ≡ v → cell w2 n (head_word t) ≡ last_owned w2 t (cell w2 n 6) (c + 1)
      by l u y false z =
          let ne : t ≡ r.tag → ⊥ = eqb-false t r.tag z in
          kept l (λ a b. ne b) (owned_tag w2 t (cell w2 n 6) c (λ k. ne (sym k ∙ words.at0)))
      by l false y true z =
          let ne : n ≡ s → ⊥ = eqb-false n s y in
          let e' : cell w n 0 ≡ tag_scope = was fx ow n tag_scope l e in
          kept l (λ a b. ne a) (owned_apart w2 t (cell w2 n 6) c (λ k. scopes_apart ow pre.below pre.scope l e' ne (sym number ∙ k ∙ number_kept fx ow n l e')))
      by l true y true z =
          rw (eqb-true n s y, eqb-true t r.tag z)
          (st.here ∙ add-one c
          ∙ sym (last_here (owned_by w2 r.tag (cell w2 s 6)) c (owned_here w2 r.tag (cell w2 s 6) c words.at0 (number ∙ sym (number_kept fx ow s pre.below pre.scope)))))

  append_owned : Owned w2 (c + 1)
  append_owned = record { numbers = λ n ln e. split n c ln (λ l. numbers_kept fx ow n l e) (λ z. absurd (not_last n z e)); heads = append_heads; links = links; known = known }
    where
      tag_is : (n t : ℕ) → n ≡ c → cell w2 n 0 ≡ t → t ≡ r.tag
      tag_is n t z e = sym (rw z at e) ∙ words.at0

      links : (n t : ℕ) → n < c + 1 → cell w2 n 0 ≡ t → OwnedTag t → cell w2 n 8 ≡ last_owned w2 t (cell w2 n 1) n
      links n t ln e o =
          split
          n
          c
          ln
          (λ l. links_kept fx ow n t l e o)
          (λ z. rw (tag_is n t z e, z, number) (words.at8 ∙ ow.heads s r.tag pre.below pre.scope T ∙ sym (last_fixed fx (λ u. owned_by u r.tag (cell w s 6)) (owned_stable r.tag (cell w s 6)))))

      known : (n t : ℕ) → n < c + 1 → cell w2 n 0 ≡ t → OwnedTag t → cell w2 n 1 < scopes_below w2 n
      known n t ln e o =
          split
          n
          c
          ln
          (λ l. known_kept fx ow n t l e o)
          (λ z.
          rw (z, number, ow.numbers s pre.below pre.scope, count_fixed fx (λ u. tagged u tag_scope) (tagged_stable tag_scope))
          (count_above (tagged w tag_scope) s c pre.below (tagged_here w tag_scope s pre.scope)))

  appended : Appended w w2 s c r
  appended = record { other = others; head = st.here; scope = pre.scope; tag = T; holds = words; above = past; owned = append_owned }

pub append_law : (w : List ℕ) (s c : ℕ) (r : Record) → Ownable w s c r → (w1 w2 : List ℕ) (t q j : ℕ) → t ≡ r.tag → j ≡ head_word t → q ≡ cell w s j → Pushed w w1 c (linked_after r q) → SetWord w1 w2 s j (c + 1) → Appended w w2 s c r
append_law w s c r pre w1 w2 t q j et ej eq pu st = let e : j ≡ head_word r.tag = ej ∙ rw et in appended w s c r pre w1 w2 q (eq ∙ rw e) pu (rw e at st)
