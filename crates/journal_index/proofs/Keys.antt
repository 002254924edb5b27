-- What the tests of keyed records say, and that they read only words that never change.
use mathlib.Core.Path.{◌≡◌, refl, sym, ◌∙◌}
use mathlib.Core.List.{List}
use mathlib.Core.Bool.{Bool, true, false, ◌&&◌}
use Prim.Native.Nat.{ℕ, suc, ◌+◌, ◌*◌, ◌/◌, ◌%◌, ◌<◌, ◌≤◌, ◌^◌}
use native.Mathlib.Nat.{mod-lt}
use native.Mathlib.Numerals.{add-one}
use native.Mathlib.Omega.{arith}
use lib.ListN.{get_or}
use lib.Dec.{eqb, ltb}
use borrow.Author.Tests.{eq-eqb, ne_eqb, eqb-true, lt-ltb, le-ltb, ltb-true, ltb-false}
use Rattle.ast.specs.Choice.{choose}
use Rattle.journal_records.specs.Records.{tag_map, tag_extern, tag_node, tag_stored, keyed, cell, stays, Fixed}
use Rattle.journal_index.specs.Index.{slot_of, number_of, bits, side_of, number_at, side_at, hit, in_slot, headed, Slotted, HeadRead}
use Rattle.journal_records.proofs.Frame.{steady_tag, steady_first, Stable}

pub slot_law : (n x y a b : ℕ) → a ≡ x → b ≡ y → 0 < n → Slotted n x y ((2 * a + (b % 4 + b / 4 % 128 * 512 + b / 512 % 128 * 4 + b / 65536 * 65536)) % n)
unfolding slot_of
slot_law n x y a b ea eb h = record { same = rw (ea, eb); below = mod-lt (2 * a + (b % 4 + b / 4 % 128 * 512 + b / 512 % 128 * 4 + b / 65536 * 65536)) h }

-- ---- tags
pub keyed_low : (t : ℕ) → keyed t ≡ true → (t ≤ tag_stored) × (t ≡ tag_node → ⊥)
keyed_low t e = by (eqb t tag_map) refl (eqb t tag_extern) refl e
  where
    by : (u : Bool) → eqb t tag_map ≡ u → (v : Bool) → eqb t tag_extern ≡ v → choose u true (choose v true (eqb t tag_stored)) ≡ true → (t ≤ tag_stored) × (t ≡ tag_node → ⊥)
    by true q v s f = let z : t ≡ tag_map = eqb-true t tag_map q in (omega arith, λ n. omega arith)
    by false q true s f = let z : t ≡ tag_extern = eqb-true t tag_extern s in (omega arith, λ n. omega arith)
    by false q false s f = let z : t ≡ tag_stored = eqb-true t tag_stored f in (omega arith, λ n. omega arith)

-- nine words of a keyed record stay
pub keyed_stays : (t : ℕ) → keyed t ≡ true → stays t ≡ 9
keyed_stays t e = by (eqb t tag_map) refl (eqb t tag_extern) refl e
  where
    by : (u : Bool) → eqb t tag_map ≡ u → (v : Bool) → eqb t tag_extern ≡ v → choose u true (choose v true (eqb t tag_stored)) ≡ true → stays t ≡ 9
    by true q v s f = let z : t ≡ tag_map = eqb-true t tag_map q in rw z
    by false q true s f = let z : t ≡ tag_extern = eqb-true t tag_extern s in rw z
    by false q false s f = let z : t ≡ tag_stored = eqb-true t tag_stored f in rw z

pub unkeyed : (t : ℕ) → (t ≡ tag_map → ⊥) → (t ≡ tag_extern → ⊥) → (t ≡ tag_stored → ⊥) → keyed t ≡ false
unkeyed t a b c = rw (ne_eqb t tag_map a, ne_eqb t tag_extern b, ne_eqb t tag_stored c)

-- ---- numbers and sides
pub number_law : (t x y a b c : ℕ) → a ≡ x → b ≡ t → c ≡ y → (a % 268435456 * 16 + b % 16) * 4294967296 + c ≡ number_of t x y
unfolding number_of
number_law t x y a b c ea eb ec = rw (ea, eb, ec)

pub number_at_lem : (w : List ℕ) (r t x y : ℕ) → t ≡ cell w r 0 → x ≡ cell w r 1 → y ≡ cell w r 2 → number_of t x y ≡ number_at w r
unfolding number_at
number_at_lem w r t x y et ex ey = rw (et, ex, ey)

pub side_deep : (d k : ℕ) → bits ≤ d → side_of d k ≡ 0
unfolding side_of
side_deep d k le = rw (le-ltb d bits le)

pub side_bit : (d k : ℕ) → d < bits → k / 2 ^ d % 2 ≡ side_of d k
unfolding side_of
side_bit d k lt = rw (lt-ltb d bits lt)

-- there are two sides
pub side_two : (d k : ℕ) → side_of d k < 2
unfolding side_of
side_two d k = by (ltb d bits)
  where
    by : (u : Bool) → choose u (k / 2 ^ d % 2) 0 < 2
    by true = mod-lt (k / 2 ^ d) (omega arith)
    by false = omega arith

pub side_here : (w : List ℕ) (d r : ℕ) → side_of d (number_at w r) ≡ side_at w d r
unfolding side_at
side_here w d r = refl

pub side_kept : (w w' : List ℕ) (r : ℕ) → cell w' r 0 ≡ cell w r 0 → cell w' r 1 ≡ cell w r 1 → cell w' r 2 ≡ cell w r 2 → (d : ℕ) → side_at w' d r ≡ side_at w d r
unfolding side_at number_at
side_kept w w' r a b c d = rw (a, b, c)

-- ---- the key of a record
pub record Hit (w : List ℕ) (t x y r : ℕ) : Type 0 where
  pub tag : cell w r 0 ≡ t
  pub one : cell w r 1 ≡ x
  pub two : cell w r 2 ≡ y

pub hit_is : (w : List ℕ) (t x y r : ℕ) → hit w t x y r ≡ true → Hit w t x y r
unfolding hit
hit_is w t x y r e = by (eqb (cell w r 0) t) refl (eqb (cell w r 1) x) refl e
  where
    by : (u : Bool) → eqb (cell w r 0) t ≡ u → (v : Bool) → eqb (cell w r 1) x ≡ v → choose u (choose v (eqb (cell w r 2) y) false) false ≡ true → Hit w t x y r
    by true p true q f = record { tag = eqb-true (cell w r 0) t p; one = eqb-true (cell w r 1) x q; two = eqb-true (cell w r 2) y f }
    by true p false q f = let z : ◌≡◌ {A = ℕ} 0 1 = cc in absurd (omega arith)
    by false p v q f = let z : ◌≡◌ {A = ℕ} 0 1 = cc in absurd (omega arith)

-- what is read of it, beside the key
pub hit_words : (w : List ℕ) (t x y r a b c : ℕ) → a ≡ cell w r 0 → b ≡ cell w r 1 → c ≡ cell w r 2 → eqb a t && (eqb b x && eqb c y) ≡ hit w t x y r
unfolding hit
hit_words w t x y r a b c ea eb ec = rw (ea, eb, ec) (by (eqb (cell w r 0) t) (eqb (cell w r 1) x))
  where
    by : (u v : Bool) → u && (v && eqb (cell w r 2) y) ≡ choose u (choose v (eqb (cell w r 2) y) false) false
    by true true = refl
    by true false = refl
    by false v = refl

-- a record of the key goes to the side of the key
pub hit_side : (w : List ℕ) (t x y r d : ℕ) → Hit w t x y r → side_at w d r ≡ side_of d (number_of t x y)
unfolding side_at number_at
hit_side w t x y r d h = rw (h.tag, h.one, h.two)

-- ---- the slot of a record
pub slot_here : (w : List ℕ) (slots b r : ℕ) → keyed (cell w r 0) ≡ true → slot_of slots (cell w r 1) (cell w r 2) ≡ b → in_slot w slots b r ≡ true
unfolding in_slot
slot_here w slots b r e f = rw (e, eq-eqb (slot_of slots (cell w r 1) (cell w r 2)) b f)

pub slot_tag : (w : List ℕ) (slots b r : ℕ) → keyed (cell w r 0) ≡ false → in_slot w slots b r ≡ false
unfolding in_slot
slot_tag w slots b r e = rw e

pub slot_apart : (w : List ℕ) (slots b r : ℕ) → (slot_of slots (cell w r 1) (cell w r 2) ≡ b → ⊥) → in_slot w slots b r ≡ false
unfolding in_slot
slot_apart w slots b r ne = rw (ne_eqb (slot_of slots (cell w r 1) (cell w r 2)) b ne) (by (keyed (cell w r 0)))
  where
    by : (u : Bool) → choose u false false ≡ false
    by true = refl
    by false = refl

pub slot_is : (w : List ℕ) (slots b r : ℕ) → in_slot w slots b r ≡ true → (keyed (cell w r 0) ≡ true) × (slot_of slots (cell w r 1) (cell w r 2) ≡ b)
unfolding in_slot
slot_is w slots b r e = by (keyed (cell w r 0)) refl e
  where
    by : (u : Bool) → keyed (cell w r 0) ≡ u → choose u (eqb (slot_of slots (cell w r 1) (cell w r 2)) b) false ≡ true → (keyed (cell w r 0) ≡ true) × (slot_of slots (cell w r 1) (cell w r 2) ≡ b)
    by true q f = (q, eqb-true (slot_of slots (cell w r 1) (cell w r 2)) b f)
    by false q f = let z : ◌≡◌ {A = ℕ} 0 1 = cc in absurd (omega arith)

pub slot_words : (w : List ℕ) (slots r s a b : ℕ) → s ≡ slot_of slots a b → a ≡ cell w r 1 → b ≡ cell w r 2 → s ≡ slot_of slots (cell w r 1) (cell w r 2)
slot_words w slots r s a b e x y = e ∙ rw (x, y)

-- by the words of the key
pub slot_kept : (w w' : List ℕ) (slots b r : ℕ) → cell w' r 0 ≡ cell w r 0 → cell w' r 1 ≡ cell w r 1 → cell w' r 2 ≡ cell w r 2 → in_slot w' slots b r ≡ in_slot w slots b r
unfolding in_slot
slot_kept w w' slots b r x y z = rw (x, y, z)

pub slot_stable : (slots b : ℕ) → Stable (λ w. in_slot w slots b)
slot_stable slots b = record { same = λ r w w' s. slot_kept w w' slots b r (steady_tag s) (steady_first s 1 (omega arith)) (steady_first s 2 (omega arith)) }

-- ---- a word as a head
pub head_far : (w : List ℕ) (slots b c x : ℕ) → c ≤ x → headed w slots b c x ≡ 0
unfolding headed
head_far w slots b c x le = rw (le-ltb x c le)

pub head_not : (w : List ℕ) (slots b c x : ℕ) → in_slot w slots b x ≡ false → headed w slots b c x ≡ 0
unfolding headed
head_not w slots b c x e = rw e (by (ltb x c))
  where
    by : (u : Bool) → ◌≡◌ {A = ℕ} (choose u 0 0) 0
    by true = refl
    by false = refl

pub head_here : (w : List ℕ) (slots b c x : ℕ) → x < c → in_slot w slots b x ≡ true → headed w slots b c x ≡ suc x
unfolding headed
head_here w slots b c x lt e = rw (lt-ltb x c lt, e)

-- one record more, that is not of the slot
pub head_step : (w : List ℕ) (slots b c x : ℕ) → in_slot w slots b c ≡ false → headed w slots b (c + 1) x ≡ headed w slots b c x
head_step w slots b c x e = by (ltb x c) refl (in_slot w slots b x) refl
  where
    by : (u : Bool) → ltb x c ≡ u → (v : Bool) → in_slot w slots b x ≡ v → headed w slots b (c + 1) x ≡ headed w slots b c x
    by u p false q = head_not w slots b (c + 1) x q ∙ sym (head_not w slots b c x q)
    by true p true q = let l : x < c = ltb-true x c p in head_here w slots b (c + 1) x (omega arith) q ∙ sym (head_here w slots b c x l q)
    by false p true q =
        let l : c ≤ x = ltb-false x c p in
        let ne : x ≡ c → ⊥ = λ z. let f : in_slot w slots b c ≡ true = rw z at q in let g : false ≡ true = sym e ∙ f in let k : ◌≡◌ {A = ℕ} 0 1 = cc in omega arith in
        head_far w slots b (c + 1) x (omega arith) ∙ sym (head_far w slots b c x l)

pub head_fixed : {c : ℕ} {w w' : List ℕ} → Fixed c w w' → (slots b x : ℕ) → headed w' slots b c x ≡ headed w slots b c x
unfolding headed
head_fixed {c} {w} {w'} f slots b x = by (ltb x c) refl
  where
    by : (u : Bool) → ltb x c ≡ u → choose u (choose (in_slot w' slots b x) (suc x) 0) 0 ≡ choose u (choose (in_slot w slots b x) (suc x) 0) 0
    by true p = rw ((slot_stable slots b).same x w w' (f.steady x (ltb-true x c p)))
    by false p = refl

-- what the word at a head gives, test by test
module _ (w : List ℕ) (at slots b c x : ℕ) (e : x ≡ get_or w (at + b) 0) where
  pub word_far : c ≤ x → HeadRead w at slots b c 0
  word_far le = record { same = rw (← e) (sym (head_far w slots b c x le)); low = omega arith }

  pub word_tag : (t : ℕ) → t ≡ cell w x 0 → keyed t ≡ false → HeadRead w at slots b c 0
  word_tag t et k = record { same = rw (← e) (sym (head_not w slots b c x (slot_tag w slots b x (rw et at k)))); low = omega arith }

  module _ (s : ℕ) (es : s ≡ slot_of slots (cell w x 1) (cell w x 2)) where
    pub word_apart : (s ≡ b → ⊥) → HeadRead w at slots b c 0
    word_apart ne = record { same = rw (← e) (sym (head_not w slots b c x (slot_apart w slots b x (λ q. ne (es ∙ q))))); low = omega arith }

    pub word_here : (t : ℕ) → t ≡ cell w x 0 → keyed t ≡ true → s ≡ b → x < c → HeadRead w at slots b c (x + 1)
    word_here t et k q lt = record { same = rw (← e) (add-one x ∙ sym (head_here w slots b c x lt (slot_here w slots b x (rw et at k) (sym es ∙ q)))); low = omega arith }
