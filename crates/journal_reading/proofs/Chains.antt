-- Lists read from a handle: they last, and a record that is written stands at the end of the list whose handle it has.
use mathlib.Core.Path.{◌≡◌, refl, sym, ◌∙◌}
use mathlib.Core.Bool.{Bool, true, false}
use mathlib.Core.List.{List, [], ◌∷◌, ◌++◌, append_assoc}
use Prim.Native.Nat.{ℕ, zero, suc, ◌+◌, ◌-◌, ◌<◌, ◌≤◌}
use native.Mathlib.Omega.{arith}
use lib.Dec.{eqb}
use borrow.Author.Tests.{eqb-true}
use Rattle.ast.specs.Ast.{FieldData, FieldValue}
use Rattle.ast.specs.Choice.{choose}
use Rattle.journal_records.specs.declared.Record.{Record}
use Rattle.journal_records.specs.Records.{cell, stays, Fixed, Holds}
use Rattle.journal_records.specs.Logs.{scan, rev_onto}
use Rattle.journal_records.proofs.Frame.{fixed_less}
use Rattle.journal_records.proofs.Lists.{scan_same, scan_low, scan_push, scan_end}
use Rattle.journal_reading.specs.Reading.{fixed_word, back, chain, ids_in, ids_at, value_at, value_rec, value_new, field_rec, field_new, interface_rec, interface_new, statement_rec, statement_new, order_rec, order_new, fields_at, interfaces_at, statements_at, order_at, stored_rec, stored_new, values_at, root_rec, body_route_rec, association_rec}
use Rattle.journal_reading.proofs.Words.{kept_is, kept_fixed, Lasting, lasting_word}

-- ---- any list
module _ {A : Type 0} where
  -- what is put in front of a list in turn
  pub rev_front : (xs ys : List A) → rev_onto xs ys ≡ rev_onto xs [] ++ ys
  unfolding rev_onto
  rev_front [] ys = refl
  rev_front (x ∷ xs) ys = rev_front xs (x ∷ ys) ∙ rw (rev_front xs (x ∷ [])) (sym (append_assoc (rev_onto xs []) (x ∷ []) ys))

  -- lists whose records all have a property read the same where these do
  pub scan_on : (P : ℕ → Type 0) (d d' : ℕ → A) (p p' : ℕ → ℕ) (c h : ℕ)
      → ((r : ℕ) → r < c → P r → d' r ≡ d r) → ((r : ℕ) → r < c → P r → p' r ≡ p r) → ((r : ℕ) → r < c → P r → 0 < p r → P (p r - 1))
      → (0 < h → P (h - 1)) → scan d' p' c h ≡ scan d p c h
  unfolding scan
  scan_on P d d' p p' zero h x y go at = refl
  scan_on P d d' p p' (suc c) h x y go at =
      by (eqb h (suc c)) refl (λ k. scan_on P d d' p p' c k (λ r l. x r (omega arith)) (λ r l. y r (omega arith)) (λ r l. go r (omega arith)))
    where
      by : (t : Bool) → eqb h (suc c) ≡ t → ((k : ℕ) → (0 < k → P (k - 1)) → scan d' p' c k ≡ scan d p c k)
          → choose t (d' c ∷ scan d' p' c (p' c)) (scan d' p' c h) ≡ choose t (d c ∷ scan d p c (p c)) (scan d p c h)
      by true e down =
          let z : h ≡ suc c = eqb-true h (suc c) e in
          let q : h - 1 ≡ c = omega arith in
          let m : P c = rw q at (at (omega arith)) in
          rw (x c (omega arith) m, y c (omega arith) m, down (p c) (go c (omega arith) m))
      by false e down = down h at

  module _ (d : List ℕ → ℕ → A) (la : Lasting d) {c : ℕ} {w w' : List ℕ} (f : Fixed c w w') where
    pub back_fixed : (top h : ℕ) → top ≤ c → back (d w') w' top h ≡ back (d w) w top h
    back_fixed top h le =
        scan_same (d w) (d w') (λ r. fixed_word w r 8) (λ r. fixed_word w' r 8) top h (λ r l. la.same r w w' (fixed_less (omega arith) f)) (λ r l. kept_fixed f r 8 (omega arith))

    pub chain_fixed : (top h : ℕ) → top ≤ c → chain (d w') w' top h ≡ chain (d w) w top h
    chain_fixed top h le = rw (back_fixed top h le)

    -- a record more, behind the one that its word 8 names
    pub back_new : (h : ℕ) → fixed_word w' c 8 ≡ h → h ≤ c → back (d w') w' (c + 1) (c + 1) ≡ d w' c ∷ back (d w) w h h
    back_new h e le = scan_push (d w') (λ r. fixed_word w' r 8) c ∙ rw (e, back_fixed c h (omega arith), scan_low (d w) (λ r. fixed_word w r 8) c h le)

    pub chain_new : (h : ℕ) → fixed_word w' c 8 ≡ h → h ≤ c → chain (d w') w' (c + 1) (c + 1) ≡ chain (d w) w h h ++ (d w' c ∷ [])
    unfolding rev_onto
    chain_new h e le = rw (back_new h e le) (rev_front (back (d w) w h h) (d w' c ∷ []))

-- ---- what each record reads as lasts
pub value_lasting : Lasting value_rec
value_lasting = record {
  same = λ r w w' f.
      rw (
        kept_fixed f r 5 (omega arith),
        kept_fixed f r 6 (omega arith),
        kept_fixed f r 7 (omega arith),
        chain_fixed (λ u q. fixed_word u q 1) (lasting_word 1) f r (fixed_word w r 7) (omega arith),
      );
}

module _ {r : ℕ} {w w' : List ℕ} (f : Fixed (suc r) w w') where
  word : (j : ℕ) → fixed_word w' r j ≡ fixed_word w r j
  word j = kept_fixed f r j (omega arith)

pub field_lasting : Lasting field_rec
field_lasting = record { same = λ r w w' f. rw (value_lasting.same r w w' f, word f 1, word f 2, word f 3, word f 4) }

pub interface_lasting : Lasting interface_rec
interface_lasting = record { same = λ r w w' f. rw (value_lasting.same r w w' f, word f 1, word f 2, word f 3, word f 4, word f 6) }

pub statement_lasting : Lasting statement_rec
statement_lasting = record { same = λ r w w' f. rw (word f 1, word f 2, word f 3, word f 4, word f 5, word f 6, word f 7) }

pub order_lasting : Lasting order_rec
order_lasting = record { same = λ r w w' f. rw (word f 1) }

pub stored_lasting : Lasting stored_rec
stored_lasting = record { same = λ r w w' f. rw (value_lasting.same r w w' f, word f 2) }

pub root_lasting : Lasting root_rec
root_lasting = lasting_word 2

pub body_route_lasting : Lasting body_route_rec
body_route_lasting = record { same = λ r w w' f. rw (word f 2, word f 3, word f 4, word f 5, word f 6, word f 7) }

pub association_lasting : Lasting association_rec
association_lasting = record { same = λ r w w' f. rw (word f 2, word f 3, word f 4) }

-- ---- what a handle stands for lasts
module _ {c : ℕ} {w w' : List ℕ} (f : Fixed c w w') (h : ℕ) (le : h ≤ c) where
  pub ids_fixed : ids_at w' h ≡ ids_at w h
  unfolding ids_at
  ids_fixed = chain_fixed (λ u q. fixed_word u q 1) (lasting_word 1) f h h le

  pub fields_fixed : fields_at w' h ≡ fields_at w h
  unfolding fields_at
  fields_fixed = chain_fixed field_rec field_lasting f h h le

  pub interfaces_fixed : interfaces_at w' h ≡ interfaces_at w h
  unfolding interfaces_at
  interfaces_fixed = chain_fixed interface_rec interface_lasting f h h le

  pub statements_fixed : statements_at w' h ≡ statements_at w h
  unfolding statements_at
  statements_fixed = chain_fixed statement_rec statement_lasting f h h le

  pub order_fixed : order_at w' h ≡ order_at w h
  unfolding order_at
  order_fixed = chain_fixed order_rec order_lasting f h h le

  pub values_fixed : values_at w' h ≡ values_at w h
  unfolding values_at
  values_fixed = back_fixed stored_rec stored_lasting f h h le

-- a value: its payload, if it is a handle, is one of a record below
pub value_fixed : {c : ℕ} {w w' : List ℕ} → Fixed c w w' → (ty class g : ℕ) → (class ≡ 2 → g ≤ c) → value_at w' ty class g ≡ value_at w ty class g
value_fixed {c} {w} {w'} f ty class g low = by (eqb class 2) refl
  where
    by : (t : Bool) → eqb class 2 ≡ t
        → ◌≡◌ {A = FieldValue} (record { ty = ty; «data» = choose t (FieldData.Nodes (ids_at w' g)) (FieldData.Payload g) }) (record { ty = ty; «data» = choose t (FieldData.Nodes (ids_at w g)) (FieldData.Payload g) })
    by true e = rw (ids_fixed f g (low (eqb-true class 2 e)))
    by false e = refl

-- ---- no records
module _ (w : List ℕ) where
  pub ids_none : ids_at w 0 ≡ []
  unfolding ids_at rev_onto
  ids_none = rw (scan_end (λ r. fixed_word w r 1) (λ r. fixed_word w r 8))

  pub fields_none : fields_at w 0 ≡ []
  unfolding fields_at rev_onto
  fields_none = rw (scan_end (field_rec w) (λ r. fixed_word w r 8))

  pub interfaces_none : interfaces_at w 0 ≡ []
  unfolding interfaces_at rev_onto
  interfaces_none = rw (scan_end (interface_rec w) (λ r. fixed_word w r 8))

  pub statements_none : statements_at w 0 ≡ []
  unfolding statements_at rev_onto
  statements_none = rw (scan_end (statement_rec w) (λ r. fixed_word w r 8))

  pub order_none : order_at w 0 ≡ []
  unfolding order_at rev_onto
  order_none = rw (scan_end (order_rec w) (λ r. fixed_word w r 8))

  pub values_none : values_at w 0 ≡ []
  unfolding values_at
  values_none = scan_end (stored_rec w) (λ r. fixed_word w r 8)

-- ---- a record more, of a tag nine words of which stay
module _ {c : ℕ} {w w' : List ℕ} (f : Fixed c w w') (r : Record) (o : Holds w' c r) (most : 9 ≤ stays r.tag) where
  put : (j v : ℕ) → j < 9 → cell w' c j ≡ v → fixed_word w' c j ≡ v
  put j v l e = kept_is w' c r.tag j v o.at0 (omega (arith, most)) e

  abbrev k1 : fixed_word w' c 1 ≡ r.a
  k1 = put 1 r.a (omega arith) o.at1

  abbrev k2 : fixed_word w' c 2 ≡ r.b
  k2 = put 2 r.b (omega arith) o.at2

  abbrev k3 : fixed_word w' c 3 ≡ r.c
  k3 = put 3 r.c (omega arith) o.at3

  abbrev k4 : fixed_word w' c 4 ≡ r.d
  k4 = put 4 r.d (omega arith) o.at4

  abbrev k5 : fixed_word w' c 5 ≡ r.e
  k5 = put 5 r.e (omega arith) o.at5

  abbrev k6 : fixed_word w' c 6 ≡ r.f
  k6 = put 6 r.f (omega arith) o.at6

  abbrev k7 : fixed_word w' c 7 ≡ r.g
  k7 = put 7 r.g (omega arith) o.at7

  abbrev k8 : fixed_word w' c 8 ≡ r.h
  k8 = put 8 r.h (omega arith) o.at8

  module _ (low : r.h ≤ c) where
    pub ids_new : ids_at w' (c + 1) ≡ ids_at w r.h ++ (r.a ∷ [])
    unfolding ids_at
    ids_new = chain_new (λ u q. fixed_word u q 1) (lasting_word 1) f r.h k8 low ∙ rw k1

    pub statements_new : statements_at w' (c + 1) ≡ statements_at w r.h ++ (statement_new r ∷ [])
    unfolding statements_at
    statements_new = chain_new statement_rec statement_lasting f r.h k8 low ∙ rw (k1, k2, k3, k4, k5, k6, k7)

    pub order_new_lem : order_at w' (c + 1) ≡ order_at w r.h ++ (order_new r ∷ [])
    unfolding order_at
    order_new_lem = chain_new order_rec order_lasting f r.h k8 low ∙ rw k1

  -- one that has a value
  module _ (low : r.h ≤ c) (payload : r.f ≡ 2 → r.g ≤ c) where
    value_new_lem : value_rec w' c ≡ value_new w r
    unfolding ids_at
    value_new_lem = rw (k5, k6, k7) (by (eqb r.f 2) refl)
      where
        by : (t : Bool) → eqb r.f 2 ≡ t
            → ◌≡◌ {A = FieldValue} (record { ty = r.e; «data» = choose t (FieldData.Nodes (ids_in w' c r.g)) (FieldData.Payload r.g) }) (record { ty = r.e; «data» = choose t (FieldData.Nodes (ids_at w r.g)) (FieldData.Payload r.g) })
        by true e =
            let le : r.g ≤ c = payload (eqb-true r.f 2 e) in
            rw (chain_fixed (λ u q. fixed_word u q 1) (lasting_word 1) f c r.g (omega arith), scan_low (λ q. fixed_word w q 1) (λ q. fixed_word w q 8) c r.g le)
        by false e = refl

    pub fields_new : fields_at w' (c + 1) ≡ fields_at w r.h ++ (field_new w r ∷ [])
    unfolding fields_at
    fields_new = chain_new field_rec field_lasting f r.h k8 low ∙ rw (value_new_lem, k1, k2, k3, k4)

    pub interfaces_new : interfaces_at w' (c + 1) ≡ interfaces_at w r.h ++ (interface_new w r ∷ [])
    unfolding interfaces_at
    interfaces_new = chain_new interface_rec interface_lasting f r.h k8 low ∙ rw (value_new_lem, k1, k2, k3, k4, k6)

    pub values_new : values_at w' (c + 1) ≡ stored_new w r ∷ values_at w r.h
    unfolding values_at
    values_new = back_new stored_rec stored_lasting f r.h k8 low ∙ rw (value_new_lem, k2)
