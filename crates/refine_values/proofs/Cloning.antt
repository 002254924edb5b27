-- Charges that keep nothing, and `clone`.
use mathlib.Core.Path.{◌≡◌, refl, sym, ap, ◌∙◌}
use mathlib.Core.List.{List}
use Prim.Native.Nat.{ℕ, ◌+◌, ◌-◌, ◌≤◌, ◌<◌}
use native.Mathlib.Omega.{arith}
use lib.ListN.{length}
use borrow.Author.Tests.{eq-eqb, ne_eqb}
use Rattle.ast.specs.Ast.{FieldValue}
use Rattle.expansion_definition.specs.State.{ok, bind_r}
use Rattle.expansion_definition.specs.Charges.{charge_each}
use Rattle.expansion_definition.specs.Values.{clone}
use Rattle.journal_records.specs.Records.{tag_paid, tag_extern, tag_node, tag_id, tag_scope, cell, Paid}
use Rattle.journal_index.proofs.Index.{index_paid}
use Rattle.journal_lists.proofs.Owned.{owned_paid}
use Rattle.journal_lists.proofs.Families.{families_paid}
use Rattle.journal_reading.specs.Reading.{ids_at, value_at, below}
use Rattle.journal_reading.specs.WellFormed.{HandleAt, RecordWellFormed, Walkable}
use Rattle.journal_reading.proofs.Chains.{value_fixed}
use Rattle.journal_reading.proofs.Fair.{fair_plain}
use Rattle.journal_reading.proofs.Logs.{below_stays}
use Rattle.journal_reading.proofs.Nodes.{calm_same}
use Rattle.journal_reading.specs.RecordsStay.{RecordsStay}
use Rattle.journal_reading.proofs.States.{Silent, more, state_silent}
use Rattle.journal_reading.proofs.Walks.{walkable}
use Rattle.refine_records.specs.declared.Limits.{Limits}
use Rattle.std.specs.declared.result.Result.TheVariants.{Err}
use Rattle.refine_records.specs.declared.Refusal.TheVariants.{TooManyRows}
use Rattle.refine_records.specs.declared.Counts.{Counts}
use Rattle.refine_records.specs.Sound.{Source, input_of, JournalSound, Standing, Later}
use Rattle.refine_records.specs.Does.{Answer, did, at}
use Rattle.refine_records.specs.Contract.{charged, Cloned}
use Rattle.refine_records.proofs.Grow.{sound_more, later_more}
use Rattle.refine_records.proofs.Later.{later_refl}
use Rattle.refine_records.proofs.Charges.{each_full, each_some}
use Rattle.refine_records.proofs.Keeping.{not_of_body}

-- a charge that keeps nothing is read by no log
pub paid_silent : (t : ℕ) → t ≡ tag_paid → Silent t
paid_silent t e = record { map = λ z. omega arith; extern = λ z. omega arith; node = λ z. omega arith; scope = λ z. omega arith; association = λ z. omega arith }

-- n charges that keep nothing
module _ {L : Limits} {w : List ℕ} {t : Counts} (so : JournalSound L w t) {n : ℕ} (room : t.charges + n ≤ L.rows) {w' : List ℕ} (long : length w' ≡ length w) (p : Paid w w' t.charges n) where
  abbrev c : ℕ
  c = t.charges

  calm : RecordsStay c w w'
  calm = calm_same p.same

  fair : (r : ℕ) → c ≤ r → r < c + n → RecordWellFormed w' (c + n) r
  fair r l h =
      let e : cell w' r 0 ≡ tag_paid = p.tags r l h in
      fair_plain w' (c + n) r (rw e) (λ z. absurd (omega arith)) (λ z. absurd (omega arith))

  other : (g : ℕ) → (tag_paid ≡ g → ⊥) → below w' g (c + n) ≡ below w g c
  other g ne = below_stays g calm.fixed n (λ r l h e. ne (sym (p.tags r l h) ∙ e))

  pub paid_later : (young : ℕ) → Later L young w t w' (charged t n)
  paid_later young =
      later_more so calm n t.nodes t.scopes t.externs young (omega arith) (λ m l. p.above m (omega arith)) long
      (λ r l h o. absurd (not_of_body (cell w' r 0) (omega (arith, p.tags r l h)) o))
      (sound_more so calm n t.nodes t.scopes t.externs room
      (so.nodes ∙ sym (other tag_node (λ z. omega arith)))
      (so.scopes ∙ sym (other tag_scope (λ z. omega arith)))
      (so.externs ∙ sym (other tag_extern (λ z. omega arith)))
      fair (index_paid p (omega arith) so.index) (owned_paid p so.owned) (families_paid p so.families))

  pub paid_state : (S : Source) → at S w' (charged t n) ≡ more n (at S w t)
  paid_state S = state_silent S.root S.library calm so.fair n (λ r l h. paid_silent (cell w' r 0) (p.tags r l h))

-- ---- `clone`
module _ (L : Limits) (w : List ℕ) (t : Counts) (class payload : ℕ) (st : Standing L w t) where
  abbrev so : JournalSound L w t
  so = st.sound

  -- a payload
  pub clone_payload : (class ≡ 2 → ⊥) → Cloned L w t class payload w (did t payload 0)
  unfolding clone charge_each bind_r
  clone_payload ne = record { does = λ S young ty. record { same = rw (ne_eqb class 2 ne); later = later_refl young so }; done = refl }

  -- ids
  module _ (e : class ≡ 2) (h : HandleAt w t.charges tag_id payload) where
    pub clone_walk : Walkable w tag_id payload
    clone_walk = walkable so.fair (omega (arith, so.charges, st.ready.room)) refl h

    module _ (n : ℕ) (en : n ≡ length (ids_at w payload)) where
      pub clone_full : L.rows - t.charges < n → {w' : List ℕ} → (a : Answer) → a ≡ Err TooManyRows → Cloned L w t class payload w' a
      unfolding clone bind_r
      clone_full l a q = rw q (record { does = λ S young ty. record { same = rw (eq-eqb class 2 e, each_full (input_of S L) (ids_at w payload) (at S w t) (omega arith)); later = tt }; done = tt })

      module _ (room : n ≤ L.rows - t.charges) (w' : List ℕ) (long : length w' ≡ length w) (p : Paid w w' t.charges n) where
        fits : t.charges + n ≤ L.rows
        fits = omega (arith, so.charges)

        pub clone_done : (t' : Counts) → t' ≡ charged t n → Cloned L w t class payload w' (did t' payload 0)
        unfolding clone bind_r
        clone_done t' et = rw et (record { does = λ S young ty. record { same = same S ty; later = paid_later so fits long p young }; done = refl })
          where
            same : (S : Source) (ty : ℕ) → ok (value_at w' ty class payload) (at S w' (charged t n)) ≡ clone (input_of S L) (value_at w ty class payload) (at S w t)
            same S ty =
                ap (λ (v : FieldValue). ok v (at S w' (charged t n))) (value_fixed (calm so fits long p).fixed ty class payload (λ z. h.low))
                ∙ ap (ok (value_at w ty class payload)) (paid_state so fits long p S)
                ∙ rw (en, eq-eqb class 2 e, each_some (input_of S L) (ids_at w payload) (at S w t) (omega arith))
