-- `own`: a charge and a record of a scope's own lists; what the body of the scope has given then.
use mathlib.Core.Path.{◌≡◌, refl, sym, ap, ◌∙◌}
use mathlib.Core.Bool.{false}
use mathlib.Core.Logic.{⊎_elim}
use mathlib.Core.List.{List, [], ◌∷◌, ◌++◌}
use mathlib.Core.Option.{none, some}
use Prim.Native.Nat.{ℕ, ◌+◌, ◌≤◌, ◌<◌}
use native.Mathlib.Omega.{arith}
use lib.ListN.{length}
use lib.Dec.{eqb}
use Rattle.ast.specs.Choice.{choose}
use Rattle.expansion_definition.specs.State.{ok}
use Rattle.expansion_definition.specs.PlainCopy.{push_association, associate}
use Rattle.journal_records.specs.declared.Record.{Record}
use Rattle.journal_records.specs.Records.{tag_extern, tag_node, tag_scope, tag_root, tag_route, cell, stays, Fixed, Holds}
use Rattle.journal_lists.specs.Owned.{owned_by, owned_log, head_word, linked_after, Appended}
use Rattle.journal_lists.proofs.Families.{families_append}
use Rattle.journal_lists.proofs.Owned.{append_fixed, index_append, owned_here, owned_tag, owned_stable}
use Rattle.journal_reading.specs.Reading.{fixed_word, root_rec, body_route_rec, route_new, body_of}
use Rattle.journal_reading.specs.WellFormed.{RecordWellFormed}
use Rattle.journal_reading.proofs.Words.{kept_is, Lasting}
use Rattle.journal_reading.proofs.Chains.{root_lasting, body_route_lasting}
use Rattle.journal_reading.proofs.Fair.{fair_plain, unlisted_own}
use Rattle.journal_reading.proofs.Logs.{up_new, up_stays}
use Rattle.journal_reading.proofs.Nodes.{calm_append}
use Rattle.journal_reading.specs.RecordsStay.{RecordsStay}
use Rattle.journal_reading.proofs.States.{state_one, state_association}
use Rattle.refine_records.specs.declared.Limits.{Limits}
use Rattle.std.specs.declared.result.Result.TheVariants.{Err}
use Rattle.refine_records.specs.declared.Refusal.TheVariants.{TooManyRows}
use Rattle.refine_records.specs.declared.Counts.{Counts}
use Rattle.refine_records.specs.declared.Env as code
use Rattle.refine_records.specs.Sound.{JournalSound, Standing, OfBody, Later}
use Rattle.refine_records.specs.Does.{Answer, did, nothing}
use Rattle.refine_records.specs.Contract.{charged, Ownership, OwnedAt, RecordOwned}
use Rattle.refine_records.proofs.Grow.{sound_more, later_more, alone, count_other}
use Rattle.refine_records.proofs.Charges.{charge_refused, charge_done, change_refused, change_done}

pub own_full : (L : Limits) (w : List ℕ) (t : Counts) (e : code.Env) (r : Record) → L.rows ≤ t.charges → (a : Answer) → a ≡ Err TooManyRows → RecordOwned L w t e r w a
unfolding associate
own_full L w t e r h a q = rw q (record {
  body = λ ne S young le. charge_refused S young h;
  association = λ z S young. change_refused S young nothing (λ st. ok tt (push_association e.scope (record { interface = r.b; node = r.c; field = r.d }) st)) h;
  done = tt;
})

module _ (L : Limits) (w : List ℕ) (t : Counts) (e : code.Env) (r : Record) (st : Standing L w t) (u : Ownership w t.charges e r) (room : t.charges < L.rows) (w' : List ℕ) (long : length w' ≡ length w)
    (p : Appended w w' e.place t.charges r) where
  abbrev c : ℕ
  c = t.charges

  so : JournalSound L w t
  so = st.sound

  -- what is written: the record behind the last of its list
  abbrev put : Record
  put = linked_after r (cell w e.place (head_word r.tag))

  calm : RecordsStay c w w'
  calm = calm_append p

  fair : RecordWellFormed w' (c + 1) c
  fair = fair_plain w' (c + 1) c (rw p.holds.at0 (unlisted_own r.tag (omega (arith, u.tag.low)) u.tag.high)) (λ z. absurd (omega (arith, p.holds.at0, u.tag.low))) (λ z. absurd (omega (arith, p.holds.at0, u.tag.low)))

  sound : JournalSound L w' (charged t 1)
  sound =
      sound_more so calm 1 t.nodes t.scopes t.externs (omega arith)
      (count_other calm.fixed put p.holds tag_node so.nodes (λ z. omega (arith, u.tag.low)))
      (count_other calm.fixed put p.holds tag_scope so.scopes (λ z. omega (arith, u.tag.low)))
      (count_other calm.fixed put p.holds tag_extern so.externs (λ z. omega (arith, u.tag.low)))
      (alone c (RecordWellFormed w' (c + 1)) fair) (index_append p (omega arith) so.index) p.owned (families_append p so.families)

  later : (young : ℕ) → (OfBody (cell w' c 0) → young ≤ cell w' c 1) → Later L young w t w' (charged t 1)
  later young new =
      later_more so calm 1 t.nodes t.scopes t.externs young (omega arith) (λ m l. p.above m (omega arith)) long (alone c (λ n. OfBody (cell w' n 0) → young ≤ cell w' n 1) new) sound

  pub own_done : (t' : Counts) → t' ≡ charged t 1 → RecordOwned L w t e r w' (did t' 0 0)
  unfolding associate
  own_done t' q = rw q (record {
    body = λ ne S young le.
        charge_done S young room
        (state_one S.root S.library calm so.fair put p.holds (record {
          map = λ z. omega (arith, u.tag.low);
          extern = λ z. omega (arith, u.tag.low);
          node = λ z. omega (arith, u.tag.low);
          scope = λ z. omega (arith, u.tag.low);
          association = ne;
        }))
        (later young (λ o. omega (arith, p.holds.at1, u.scope))) 0 0;
    association = λ z S young.
        change_done S young nothing (λ st. ok tt (push_association e.scope (record { interface = r.b; node = r.c; field = r.d }) st)) room
        (later young (λ o. absurd (⊎_elim (λ y. omega (arith, p.holds.at0)) (λ y. ⊎_elim (λ x. omega (arith, p.holds.at0)) (λ x. omega (arith, p.holds.at0)) y) o))) 0 0
        (ap (ok tt) (state_association S.root S.library calm so.fair put p.holds z ∙ rw u.scope));
    done = record { counts = refl; appended = p };
  })

-- ---- what the body has given then
module _ {w : List ℕ} {t : Counts} {e : code.Env} {r : Record} {w' : List ℕ} {t' : Counts} (x : OwnedAt w t e r w' t') (same : r.a ≡ e.scope) (out place : ℕ) where
  abbrev n : ℕ
  n = e.scope

  abbrev d : ℕ
  d = t.charges

  pa : Appended w w' e.place t.charges r
  pa = x.appended

  abbrev it : Record
  it = linked_after r (cell w e.place (head_word r.tag))

  hold : Holds w' d it
  hold = pa.holds

  fx : Fixed d w w'
  fx = append_fixed pa

  word : (j v : ℕ) → j < stays r.tag → cell w' d j ≡ v → fixed_word w' d j ≡ v
  word j v l q = kept_is w' d r.tag j v hold.at0 l q

  more_of : {A : Type 0} (g : ℕ) (de : List ℕ → ℕ → A) → Lasting de → r.tag ≡ g → owned_log (de w') w' g n (d + 1) ≡ owned_log (de w) w g n d ++ (de w' d ∷ [])
  more_of g de la z = up_new (λ v. owned_by v g n) (owned_stable g n) de la fx (owned_here w' g n d (hold.at0 ∙ z) (hold.at1 ∙ same))

  none_of : {A : Type 0} (g : ℕ) (de : List ℕ → ℕ → A) → Lasting de → (r.tag ≡ g → ⊥) → owned_log (de w') w' g n (d + 1) ≡ owned_log (de w) w g n d
  none_of g de la ne = up_stays (λ v. owned_by v g n) (owned_stable g n) de la fx 1 (alone d (λ k. owned_by w' g n k ≡ false) (owned_tag w' g n d (λ q. ne (sym hold.at0 ∙ q))))

  pub own_root : r.tag ≡ tag_root
      → body_of w' t'.charges n out place ≡ record { root = choose (eqb place 0) none (some out); extra_roots = (body_of w d n out place).extra_roots ++ (r.b ∷ []); routes = (body_of w d n out place).routes }
  own_root z =
      rw (x.counts, more_of tag_root root_rec root_lasting z, none_of tag_route body_route_rec body_route_lasting (λ q. omega arith), word 2 r.b (rw z (omega arith)) hold.at2)

  pub own_route : r.tag ≡ tag_route
      → body_of w' t'.charges n out place ≡ record { root = choose (eqb place 0) none (some out); extra_roots = (body_of w d n out place).extra_roots; routes = (body_of w d n out place).routes ++ (route_new r ∷ []) }
  own_route z =
      rw (
        x.counts,
        none_of tag_root root_rec root_lasting (λ q. omega arith),
        more_of tag_route body_route_rec body_route_lasting z,
        word 2 r.b (rw z (omega arith)) hold.at2,
        word 3 r.c (rw z (omega arith)) hold.at3,
        word 4 r.d (rw z (omega arith)) hold.at4,
        word 5 r.e (rw z (omega arith)) hold.at5,
        word 6 r.f (rw z (omega arith)) hold.at6,
        word 7 r.g (rw z (omega arith)) hold.at7,
      )
