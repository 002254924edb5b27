-- `keep`: a charge and a record of a list; what the list of its handle is.
use mathlib.Core.Path.{◌≡◌, refl, sym, ◌∙◌}
use mathlib.Core.Bool.{true}
use mathlib.Core.Logic.{⊎_elim}
use mathlib.Core.List.{List, [], ◌∷◌, ◌++◌}
use Prim.Native.Nat.{ℕ, ◌+◌, ◌≤◌, ◌<◌}
use native.Mathlib.Omega.{arith}
use lib.ListN.{length}
use Rattle.journal_records.specs.declared.Record.{Record}
use Rattle.journal_records.specs.Records.{tag_extern, tag_node, tag_scope, cell, stays, Fixed, Pushed}
use Rattle.journal_records.proofs.Frame.{same_fixed, stays_nine}
use Rattle.journal_index.proofs.Keys.{unkeyed}
use Rattle.journal_index.proofs.Index.{index_push}
use Rattle.journal_lists.proofs.Owned.{owned_push}
use Rattle.journal_lists.proofs.Families.{families_one}
use Rattle.journal_reading.specs.Reading.{ids_at, fields_at, field_new, interfaces_at, interface_new, statements_at, statement_new}
use Rattle.journal_reading.specs.WellFormed.{HandleAt, valued, RecordWellFormed}
use Rattle.journal_reading.proofs.Chains.{ids_new, fields_new, interfaces_new, statements_new}
use Rattle.journal_reading.proofs.Fair.{handle_fixed, handle_new}
use Rattle.journal_reading.proofs.Nodes.{calm_same}
use Rattle.journal_reading.specs.RecordsStay.{RecordsStay}
use Rattle.journal_reading.proofs.States.{Silent, state_one}
use Rattle.refine_records.specs.declared.Limits.{Limits}
use Rattle.std.specs.declared.result.Result.TheVariants.{Err}
use Rattle.refine_records.specs.declared.Refusal.TheVariants.{TooManyRows}
use Rattle.refine_records.specs.declared.Counts.{Counts}
use Rattle.refine_records.specs.Sound.{JournalSound, Standing, OfBody, Later}
use Rattle.refine_records.specs.Does.{Answer, did}
use Rattle.refine_records.specs.Contract.{charged, Keepable, KeptAt, RecordKept}
use Rattle.refine_records.proofs.Grow.{sound_more, later_more, alone, count_other}
use Rattle.refine_records.proofs.Charges.{charge_refused, charge_done}

-- a record below the tag of a scope's own is of no body
pub not_of_body : (t : ℕ) → t ≤ tag_scope → OfBody t → ⊥
not_of_body t l o = ⊎_elim (λ e. omega arith) (λ x. ⊎_elim (λ e. omega arith) (λ e. omega arith) x) o

pub keep_full : (L : Limits) (w : List ℕ) (t : Counts) (r : Record) → L.rows ≤ t.charges → (a : Answer) → a ≡ Err TooManyRows → RecordKept L w t r w a
keep_full L w t r h a e = rw e (record { does = λ S young. charge_refused S young h; done = tt })

module _ (L : Limits) (w : List ℕ) (t : Counts) (r : Record) (st : Standing L w t) (k : Keepable w t.charges r) (room : t.charges < L.rows) (w' : List ℕ) (long : length w' ≡ length w) (p : Pushed w w' t.charges r) where
  abbrev c : ℕ
  c = t.charges

  so : JournalSound L w t
  so = st.sound

  calm : RecordsStay c w w'
  calm = calm_same p.same

  silent : Silent r.tag
  silent = record {
    map = λ e. omega (arith, k.least);
    extern = λ e. omega (arith, k.least);
    node = λ e. omega (arith, k.least);
    scope = λ e. omega (arith, k.most);
    association = λ e. omega (arith, k.most);
  }

  fair : RecordWellFormed w' (c + 1) c
  fair = record {
    mapped = λ e. absurd (omega (arith, p.holds.at0, k.least));
    node = λ e. absurd (omega (arith, p.holds.at0, k.least));
    scoped = λ e. absurd (omega (arith, p.holds.at0, k.least));
    instance = λ e. absurd (omega (arith, p.holds.at0, k.most));
    linked = λ e. rw (p.holds.at0, p.holds.at8) (handle_fixed calm.fixed (omega arith) (omega arith) k.before);
    value = λ e q. rw p.holds.at7 (handle_fixed calm.fixed (omega arith) (omega arith) (k.value (rw p.holds.at0 at e) (sym p.holds.at6 ∙ q)));
  }

  sound : JournalSound L w' (charged t 1)
  sound =
      sound_more so calm 1 t.nodes t.scopes t.externs (omega arith)
      (count_other calm.fixed r p.holds tag_node so.nodes silent.node)
      (count_other calm.fixed r p.holds tag_scope so.scopes silent.scope)
      (count_other calm.fixed r p.holds tag_extern so.externs silent.extern)
      (alone c (RecordWellFormed w' (c + 1)) fair)
      (index_push p (omega arith) (unkeyed r.tag silent.map silent.extern (λ e. omega (arith, k.most))) so.index)
      (owned_push p (λ a b. omega (arith, k.most)) so.owned)
      (families_one p.same (λ e. omega (arith, p.holds.at0, k.most)) so.families)

  later : (young : ℕ) → Later L young w t w' (charged t 1)
  later young =
      later_more so calm 1 t.nodes t.scopes t.externs young (omega arith) (λ m l. p.above m (omega arith)) long
      (alone c (λ n. OfBody (cell w' n 0) → young ≤ cell w' n 1) (λ o. absurd (not_of_body (cell w' c 0) (omega (arith, p.holds.at0, k.most)) o)))
      sound

  pub keep_done : (t' : Counts) → t' ≡ charged t 1 → RecordKept L w t r w' (did t' (t.charges + 1) 0)
  keep_done t' e = rw e (record {
    does = λ S young. charge_done S young room (state_one S.root S.library calm so.fair r p.holds silent) (later young) (t.charges + 1) 0;
    done = record { counts = refl; handle = refl; pushed = p };
  })

-- ---- the list whose handle it is
module _ {w : List ℕ} {t : Counts} {r : Record} {w' : List ℕ} {t' : Counts} {v : ℕ} (x : KeptAt w t r w' t' v) (k : Keepable w t.charges r) where
  pub kept_handle : HandleAt w' t'.charges r.tag v
  kept_handle = rw (x.counts, x.handle) (handle_new w' t.charges r.tag x.pushed.holds.at0)

  most : 9 ≤ stays r.tag
  most = stays_nine r.tag (λ e. omega (arith, k.least))

  fx : Fixed t.charges w w'
  fx = same_fixed x.pushed.same

  payload : valued r.tag ≡ true → r.f ≡ 2 → r.g ≤ t.charges
  payload e q = (k.value e q).low

  pub kept_ids : ids_at w' v ≡ ids_at w r.h ++ (r.a ∷ [])
  kept_ids = rw x.handle (ids_new fx r x.pushed.holds most k.before.low)

  pub kept_statements_lem : statements_at w' v ≡ statements_at w r.h ++ (statement_new r ∷ [])
  kept_statements_lem = rw x.handle (statements_new fx r x.pushed.holds most k.before.low)

  -- a record with a value
  module _ (e : valued r.tag ≡ true) where
    pub kept_fields_lem : fields_at w' v ≡ fields_at w r.h ++ (field_new w r ∷ [])
    kept_fields_lem = rw x.handle (fields_new fx r x.pushed.holds most k.before.low (payload e))

    pub kept_interfaces : interfaces_at w' v ≡ interfaces_at w r.h ++ (interface_new w r ∷ [])
    kept_interfaces = rw x.handle (interfaces_new fx r x.pushed.holds most k.before.low (payload e))
