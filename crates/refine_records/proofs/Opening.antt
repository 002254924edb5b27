-- `open`: a charge and a scope; what its Env is, and that its lists are empty.
use mathlib.Core.Path.{◌≡◌, refl, sym, ap, ◌∙◌}
use mathlib.Core.Bool.{Bool, true, false}
use mathlib.Core.List.{List, []}
use mathlib.Core.Option.{none}
use Prim.Native.Nat.{ℕ, ◌+◌, ◌-◌, ◌≤◌, ◌<◌}
use native.Mathlib.Omega.{arith}
use lib.ListN.{length}
use Rattle.ast.specs.Choice.{map_o}
use Rattle.expansion_definition.specs.State.{ok}
use Rattle.expansion_definition.specs.Charges.{one_more}
use Rattle.expansion_definition.specs.Instances.{push_scope, open_scope}
use Rattle.journal_records.specs.declared.Record.{Record}
use Rattle.journal_records.specs.Records.{tag_extern, tag_node, tag_scope, tag_root, tag_route, cell, Pushed}
use Rattle.journal_records.specs.Made.{scope_record}
use Rattle.journal_records.specs.Logs.{only}
use Rattle.journal_lists.specs.Owned.{tagged, OwnedTag, owned_by, owned_log}
use Rattle.journal_records.proofs.Lists.{count_low, count_more, up_span, up_zero, only_other}
use Rattle.journal_index.specs.Index.{found_of}
use Rattle.journal_index.proofs.Index.{index_push}
use Rattle.journal_lists.proofs.Owned.{owned_scope, owned_is}
use Rattle.journal_lists.proofs.Families.{families_one}
use Rattle.journal_reading.specs.Reading.{scope_by, scope_rec, scopes_of, values_at, root_rec, body_route_rec, body_of, below}
use Rattle.journal_reading.specs.WellFormed.{RecordWellFormed}
use Rattle.journal_reading.proofs.Words.{kept_is}
use Rattle.journal_reading.proofs.Fair.{fair_plain}
use Rattle.journal_reading.proofs.Logs.{below_fixed}
use Rattle.journal_reading.proofs.Nodes.{calm_same}
use Rattle.journal_reading.specs.RecordsStay.{RecordsStay, Unrecorded}
use Rattle.journal_reading.proofs.States.{scopes_length_lem, state_scope}
use Rattle.refine_records.specs.declared.Limits.{Limits}
use Rattle.std.specs.declared.result.Result.TheVariants.{Err}
use Rattle.refine_records.specs.declared.Refusal.TheVariants.{TooManyRows}
use Rattle.refine_records.specs.declared.Counts.{Counts}
use Rattle.refine_records.specs.declared.Env as code
use Rattle.refine_records.specs.Sound.{Source, JournalSound, OfBody, Later, ValuesBelow, EnvAt, env_of}
use Rattle.refine_records.specs.Does.{Answer, did, number, at}
use Rattle.refine_records.specs.Contract.{OpenedAt, ScopeOpened}
use Rattle.refine_records.proofs.Later.{values_kept, values_same}
use Rattle.refine_records.proofs.Grow.{grown, sound_more, later_more, alone, count_other, count_new}
use Rattle.refine_records.proofs.Charges.{change_refused, change_done}
use Rattle.refine_records.proofs.Keeping.{not_of_body}

-- there are no more scopes than charges
pub few_scopes : {L : Limits} {w : List ℕ} {t : Counts} → JournalSound L w t → t.scopes ≤ t.charges
few_scopes {L} {w} {t} so = omega (arith, so.scopes, count_low (tagged w tag_scope) t.charges)

pub open_full : (L : Limits) (w : List ℕ) (t : Counts) (kind document proto index opener : ℕ) → L.rows ≤ t.charges → (a : Answer) → a ≡ Err TooManyRows → ScopeOpened L w t kind document proto index opener w a
unfolding open_scope
open_full L w t kind document proto index opener h a e = rw e (record { does = λ S young. change_refused S young number (push_scope (scope_by kind document proto index opener)) h; done = tt })

module _ {L : Limits} {w : List ℕ} {t : Counts} (so : JournalSound L w t) (kind document proto index opener : ℕ) (room : t.charges < L.rows) {w' : List ℕ} (long : length w' ≡ length w)
    (p : Pushed w w' t.charges (scope_record kind document proto index opener t.scopes)) where
  abbrev c : ℕ
  c = t.charges

  abbrev put : Record
  put = scope_record kind document proto index opener t.scopes

  abbrev t1 : Counts
  t1 = grown t 1 t.nodes (t.scopes + 1) t.externs

  calm : RecordsStay c w w'
  calm = calm_same p.same

  fair : RecordWellFormed w' (c + 1) c
  fair = fair_plain w' (c + 1) c (rw p.holds.at0) (λ z. absurd (omega (arith, p.holds.at0))) (λ z. absurd (omega (arith, p.holds.at0)))

  sound : JournalSound L w' t1
  sound =
      sound_more so calm 1 t.nodes (t.scopes + 1) t.externs (omega arith)
      (count_other calm.fixed put p.holds tag_node so.nodes (λ z. omega arith))
      (count_new calm.fixed put p.holds tag_scope so.scopes refl)
      (count_other calm.fixed put p.holds tag_extern so.externs (λ z. omega arith))
      (alone c (RecordWellFormed w' (c + 1)) fair) (index_push p (omega arith) refl so.index) (owned_scope p refl so.scopes refl refl refl so.owned) (families_one p.same (λ e. omega (arith, p.holds.at0)) so.families)

  later : (young : ℕ) → Later L young w t w' t1
  later young =
      later_more so calm 1 t.nodes (t.scopes + 1) t.externs young (omega arith) (λ m l. p.above m (omega arith)) long
      (alone c (λ n. OfBody (cell w' n 0) → young ≤ cell w' n 1) (λ o. absurd (not_of_body (cell w' c 0) (omega (arith, p.holds.at0)) o)))
      sound

  entry : scope_rec w' c ≡ scope_by kind document proto index opener
  entry =
      rw (
        kept_is w' c tag_scope 1 kind p.holds.at0 (omega arith) p.holds.at1,
        kept_is w' c tag_scope 2 document p.holds.at0 (omega arith) p.holds.at2,
        kept_is w' c tag_scope 3 proto p.holds.at0 (omega arith) p.holds.at3,
        kept_is w' c tag_scope 4 index p.holds.at0 (omega arith) p.holds.at4,
        kept_is w' c tag_scope 5 opener p.holds.at0 (omega arith) p.holds.at5,
      )

  pushed : (S : Source) → ok t.scopes (at S w' t1) ≡ push_scope (scope_by kind document proto index opener) (one_more (at S w t))
  unfolding push_scope
  pushed S =
      let n : length (scopes_of w c) ≡ t.scopes = scopes_length_lem w c ∙ sym so.scopes in
      rw n (ap (ok t.scopes) (state_scope S.root S.library calm so.fair put p.holds refl))

  pub open_done : ScopeOpened L w t kind document proto index opener w' (did t1 t.scopes t.charges)
  unfolding open_scope
  open_done = record {
    does = λ S young. change_done S young number (push_scope (scope_by kind document proto index opener)) room (later young) t.scopes c (pushed S);
    done = record { counts = refl; value = refl; place = refl; tag = p.holds.at0; number = p.holds.at6; entry = entry };
  }

-- ---- the Env of the scope
module _ {L : Limits} {young : ℕ} {w : List ℕ} {t : Counts} {kind document proto index opener : ℕ} {w' : List ℕ} {t' : Counts} {v p : ℕ} (x : OpenedAt w t kind document proto index opener w' t' v p) (so : JournalSound L w t) (y : Later L young w t w' t') (e : code.Env) (scope : e.scope ≡ v) (place : e.place ≡ p) (values : ValuesBelow w t.charges e.values) where
  pub open_env : EnvAt w' t'.charges e
  open_env = record {
    place = rw x.counts (omega (arith, x.place));
    tag = rw place x.tag;
    number = rw (place, scope) x.number;
    values = rw (place, x.place) (values_kept y.kept (omega arith) (omega arith) e.values values);
  }

  pub env_open : env_of w' e ≡ record { scope = v; entry = scope_by kind document proto index opener; is_values = map_o (values_at w) (found_of e.values) }
  env_open = rw (scope, place, x.entry, values_same y.kept (omega arith) e.values values)

  -- the scopes before it are those before the step
  older : (r : ℕ) → r < t'.charges → below w' tag_scope r ≤ v
  older r l =
      let u : t'.charges ≡ t.charges + 1 = rw x.counts in
      let z : r + (t.charges - r) ≡ t.charges = omega arith in
      let m : below w' tag_scope r ≤ below w' tag_scope t.charges = rw z at (count_more (tagged w' tag_scope) r (t.charges - r)) in
      omega (arith, below_fixed tag_scope y.kept t.charges (omega arith), so.scopes, x.value)

  -- no record is of a scope that is not there yet
  unowned : (g : ℕ) → OwnedTag g → (r : ℕ) → r < t'.charges → owned_by w' g v r ≡ false
  unowned g o r l = by (owned_by w' g v r) refl
    where
      by : (b : Bool) → owned_by w' g v r ≡ b → owned_by w' g v r ≡ false
      by false q = q
      by true q = let i = owned_is w' g v r q in absurd (omega (arith, y.sound.owned.known r g l i.0 o, older r l, i.1))

  empty : {A : Type 0} (g : ℕ) → OwnedTag g → (d : ℕ → A) → owned_log d w' g v t'.charges ≡ []
  empty g o d =
      let z : 0 + t'.charges ≡ t'.charges = omega arith in
      (rw z at (up_span (only (owned_by w' g v) d) 0 t'.charges (λ r l h. only_other (owned_by w' g v) d r (unowned g o r (omega arith))))) ∙ up_zero (only (owned_by w' g v) d)

  pub body_open : body_of w' t'.charges v 0 0 ≡ record { root = none; extra_roots = []; routes = [] }
  body_open = rw (empty tag_root (record { low = omega arith; high = omega arith }) (root_rec w'), empty tag_route (record { low = omega arith; high = omega arith }) (body_route_rec w'))

  pub unrecorded_open : Unrecorded w' t'.charges v
  unrecorded_open = record { apart = λ q l e s. omega (arith, ((y.sound.fair.each q l).instance e).known, older q l) }
