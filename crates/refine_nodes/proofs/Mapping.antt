-- `map`: a charge and a map entry.
use mathlib.Core.Path.{◌≡◌, refl, ap}
use mathlib.Core.List.{List}
use Prim.Native.Nat.{ℕ, ◌+◌, ◌≤◌, ◌<◌}
use native.Mathlib.Omega.{arith}
use lib.ListN.{length}
use Rattle.expansion_definition.specs.State.{ok}
use Rattle.expansion_definition.specs.Charges.{one_more}
use Rattle.expansion_definition.specs.Instances.{add_entry}
use Rattle.journal_records.specs.declared.Record.{Record}
use Rattle.journal_records.specs.Records.{tag_extern, tag_node, tag_scope, cell}
use Rattle.journal_records.specs.Made.{map_record}
use Rattle.journal_index.specs.Index.{linked, RecordEntered}
use Rattle.journal_lists.proofs.Owned.{owned_enter}
use Rattle.journal_lists.proofs.Families.{families_enter}
use Rattle.journal_reading.specs.WellFormed.{NodeAt, MapClosed, RecordWellFormed}
use Rattle.journal_reading.proofs.Fair.{fair_plain, node_at_fixed, scope_at_fixed}
use Rattle.journal_reading.proofs.Nodes.{calm_enter}
use Rattle.journal_reading.specs.RecordsStay.{RecordsStay}
use Rattle.journal_reading.proofs.States.{state_map}
use Rattle.refine_records.specs.declared.Limits.{Limits}
use Rattle.std.specs.declared.result.Result.TheVariants.{Err}
use Rattle.refine_records.specs.declared.Refusal.TheVariants.{TooManyRows}
use Rattle.refine_records.specs.declared.Counts.{Counts}
use Rattle.refine_records.specs.declared.Env as code
use Rattle.refine_records.specs.Sound.{Source, heads_at, JournalSound, OfBody, Later, EnvAt}
use Rattle.refine_records.specs.Does.{Answer, did, nothing, at}
use Rattle.refine_records.specs.Contract.{charged, Mapped}
use Rattle.refine_records.proofs.Grow.{sound_more, later_more, alone, count_other}
use Rattle.refine_records.proofs.Later.{env_scope}
use Rattle.refine_records.proofs.Charges.{change_refused, change_done}
use Rattle.refine_records.proofs.Keeping.{not_of_body}

module _ {L : Limits} {w : List ℕ} {t : Counts} (so : JournalSound L w t) (e : code.Env) (env : EnvAt w t.charges e) (id out place : ℕ) (node : NodeAt w t.charges out place) (room : t.charges < L.rows) {w' : List ℕ} (long : length w' ≡ length w)
    (p : RecordEntered w w' (heads_at L) L.slots t.charges (map_record e.place id out place e.scope)) where
  abbrev c : ℕ
  c = t.charges

  -- what is written: the record with its links
  abbrev put : Record
  put = linked (map_record e.place id out place e.scope) (cell w' c 9) (cell w' c 10)

  calm : RecordsStay c w w'
  calm = calm_enter p

  closed : MapClosed w' c
  closed = record {
    copy = rw (p.holds.at3, p.holds.at4) (node_at_fixed calm.fixed (omega arith) (omega arith) node);
    scope = rw (p.holds.at1, p.holds.at5) (scope_at_fixed calm.fixed (omega arith) (omega arith) (env_scope env));
  }

  fair : RecordWellFormed w' (c + 1) c
  fair = fair_plain w' (c + 1) c (rw p.holds.at0) (λ z. closed) (λ z. absurd (omega (arith, p.holds.at0)))

  sound : JournalSound L w' (charged t 1)
  sound =
      sound_more so calm 1 t.nodes t.scopes t.externs (omega arith)
      (count_other calm.fixed put p.holds tag_node so.nodes (λ z. omega arith))
      (count_other calm.fixed put p.holds tag_scope so.scopes (λ z. omega arith))
      (count_other calm.fixed put p.holds tag_extern so.externs (λ z. omega arith))
      (alone c (RecordWellFormed w' (c + 1)) fair) p.index (owned_enter p refl so.owned) (families_enter p (λ e. omega (arith, p.holds.at0)) so.families)

  pub entry_later : (young : ℕ) → Later L young w t w' (charged t 1)
  entry_later young =
      later_more so calm 1 t.nodes t.scopes t.externs young (omega arith) (λ m l. p.above m l) long
      (alone c (λ n. OfBody (cell w' n 0) → young ≤ cell w' n 1) (λ o. absurd (not_of_body (cell w' c 0) (omega (arith, p.holds.at0)) o)))
      sound

  pub entry_state : (S : Source) → at S w' (charged t 1) ≡ add_entry e.scope id out (one_more (at S w t))
  entry_state S = state_map S.root S.library calm so.fair put p.holds refl

  pub map_done : (t' : Counts) → t' ≡ charged t 1 → Mapped L w t e.scope id out place w' (did t' out place)
  map_done t' q = rw q (record {
    does = λ S young. change_done S young nothing (λ st. ok tt (add_entry e.scope id out st)) room (entry_later young) out place (ap (ok tt) (entry_state S));
    done = record { counts = refl; value = refl; node = refl };
  })

pub map_full : (L : Limits) (w : List ℕ) (t : Counts) (scope id out place : ℕ) → L.rows ≤ t.charges → (a : Answer) → a ≡ Err TooManyRows → Mapped L w t scope id out place w a
map_full L w t scope id out place h a e = rw e (record { does = λ S young. change_refused S young nothing (λ st. ok tt (add_entry scope id out st)) h; done = tt })
