-- `store`: a charge and a stored value; what the list of its handle is.
use mathlib.Core.Path.{◌≡◌, refl, sym, ◌∙◌}
use mathlib.Core.List.{List}
use Prim.Native.Nat.{ℕ, ◌+◌, ◌≤◌, ◌<◌}
use native.Mathlib.Omega.{arith}
use lib.ListN.{length}
use Rattle.journal_records.specs.declared.Record.{Record}
use Rattle.journal_records.specs.Records.{tag_extern, tag_node, tag_stored, tag_scope, cell}
use Rattle.journal_records.specs.Made.{stored_record}
use Rattle.journal_index.proofs.Keys.{keyed_low}
use Rattle.journal_lists.specs.Owned.{head_word}
use Rattle.journal_lists.specs.Families.{Joinable, family_joined, Joined}
use Rattle.journal_lists.proofs.Owned.{owned_keep, owned_step}
use Rattle.journal_reading.specs.WellFormed.{RecordWellFormed}
use Rattle.journal_reading.specs.RecordsStay.{RecordsStay}
use Rattle.journal_reading.proofs.Chains.{values_new}
use Rattle.journal_reading.proofs.Fair.{handle_fixed, handle_new}
use Rattle.journal_reading.proofs.Nodes.{calm_join}
use Rattle.journal_reading.proofs.States.{Silent, state_one}
use Rattle.refine_records.specs.declared.Limits.{Limits}
use Rattle.refine_records.specs.Does.{Answer, did}
use Rattle.std.specs.declared.result.Result.TheVariants.{Err}
use Rattle.refine_records.specs.declared.Refusal.TheVariants.{TooManyRows}
use Rattle.refine_records.specs.declared.Counts.{Counts}
use Rattle.refine_records.specs.Sound.{heads_at, JournalSound, Standing, OfBody, Later}
use Rattle.refine_records.specs.Contract.{charged, Storable, ValueKept}
use Rattle.refine_records.proofs.Grow.{sound_more, later_more, alone, count_other}
use Rattle.refine_records.proofs.Charges.{charge_refused, charge_done}
use Rattle.refine_records.proofs.Keeping.{not_of_body}

pub store_full : (L : Limits) (w : List ℕ) (t : Counts) (name ty class payload h : ℕ) → L.rows ≤ t.charges → (a : Answer) → a ≡ Err TooManyRows → ValueKept L w t name ty class payload h w a
store_full L w t name ty class payload h full a e = rw e (record { does = λ S young. charge_refused S young full; done = tt })

module _ (L : Limits) (w : List ℕ) (t : Counts) (name ty class payload h : ℕ) (st : Standing L w t) (k : Storable w t.charges class payload h) (room : t.charges < L.rows) where
  abbrev c : ℕ
  c = t.charges

  so : JournalSound L w t
  so = st.sound

  pub store_joinable : Joinable w (heads_at L) L.slots t.charges (stored_record name ty class payload h)
  store_joinable = record {
    room = record { records = omega arith; heads = st.ready.room; narrow = omega (arith, st.ready.rows) };
    index = so.index;
    tag = refl;
    behind = record { low = k.before.low; tag = k.before.tag; families = so.families };
  }

  module _ (w' : List ℕ) (long : length w' ≡ length w) (p : Joined w w' (heads_at L) L.slots t.charges (stored_record name ty class payload h)) where
    abbrev put : Record
    put = family_joined w' c (stored_record name ty class payload h)

    calm : RecordsStay c w w'
    calm = calm_join p

    silent : Silent tag_stored
    silent = record { map = λ e. omega arith; extern = λ e. omega arith; node = λ e. omega arith; scope = λ e. omega arith; association = λ e. omega arith }

    fair : RecordWellFormed w' (c + 1) c
    fair = record {
      mapped = λ e. absurd (omega (arith, p.holds.at0));
      node = λ e. absurd (omega (arith, p.holds.at0));
      scoped = λ e. absurd (omega (arith, p.holds.at0));
      instance = λ e. absurd (omega (arith, p.holds.at0));
      linked = λ e. rw (p.holds.at0, p.holds.at8) (handle_fixed calm.fixed (omega arith) (omega arith) k.before);
      value = λ e q. rw p.holds.at7 (handle_fixed calm.fixed (omega arith) (omega arith) (k.value (sym p.holds.at6 ∙ q)));
    }

    sound : JournalSound L w' (charged t 1)
    sound =
        sound_more so calm 1 t.nodes t.scopes t.externs (omega arith)
        (count_other calm.fixed put p.holds tag_node so.nodes silent.node)
        (count_other calm.fixed put p.holds tag_scope so.scopes silent.scope)
        (count_other calm.fixed put p.holds tag_extern so.externs silent.extern)
        (alone c (RecordWellFormed w' (c + 1)) fair)
        p.index
        (owned_step (owned_keep calm.fixed so.owned (λ r g l e o. p.other r (head_word g) l (omega (arith, o.high)) (λ z q. omega arith) (λ y lo hi. omega (arith, (keyed_low (cell w r 0) y).0)))) (λ a b. omega (arith, p.holds.at0)))
        p.families

    later : (young : ℕ) → Later L young w t w' (charged t 1)
    later young =
        later_more so calm 1 t.nodes t.scopes t.externs young (omega arith) (λ m l. p.above m l) long
        (alone c (λ n. OfBody (cell w' n 0) → young ≤ cell w' n 1) (λ o. absurd (not_of_body (cell w' c 0) (omega (arith, p.holds.at0)) o)))
        sound

    pub store_done : (t' : Counts) → t' ≡ charged t 1 → ValueKept L w t name ty class payload h w' (did t' (t.charges + 1) 0)
    store_done t' e = rw e (record {
      does = λ S young. charge_done S young room (state_one S.root S.library calm so.fair put p.holds silent) (later young) (t.charges + 1) 0;
      done = record { handle = handle_new w' c tag_stored p.holds.at0; list = values_new calm.fixed put p.holds (omega arith) k.before.low (λ q. (k.value q).low) };
    })
