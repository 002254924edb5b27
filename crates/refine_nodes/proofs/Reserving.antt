-- `reserve`: a node that has nothing yet, and its map entry.
use mathlib.Core.Path.{◌≡◌, refl, sym, ap, ◌∙◌}
use mathlib.Core.Bool.{Bool, true, false}
use mathlib.Core.List.{List, [], ◌∷◌, ◌++◌}
use Prim.Native.Nat.{ℕ, ◌+◌, ◌-◌, ◌≤◌, ◌<◌}
use native.Mathlib.Omega.{arith}
use lib.ListN.{length}
use lib.Dec.{ltb}
use borrow.Author.Tests.{lt-ltb, le-ltb, ltb-true, ltb-false}
use Rattle.expansion_definition.specs.Input.{Input}
use Rattle.expansion_definition.specs.State.{State, refusal, ok, bind_r, with_nodes}
use Rattle.expansion_definition.specs.Values.{Env}
use Rattle.expansion_definition.specs.Charges.{one_more}
use Rattle.expansion_definition.specs.PlainCopy.{blank_node, add_node, reserve_if, reserve}
use Rattle.expansion_definition.specs.Instances.{add_entry}
use Rattle.journal_records.specs.declared.Record.{Record}
use Rattle.journal_records.specs.Records.{tag_extern, tag_node, tag_scope, cell, Pushed}
use Rattle.journal_records.specs.Made.{map_record, reserved_record}
use Rattle.journal_index.specs.Index.{Enterable, RecordEntered}
use Rattle.journal_index.proofs.Index.{index_push}
use Rattle.journal_lists.proofs.Owned.{owned_push}
use Rattle.journal_lists.proofs.Families.{families_one}
use Rattle.journal_reading.specs.Reading.{node_rec, nodes_of, ledger_of, below}
use Rattle.journal_reading.specs.WellFormed.{NodeAt, NodeClosed, RecordWellFormed}
use Rattle.journal_reading.proofs.Fair.{fair_plain, handle_none}
use Rattle.journal_reading.proofs.Logs.{below_fixed}
use Rattle.journal_reading.proofs.Nodes.{calm_same, nodes_length, node_blank}
use Rattle.journal_reading.specs.RecordsStay.{RecordsStay}
use Rattle.journal_reading.proofs.States.{with_ledger, state_node}
use Rattle.refine_records.specs.declared.Limits.{Limits}
use Rattle.std.specs.declared.result.Result.TheVariants.{Err}
use Rattle.refine_records.specs.declared.Refusal.TheVariants.{TooManyRows, TooManyNodes}
use Rattle.refine_records.specs.declared.Counts.{Counts}
use Rattle.refine_records.specs.declared.Env as code
use Rattle.refine_records.specs.Sound.{Source, input_of, heads_at, JournalSound, Standing, OfBody, Later, EnvAt, env_of}
use Rattle.refine_records.specs.Does.{Answer, did, at}
use Rattle.refine_records.specs.Contract.{Reserved}
use Rattle.refine_records.proofs.Grow.{grown, sound_more, later_more, alone, count_other, count_new}
use Rattle.refine_records.proofs.Later.{env_known, later_trans, later_node, later_env}
use Rattle.refine_records.proofs.Charges.{charge_full, charge_some}
use Rattle.refine_records.proofs.Keeping.{not_of_body}
use Rattle.refine_nodes.proofs.Mapping.{entry_later, entry_state}

-- ---- the definition
module _ (I : Input) (env : Env) (i : ℕ) (st : State) where
  reserve_8 : I.limits.max_nodes ≤ length st.nodes → reserve I env i st ≡ refusal 8 0 0
  unfolding reserve reserve_if
  reserve_8 h = rw (le-ltb (length st.nodes) I.limits.max_nodes h)

  module _ (h : length st.nodes < I.limits.max_nodes) where
    reserve_10 : I.limits.max_rows - st.charges < 2 → reserve I env i st ≡ refusal 10 0 0
    unfolding reserve reserve_if bind_r
    reserve_10 l = rw (lt-ltb (length st.nodes) I.limits.max_nodes h) (by (ltb st.charges I.limits.max_rows) refl)
      where
        by : (b : Bool) → ltb st.charges I.limits.max_rows ≡ b → reserve_if true I env i st ≡ refusal 10 0 0
        by true e = let k : st.charges < I.limits.max_rows = ltb-true st.charges I.limits.max_rows e in rw (charge_some I st k, charge_full I (one_more st) (omega arith))
        by false e = rw (charge_full I st (ltb-false st.charges I.limits.max_rows e))

    reserve_some : st.charges + 2 ≤ I.limits.max_rows → reserve I env i st ≡ ok (length st.nodes) (add_node env.scope i (one_more (one_more st)))
    unfolding reserve reserve_if bind_r
    reserve_some l = rw (lt-ltb (length st.nodes) I.limits.max_nodes h, charge_some I st (omega arith), charge_some I (one_more st) (omega arith))

-- ---- the code
module _ (L : Limits) (w : List ℕ) (t : Counts) (e : code.Env) (id : ℕ) (st : Standing L w t) (env : EnvAt w t.charges e) where
  abbrev c : ℕ
  c = t.charges

  so : JournalSound L w t
  so = st.sound

  count : length (nodes_of w c) ≡ t.nodes
  count = nodes_length w c ∙ sym so.nodes

  pub reserve_most : (n : ℕ) → n ≡ t.nodes → L.nodes ≤ n → {w' : List ℕ} → Reserved L w t e id w' (Err TooManyNodes)
  reserve_most n en h = record { does = λ S young. record { same = sym (reserve_8 (input_of S L) (env_of w e) id (at S w t) (omega (arith, count))); later = tt }; done = tt }

  module _ (n : ℕ) (en : n ≡ t.nodes) (h8 : n < L.nodes) where
    few : length (nodes_of w c) < L.nodes
    few = omega (arith, count)

    pub reserve_full : L.rows - t.charges < 2 → (a : Answer) → a ≡ Err TooManyRows → Reserved L w t e id w a
    reserve_full h a q = rw q (record { does = λ S young. record { same = sym (reserve_10 (input_of S L) (env_of w e) id (at S w t) few h); later = tt }; done = tt })

    module _ (room : 2 ≤ L.rows - t.charges) (w1 : List ℕ) (long1 : length w1 ≡ length w) (p : Pushed w w1 t.charges (reserved_record e.scope id)) where
      abbrev put : Record
      put = reserved_record e.scope id

      abbrev t1 : Counts
      t1 = grown t 1 (t.nodes + 1) t.scopes t.externs

      calm : RecordsStay c w w1
      calm = calm_same p.same

      closed : NodeClosed w1 (c + 1) c
      closed = record {
        fields = rw p.holds.at7 (handle_none w1 (c + 1) 5);
        interface = rw p.holds.at8 (handle_none w1 (c + 1) 6);
        statements = rw p.holds.at9 (handle_none w1 (c + 1) 7);
        body_order = rw p.holds.at10 (handle_none w1 (c + 1) 8);
        instance = rw p.holds.at11 (handle_none w1 (c + 1) 14);
      }

      known : cell w1 c 1 < below w1 tag_scope c
      known = rw (p.holds.at1, below_fixed tag_scope calm.fixed c (omega arith)) (env_known so.owned env)

      sound : JournalSound L w1 t1
      sound =
          sound_more so calm 1 (t.nodes + 1) t.scopes t.externs (omega arith)
          (count_new calm.fixed put p.holds tag_node so.nodes refl)
          (count_other calm.fixed put p.holds tag_scope so.scopes (λ z. omega arith))
          (count_other calm.fixed put p.holds tag_extern so.externs (λ z. omega arith))
          (alone c (RecordWellFormed w1 (c + 1)) (fair_plain w1 (c + 1) c (rw p.holds.at0) (λ z. absurd (omega (arith, p.holds.at0))) (λ z. (closed, known))))
          (index_push p (omega arith) refl so.index)
          (owned_push p (λ a b. omega arith) so.owned)
          (families_one p.same (λ z. omega (arith, p.holds.at0)) so.families)

      later1 : (young : ℕ) → Later L young w t w1 t1
      later1 young =
          later_more so calm 1 (t.nodes + 1) t.scopes t.externs young (omega arith) (λ m l. p.above m (omega arith)) long1
          (alone c (λ k. OfBody (cell w1 k 0) → young ≤ cell w1 k 1) (λ o. absurd (not_of_body (cell w1 c 0) (omega (arith, p.holds.at0)) o)))
          sound

      is_blank : node_rec w1 c ≡ blank_node
      is_blank =
          rw (p.holds.at3, p.holds.at4, p.holds.at5, p.holds.at6, p.holds.at7, p.holds.at8, p.holds.at9, p.holds.at10, p.holds.at11) (node_blank w1)

      state1 : (S : Source) → at S w1 t1 ≡ with_ledger (ledger_of w c ++ ((e.scope, id) ∷ [])) (with_nodes (nodes_of w c ++ (blank_node ∷ [])) (one_more (at S w t)))
      state1 S = state_node S.root S.library calm so.fair put p.holds refl ∙ rw is_blank

      node : NodeAt w1 (c + 1) t.nodes (c + 1)
      node =
          let z : c + 1 - 1 ≡ c = omega arith in
          record { some = omega arith; low = omega arith; tag = rw z p.holds.at0; number = rw z (below_fixed tag_node calm.fixed c (omega arith) ∙ sym so.nodes) }

      env1 : EnvAt w1 (c + 1) e
      env1 = later_env (later1 0) env

      -- there is room for the map entry
      pub reserve_enter : Enterable w1 (heads_at L) L.slots (t.charges + 1) (map_record e.place id t.nodes (t.charges + 1) e.scope)
      reserve_enter = record { room = record { records = omega arith; heads = rw long1 st.ready.room; narrow = omega (arith, st.ready.rows) }; index = sound.index; key = refl }

      module _ (w2 : List ℕ) (long2 : length w2 ≡ length w1) (q : RecordEntered w1 w2 (heads_at L) L.slots (t.charges + 1) (map_record e.place id t.nodes (t.charges + 1) e.scope)) where
        abbrev t2 : Counts
        t2 = grown t 2 (t.nodes + 1) t.scopes t.externs

        two : c + 1 + 1 ≡ c + 2
        two = omega arith

        later2 : (young : ℕ) → Later L young w1 t1 w2 t2
        later2 young = rw two at (entry_later sound e env1 id t.nodes (c + 1) node (omega arith) long2 q young)

        state2 : (S : Source) → at S w2 t2 ≡ add_node e.scope id (one_more (one_more (at S w t)))
        state2 S =
            let x : at S w2 t2 ≡ add_entry e.scope id t.nodes (one_more (at S w1 t1)) = rw two at (entry_state sound e env1 id t.nodes (c + 1) node (omega arith) long2 q S) in
            x ∙ ap (λ (s : State). add_entry e.scope id t.nodes (one_more s)) (state1 S) ∙ rw (← count)

        pub reserve_done : Reserved L w t e id w2 (did t2 t.nodes (t.charges + 1))
        reserve_done = record {
          does = λ S young. record {
            same = rw (state2 S, ← count) (sym (reserve_some (input_of S L) (env_of w e) id (at S w t) few (omega arith)));
            later = later_trans (later1 young) (later2 young);
          };
          done = record { counts = refl; value = refl; place = refl; node = later_node (later2 0) node };
        }
