-- The run from its room to its answer, and what is written of an accepted one.
use mathlib.Core.Path.{◌≡◌, refl, sym, ap, ◌∙◌}
use mathlib.Core.List.{List}
use Prim.Native.Nat.{ℕ, ◌+◌, ◌-◌, ◌*◌, ◌/◌, ◌≤◌}
use native.Mathlib.Omega.{arith}
use lib.ListN.{length, length-map}
use Rattle.sheet_rows.specs.Parse.{document_of}
use Rattle.sheet_rows.specs.Print.{document_rows}
use Rattle.ast.specs.Ast.{Document}
use Rattle.sheet_rows.specs.declared.row.Row.{Row}
use Rattle.expansion_definition.specs.Expand.{ledger_entry, Expansion, Answer, expansion, answer, expand}
use Rattle.expansion_definition.specs.Expanded.{Expanded as Holds}
use Rattle.expansion_definition.proofs.Demand.{demand_3}
use Rattle.expansion_output.proofs.Output.{row_count_lem}
use Rattle.words_lent.specs.Words.{over}
use Rattle.expansion_operation.specs.Operation.{Call, input}
use Rattle.journal_reading.specs.Reading.{nodes_of, ledger_of, scopes_of, statements_at}
use Rattle.journal_reading.proofs.Nodes.{nodes_length}
use Rattle.journal_reading.proofs.States.{scopes_length_lem}
use Rattle.source_setup.specs.Prepared.{Fit, Prepared}
use Rattle.refine_records.specs.declared.Limits.{Limits}
use Rattle.refine_records.specs.declared.Counts.{Counts}
use Rattle.std.specs.declared.result.Result.TheVariants.{Ok, Err}
use Rattle.refine_records.specs.declared.Refusal.{Refusal}
use Rattle.refine_records.specs.Sound.{Source, JournalSound}
use Rattle.refine_records.specs.Does.{did, at}
use Rattle.refine_records.proofs.Beginning.{sound_none}
use Rattle.expander_parts.specs.Contract.{source_of}
use Rattle.expander_contracts.specs.Contract.{NothingRecorded, TopStatementsCopied}
use Rattle.writer_lists.specs.Writing.{Pasted}
use Rattle.writer_pass.specs.Document.{journal_document, journal_rows, Written}
use Rattle.expander_run.specs.Calls.{Outcome, call_of, after_of, Allowed, Ran, Writable, written}

module _ (root library : List ℕ) (n d k : ℕ) (out ledger scopes work : List ℕ) (g : Allowed (call_of root library n d k out ledger scopes work)) where
  abbrev c : Call
  c = call_of root library n d k out ledger scopes work

  abbrev slots : ℕ
  slots = k - k / 4 + 32 * (d + 1)

  abbrev room : ℕ
  room = 3 * k + k / 4 + 32 * (d + 1)

  abbrev L : Limits
  L = record { nodes = n; rows = k; slots = slots }

  abbrev S : Source
  S = source_of root library d

  -- ---- the room of the run
  pub fits : {dir : List ℕ} → 656 ≤ length dir → Fit root library work (k * 12 + slots) room dir
  fits long = record {
    root_small = omega (arith, g.1.0.whole, g.1.0.cap);
    library_small = omega (arith, g.1.1.whole, g.1.1.cap);
    within = omega (arith, g.0.work);
    words = omega (arith, g.0.max_rows, g.0.max_depth);
    long = long;
  }

  module _ {dir w : List ℕ} (p : Prepared root library work w (k * 12 + slots) room dir) where
    pub blank : NothingRecorded root library dir w L
    blank = record {
      standing = record {
        ready = record { room = omega (arith, g.0.work, p.stays.long); rows = g.0.max_rows; nodes = g.0.max_nodes };
        sound = sound_none L w (omega arith) (omega (arith, g.0.max_rows, g.0.max_depth));
      };
      lent = record { sourced = p.sourced; small = omega (arith, g.1.0.whole, g.1.0.cap); behind = omega (arith, p.region.from) };
    }

    -- ---- refused
    pub run_refused : {w' : List ℕ} {x' : Refusal} → TopStatementsCopied root library w L d w' (Err x') → Ran c (Err x') out ledger scopes
    unfolding expand answer
    run_refused t = rw (sym t.same)

    -- ---- accepted
    module _ {w' : List ℕ} {t : Counts} {v o : ℕ} (x : TopStatementsCopied root library w L d w' (did t v o)) where
      abbrev e : Expansion
      e = expansion (input c) (statements_at w' v) (at S w' t)

      is : expand (input c) ≡ Answer.Expanded e
      unfolding expand answer
      is = ap (answer (input c)) (sym x.same)

      so : JournalSound L w' t
      so = x.later.sound

      holds : Holds (input c) e
      holds = demand_3 (input c) e is

      document : journal_document root library w' t.charges v ≡ e.document
      unfolding journal_document document_of
      document = refl

      nodes : length (nodes_of w' t.charges) ≡ t.nodes
      nodes = nodes_length w' t.charges ∙ sym so.nodes

      scope_count : length (scopes_of w' t.charges) ≡ t.scopes
      scope_count = scopes_length_lem w' t.charges ∙ sym so.scopes

      few : length (journal_rows root library w' t.charges v) ≤ t.charges
      few = omega (arith, ap (λ (D : Document). length (document_rows D)) document, row_count_lem (input c) e is, holds.rows_paid)

      pub writable : Writable root library w' t v out ledger scopes
      writable = record {
        printable = record { legible = record { records = omega (arith, so.charges, x.later.long, p.stays.long, g.0.work); fair = so.fair; owned = so.owned }; externs = so.externs; ends = x.handle };
        charges = omega (arith, so.charges, g.0.max_rows);
        rows = few;
        out_room = omega (arith, so.charges, g.0.out);
        ledger_room = omega (arith, length-map (ledger_of w' t.charges) (ledger_entry (scopes_of w' t.charges)), holds.ledger_size, holds.node_limit, g.0.ledger);
        scopes_room = omega (arith, holds.scopes_paid, holds.charge_limit, g.0.scopes);
      }

      pub run_written : (a : Outcome) {out' ledger' scopes' : List ℕ} → after_of a out' ledger' scopes' ≡ written root library w' t v out ledger scopes → Ran c a out' ledger' scopes'
      run_written a z = z ∙ rw (is, nodes, scope_count, sym document)

-- ---- what is written
module _ (root library w : List ℕ) (t : Counts) (tops : ℕ) (out ledger scopes : List ℕ) (x : Writable root library w t tops out ledger scopes) where
  abbrev R : List Row
  R = journal_rows root library w t.charges tops

  -- words pasted at the beginning
  begun : {text o o' : List ℕ} → Pasted text o o' 0 → o' ≡ over text o
  begun {text} u = let z : 0 + length text ≡ length text = omega arith in u.same ∙ rw z

  pub written_is : {out' ledger' scopes' : List ℕ} {n : ℕ} → Written R w t.charges out out' ledger ledger' scopes scopes' n → after_of (Ok (record { nodes = t.nodes; scopes = t.scopes; charges = t.charges; rows = n })) out' ledger' scopes' ≡ written root library w t tops out ledger scopes
  written_is {n = n} u = let q : n ≡ length R = omega (arith, u.rows.sum) in rw (begun u.rows.pasted, begun u.ledger, begun u.scopes, q)
