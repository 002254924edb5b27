-- The promises hold of every call.
use mathlib.Core.Path.{◌≡◌, refl, ap, sym, ◌∙◌, subst}
use mathlib.Core.Bool.{Bool, true, false, ◌||◌}
use mathlib.Core.List.{List}
use Prim.Native.Nat.{ℕ, ◌*◌, ◌≤◌}
use native.Mathlib.Omega.{arith}
use lib.ListN.{length, drop}
use Rattle.words_lent.proofs.WordLaws.{over_length, over_written, over_kept}
use Rattle.sheet_rows.specs.declared.row.Row.{Row}
use Rattle.std.specs.Prelude.{Ok, Err}
use Rattle.sheet_check.specs.Checked.{Checked, Fits, Bad}
use Rattle.sheet_check.specs.declared.grammar.Form.TheVariants as form
use Rattle.sheet_rows.specs.Rows.{rows, words}
use Rattle.sheet_check.specs.Grammar.{checked}
use Rattle.sheet_rows.specs.Parse.{document_of}
use Rattle.sheet_rows.specs.Print.{document_rows}
use Rattle.sheet_roundtrip.proofs.RoundTrip.{root_in_range, library_in_range}
use Rattle.expansion_definition.specs.Scopes.{scope_entry}
use Rattle.ast.specs.Lists.{flat}
use Rattle.expansion_definition.specs.Expand.{Expansion, Answer, expand}
use Rattle.expansion_definition.specs.Expanded.{Expanded}
use Rattle.expansion_definition.proofs.Demand.{demand_3, refusals, faultless}
use Rattle.expansion_output.specs.Input.{InputInRange}
use Rattle.expansion_output.proofs.Output.{row_count_lem, rows_fit, rows_say}
use Rattle.expansion_operation.specs.Operation.{Call, After, over_caps, too_short, wrong_length, refuse_if, refuse_bad, input, outcome, ledger_words, after_answer, expand_words}
use Rattle.expansion_operation.specs.Promises.{RoomAndCaps, Sheets, WellFormed, Refused, Answered, one, two, three_root, three_library, four_to_ten, accepted, out_rows, ledger_said, scopes_said, said, Accepted, Promises}
use Rattle.expansion_operation.proofs.Targets.{Words, root_targets_lem, library_targets_lem}
use Rattle.expansion_operation.proofs.Said.{words_length, ledger_length_lem, scopes_length_lem, rows_said, ledger_said_lem, scopes_said_lem}
use Rattle.expansion_operation.proofs.Cases.{from_four}
use Rattle.expansion_operation.proofs.Tests.{yes_no, room_if, room_then, sheets_if, sheets_then}

-- ---- a refusal

module _ (c : Call) where
  -- A refusal answers its number and places, and keeps the words.
  refused_as : (n d i : ℕ) → Refused c (after_answer c (Answer.Refused n d i)) n d i
  refused_as n d i = record { answer = refl; out = refl; ledger = refl; scopes = refl }

  when_refused : (n d i : ℕ) → (n ≡ 0 → ⊥) → (Refused c (after_answer c (Answer.Refused n d i)) n d i → Answered c (after_answer c (Answer.Refused n d i))) → Promises c (after_answer c (Answer.Refused n d i))
  when_refused n d i z f = record { answered = f (refused_as n d i); accepted = λ e. absurd (z e); out_length = refl; ledger_length = refl; scopes_length = refl }

-- ---- an accepted call

module _ (c : Call) (hr : Words c.root) (hl : Words c.library) (room : RoomAndCaps c) (sheets : Sheets c) (fit : WellFormed c) where
  -- Sheets that fit say documents in range.
  input_in_range : InputInRange (input c)
  input_in_range = record { root = root_in_range (rows c.root) fit.0; root_targets = root_targets_lem c.root hr; library = library_in_range (rows c.library) fit.1; library_targets = library_targets_lem c.library hl; max_nodes = room.max_nodes; max_rows = room.max_rows }

  module _ (e : Expansion) (q : expand (input c) ≡ Answer.Expanded e) where
    x : Expanded (input c) e
    x = demand_3 (input c) e q

    abbrev R : List Row
    R = document_rows e.document

    abbrev r : After
    r = after_answer c (Answer.Expanded e)

    -- How many words are written: they fit in the slices.
    ledger_count : length (flat ledger_words e.ledger) ≡ 3 * e.node_count
    ledger_count = omega (arith, ledger_length_lem e.ledger, x.ledger_size)

    scopes_count : length (flat scope_entry e.scopes) ≡ 5 * e.scope_count
    scopes_count = omega (arith, scopes_length_lem e.scopes, x.scope_count)

    rows_paid : length R ≤ e.charges
    rows_paid = omega (arith, row_count_lem (input c) e q, x.rows_paid)

    -- What they say: the document, the ledger, the scopes.
    document_said : document_of (out_rows r) ≡ e.document
    document_said = ap document_of (rows_said R (drop (length (words R)) c.out)) ∙ rows_say (input c) input_in_range e q

    ledger_is : ledger_said e.node_count r.ledger ≡ e.ledger
    ledger_is = ap (λ (n : ℕ). ledger_said n r.ledger) (sym x.ledger_size) ∙ ledger_said_lem e.ledger (drop (length (flat ledger_words e.ledger)) c.ledger)

    scopes_is : scopes_said e.scope_count r.scopes ≡ e.scopes
    scopes_is = ap (λ (n : ℕ). scopes_said n r.scopes) x.scope_count ∙ scopes_said_lem e.scopes (drop (length (flat scope_entry e.scopes)) c.scopes)

    -- So the words say the expansion.
    said_is : said r ≡ e
    said_is = λ i. record { document = document_said i; ledger = ledger_is i; scopes = scopes_is i; node_count = e.node_count; scope_count = e.scope_count; charges = e.charges }

    accepted_holds : Accepted c r
    accepted_holds = record {
      expanded = subst (Expanded (input c)) (sym said_is) x;
      steps = q ∙ ap Answer.Expanded (sym said_is);
      fits = ap (checked form.Expanded) (rows_said R (drop (length (words R)) c.out)) ∙ rows_fit (input c) input_in_range e q;
      scope_words = over_written (flat scope_entry e.scopes) c.scopes (5 * e.scope_count) scopes_count ∙ ap (flat scope_entry) (sym scopes_is);
      rows_paid = rows_paid;
      first_place = refl;
      second_place = refl;
      out_kept = over_kept (words R) c.out (8 * length R) (words_length R);
      ledger_kept = over_kept (flat ledger_words e.ledger) c.ledger (3 * e.node_count) ledger_count;
      scopes_kept = over_kept (flat scope_entry e.scopes) c.scopes (5 * e.scope_count) scopes_count;
    }

    when_accepted : Promises c r
    when_accepted = record {
      answered = accepted room sheets fit e q (faultless (input c) e q) refl;
      accepted = λ z. accepted_holds;
      out_length = over_length (words R) c.out (omega (arith, words_length R, rows_paid, x.charge_limit, room.out));
      ledger_length = over_length (flat ledger_words e.ledger) c.ledger (omega (arith, ledger_count, x.node_limit, room.ledger));
      scopes_length = over_length (flat scope_entry e.scopes) c.scopes (omega (arith, scopes_count, x.scopes_paid, x.charge_limit, room.scopes));
    }

-- ---- every call

module _ (c : Call) (hr : Words c.root) (hl : Words c.library) where
  by_steps : RoomAndCaps c → Sheets c → WellFormed c → (o : Answer) → expand (input c) ≡ o → Promises c (after_answer c o)
  by_steps room sheets fit (Answer.Refused n d i) q = let h = refusals (input c) n d i q in when_refused c n d i (λ e. omega (arith, (from_four c n d i h).0)) (four_to_ten room sheets fit n d i q h)
  by_steps room sheets fit (Answer.Expanded e) q = when_accepted c hr hl room sheets fit e q

  -- One refusal after another.
  if_not : (n : ℕ) (b : Bool) (next : Answer) → (b ≡ true → Promises c (after_answer c (Answer.Refused n 0 0))) → (b ≡ false → Promises c (after_answer c next)) → Promises c (after_answer c (refuse_if b n next))
  if_not n true next f g = f refl
  if_not n false next f g = g refl

  if_fits : (sheet : ℕ) (k : Checked) (next : Answer) → ((row : ℕ) → k ≡ Bad row → Promises c (after_answer c (Answer.Refused 3 sheet row))) → (k ≡ Fits → Promises c (after_answer c next)) → Promises c (after_answer c (refuse_bad sheet k next))
  if_fits sheet (Ok _) next f g = g refl
  if_fits sheet (Err b) next f g = f b.0 refl

  -- Demands 1 and 3, of the words before and after every call.
  pub promises : Promises c (expand_words c)
  unfolding expand_words outcome
  promises =
      if_not 1 (over_caps c.limits || too_short c) _ (λ q. when_refused c 1 0 0 (λ e. omega arith) (one (λ room. yes_no (sym q ∙ room_then c room)))) (λ q.
      let room : RoomAndCaps c = room_if c q in
      if_not 2 (wrong_length c.root || wrong_length c.library) _ (λ q2. when_refused c 2 0 0 (λ e. omega arith) (two room (λ s. yes_no (sym q2 ∙ sheets_then c s)))) (λ q2.
      let sheets : Sheets c = sheets_if c q2 in
      if_fits 0 (checked form.Root (rows c.root)) _ (λ row q3. when_refused c 3 0 row (λ e. omega arith) (three_root room sheets row q3)) (λ q3.
      if_fits 1 (checked form.Library (rows c.library)) _ (λ row q4. when_refused c 3 1 row (λ e. omega arith) (three_library room sheets q3 row q4)) (λ q4.
      by_steps room sheets (q3, q4) (expand (input c)) refl))))
