-- The promises hold of every call; the answer, by the tests that led to it.
use mathlib.Core.Path.{◌≡◌, refl, sym, ap, subst, ◌∙◌}
use mathlib.Core.Bool.{Bool, true, false, not}
use mathlib.Core.List.{List}
use Prim.Native.Nat.{ℕ, ◌+◌, ◌*◌, ◌/◌, ◌%◌, min, ◌≤◌, ◌<◌}
use native.Mathlib.Omega.{arith}
use lib.ListN.{length}
use lib.Seq.{sets}
use lib.Dec.{ltb, eqb}
use borrow.Author.Tests.{ltb-true, ltb-false, lt-ltb, le-ltb, eqb-true, eq-eqb, ne_eqb, not-false}
use Rattle.ast.specs.Ast.{Node}
use Rattle.ast.specs.Choice.{choose}
use Rattle.ast.proofs.Basics.{neither}
use Rattle.words_lent.specs.Words.{over}
use Rattle.words_lent.proofs.WordLaws.{over_length, over_kept}
use Rattle.sheet_rows.specs.Rows.{none#}
use Rattle.sheet_check.specs.Grammar.{is_expanded}
use Rattle.text_decimal.proofs.StoreLaws.{sets_front}
use Rattle.pages_definition.specs.Pages.{each, page, page_count, text, document_nodes, malformed, Answer, refused, accepted, paged}
use Rattle.pages_definition.specs.Steps.{node_starts}
use Rattle.pages_definition.specs.Promises.{Well, Accepted, Promises, malformed as malformed_call, too_few, otherwise}
use Rattle.pages_definition.proofs.WalkedLaws.{nodes_count}
use Rattle.pages_definition.proofs.LineLaws.{pages_for, text_length, heading_found, line_is, node_found, line_once}

module _ (sheet ledger : List ℕ) (work : ℕ) where
  abbrev nodes : List Node
  nodes = document_nodes sheet

  -- ---- what is malformed

  pub not_well : malformed sheet ledger work ≡ false → Well sheet ledger work
  unfolding malformed
  not_well e =
      let a = neither (not (is_expanded sheet)) _ e in
      let b = neither (ltb work (16 * (length sheet / 8))) _ a.1 in
      let c = neither (ltb none# (length nodes)) _ b.1 in
      record { expanded = not-false (is_expanded sheet) a.0; room = ltb-false _ _ b.0; ids = ltb-false _ _ c.0; entries = eqb-true _ _ (not-false (eqb (length ledger) (3 * length nodes)) c.1) }

  pub well_not : Well sheet ledger work → malformed sheet ledger work ≡ false
  unfolding malformed
  well_not w = rw (w.expanded, le-ltb work (16 * (length sheet / 8)) w.room, le-ltb none# (length nodes) w.ids, eq-eqb (length ledger) (3 * length nodes) w.entries)

  -- ---- an accepted call

  module _ (lent : List ℕ) where
    abbrev T : List ℕ
    T = text nodes ledger

    bytes_are : length T ≡ 73 * (60 * page_count nodes ledger)
    bytes_are = omega (arith, text_length nodes ledger lent)

    accepted_holds : Well sheet ledger work → length T ≤ length lent → Accepted nodes ledger lent (accepted (length T)) (over T lent)
    accepted_holds w room = record {
      refusal = refl;
      pages = page_count nodes ledger;
      count = pages_for nodes (length nodes) refl;
      bytes = bytes_are;
      none = λ e. omega (arith, bytes_are);
      numbered = heading_found nodes ledger lent;
      each = line_is nodes ledger lent;
      stands = node_found nodes ledger lent;
      within = λ i h. omega arith;
      once = line_once nodes ledger lent w.ids;
      long = over_length T lent room;
      kept = over_kept T lent (length T) refl;
    }

    -- ---- every call

    abbrev Kept : Answer × List ℕ → Type 0
    Kept r = Promises sheet ledger work lent r.0 r.1

    pub promises : Kept (paged sheet ledger work lent)
    unfolding paged
    promises = by (malformed sheet ledger work) refl
      where
        room : Well sheet ledger work → (b : Bool) → ltb (length lent) (length T) ≡ b → Kept (choose b (refused 29, lent) (accepted (length T), over T lent))
        room w true e = too_few w (page_count nodes ledger) (pages_for nodes (length nodes) refl) (omega (arith, ltb-true (length lent) (length T) e, bytes_are)) (record { answer = refl; kept = refl })
        room w false e = otherwise w (accepted_holds w (ltb-false _ _ e))

        by : (b : Bool) → malformed sheet ledger work ≡ b → Kept (choose b (refused 28, lent) (choose (ltb (length lent) (length T)) (refused 29, lent) (accepted (length T), over T lent)))
        by true e = malformed_call (λ w. let q = well_not w in let z : ◌≡◌ {A = ℕ} 0 1 = cc in omega arith) (record { answer = refl; kept = refl })
        by false e = room (not_well e) (ltb (length lent) (length T)) refl

    -- an answer and the bytes after it are the definition's, and as promised
    abbrev pub Told : Answer → List ℕ → Type 0
    Told a b = ((a, b) ≡ paged sheet ledger work lent) × Promises sheet ledger work lent a b

    told : {a : Answer} {b : List ℕ} → (a, b) ≡ paged sheet ledger work lent → Told a b
    told e = (e, subst Kept (sym e) promises)

    bad : malformed sheet ledger work ≡ true → Told (refused 28) lent
    unfolding paged
    bad e = told (rw e)

    -- ---- the answer, by the tests that led to it

    pub not_expanded : false ≡ is_expanded sheet → Told (refused 28) lent
    unfolding malformed
    not_expanded e = bad (rw (← e))

    module _ (expanded : true ≡ is_expanded sheet) where
      pub short_work : work / 16 < length sheet / 8 → Told (refused 28) lent
      unfolding malformed
      short_work h = bad (rw (← expanded, lt-ltb work (16 * (length sheet / 8)) (omega arith)))

      module _ (room : length sheet / 8 ≤ work / 16) {n : ℕ} (count : n ≡ length (node_starts sheet)) where
        counted : length nodes ≡ n
        counted = nodes_count sheet ∙ sym count

        pub too_many : 4294967295 < n → Told (refused 28) lent
        unfolding malformed
        too_many h = bad (rw (← expanded, le-ltb work (16 * (length sheet / 8)) (omega arith), lt-ltb none# (length nodes) (omega (arith, counted))))

        module _ (ids : n ≤ 4294967295) where
          pub other_ledger : (length ledger ≡ 3 * n → ⊥) → Told (refused 28) lent
          unfolding malformed
          other_ledger h =
              bad (rw (← expanded, le-ltb work (16 * (length sheet / 8)) (omega arith), le-ltb none# (length nodes) (omega (arith, counted)), ne_eqb (length ledger) (3 * length nodes) (λ e. h (omega (arith, counted, e)))))

          module _ (entries : length ledger ≡ 3 * n) {k : ℕ} (pages : k ≡ n / 59 + min 1 (n % 59)) where
            fine : malformed sheet ledger work ≡ false
            fine = well_not (record { expanded = sym expanded; room = omega arith; ids = omega (arith, counted); entries = omega (arith, counted) })

            pages_are : page_count nodes ledger ≡ k
            pages_are = let e : (n + 58) / 59 ≡ k = omega arith in ap (λ (j : ℕ). (j + 58) / 59) counted ∙ e

            long : length T ≡ 4380 * k
            long = text_length nodes ledger lent ∙ ap (λ (j : ℕ). 4380 * j) pages_are

            pub too_few_lem : length lent / 4380 < k → Told (refused 29) lent
            unfolding paged
            too_few_lem h = told (rw (fine, lt-ltb (length lent) (length T) (omega (arith, long))))

            pub all_told : k ≤ length lent / 4380 → {b : List ℕ} → b ≡ sets lent 0 (each k (page nodes ledger)) → Told (accepted (4380 * k)) b
            unfolding paged text
            all_told h {b} e =
                let f : b ≡ over T lent = e ∙ ap (λ (j : ℕ). sets lent 0 (each j (page nodes ledger))) (sym pages_are) ∙ sets_front lent T (length T) refl (omega (arith, long)) in
                told (rw (fine, le-ltb (length lent) (length T) (omega (arith, long)), f, long))
