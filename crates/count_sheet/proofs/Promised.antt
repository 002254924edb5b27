-- Every call answers as the definition says, and as promised.
use mathlib.Core.Path.{◌≡◌, refl, sym, ap, subst, ◌∙◌}
use mathlib.Core.Bool.{Bool, true, false, not, ◌&&◌, ◌||◌}
use mathlib.Core.List.{List, [], ◌∷◌, ◌++◌, map}
use Prim.Native.Nat.{ℕ, zero, suc, ◌+◌, ◌-◌, ◌*◌, ◌/◌, ◌%◌, ◌≤◌, ◌<◌}
use native.Mathlib.Omega.{arith}
use native.Mathlib.Decide.{dec_lt}
use lib.ListN.{length, get_or, drop, length-append, length-drop, length-map, get_or-append}
use lib.Seq.{ext_get_or, get_or-append-add, get_or-drop}
use lib.Dec.{ltb, eqb}
use borrow.Author.Tests.{ltb-true, ltb-false, eqb-true, eqb-false, lt-ltb, le-ltb, eq-eqb, ne_eqb, not-true, not-false}
use Rattle.ast.specs.Ast.{Document}
use Rattle.ast.specs.Choice.{choose}
use Rattle.ast.specs.Lists.{flat}
use Rattle.ast.proofs.Basics.{neither}
use Rattle.words_lent.specs.Words.{over}
use Rattle.words_lent.proofs.WordLaws.{over_length, over_kept}
use Rattle.sheet_rows.specs.declared.row.Row.{Row}
use Rattle.sheet_rows.specs.declared.part.Part.TheVariants.{Documents as DocumentsPart}
use Rattle.sheet_rows.specs.Rows.{rows}
use Rattle.sheet_rows.specs.Parse.{elements, document_of, documents_of}
use Rattle.sheet_rows.specs.Print.{document_rows, documents_rows}
use Rattle.sheet_rows.proofs.RowLaws.{rows_count}
use Rattle.sheet_check.specs.declared.grammar.Form.TheVariants.{Documents}
use Rattle.std.specs.Prelude.{Ok, Err}
use Rattle.sheet_check.specs.Checked.{Checked, Fits}
use Rattle.sheet_check.specs.Grammar.{checked, is_fits, is_sheet}
use Rattle.sheet_forms.proofs.Documents.{documents_printed_back}
use Rattle.count_documents.specs.Count.{total_of}
use Rattle.count_documents.specs.Steps.{Are, AllReady, AllCounted}
use Rattle.count_documents.proofs.Promised.{promised}
use Rattle.count_sheet.specs.Sheet.{are_protocols, repeats, wrong, malformed, documents_in, totals_of, counted_sheet, Answer, refused, accepted}
use Rattle.count_sheet.specs.Steps.{Zeroed}
use Rattle.count_sheet.specs.Promises.{Asked, Well, Refused, Accepted, Promises, seventeen, eighteen, otherwise}
use Rattle.count_sheet.proofs.ListLaws.{protocols_are, are_protocols_lem, names_apart, apart_names}

-- ---- 17

module _ (ps ns : List ℕ) (n : ℕ) where
  asked_not : Asked ps ns n → wrong ps ns n ≡ false
  unfolding wrong
  asked_not a =
      rw (le-ltb 4096 (length ps) a.few, are_protocols_lem ps a.protocols, le-ltb 64 (length ns) a.names, apart_names ns a.different, le-ltb n (length ns) a.totals)

  not_asked : wrong ps ns n ≡ false → Asked ps ns n
  unfolding wrong
  not_asked e =
      let a = neither (ltb 4096 (length ps)) _ e in
      let b = neither (not (are_protocols ps)) _ a.1 in
      let c = neither (ltb 64 (length ns)) _ b.1 in
      let f = neither (repeats ns) _ c.1 in
      record {
        protocols = protocols_are ps (not-false (are_protocols ps) b.0);
        few = ltb-false 4096 (length ps) a.0;
        different = names_apart ns f.0;
        names = ltb-false 64 (length ns) c.0;
        totals = ltb-false n (length ns) f.1;
      }

-- ---- 18

module _ (sheet ps : List ℕ) (work : ℕ) where
  well_not : Well sheet ps work → malformed sheet ps work ≡ false
  unfolding malformed
  well_not w = rw (w.documents, le-ltb work (16 * (length sheet / 8)) w.room, eq-eqb (length (documents_in sheet)) (length ps) w.many)

  not_well : malformed sheet ps work ≡ false → Well sheet ps work
  unfolding malformed
  not_well e =
      let a = neither (not (is_sheet Documents sheet)) _ e in
      let b = neither (ltb work (16 * (length sheet / 8))) _ a.1 in
      record {
        documents = not-false (is_sheet Documents sheet) a.0;
        room = ltb-false work (16 * (length sheet / 8)) b.0;
        many = eqb-true (length (documents_in sheet)) (length ps) (not-false (eqb (length (documents_in sheet)) (length ps)) b.1);
      }

-- ---- the rows of a sheet that fits

fits_of : (s : List ℕ) → is_sheet Documents s ≡ true → checked Documents (rows s) ≡ Fits
fits_of s e = go (eqb (length s % 8) 0) (checked Documents (rows s)) refl e
  where
    go : (b : Bool) (c : Checked) → checked Documents (rows s) ≡ c → choose b (is_fits c) false ≡ true → checked Documents (rows s) ≡ Fits
    go true (Ok _) q h = q
    go true (Err b) q h = absurd (let z : false ≡ true = h in let y : ◌≡◌ {A = ℕ} 0 1 = cc in omega arith)
    go false c q h = absurd (let z : false ≡ true = h in let y : ◌≡◌ {A = ℕ} 0 1 = cc in omega arith)

rows_are : (s : List ℕ) → is_sheet Documents s ≡ true → rows s ≡ flat document_rows (documents_in s)
unfolding documents_rows
rows_are s e = sym (documents_printed_back (rows s) (fits_of s e))

map_count : {A B : Type 0} (f : A → B) (l : List A) → length (map f l) ≡ length l
map_count f l = length-map l f

-- as the walk over the documents counts them
pub documents_many : (s : List ℕ) → length (elements DocumentsPart (drop 0 (rows s))) ≡ length (documents_in s)
unfolding documents_of
documents_many s = sym (map_count document_of (elements DocumentsPart (rows s)))

-- ---- totals

module _ (sheet ps ns lent : List ℕ) where
  totals_long : length (totals_of sheet ps ns) ≡ length ns
  unfolding totals_of
  totals_long = map_count (total_of ps (documents_in sheet)) ns

  map_at : (f : ℕ → ℕ) (l : List ℕ) (j : ℕ) → j < length l → get_or (map f l) j 0 ≡ f (get_or l j 0)
  map_at f [] j h = absurd (omega arith)
  map_at f (x ∷ l) zero h = refl
  map_at f (x ∷ l) (suc j) h = map_at f l j (omega arith)

  totals_at : (j : ℕ) → j < length ns → get_or (over (totals_of sheet ps ns) lent) j 0 ≡ total_of ps (documents_in sheet) (get_or ns j 0)
  unfolding totals_of
  totals_at j h =
      get_or-append (map (total_of ps (documents_in sheet)) ns) (drop (length (map (total_of ps (documents_in sheet)) ns)) lent) 0 j (omega (arith, map_count (total_of ps (documents_in sheet)) ns)) ∙
      map_at (total_of ps (documents_in sheet)) ns j h

  accepted_holds : is_sheet Documents sheet ≡ true → length ns ≤ length lent → Accepted sheet ps ns lent (accepted (length ns)) (over (totals_of sheet ps ns) lent)
  accepted_holds e room =
      record {
        refusal = refl;
        written = refl;
        totals = totals_at;
        rows = λ j h. omega (arith, totals_at j h, promised.rows ps (documents_in sheet) (get_or ns j 0), ap length (rows_are sheet e), rows_count sheet);
        counts = promised;
        long = over_length (totals_of sheet ps ns) lent (omega (arith, totals_long));
        kept = over_kept (totals_of sheet ps ns) lent (length ns) totals_long;
      }

  -- the words after the count are these
  all_are : length ns ≤ length lent → {t : List ℕ} → length t ≡ length lent → ((j : ℕ) → j < length ns → get_or t j 0 ≡ total_of ps (documents_in sheet) (get_or ns j 0)) → ((j : ℕ) → length ns ≤ j → get_or t j 0 ≡ get_or lent j 0) → t ≡ over (totals_of sheet ps ns) lent
  all_are room {t} long here kept = ext_get_or 0 t (over (totals_of sheet ps ns) lent) (long ∙ sym (over_length (totals_of sheet ps ns) lent (omega (arith, totals_long)))) (λ j h. go j (dec_lt j (length ns)))
    where
      past : (j : ℕ) → length ns ≤ j → get_or (over (totals_of sheet ps ns) lent) j 0 ≡ get_or lent j 0
      past j h =
          let k = j - length ns in
          let e : j ≡ length (totals_of sheet ps ns) + k = omega (arith, totals_long) in
          ap (λ i. get_or (over (totals_of sheet ps ns) lent) i 0) e ∙
          get_or-append-add (totals_of sheet ps ns) (drop (length (totals_of sheet ps ns)) lent) k 0 ∙
          get_or-drop (length (totals_of sheet ps ns)) lent k 0 ∙
          ap (λ i. get_or lent i 0) (sym e)

      go : (j : ℕ) → Dec (j < length ns) → get_or t j 0 ≡ get_or (over (totals_of sheet ps ns) lent) j 0
      go j (yes h) = here j h ∙ sym (totals_at j h)
      go j (no h) = kept j (omega arith) ∙ sym (past j (omega arith))

-- ---- every call

module _ (sheet ps ns : List ℕ) (work : ℕ) (lent : List ℕ) where
  abbrev Kept : Answer × List ℕ → Type 0
  Kept r = Promises sheet ps ns work lent r.0 r.1

  promises : Kept (counted_sheet sheet ps ns work lent)
  unfolding counted_sheet
  promises = by (wrong ps ns (length lent)) refl
    where
      then : Asked ps ns (length lent) → (b : Bool) → malformed sheet ps work ≡ b → Kept (choose b (refused 18, lent) (accepted (length ns), over (totals_of sheet ps ns) lent))
      then a true e = eighteen a (λ w. let q = well_not sheet ps work w in let z : ◌≡◌ {A = ℕ} 0 1 = cc in omega arith) (record { answer = refl; kept = refl })
      then a false e = let w = not_well sheet ps work e in otherwise a w (accepted_holds sheet ps ns lent w.documents a.totals)

      by : (b : Bool) → wrong ps ns (length lent) ≡ b → Kept (choose b (refused 17, lent) (choose (malformed sheet ps work) (refused 18, lent) (accepted (length ns), over (totals_of sheet ps ns) lent)))
      by true e = seventeen (λ a. let q = asked_not ps ns (length lent) a in let z : ◌≡◌ {A = ℕ} 0 1 = cc in omega arith) (record { answer = refl; kept = refl })
      by false e = then (not_asked ps ns (length lent) e) (malformed sheet ps work) refl

  -- an answer and the totals after it are the definition's, and as promised
  abbrev pub Told : Answer → List ℕ → Type 0
  Told a b = ((a, b) ≡ counted_sheet sheet ps ns work lent) × Promises sheet ps ns work lent a b

  told : {a : Answer} {b : List ℕ} → (a, b) ≡ counted_sheet sheet ps ns work lent → Told a b
  told e = (e, subst Kept (sym e) promises)

  wrongly : wrong ps ns (length lent) ≡ true → Told (refused 17) lent
  unfolding counted_sheet
  wrongly e = told (rw e)

  -- ---- the answer, by the tests that led to it

  pub too_many_protocols : 4096 < length ps → Told (refused 17) lent
  unfolding wrong
  too_many_protocols h = wrongly (rw (lt-ltb 4096 (length ps) h))

  module _ (few : length ps ≤ 4096) where
    pub no_protocol : false ≡ are_protocols ps → Told (refused 17) lent
    unfolding wrong
    no_protocol e = wrongly (rw (le-ltb 4096 (length ps) few, ← e))

    module _ (protocols : true ≡ are_protocols ps) where
      pub too_many_names : 64 < length ns → Told (refused 17) lent
      unfolding wrong
      too_many_names h = wrongly (rw (le-ltb 4096 (length ps) few, ← protocols, lt-ltb 64 (length ns) h))

      module _ (names : length ns ≤ 64) where
        pub name_twice : true ≡ repeats ns → Told (refused 17) lent
        unfolding wrong
        name_twice e = wrongly (rw (le-ltb 4096 (length ps) few, ← protocols, le-ltb 64 (length ns) names, ← e))

        module _ (different : false ≡ repeats ns) where
          pub too_few_totals : length lent < length ns → Told (refused 17) lent
          unfolding wrong
          too_few_totals h = wrongly (rw (le-ltb 4096 (length ps) few, ← protocols, le-ltb 64 (length ns) names, ← different, lt-ltb (length lent) (length ns) h))

          module _ (room : length ns ≤ length lent) where
            right : wrong ps ns (length lent) ≡ false
            unfolding wrong
            right = rw (le-ltb 4096 (length ps) few, ← protocols, le-ltb 64 (length ns) names, ← different, le-ltb (length lent) (length ns) room)

            bad : malformed sheet ps work ≡ true → Told (refused 18) lent
            unfolding counted_sheet
            bad e = told (rw (right, e))

            pub no_documents : false ≡ is_sheet Documents sheet → Told (refused 18) lent
            unfolding malformed
            no_documents e = bad (rw (← e))

            module _ (documents : true ≡ is_sheet Documents sheet) where
              pub short_work : work / 16 < length sheet / 8 → Told (refused 18) lent
              unfolding malformed
              short_work h = bad (rw (← documents, lt-ltb work (16 * (length sheet / 8)) (omega arith)))

              module _ (words : length sheet / 8 ≤ work / 16) {n : ℕ} (count : n ≡ length (elements DocumentsPart (drop 0 (rows sheet)))) where
                pub other_number : (n ≡ length ps → ⊥) → Told (refused 18) lent
                unfolding malformed
                other_number h = bad (rw (← documents, le-ltb work (16 * (length sheet / 8)) (omega arith), ne_eqb (length (documents_in sheet)) (length ps) (λ e. h (count ∙ documents_many sheet ∙ e))))

                module _ (many : n ≡ length ps) where
                  same_many : length (documents_in sheet) ≡ length ps
                  same_many = sym (documents_many sheet) ∙ sym count ∙ many

                  fine : malformed sheet ps work ≡ false
                  fine = well_not sheet ps work (record { documents = sym documents; room = omega arith; many = same_many })

                  are : Are (rows sheet) ps (documents_in sheet)
                  are = record { are = rows_are sheet (sym documents); many = sym same_many }

                  pub all_ready : (w : List ℕ) → length w ≡ work → {t : List ℕ} → Zeroed (length ns) (length ns) lent t → AllReady (rows sheet) ps ns t w
                  all_ready w e z =
                      record {
                        documents = documents_in sheet;
                        are = are;
                        words = omega (arith, rows_count sheet);
                        apart = names_apart ns (sym different);
                        room = omega (arith, z.long);
                        zero = z.zero;
                      }

                  pub all_told : {t t' : List ℕ} → Zeroed (length ns) (length ns) lent t → AllCounted (rows sheet) ps ns t t' → length t' ≡ length t → Told (accepted (length ns)) t'
                  unfolding counted_sheet
                  all_told {t} {t'} z c long =
                      let e : t' ≡ over (totals_of sheet ps ns) lent = all_are sheet ps ns lent room (long ∙ z.long) (c.totals (documents_in sheet) are) (λ j h. c.kept j h ∙ z.kept j h) in
                      told (rw (right, fine, e))
