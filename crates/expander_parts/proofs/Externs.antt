-- Externs: found, missing, refused for want of charges, and declared.
use mathlib.Core.Path.{◌≡◌, refl, sym, ap, ◌∙◌}
use mathlib.Core.Bool.{Bool, true, false}
use mathlib.Core.List.{List}
use mathlib.Core.Option.{Option, none, some}
use Prim.Native.Nat.{ℕ, suc, ◌+◌, ◌*◌, ◌-◌, ◌≤◌, ◌<◌}
use native.Mathlib.Omega.{arith}
use lib.ListN.{length, drop, length-map}
use lib.Dec.{ltb}
use borrow.Author.Tests.{ltb-true, ltb-false}
use Rattle.ast.specs.Ast.{ExternProtoDecl}
use Rattle.ast.specs.Lookups.{extern_proto_at}
use Rattle.sheet_rows.specs.declared.row.Row.{Row}
use Rattle.sheet_rows.specs.declared.part.Part.TheVariants.{Interfaces, Urls}
use Rattle.sheet_rows.specs.Rows.{rows, rest}
use Rattle.sheet_rows.proofs.RowLaws.{rows_length}
use Rattle.sheet_rows.specs.Parse.{elements, extern_proto_of, interface_of, interfaces_of, url_of, document_of, files_of}
use Rattle.sheet_walks.specs.declared.walk.Found as walk
use Rattle.sheet_walks.specs.declared.walk.Found.TheVariants as walked
use Rattle.sheet_lookup.specs.Lookup.{sheet_of, root_and_files, Located}
use Rattle.sheet_walks.proofs.WalkLaws.{rest_drop}
use Rattle.pick_definition.specs.Picks.{pick_of, url_taken}
use Rattle.pick_definition.specs.Mark.{mark_of, url_by}
use Rattle.expansion_definition.specs.Input.{Input, used_url}
use Rattle.expansion_definition.specs.State.{State, Result, refusal, ok, Comp, bind_r, ◌>>◌}
use Rattle.expansion_definition.specs.Charges.{one_more, charge, charge_each}
use Rattle.expansion_definition.specs.Values.{Env, src}
use Rattle.expansion_definition.specs.Externs.{lookup_extern, declared, push_extern, declare, extern_proto}
use Rattle.journal_records.specs.declared.Record.{Record}
use Rattle.std.specs.declared.option.Option.TheVariants.{None, Some}
use Rattle.journal_records.specs.Records.{tag_extern, tag_node, tag_scope, cell, Paid}
use Rattle.journal_records.specs.Made.{extern_record}
use Rattle.journal_index.specs.Index.{Newest, newest, found_of, RecordEntered}
use Rattle.journal_lists.specs.Owned.{tagged}
use Rattle.journal_records.proofs.Lists.{count_low}
use Rattle.journal_lists.proofs.Owned.{owned_enter}
use Rattle.journal_lists.proofs.Families.{families_enter}
use Rattle.journal_reading.specs.Reading.{extern_map_of}
use Rattle.journal_reading.specs.WellFormed.{RecordWellFormed}
use Rattle.journal_reading.proofs.Lookups.{extern_lookup}
use Rattle.journal_reading.proofs.Nodes.{calm_enter}
use Rattle.journal_reading.specs.RecordsStay.{RecordsStay}
use Rattle.journal_reading.proofs.States.{more, state_extern, externs_length}
use Rattle.source_directory.specs.Directory.{number_of}
use Rattle.refine_records.specs.declared.Limits.{Limits}
use Rattle.std.specs.declared.result.Result.TheVariants.{Err}
use Rattle.refine_records.specs.declared.Refusal.TheVariants.{TooManyRows, DanglingExtern}
use Rattle.refine_records.specs.declared.Counts.{Counts}
use Rattle.refine_records.specs.Sound.{Source, input_of, JournalSound, OfBody, Later}
use Rattle.refine_records.specs.Does.{Answer, did, at}
use Rattle.refine_records.proofs.Later.{later_refl, later_trans}
use Rattle.refine_records.proofs.Grow.{grown, sound_more, later_more, alone, count_other, count_new}
use Rattle.refine_records.proofs.Charges.{charge_full, charge_some, each_full, each_some}
use Rattle.refine_records.proofs.Keeping.{not_of_body}
use Rattle.refine_values.proofs.Cloning.{paid_later, paid_state}
use Rattle.expander_parts.specs.Contract.{source_of, Lent, Counted, Declared}
use Rattle.expander_parts.proofs.Lending.{sheet_small}

never : false ≡ true → ⊥
never y = let k : ◌≡◌ {A = ℕ} 0 1 = cc in omega arith

-- ---- a charge, and one for each of two lists
module _ (I : Input) {A B C : Type 0} (xs : List A) (ys : List B) (k : Comp C) (st : State) where
  abbrev all : Result C
  all = (charge I >> (charge_each I xs >> (charge_each I ys >> k))) st

  all_some : st.charges + 1 + (length xs + length ys) ≤ I.limits.max_rows → all ≡ k (more (length ys) (more (length xs) (one_more st)))
  unfolding bind_r
  all_some h =
      rw (
        charge_some I st (omega arith),
        each_some I xs (one_more st) (omega arith),
        each_some I ys (more (length xs) (one_more st)) (omega arith),
      )

  all_full : I.limits.max_rows - st.charges ≤ length xs + length ys → all ≡ refusal 10 0 0
  unfolding bind_r
  all_full h = one (ltb st.charges I.limits.max_rows) refl
    where
      two : st.charges < I.limits.max_rows → (b : Bool) → ltb (I.limits.max_rows - suc st.charges) (length xs) ≡ b → all ≡ refusal 10 0 0
      two l true e = rw (charge_some I st l, each_full I xs (one_more st) (ltb-true (I.limits.max_rows - suc st.charges) (length xs) e))
      two l false e =
          let g = ltb-false (I.limits.max_rows - suc st.charges) (length xs) e in
          rw (charge_some I st l, each_some I xs (one_more st) (omega arith), each_full I ys (more (length xs) (one_more st)) (omega arith))

      one : (b : Bool) → ltb st.charges I.limits.max_rows ≡ b → all ≡ refusal 10 0 0
      one true e = let l = ltb-true st.charges I.limits.max_rows e in two l (ltb (I.limits.max_rows - suc st.charges) (length xs)) refl
      one false e = rw (charge_full I st (ltb-false st.charges I.limits.max_rows e))

-- ---- an extern's record
module _ (L : Limits) {w w' : List ℕ} {t : Counts} (so : JournalSound L w t) (r : Record) (is : r.tag ≡ tag_extern) (room : t.charges < L.rows) (long : length w' ≡ length w) (p : RecordEntered w w' (L.rows * 12) L.slots t.charges r) where
  abbrev one : Counts
  one = grown t 1 t.nodes t.scopes (t.externs + 1)

  still : RecordsStay t.charges w w'
  still = calm_enter p

  new_fair : RecordWellFormed w' (t.charges + 1) t.charges
  new_fair =
      let z : cell w' t.charges 0 ≡ tag_extern = p.holds.at0 ∙ is in
      record {
        mapped = λ e. absurd (omega arith);
        node = λ e. absurd (omega arith);
        scoped = λ e. absurd (omega arith);
        instance = λ e. absurd (omega arith);
        linked = λ e. absurd (never (rw z at e));
        value = λ e q. absurd (never (rw z at e));
      }

  entered_sound : JournalSound L w' one
  entered_sound =
      sound_more so still 1 t.nodes t.scopes (t.externs + 1) (omega arith)
      (count_other still.fixed _ p.holds tag_node so.nodes (λ e. omega (arith, is)))
      (count_other still.fixed _ p.holds tag_scope so.scopes (λ e. omega (arith, is)))
      (count_new still.fixed _ p.holds tag_extern so.externs is)
      (alone t.charges (RecordWellFormed w' (t.charges + 1)) new_fair)
      p.index
      (owned_enter p (rw is) so.owned)
      (families_enter p (λ e. omega (arith, p.holds.at0, is)) so.families)

  entered_later : (young : ℕ) → Later L young w t w' one
  entered_later young =
      later_more so still 1 t.nodes t.scopes (t.externs + 1) young (omega arith) (λ m l. p.above m (omega arith)) long
      (alone t.charges (λ n. OfBody (cell w' n 0) → young ≤ cell w' n 1) (λ o. absurd (not_of_body (cell w' t.charges 0) (omega (arith, p.holds.at0, is)) o)))
      entered_sound

-- ---- room
pub externs_few : {L : Limits} {w : List ℕ} {t : Counts} → JournalSound L w t → t.externs ≤ t.charges
externs_few {L} {w} {t} so = rw so.externs (count_low (tagged w tag_extern) t.charges)

-- the row of an extern is a row of its sheet, and rows are few
module _ {L : Limits} {root library dir w : List ℕ} (x : Lent L root library dir w) {sheet : List ℕ} (doc : ℕ) (is_sheet : sheet ≡ sheet_of root library doc) where
  pub rows_few : length (rows sheet) ≤ 1048576
  rows_few = rw is_sheet (omega (arith, sheet_small x doc, rows_length (sheet_of root library doc)))

  pub extern_row : {A : Type 0} {g : List Row → A} {o : Option A} (slot : ℕ) → doc ≡ number_of dir slot → {f : walk.Found} → Located g o (rows (sheet_of root library (number_of dir slot))) f → {row : ℕ} → f ≡ walked.At row → row < length (rows sheet)
  extern_row slot e y q = rw (is_sheet, e) (rw q at y.below)

-- ---- the four answers
-- a mark says which url was taken
by_mark : (o : Option ℕ) → url_by (mark_of o) ≡ o
by_mark none = refl
by_mark (some k) = refl

-- the counts after it, and after n charges more
abbrev one_extern : Counts → Counts
one_extern t = grown t 1 t.nodes t.scopes (t.externs + 1)

abbrev paid_extern : Counts → ℕ → Counts
paid_extern t n = grown (one_extern t) n t.nodes t.scopes (t.externs + 1)

module _ (L : Limits) (root library dir w : List ℕ) (t : Counts) (slot id doc : ℕ) (is_doc : doc ≡ number_of dir slot) (so : JournalSound L w t) where
  abbrev S : ℕ → Source
  S D = source_of root library D

  -- the mark says what the definition takes for the url
  url_is : {mark : ℕ} → mark ≡ mark_of (url_taken (pick_of (document_of (rows root)) (files_of (rows library)) (number_of dir slot) id)) → (D : ℕ) → url_by mark ≡ used_url (input_of (S D) L) doc id
  url_is {mark} e D =
      let p : Option ℕ = url_taken (pick_of (document_of (rows root)) (files_of (rows library)) (number_of dir slot) id) in
      let y : url_by mark ≡ p = ap url_by e ∙ by_mark p in
      rw is_doc y

  -- the definition, by what it finds
  module _ (D : ℕ) (e : Env) (here : src e ≡ number_of dir slot) where
    by_doc : extern_proto (input_of (S D) L) e id (at (S D) w t) ≡ declare (input_of (S D) L) doc id (lookup_extern (extern_map_of w t.charges) doc id) (extern_proto_at (root_and_files root library) doc id) (at (S D) w t)
    unfolding extern_proto root_and_files
    by_doc = rw (here, ← is_doc)

  module _ {f : Newest} (find : found_of f ≡ newest w tag_extern doc id t.charges) where
    pub extern_found : {r : ℕ} → f ≡ Some r → (v : ℕ) → v ≡ cell w r 3 → Declared L root library dir w t slot id w (did t v 0)
    unfolding declare
    extern_found {r} q v z = record { does = λ D young e here. record { same = same D e here; later = later_refl young so } }
      where
        known : lookup_extern (extern_map_of w t.charges) doc id ≡ some v
        known = extern_lookup w t.charges doc id ∙ rw (← find, q, z)

        same : (D : ℕ) (e : Env) → src e ≡ number_of dir slot → ok v (at (S D) w t) ≡ extern_proto (input_of (S D) L) e id (at (S D) w t)
        same D e here = sym (by_doc D e here ∙ rw known)

    -- it is new
    module _ (new : f ≡ None) where
      unknown : lookup_extern (extern_map_of w t.charges) doc id ≡ none
      unknown = extern_lookup w t.charges doc id ∙ rw (← find, new)

      module _ {x : walk.Found} (found : Located extern_proto_of (extern_proto_at (root_and_files root library) (number_of dir slot) id) (rows (sheet_of root library (number_of dir slot))) x) where
        loc : Located extern_proto_of (extern_proto_at (root_and_files root library) doc id) (rows (sheet_of root library doc)) x
        loc = rw is_doc found

        pub extern_missing : x ≡ walked.Nothing → Declared L root library dir w t slot id w (Err (DanglingExtern doc id))
        unfolding declare
        extern_missing q = record { does = λ D young e here. record { same = same D e here; later = tt } }
          where
            same : (D : ℕ) (e : Env) → src e ≡ number_of dir slot → refusal 4 doc id ≡ extern_proto (input_of (S D) L) e id (at (S D) w t)
            same D e here = sym (by_doc D e here ∙ rw (unknown, loc.is, q))

        -- it stands at a row
        module _ {row : ℕ} (q : x ≡ walked.At row) {sheet : List ℕ} (is_sheet : sheet ≡ sheet_of root library doc) {a b : ℕ} (ca : Counted Interfaces (rows sheet) (row + 1) a) (cb : Counted Urls (rows sheet) (row + 1) b) where
          abbrev decl : ExternProtoDecl
          decl = extern_proto_of (drop row (rows (sheet_of root library doc)))

          interfaces : length decl.interface ≡ a
          unfolding extern_proto_of interfaces_of
          interfaces = length-map (elements Interfaces (rest (drop row (rows (sheet_of root library doc))))) interface_of ∙ rw (rest_drop (rows (sheet_of root library doc)) row) (sym (rw is_sheet at ca.is))

          urls : length decl.urls ≡ b
          unfolding extern_proto_of
          urls = length-map (elements Urls (rest (drop row (rows (sheet_of root library doc))))) url_of ∙ rw (rest_drop (rows (sheet_of root library doc)) row) (sym (rw is_sheet at cb.is))

          pub extern_full : L.rows - t.charges ≤ a + b → {r : Answer} → r ≡ Err TooManyRows → Declared L root library dir w t slot id w r
          unfolding declare
          extern_full h is = rw is (record { does = λ D young e here. record { same = same D e here; later = tt } })
            where
              same : (D : ℕ) (e : Env) → src e ≡ number_of dir slot → refusal 10 0 0 ≡ extern_proto (input_of (S D) L) e id (at (S D) w t)
              same D e here =
                  sym (by_doc D e here ∙ rw (unknown, loc.is, q)
                  (all_full (input_of (S D) L) decl.interface decl.urls (λ st. ok (length st.extern_protos) (push_extern doc id (declared (used_url (input_of (S D) L) doc id) decl) st)) (at (S D) w t) (omega (arith, interfaces, urls))))

          -- the record, and the rest of the charges
          module _ {w₁ w₂ : List ℕ} {mark : ℕ} (is_mark : mark ≡ mark_of (url_taken (pick_of (document_of (rows root)) (files_of (rows library)) (number_of dir slot) id))) (fits : a + b < L.rows - t.charges) (long₁ : length w₁ ≡ length w) (long₂ : length w₂ ≡ length w₁) where
            pub extern_done : RecordEntered w w₁ (L.rows * 12) L.slots t.charges (extern_record doc id t.externs row slot mark) → Paid w₁ w₂ (t.charges + 1) (a + b)
                → Declared L root library dir w t slot id w₂ (did (paid_extern t (a + b)) t.externs 0)
            unfolding declare
            extern_done en pa = record { does = λ D young e here. record { same = same D e here; later = later_trans (first young) (second young) } }
              where
                first : (young : ℕ) → Later L young w t w₁ (one_extern t)
                first young = entered_later L so (extern_record doc id t.externs row slot mark) refl (omega (arith, so.charges)) long₁ en young

                second : (young : ℕ) → Later L young w₁ (one_extern t) w₂ (paid_extern t (a + b))
                second young = paid_later (first young).sound (omega (arith, so.charges)) long₂ pa young

                same : (D : ℕ) (e : Env) → src e ≡ number_of dir slot → ok t.externs (at (S D) w₂ (paid_extern t (a + b))) ≡ extern_proto (input_of (S D) L) e id (at (S D) w t)
                same D e here =
                    let z : suc t.charges + a + b ≡ suc t.charges + (a + b) = omega arith in
                    ap (ok t.externs) (paid_state (first 0).sound (omega (arith, so.charges)) long₂ pa (S D) ∙ ap (more (a + b)) (state_extern root library (calm_enter en) so.fair _ en.holds refl))
                    ∙ sym (by_doc D e here ∙ rw (unknown, loc.is, q)
                    (all_some (input_of (S D) L) decl.interface decl.urls (λ st. ok (length st.extern_protos) (push_extern doc id (declared (used_url (input_of (S D) L) doc id) decl) st)) (at (S D) w t) (omega (arith, interfaces, urls, so.charges))
                    ∙ rw (← (url_is is_mark D), interfaces, urls, externs_length root library w t.charges, ← so.externs, z)))
