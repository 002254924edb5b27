-- The pick of an extern by the bases of the directory: its file has the slot of its base.
use mathlib.Core.Path.{◌≡◌, refl, sym, ap, ◌∙◌}
use mathlib.Core.Bool.{Bool, true, false}
use mathlib.Core.List.{List, [], ◌∷◌}
use mathlib.Core.Option.{Option, none, some}
use Prim.Native.Nat.{ℕ, suc, ◌+◌, ◌≤◌, ◌<◌}
use native.Mathlib.Omega.{arith}
use native.Mathlib.Numerals.{add-one}
use native.Mathlib.Decide.{ℕ_discrete}
use lib.ListN.{length, get_or, take, drop, get_elem?, length-drop}
use lib.Seq.{length-take-le, get_or-take, get_or-drop}
use lib.Dec.{eqb}
use borrow.Author.Tests.{eq-eqb, ne_eqb}
use Rattle.sheet_rows.proofs.RowLaws.{rows_length}
use Rattle.ast.specs.Ast.{Url}
use Rattle.ast.specs.Choice.{choose, and_then}
use Rattle.sheet_rows.specs.declared.row.Row.{Row}
use Rattle.sheet_rows.specs.declared.part.Part.TheVariants.{Urls}
use Rattle.sheet_rows.specs.Rows.{rows, blank}
use Rattle.sheet_rows.specs.Parse.{elements, optional, extern_proto_of, document_of, files_of}
use Rattle.sheet_walks.specs.declared.walk.Found.{Found}
use Rattle.sheet_walks.specs.declared.walk.Found.TheVariants as found
use Rattle.sheet_walks.specs.Walk.{Stands}
use Rattle.ast.specs.Lookups.{extern_proto_at}
use Rattle.sheet_lookup.specs.Lookup.{sheet_of, root_and_files, document_at, Looked, Located}
use Rattle.pick_definition.specs.PickIn.{pick_in}
use Rattle.pick_table.specs.declared.Chosen.{Chosen}
use Rattle.std.specs.Prelude.{Option as Maybe, Some, None}
use Rattle.pick_definition.specs.Picks.{Prototype, Pick, Bases, Picked, member, or_next, pick_urls, pick_of}
use Rattle.pick_table.specs.Table.{StandsAt, Position}
use Rattle.pick_table.specs.Chosen.{prototype_by, Leads}
use Rattle.pick_definition.proofs.MemberLaws.{member_here, member_index}
use Rattle.pick_definition.proofs.GrowLaws.{tried_known, tried_unknown}
use Rattle.pick_definition.proofs.WalkedLaws.{some_below}
use Rattle.pick_table.proofs.PickLaws.{url_in, urls_from, urls_at, urls_none, extern_urls, url_leads}
use Rattle.source_directory.specs.Directory.{number_of, row_of, base_of, base_count, source_in, Slot, bases_found, Directory}
use Rattle.source_directory.proofs.GroupLaws.{extern_looked}
use Rattle.source_lookup.specs.Instance.{PickedAs, urls_picked}

-- ---- what a url leads to stands in the file of its base

lead_number : (R : List Row) (number row : ℕ) (fragment : Option ℕ) (x : Chosen) → Leads R (source_in number row) fragment (Some x) → (x.document ≡ number) × (number ≡ 0 → ⊥)
lead_number R number row fragment x l = go (ℕ_discrete number 0)
  where
    with_file : (o : Option ℕ) → ◌≡◌ {A = Option Prototype} (some (record { document = x.document; proto = x.id.0 })) (and_then o (λ p. some (record { document = number; proto = p }))) → x.document ≡ number
    with_file none e = let z : ◌≡◌ {A = ℕ} 0 1 = cc in absurd (omega arith)
    with_file (some p) e =
        let z : ◌≡◌ {A = Prototype} (record { document = x.document; proto = x.id.0 }) (record { document = number; proto = p }) = cc in
        ap (λ (y : Prototype). y.document) z

    go : Dec (number ≡ 0) → (x.document ≡ number) × (number ≡ 0 → ⊥)
    go (yes z) =
        let e : ◌≡◌ {A = Option Prototype} (some (record { document = x.document; proto = x.id.0 })) none = rw (eq-eqb _ _ z) at (l 0 false) in
        let y : ◌≡◌ {A = ℕ} 0 1 = cc in
        absurd (omega arith)
    go (no z) = (with_file (pick_in (document_at R row) fragment) (rw (ne_eqb _ _ z) at (l 0 false)), z)

-- ---- the urls of the extern at a row of a sheet: n before row `at` led to no pick

pub record Trying (root library : List ℕ) (sheet : List Row) (row at n : ℕ) : Type 0 where
  pub is : urls_picked root library sheet row ≡ pick_urls (files_of (rows library)) n (urls_from sheet at) (bases_found root library)
  pub few : n < at

pub try_start : (root library : List ℕ) (sheet : List Row) (row : ℕ) → Trying root library sheet row (row + 1) 0
try_start root library sheet row = record { is = rw (extern_urls sheet row); few = omega arith }

-- ---- the bases that the directory holds

absent : (base : ℕ) (F : Bases) → ((k b : ℕ) → get_elem? F k ≡ some b → b ≡ base → ⊥) → member base F ≡ false
absent base F f = go (member base F) refl
  where
    go : (b : Bool) → member base F ≡ b → b ≡ false
    go true e = let i = member_index base F e in absurd (f i.0 base i.1 refl)
    go false e = refl

module _ {root library dir : List ℕ} (d : Directory root library dir) where
  abbrev F : Bases
  F = bases_found root library

  pub sheet_small : (doc : ℕ) {sheet : List ℕ} → sheet ≡ sheet_of root library doc → length (rows sheet) ≤ 1048576
  sheet_small doc {sheet} e = go (eqb doc 0) e
    where
      go : (b : Bool) → sheet ≡ choose b root library → length (rows sheet) ≤ 1048576
      go true e = rw e (omega (arith, rows_length root, d.root_small))
      go false e = rw e (omega (arith, rows_length library, d.small))

  -- the words of the bases, as they are lent
  abbrev pub lent : ℕ → List ℕ
  lent c = take c (drop 130 dir)

  module _ (c : ℕ) (size : c ≡ base_count dir) where
    lent_long : length (lent c) ≡ base_count dir
    lent_long = omega (arith, d.few, d.long, length-take-le c (drop 130 dir) (omega (arith, d.few, d.long, length-drop 130 dir)))

    lent_at : (k : ℕ) → k < base_count dir → get_or (lent c) k 0 ≡ base_of dir k
    lent_at k h = get_or-take c (drop 130 dir) k 0 (omega arith) ∙ get_or-drop 130 dir k 0

    pub lent_low : {base j : ℕ} → StandsAt (lent c) base j → j < base_count dir
    lent_low p = omega (arith, p.within, lent_long)

  module _ {sheet : List Row} {row at n : ℕ} (w : Trying root library sheet row at n) where
    -- no url is left
    pub try_none : elements Urls (drop at sheet) ≡ [] → PickedAs dir (urls_picked root library sheet row).0 None 0
    unfolding pick_urls
    try_none e =
        let y : ◌≡◌ {A = Picked} (urls_picked root library sheet row) (none, F) = w.is ∙ rw (urls_none sheet at e) in
        let z : (urls_picked root library sheet row).0 ≡ none = ap (λ (p : Picked). p.0) y in
        rw z (record { target = record { is = refl; valid = tt }; mark = refl })

    module _ {q : ℕ} {r : Row} (h : Stands Urls sheet at q) (is : r ≡ get_or sheet q blank) {c : ℕ} (size : c ≡ base_count dir) where
      abbrev next : List Url
      next = urls_from sheet (q + 1)

      here : urls_picked root library sheet row ≡ pick_urls (files_of (rows library)) n (url_in r ∷ next) F
      here = w.is ∙ rw (urls_at h is)

      -- its base is the j-th
      module _ {j : ℕ} (p : StandsAt (lent c) r.a j) (x : Maybe Chosen) (l : Leads (rows library) (source_in (number_of dir (j + 1)) (row_of dir (j + 1))) (optional r.b) x) where
        k : j < base_count dir
        k = lent_low c size p

        base_is : base_of dir j ≡ r.a
        base_is = sym (lent_at c size j k) ∙ p.here

        step : urls_picked root library sheet row ≡ or_next n (pick_urls (files_of (rows library)) (suc n) next) F (prototype_by x)
        step =
            here ∙ tried_known (files_of (rows library)) n (url_in r) next F (member_here r.a F j (d.bases j k ∙ ap some base_is)) ∙
            ap (or_next n (pick_urls (files_of (rows library)) (suc n) next) F) (url_leads (rows library) (source_in (number_of dir (j + 1)) (row_of dir (j + 1))) r x (rw base_is at (d.sources j k)) l)

        pub try_proto : {chosen : Chosen} (m : ℕ) → x ≡ Some chosen → m ≡ n + 1 → PickedAs dir (urls_picked root library sheet row).0 (Some (record { slot = j + 1; proto = chosen.id })) m
        try_proto {chosen} m e is_mark =
            let y : Leads (rows library) (source_in (number_of dir (j + 1)) (row_of dir (j + 1))) (optional r.b) (Some chosen) = rw e at l in
            let f = lead_number (rows library) (number_of dir (j + 1)) (row_of dir (j + 1)) (optional r.b) chosen y in
            let g : ◌≡◌ {A = Picked} (urls_picked root library sheet row) (some (record { document = chosen.document; proto = chosen.id.0; url = n }), F) = step ∙ rw e in
            let z : (urls_picked root library sheet row).0 ≡ some (record { document = chosen.document; proto = chosen.id.0; url = n }) = ap (λ (o : Picked). o.0) g in
            rw z (record {
              target = record { is = rw f.0; valid = record { upto = omega (arith, k); real = λ i. omega (arith, f.1) } };
              mark = omega (arith, is_mark);
            })

        pub try_next : x ≡ None → Trying root library sheet row (q + 1) (n + 1)
        try_next e = record { is = step ∙ rw (e, add-one n); few = omega (arith, w.few, h.from) }

      -- it is none of them: it was skipped
      pub try_skip : Position (lent c) r.a None → (urls_picked root library sheet row).1 ≡ F → Trying root library sheet row (q + 1) (n + 1)
      try_skip p s = record {
        is = here ∙ tried_unknown (files_of (rows library)) n (url_in r) next F new (ap (λ (o : Picked). o.1) (sym here) ∙ s) ∙ rw (add-one n);
        few = omega (arith, w.few, h.from);
      }
        where
          new : member r.a F ≡ false
          new = absent r.a F (λ i b e z. other i b e z (some_below F i b e))
            where
              other : (i b : ℕ) → get_elem? F i ≡ some b → b ≡ r.a → i < length F → ⊥
              other i b e z g =
                  let m : i < base_count dir = omega (arith, d.count) in
                  let known = sym (d.bases i m) ∙ e in
                  let y : base_of dir i ≡ b = cc in
                  p i (omega (arith, lent_long c size)) (lent_at c size i m ∙ y ∙ z)

  -- ---- an extern of a slot's document

  module _ {s : ℕ} (h : Slot dir s) (id : ℕ) {x : Found} (located : Located extern_proto_of (extern_proto_at (root_and_files root library) (number_of dir s) id) (rows (sheet_of root library (number_of dir s))) x) where
    l : Looked extern_proto_of (document_at (rows (sheet_of root library (number_of dir s))) (row_of dir s)).extern_protos (rows (sheet_of root library (number_of dir s))) id x
    l = extern_looked root library (number_of dir s) (row_of dir s) (d.begins s h) located

    abbrev wanted : Option Pick
    wanted = pick_of (document_of (rows root)) (files_of (rows library)) (number_of dir s) id

    pub row_settled : {row : ℕ} → x ≡ found.At row → (urls_picked root library (rows (sheet_of root library (number_of dir s))) row).1 ≡ F
    row_settled {row} e = (d.picked s h).settled id (extern_proto_of (drop row (rows (sheet_of root library (number_of dir s))))) (l.is ∙ rw e)

    pub row_picked : {row : ℕ} → x ≡ found.At row → (urls_picked root library (rows (sheet_of root library (number_of dir s))) row).0 ≡ wanted
    row_picked e = sym ((d.picked s h).is id ∙ rw (l.is, e))

    -- an extern that the document lacks has no pick
    pub row_missing : x ≡ found.Nothing → PickedAs dir wanted None 0
    row_missing e =
        let z : wanted ≡ none = (d.picked s h).is id ∙ rw (l.is, e) in
        rw z (record { target = record { is = refl; valid = tt }; mark = refl })
