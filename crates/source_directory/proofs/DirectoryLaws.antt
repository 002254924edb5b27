-- The directory: what of it the documents rest on, and how the table of bases is written to it.
use mathlib.Core.Path.{◌≡◌, sym, ap, subst, ◌∙◌}
use mathlib.Core.List.{List, [], ◌∷◌, map}
use mathlib.Core.Option.{some}
use Prim.Native.Nat.{ℕ, zero, suc, ◌+◌, ◌-◌, ◌*◌, ◌≤◌, ◌<◌}
use native.Mathlib.Omega.{arith}
use native.Mathlib.Decide.{ℕ_discrete}
use lib.ListN.{length, get_or, drop, set, get_elem?}
use borrow.Author.Tests.{eq-eqb, ne_eqb}
use Rattle.std.specs.Prelude.{Option as Maybe, Some, None}
use Rattle.ast.specs.Ast.{File}
use Rattle.sheet_rows.specs.declared.row.Row.{Row}
use Rattle.sheet_rows.specs.Rows.{rows}
use Rattle.sheet_rows.specs.Parse.{document_of, files_of}
use Rattle.sheet_lookup.specs.Lookup.{sheet_of, root_and_files, document_at}
use Rattle.sheet_lookup.proofs.DocLaws.{begins_root}
use Rattle.pick_table.specs.declared.table.Source.{Source}
use Rattle.pick_table.specs.declared.table.Table.{Table}
use Rattle.pick_definition.specs.Picks.{library_file}
use Rattle.pick_table.specs.Table.{IsFileOf}
use Rattle.pick_definition.specs.Walked.{PickedBy}
use Rattle.pick_table.specs.Chosen.{Final}
use Rattle.pick_definition.proofs.MemberLaws.{member_here}
use Rattle.pick_table.proofs.TableLaws.{count_is, base_at}
use Rattle.pick_definition.proofs.NewerLaws.{file_at_lem}
use Rattle.pick_definition.proofs.WalkedLaws.{walked_whole}
use Rattle.words_lent.specs.Words.{Outside}
use Rattle.source_directory.specs.Directory.{size, number_of, row_of, base_of, base_count, Slot, DocumentBegins, source_in, number_in, row_in, TableStored, bases_found, Directory}
use Rattle.words_lent.proofs.WordLaws.{three, three_first, three_second, three_third, three_other}

-- ---- the documents rest on the first 195 words alone

module _ {dir dir' : List ℕ} (same : (k : ℕ) → k < 195 → get_or dir' k 0 ≡ get_or dir k 0) (few : base_count dir ≤ 64) where
  pub slot_on : {s : ℕ} → Slot dir s → Slot dir' s
  slot_on {s} h =
      record { upto = omega (arith, same 194 (omega arith), h.upto); real = λ z. omega (arith, same s (omega (arith, h.upto)), h.real z) }

module _ {root library dir dir' : List ℕ} (d : Directory root library dir) (o : Outside 195 (length dir) dir dir') where
  back : (k : ℕ) → k < 195 → get_or dir k 0 ≡ get_or dir' k 0
  back k h = sym (o.below k h)

  few' : base_count dir' ≤ 64
  few' = omega (arith, o.below 194 (omega arith), d.few)

  pub slot_back : {s : ℕ} → Slot dir' s → Slot dir s
  slot_back = slot_on back few'

  pub directory_kept : Directory root library dir'
  directory_kept = record {
    small = d.small;
    root_small = d.root_small;
    long = omega (arith, o.long, d.long);
    few = few';
    number = o.below 0 (omega arith) ∙ d.number;
    row = o.below 65 (omega arith) ∙ d.row;
    begins = λ s h. rw (o.below s (omega (arith, h.upto, few')), o.below (65 + s) (omega (arith, h.upto, few'))) (d.begins s (slot_back h));
    count = d.count ∙ back 194 (omega arith);
    bases = λ j h. rw (o.below (130 + j) (omega (arith, few'))) (d.bases j (rw (o.below 194 (omega arith)) at h));
    sources = λ j h. rw (o.below (130 + j) (omega (arith, few')), o.below (j + 1) (omega (arith, few')), o.below (65 + (j + 1)) (omega (arith, few'))) (d.sources j (rw (o.below 194 (omega arith)) at h));
    picked = λ s h. rw (o.below s (omega (arith, h.upto, few')), o.below (65 + s) (omega (arith, h.upto, few'))) (d.picked s (slot_back h));
  }

-- ---- the table is written

module _ (R : List Row) (t : Table) (dir : List ℕ) (long : size ≤ length dir) where
  module _ (i : 0 < 65) (j : 65 < 194) (h : 194 < length dir) where
    pub stored_start : TableStored R t (three dir 0 0 65 0 194 t.count i j h) 0
    stored_start = record {
      count = three_third dir 0 0 65 0 194 t.count i j h;
      number = three_first dir 0 0 65 0 194 t.count i j h;
      row = three_second dir 0 0 65 0 194 t.count i j h;
      bases = λ j h. absurd (omega arith);
      files = λ j h. absurd (omega arith);
      rows = λ j h. absurd (omega arith);
    }

  module _ (n row : ℕ) (h : n < 64) (s : TableStored R t dir n) where
    abbrev f : ℕ
    f = number_in (get_or t.files n None)

    abbrev b : ℕ
    b = get_or t.bases n 0

    abbrev next : List ℕ
    next = set (set (set dir (n + 1) f) (65 + (n + 1)) row) (130 + n) b

    apart : (k : ℕ) → (k ≡ n + 1 → ⊥) → (k ≡ 65 + (n + 1) → ⊥) → (k ≡ 130 + n → ⊥) → get_or next k 0 ≡ get_or dir k 0
    apart = three_other dir (n + 1) f (65 + (n + 1)) row (130 + n) b (omega arith) (omega arith) (omega arith)

    base : (j : ℕ) → j < n + 1 → Dec (j ≡ n) → base_of next j ≡ get_or t.bases j 0
    base j i (yes z) = rw z (three_third dir (n + 1) f (65 + (n + 1)) row (130 + n) b (omega arith) (omega arith) (omega arith))
    base j i (no z) = apart (130 + j) (λ e. omega arith) (λ e. omega arith) (λ e. z (omega arith)) ∙ s.bases j (omega arith)

    file : (j : ℕ) → j < n + 1 → Dec (j ≡ n) → number_of next (j + 1) ≡ number_in (get_or t.files j None)
    file j i (yes z) = rw z (three_first dir (n + 1) f (65 + (n + 1)) row (130 + n) b (omega arith) (omega arith) (omega arith))
    file j i (no z) = apart (j + 1) (λ e. z (omega arith)) (λ e. omega arith) (λ e. omega arith) ∙ s.files j (omega arith)

    row_at : drop row R ≡ drop (row_in (get_or t.files n None)) R → (j : ℕ) → j < n + 1 → Dec (j ≡ n) → drop (row_of next (j + 1)) R ≡ drop (row_in (get_or t.files j None)) R
    row_at e j i (yes z) = rw (z, three_second dir (n + 1) f (65 + (n + 1)) row (130 + n) b (omega arith) (omega arith) (omega arith)) e
    row_at e j i (no z) = rw (apart (65 + (j + 1)) (λ e. omega arith) (λ e. z (omega arith)) (λ e. omega arith)) (s.rows j (omega arith))

    pub stored_more : drop row R ≡ drop (row_in (get_or t.files n None)) R → TableStored R t next (n + 1)
    stored_more e = record {
      count = apart 194 (λ z. omega arith) (λ z. omega arith) (λ z. omega arith) ∙ s.count;
      number = apart 0 (λ z. omega arith) (λ z. omega arith) (λ z. omega arith) ∙ s.number;
      row = apart 65 (λ z. omega arith) (λ z. omega arith) (λ z. omega arith) ∙ s.row;
      bases = λ j i. base j i (ℕ_discrete j n);
      files = λ j i. file j i (ℕ_discrete j n);
      rows = λ j i. row_at e j i (ℕ_discrete j n);
    }

-- ---- a table that was written is the directory's

document_at_lem : (l : List File) (k : ℕ) (f : File) → get_elem? l k ≡ some f → get_elem? (map (λ x. x.document) l) k ≡ some f.document
document_at_lem [] k f e = let z : ◌≡◌ {A = ℕ} 0 1 = cc in absurd (omega arith)
document_at_lem (x ∷ l) zero f e = let z : x ≡ f = cc in rw z
document_at_lem (x ∷ l) (suc k) f e = document_at_lem l k f e

-- the library's file of a base is the document of its number
found_document : (root library : List ℕ) (base m : ℕ) (f : File) → library_file base 1 (files_of (rows library)) ≡ some (m, f) → get_elem? (root_and_files root library) m ≡ some f.document
unfolding root_and_files
found_document root library base m f e =
    let r = file_at_lem base 1 (files_of (rows library)) m f e in
    let z : m ≡ suc (m - 1) = omega (arith, r.0) in
    rw z (document_at_lem (files_of (rows library)) (m - 1) f r.1)

module _ (root library dir : List ℕ) (t : Table) (f : Final (rows root) (rows library) t) (s : TableStored (rows library) t dir 64) where
  abbrev R : List Row
  R = rows library

  -- the table's j-th base
  base_is : (j : ℕ) → j < base_count dir → (j < t.count) × (j < 64)
  base_is j h = (omega (arith, s.count), omega (arith, s.count, f.sound.room))

  bases_are : (j : ℕ) → j < base_count dir → get_elem? (bases_found root library) j ≡ some (base_of dir j)
  bases_are j h = let i = base_is j h in rw (sym f.bases, s.bases j i.1) (base_at f.sound j i.0)

  -- and its file, as the two words say it
  source_said : (b n row : ℕ) (x : Maybe Source) → IsFileOf R b x → n ≡ number_in x → drop row R ≡ drop (row_in x) R → IsFileOf R b (source_in n row)
  source_said b n row None is e r = rw (eq-eqb n 0 e) is
  source_said b n row (Some y) is e r =
      let w = file_at_lem b 1 (files_of R) y.number (record { base = b; document = document_at R y.row }) is in
      rw (e, ne_eqb y.number 0 (λ z. omega (arith, w.0)), r) is

  sources_are : (j : ℕ) → j < base_count dir → IsFileOf R (base_of dir j) (source_in (number_of dir (j + 1)) (row_of dir (j + 1)))
  sources_are j h = let i = base_is j h in rw (s.bases j i.1) (source_said (get_or t.bases j 0) (number_of dir (j + 1)) (row_of dir (j + 1)) (get_or t.files j None) (f.sound.sources j i.0) (s.files j i.1) (s.rows j i.1))

  -- a file that has a slot
  file_here : (j : ℕ) → Slot dir (j + 1) → library_file (base_of dir j) 1 (files_of R) ≡ some (number_of dir (j + 1), record { base = base_of dir j; document = document_at R (row_of dir (j + 1)) })
  file_here j h =
      let x : number_of dir (j + 1) ≡ 0 → ⊥ = λ z. omega (arith, h.real (omega arith)) in
      sources_are j (omega (arith, h.upto)) ∙ rw (ne_eqb (number_of dir (j + 1)) 0 x)

  begins_file : (j : ℕ) → Slot dir (j + 1) → DocumentBegins root library (number_of dir (j + 1)) (row_of dir (j + 1))
  begins_file j h =
      let x : number_of dir (j + 1) ≡ 0 → ⊥ = λ z. omega (arith, h.real (omega arith)) in
      rw (ne_eqb (number_of dir (j + 1)) 0 x) (found_document root library (base_of dir j) (number_of dir (j + 1)) _ (file_here j h))

  begins_at : (k : ℕ) → Slot dir k → DocumentBegins root library (number_of dir k) (row_of dir k)
  begins_at zero h = rw (s.number, s.row) (begins_root library root)
  begins_at (suc j) h =
      let z : j + 1 ≡ suc j = omega arith in
      subst (λ (k : ℕ). Slot dir k → DocumentBegins root library (number_of dir k) (row_of dir k)) z (begins_file j) h

  -- the picks of a file
  picked_file : (j : ℕ) → Slot dir (j + 1) → PickedBy (document_of (rows root)) (files_of R) (number_of dir (j + 1)) (document_at (rows (sheet_of root library (number_of dir (j + 1)))) (row_of dir (j + 1))).extern_protos
  picked_file j h =
      let k : j < base_count dir = omega (arith, h.upto) in
      let b = base_of dir j in
      let n = number_of dir (j + 1) in
      let x : n ≡ 0 → ⊥ = λ z. omega (arith, h.real (omega arith)) in
      let e = file_here j h in
      rw (ne_eqb n 0 x) ((walked_whole (document_of (rows root)) (files_of R)).fetched n (record { base = b; file = record { base = b; document = document_at R (row_of dir (j + 1)) }; among = member_here b (bases_found root library) j (bases_are j k); is = e }))

  picked_at : (k : ℕ) → Slot dir k → PickedBy (document_of (rows root)) (files_of R) (number_of dir k) (document_at (rows (sheet_of root library (number_of dir k))) (row_of dir k)).extern_protos
  picked_at zero h = rw (s.number, s.row) (walked_whole (document_of (rows root)) (files_of R)).first
  picked_at (suc j) h =
      let z : j + 1 ≡ suc j = omega arith in
      subst (λ (k : ℕ). Slot dir k → PickedBy (document_of (rows root)) (files_of R) (number_of dir k) (document_at (rows (sheet_of root library (number_of dir k))) (row_of dir k)).extern_protos) z (picked_file j) h

  pub stored_directory : length library ≤ 8 * 1048576 → length root ≤ 8 * 1048576 → size ≤ length dir → Directory root library dir
  stored_directory small root_small long = record {
    small = small;
    root_small = root_small;
    long = long;
    few = omega (arith, s.count, f.sound.room);
    number = s.number;
    row = s.row;
    begins = begins_at;
    count = ap length (sym f.bases) ∙ count_is f.sound ∙ sym s.count;
    bases = bases_are;
    sources = sources_are;
    picked = picked_at;
  }
