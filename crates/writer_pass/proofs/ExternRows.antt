-- The rows of a declared extern, copied from the sheet that declares it.
use mathlib.Core.Path.{◌≡◌, refl, sym, ap, subst, ◌∙◌}
use mathlib.Core.List.{List, [], ◌∷◌, ◌++◌, map, append-nil, append_assoc}
use mathlib.Core.Bool.{Bool}
use Prim.Native.Nat.{ℕ, zero, suc, ◌+◌, ◌*◌, ◌-◌, ◌<◌, ◌≤◌}
use native.Mathlib.Numerals.{add-one}
use native.Mathlib.Decide.{ℕ_discrete}
use native.Mathlib.Omega.{arith}
use lib.ListN.{length, get_or, drop, length-append}
use lib.Dec.{eqb}
use borrow.Author.Tests.{eq-eqb, ne_eqb}
use Rattle.sheet_rows.specs.declared.row.Row.{Row}
use Rattle.sheet_rows.specs.declared.part.Part.{Part}
use Rattle.sheet_rows.specs.declared.part.Part.TheVariants.{Interfaces, Urls}
use Rattle.sheet_rows.specs.Rows.{rows, blank, front, rest}
use Rattle.sheet_rows.specs.Parse.{elements, interface_of, interfaces_of, url_of, extern_proto_of}
use Rattle.ast.specs.Lists.{flat}
use Rattle.sheet_rows.specs.Print.{row, extern_proto_rows, interface_rows, url_row}
use Rattle.sheet_walks.specs.Walk.{Stands}
use Rattle.sheet_lookup.specs.Lookup.{sheet_of}
use Rattle.sheet_walks.proofs.WalkLaws.{front_drop, rest_drop}
use Rattle.expansion_definition.specs.Externs.{is_used, no_value, marked}
use Rattle.pick_definition.specs.Mark.{url_by}
use Rattle.journal_records.specs.Records.{tag_extern, cell}
use Rattle.ast.specs.Ast.{ExternProtoDecl}
use Rattle.journal_records.specs.Logs.{log_up}
use Rattle.journal_records.proofs.Lists.{up_count}
use Rattle.journal_reading.specs.Reading.{extern_rec, externs_of, below}
use Rattle.journal_lists.specs.Owned.{tagged}
use Rattle.journal_reading.proofs.Words.{kept_is}
use Rattle.writer_lists.specs.Writing.{most, RowsFit, Wrote}
use Rattle.writer_pass.specs.Externs.{declared_row, declared_from, declared_rows, extern_rows_of}
use Rattle.writer_lists.proofs.Writing.{wrote_none, wrote_after, forwards, Coming, set_out}
use Rattle.writer_pass.proofs.Logs.{of_tag}
use Rattle.writer_lists.proofs.Records.{or_none_lem}

-- ---- a part, element by element

module _ (of : Part) (m : ℕ) (R : List Row) where
  -- the rows from a place on, of which the n-th is the first
  abbrev pub left : ℕ → ℕ → List Row
  left n at = declared_from of m n (elements of (drop at R))

  left_at : (n : ℕ) {at q : ℕ} → Stands of R at q → left n at ≡ declared_row of (eqb (n + 1) m) (get_or R q blank) ∷ left (n + 1) (q + 1)
  unfolding declared_from
  left_at n {q = q} s = ap (declared_from of m n) s.here ∙ rw (front_drop R q, add-one n, add-one q)

  left_none : (n at : ℕ) → elements of (drop at R) ≡ [] → left n at ≡ []
  unfolding declared_from
  left_none n at e = ap (declared_from of m n) e

  left_length : (n : ℕ) {at q : ℕ} → Stands of R at q → length (left n at) ≡ suc (length (left (n + 1) (q + 1)))
  left_length n s = ap length (left_at n s)

  -- of the rows from `from` on those up to `at` stand from row s up to row p
  pub record Copying (o₀ o : List ℕ) (from at s p : ℕ) : Type 0 where
    pub made : List Row
    pub whole : left 0 from ≡ made ++ left (p - s) at
    pub wrote : Wrote made o₀ o p s
    pub on : s ≤ p

  -- nothing is copied yet
  pub copy_begin : {o : List ℕ} {from s : ℕ} → Copying o o from from s s
  copy_begin {s = s} = let z : s - s ≡ 0 = omega arith in record { made = []; whole = rw z; wrote = wrote_none refl; on = omega arith }

  module _ {o₀ o : List ℕ} {from at s p : ℕ} (room : RowsFit (left 0 from) o₀ (s + length (left 0 from))) (u : Copying o₀ o from at s p) where
    module _ {q : ℕ} (st : Stands of R at q) where
      -- there is room for one row more
      pub copy_room : (8 * p + 8 ≤ length o) × (p < most)
      copy_room =
          let z : length (left 0 from) ≡ length u.made + length (left (p - s) at) = ap length u.whole ∙ length-append u.made (left (p - s) at) in
          (omega (arith, room.inside, u.wrote.sum, u.wrote.pasted.long, left_length (p - s) st), omega (arith, room.few, u.wrote.sum, left_length (p - s) st))

      -- it is copied
      pub copy_again : {o1 : List ℕ} {x : Row} {used : Bool} → used ≡ eqb (p - s + 1) m → x ≡ declared_row of used (get_or R q blank) → Wrote (x ∷ []) o o1 (p + 1) p → Copying o₀ o1 from (q + 1) s (p + 1)
      copy_again {o1} {x} eu ex v =
          let z : p - s + 1 ≡ p + 1 - s = omega (arith, u.on) in
          let y : left 0 from ≡ (u.made ++ (x ∷ [])) ++ left (p - s + 1) (q + 1) = u.whole ∙ rw (left_at (p - s) st, ex, eu) (sym (append_assoc u.made (declared_row of (eqb (p - s + 1) m) (get_or R q blank) ∷ []) (left (p - s + 1) (q + 1)))) in
          record {
            made = u.made ++ (x ∷ []);
            whole = y ∙ ap (λ (n : ℕ). (u.made ++ (x ∷ [])) ++ left n (q + 1)) z;
            wrote = wrote_after (omega (arith, room.inside)) u.wrote v;
            on = omega (arith, u.on);
          }

    -- all are copied
    pub copy_stop : elements of (drop at R) ≡ [] → Wrote (left 0 from) o₀ o p s
    copy_stop e = let z : left 0 from ≡ u.made = u.whole ∙ rw (left_none (p - s) at e) (append-nil u.made) in rw z u.wrote

-- ---- a declaration

interfaces_rows : (L : List (List Row)) (n : ℕ) → flat interface_rows (map no_value (map interface_of L)) ≡ declared_from Interfaces 0 n L
unfolding interface_of declared_from
interfaces_rows [] n = refl
interfaces_rows (x ∷ L) n = rw (or_none_lem (front x).d, interfaces_rows L (suc n))

-- the url of index n is marked where its number, from 1, is the mark
used_is : (m n : ℕ) → is_used (url_by m) n ≡ eqb (suc n) m
used_is zero n = sym (ne_eqb (suc n) 0 (λ z. omega arith))
used_is (suc k) n = by (ℕ_discrete k n)
  where
    by : Dec (k ≡ n) → eqb k n ≡ eqb (suc n) (suc k)
    by (yes e) = eq-eqb k n e ∙ sym (eq-eqb (suc n) (suc k) (omega arith))
    by (no e) = ne_eqb k n e ∙ sym (ne_eqb (suc n) (suc k) (λ z. e (omega arith)))

urls_rows : (m n : ℕ) (L : List (List Row)) → map url_row (marked (url_by m) n (map url_of L)) ≡ declared_from Urls m n L
unfolding url_of marked declared_from
urls_rows m n [] = refl
urls_rows m n (x ∷ L) = rw (or_none_lem (front x).b, used_is m n, urls_rows m (suc n) L)

module _ (R : List Row) (at m : ℕ) where
  abbrev pub parts : List (List Row)
  parts = (row 8 (get_or R at blank).a 0 0 0 0 0 0 ∷ []) ∷ declared_rows Interfaces 0 (drop (at + 1) R) ∷ declared_rows Urls m (drop (at + 1) R) ∷ []

  extern_shape : extern_rows_of m (drop at R) ≡ forwards parts
  unfolding extern_proto_of interfaces_of forwards
  extern_shape = rw (interfaces_rows (elements Interfaces (rest (drop at R))) 0, urls_rows m 0 (elements Urls (rest (drop at R))), rest_drop R at, front_drop R at, append-nil (declared_rows Urls m (drop (at + 1) R)))

  -- its blocks, to be written from the first on
  pub extern_coming : {o : List ℕ} {p : ℕ} → RowsFit (extern_rows_of m (drop at R)) o (p + length (extern_rows_of m (drop at R))) → Coming (extern_rows_of m (drop at R)) parts o o p p
  extern_coming room = set_out room extern_shape

-- ---- the externs of the journal

module _ (root library w : List ℕ) where
  -- those of a record, if it is one
  abbrev pub externs_at : ℕ → List ExternProtoDecl
  externs_at = of_tag w tag_extern (extern_rec root library w)

  -- its rows are those of its declaration
  pub extern_at : (r : ℕ) → cell w r 0 ≡ tag_extern → extern_proto_rows (extern_rec root library w r) ≡ extern_rows_of (cell w r 6) (drop (cell w r 4) (rows (sheet_of root library (cell w r 1))))
  extern_at r a = rw (kept_is w r tag_extern 1 (cell w r 1) a (omega arith) refl, kept_is w r tag_extern 4 (cell w r 4) a (omega arith) refl, kept_is w r tag_extern 6 (cell w r 6) a (omega arith) refl)

  -- with the same room
  pub extern_room : (r p : ℕ) → cell w r 0 ≡ tag_extern → {o : List ℕ} → RowsFit (extern_proto_rows (extern_rec root library w r)) o (p + length (extern_proto_rows (extern_rec root library w r)))
      → RowsFit (extern_rows_of (cell w r 6) (drop (cell w r 4) (rows (sheet_of root library (cell w r 1))))) o (p + length (extern_rows_of (cell w r 6) (drop (cell w r 4) (rows (sheet_of root library (cell w r 1))))))
  extern_room r p a {o} m = subst (λ (R : List Row). RowsFit R o (p + length R)) (extern_at r a) m

  -- where there are none, there are no rows
  pub externs_none : (c : ℕ) → below w tag_extern c ≡ 0 → flat extern_proto_rows (externs_of root library w c) ≡ []
  unfolding externs_of
  externs_none c e = by (log_up externs_at c) (up_count (tagged w tag_extern) (extern_rec root library w) c ∙ e)
    where
      by : (l : List ExternProtoDecl) → length l ≡ 0 → flat extern_proto_rows l ≡ []
      by [] z = refl
      by (x ∷ l) z = absurd (omega arith)
