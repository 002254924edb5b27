-- What the records give, one after another: a text that grows.
use mathlib.Core.Path.{◌≡◌, refl, sym, ap, ◌∙◌}
use mathlib.Core.List.{List, [], ◌∷◌, ◌++◌, append-nil}
use Prim.Native.Nat.{ℕ, zero, suc, ◌+◌, ◌*◌, ◌<◌, ◌≤◌}
use native.Mathlib.Omega.{arith}
use native.Mathlib.Decide.{ℕ_discrete}
use native.Mathlib.Numerals.{add-one}
use lib.ListN.{length, length-append}
use borrow.Author.Tests.{eq-eqb, ne_eqb}
use Rattle.expansion_operation.proofs.Said.{words_length}
use Rattle.ast.specs.Lists.{flat}
use Rattle.sheet_rows.specs.declared.row.Row.{Row}
use Rattle.sheet_rows.specs.Rows.{words}
use Rattle.journal_records.specs.Records.{cell}
use Rattle.journal_records.specs.Logs.{log_up, only}
use Rattle.journal_lists.specs.Owned.{tagged}
use Rattle.journal_records.proofs.Lists.{only_here, only_other, up_one, up_zero}
use Rattle.writer_lists.specs.Writing.{Pasted, RowsFit, Wrote}
use Rattle.writer_lists.proofs.Chains.{flat_append}
use Rattle.writer_lists.proofs.Writing.{words_append, paste_none, paste_after}

module _ {A : Type 0} (w : List ℕ) (t : ℕ) (d : ℕ → A) where
  -- the records of tag t, read by d
  abbrev pub of_tag : ℕ → List A
  of_tag r = only (tagged w t) d r

  -- one that is
  pub of_tag_lem : (r : ℕ) → cell w r 0 ≡ t → of_tag r ≡ d r ∷ []
  unfolding tagged
  of_tag_lem r e = only_here (tagged w t) d r (eq-eqb _ _ e)

  -- one that is not
  pub of_other : (r : ℕ) → (cell w r 0 ≡ t → ⊥) → of_tag r ≡ []
  unfolding tagged
  of_other r e = only_other (tagged w t) d r (ne_eqb _ _ e)

module _ {A : Type 0} (f : A → List ℕ) where
  module _ (g : ℕ → List A) where
    -- the text of the records below i
    abbrev pub up_to : ℕ → List ℕ
    up_to i = flat f (log_up g i)

    up_step : (i : ℕ) → up_to (i + 1) ≡ up_to i ++ flat f (g i)
    up_step i = ap (flat f) (up_one g i) ∙ flat_append f (log_up g i) (g i)

    up_length : (i : ℕ) → length (up_to (i + 1)) ≡ length (up_to i) + length (flat f (g i))
    up_length i = ap length (up_step i) ∙ length-append (up_to i) (flat f (g i))

    up_grows : (c i : ℕ) → i ≤ c → length (up_to i) ≤ length (up_to c)
    up_grows zero i le = let z : i ≡ 0 = omega arith in rw z (omega arith)
    up_grows (suc c) i le = by (ℕ_discrete i (suc c)) (λ l. up_grows c i l)
      where
        by : Dec (i ≡ suc c) → (i ≤ c → length (up_to i) ≤ length (up_to c)) → length (up_to i) ≤ length (up_to (suc c))
        by (yes e) go = rw e (omega arith)
        by (no e) go = omega (arith, go (omega arith), rw (add-one c) at (up_length c))

    -- of the texts of c records, for which there is room from word s on, those of the first i stand, up to word p
    pub record Filling (o₀ o : List ℕ) (c s i p : ℕ) : Type 0 where
      pub low : i ≤ c
      pub room : s + length (up_to c) ≤ length o₀
      pub end : p ≡ s + length (up_to i)
      pub pasted : Pasted (up_to i) o₀ o s

    -- nothing stands yet
    pub fill_begin : {o : List ℕ} {c s : ℕ} → s + length (up_to c) ≤ length o → Filling o o c s 0 s
    fill_begin {o} {c} {s} h = let z : up_to 0 ≡ [] = ap (flat f) (up_zero g) in record { low = omega arith; room = h; end = rw z (omega arith); pasted = rw z (paste_none o s) }

    module _ {o₀ o : List ℕ} {c s i p : ℕ} (u : Filling o₀ o c s i p) where
      module _ (lt : i < c) {x : A} (e : g i ≡ x ∷ []) where
        one : flat f (g i) ≡ f x
        one = rw e (append-nil (f x))

        -- there is room for what record i gives
        pub fill_room : p + length (f x) ≤ length o
        fill_room = omega (arith, u.end, u.room, u.pasted.long, up_grows c (i + 1) (omega arith), up_length i, ap length one)

        -- it is pasted
        pub fill_more : {o1 : List ℕ} {q : ℕ} → q ≡ p + length (f x) → Pasted (f x) o o1 p → Filling o₀ o1 c s (i + 1) q
        fill_more {o1} {q} z v =
            let t : up_to (i + 1) ≡ up_to i ++ f x = up_step i ∙ rw one in
            record {
              low = omega arith;
              room = u.room;
              end = rw (t, length-append (up_to i) (f x)) (omega (arith, u.end));
              pasted = rw t (paste_after u.end (omega (arith, u.room)) u.pasted v);
            }

      -- record i gives nothing
      pub fill_skip : i < c → g i ≡ [] → Filling o₀ o c s (i + 1) p
      fill_skip lt e =
          let t : up_to (i + 1) ≡ up_to i = up_step i ∙ rw e (append-nil (up_to i)) in
          record { low = omega arith; room = u.room; end = rw t u.end; pasted = rw t u.pasted }

      -- all stands
      pub fill_end : c ≤ i → Pasted (up_to c) o₀ o s
      fill_end le = let z : c ≡ i = omega (arith, u.low) in rw z u.pasted

-- ---- rows

module _ {A : Type 0} (f : A → List Row) where
  abbrev text_of : A → List ℕ
  text_of x = words (f x)

  words_each : (l : List A) → words (flat f l) ≡ flat text_of l
  unfolding words
  words_each [] = refl
  words_each (x ∷ l) = words_append (f x) (flat f l) ∙ rw (words_each l)

  module _ (g : ℕ → List A) where
    abbrev pub rows_to : ℕ → List Row
    rows_to i = flat f (log_up g i)

    rows_length : (i : ℕ) → length (up_to text_of g i) ≡ 8 * length (rows_to i)
    rows_length i = sym (ap length (words_each (log_up g i))) ∙ words_length (rows_to i)

    -- of the rows of c records those of the first i stand, from row s up to row p
    pub record Logging (o₀ o : List ℕ) (c s i p : ℕ) : Type 0 where
      pub room : RowsFit (rows_to c) o₀ (s + length (rows_to c))
      pub text : Filling text_of g o₀ o c (8 * s) i (8 * p)

    -- none yet
    pub log_begin : {o : List ℕ} {c s : ℕ} → RowsFit (rows_to c) o (s + length (rows_to c)) → Logging o o c s 0 s
    log_begin {o} {c} m = record { room = m; text = fill_begin text_of g (omega (arith, m.inside, rows_length c)) }

    module _ {o₀ o : List ℕ} {c s i p : ℕ} (u : Logging o₀ o c s i p) where
      module _ (lt : i < c) where
        module _ {x : A} (e : g i ≡ x ∷ []) where
          -- there is room for those of record i
          pub log_room : RowsFit (f x) o (p + length (f x))
          log_room =
              let z : length (text_of x) ≡ 8 * length (f x) = words_length (f x) in
              record {
                fits = omega arith;
                inside = omega (arith, fill_room text_of g u.text lt e);
                few = omega (arith, u.room.few, u.text.end, rows_length c, up_grows text_of g c (i + 1) (omega arith), up_length text_of g i, ap length (one text_of g u.text lt e));
              }

          -- they are written
          pub log_more : {o1 : List ℕ} {q : ℕ} → Wrote (f x) o o1 q p → Logging o₀ o1 c s (i + 1) q
          log_more v = record { room = u.room; text = fill_more text_of g u.text lt e (omega (arith, v.sum, words_length (f x))) v.pasted }

        -- record i gives none
        pub log_skip : g i ≡ [] → Logging o₀ o c s (i + 1) p
        log_skip e = record { room = u.room; text = fill_skip text_of g u.text lt e }

      -- all are written
      pub log_end : c ≤ i → Wrote (rows_to c) o₀ o p s
      log_end le = let z : c ≡ i = omega (arith, u.text.low) in record { sum = rw z (omega (arith, u.text.end, rows_length i)); pasted = rw (words_each (log_up g c)) (fill_end text_of g u.text le) }
