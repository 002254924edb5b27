-- `value_of` and `count`: the search of stored values, and a walk of ids.
use mathlib.Core.Path.{◌≡◌, refl, sym, ap, ◌∙◌}
use mathlib.Core.Bool.{Bool, true, false}
use mathlib.Core.List.{List, []}
use mathlib.Core.Option.{Option, none, some}
use Prim.Native.Nat.{ℕ, zero, suc, ◌+◌, ◌-◌, ◌<◌, ◌≤◌}
use native.Mathlib.Omega.{arith}
use lib.ListN.{length}
use lib.Dec.{eqb}
use borrow.Author.Tests.{eqb-true, eqb-false, eq-eqb, ne_eqb}
use Rattle.ast.specs.Ast.{FieldValue}
use Rattle.ast.specs.Choice.{choose, or_else, map_o}
use Rattle.expansion_definition.specs.Values.{value_named}
use Rattle.std.specs.Option.{is_some}
use Rattle.std.specs.declared.option.Option.TheVariants.{None, Some}
use Rattle.journal_records.specs.Records.{tag_id, tag_stored, cell}
use Rattle.journal_records.specs.Logs.{newest_below, newest_of}
use Rattle.journal_records.specs.Lists.{clip, HandleBelow, records_of}
use Rattle.journal_records.proofs.Handles.{clip_in, records_none, records_next}
use Rattle.journal_index.specs.Index.{Newest, hit, newest, found_of}
use Rattle.journal_lists.specs.Owned.{owned_by, last_owned}
use Rattle.journal_lists.specs.Families.{First, Families}
use Rattle.journal_index.proofs.Keys.{hit_is}
use Rattle.journal_records.proofs.Lists.{last_here, last_none, newest_is, newest_zero}
use Rattle.journal_lists.proofs.Owned.{hit_owned, owned_here, owned_is}
use Rattle.journal_reading.specs.Reading.{fixed_word, back, ids_at, stored_rec, values_at, value_rec}
use Rattle.journal_reading.specs.WellFormed.{HandleAt, Walkable}
use Rattle.journal_reading.proofs.Fair.{handle_more}
use Rattle.journal_reading.proofs.Walks.{walkable, walk_less, walk_next, walk_word, walk_back, walk_end, rev_length}
use Rattle.refine_records.specs.declared.Limits.{Limits}
use Rattle.refine_records.specs.declared.Counts.{Counts}
use Rattle.refine_records.specs.Sound.{Standing}
use Rattle.refine_records.specs.Contract.{ValueFound}

-- ---- the stored value of a name: it is that of the list from here on
pub record Searching (w : List ℕ) (c h name cur : ℕ) : Type 0 where
  pub handle : HandleAt w c tag_stored cur
  pub low : cur ≤ h
  pub same : value_named name (values_at w h) ≡ value_named name (values_at w cur)

module _ {L : Limits} {w : List ℕ} {t : Counts} (st : Standing L w t) where
  abbrev c : ℕ
  c = t.charges

  walk : {h : ℕ} → HandleAt w c tag_stored h → Walkable w tag_stored h
  walk x = walkable st.sound.fair (omega (arith, st.sound.charges, st.ready.room)) refl x

  -- a stored record, and those before it
  one : (name h : ℕ) → 0 < h → HandleAt w c tag_stored h → value_named name (values_at w h) ≡ choose (eqb (cell w (h - 1) 2) name) (some (value_rec w (h - 1))) (value_named name (values_at w (cell w (h - 1) 8)))
  unfolding value_named values_at
  one name h lt x = rw (walk_back (walk x) lt (stored_rec w) refl, walk_word (walk x) lt refl 2 (omega arith))

  -- what stands before a stored record
  before : (r : ℕ) → r < c → cell w r 0 ≡ tag_stored → HandleAt w r tag_stored (cell w r 8)
  before r l e = rw e at ((st.sound.fair.each r l).linked (rw e))

  -- ---- the newest of a family: the first of the name in the family, or what stands before it
  module _ (name f : ℕ) where
    abbrev named : ℕ → Option FieldValue
    named h = value_named name (values_at w h)

    abbrev at : ℕ → Option FieldValue
    at n = or_else (map_o (value_rec w) (newest w tag_stored f name n)) (named (cell w f 8))

    fa : Families w c
    fa = st.sound.families

    none_below : f < c → newest w tag_stored f name f ≡ none
    none_below lf = newest_zero (hit w tag_stored f name) f (last_none (hit w tag_stored f name) f (λ r l. by r l (hit w tag_stored f name r) refl))
      where
        by : (r : ℕ) → r < f → (u : Bool) → hit w tag_stored f name r ≡ u → hit w tag_stored f name r ≡ false
        by r l false e = e
        by r l true e = let h = hit_is w tag_stored f name r e in absurd (omega (arith, fa.low r (omega arith) h.tag, h.one))

    family : (n : ℕ) → f < n → n ≤ c → First w f → named (last_owned w tag_stored f n) ≡ at n
    unfolding newest_below newest_of
    family zero lt le x = absurd (omega arith)
    family (suc n) lt le x = by (owned_by w tag_stored f n) refl (λ k. family n k (omega arith) x)
      where
        rest : (f < n → named (last_owned w tag_stored f n) ≡ at n) → (u : Bool) → eqb f n ≡ u → cell w n 0 ≡ tag_stored → cell w n 1 ≡ f → named (cell w n 8) ≡ at n
        rest go true z e o = rw (← eqb-true f n z, none_below (omega arith))
        rest go false z e o =
            let ne : f ≡ n → ⊥ = eqb-false f n z in
            let k : f < n = omega arith in
            let link : cell w n 8 ≡ last_owned w tag_stored f n = rw o at (fa.links n (omega arith) e (omega (arith, o))) in
            rw link (go k)

        first : (u : Bool) → eqb (cell w n 2) name ≡ u → named (cell w n 8) ≡ at n → choose u (some (value_rec w n)) (named (cell w n 8)) ≡ or_else (map_o (value_rec w) (choose u (some n) (newest w tag_stored f name n))) (named (cell w f 8))
        first true z go = refl
        first false z go = go

        by : (u : Bool) → owned_by w tag_stored f n ≡ u → (f < n → named (last_owned w tag_stored f n) ≡ at n) → named (choose u (suc n) (last_owned w tag_stored f n)) ≡ or_else (map_o (value_rec w) (choose (hit w tag_stored f name n) (some n) (newest w tag_stored f name n))) (named (cell w f 8))
        by true e go =
            let o = owned_is w tag_stored f n e in
            let z : suc n - 1 ≡ n = omega arith in
            rw (hit_owned w tag_stored f name n, e, (rw z at (one name (suc n) (omega arith) (record { low = omega arith; tag = λ l. rw z o.0 }))))
            (first (eqb (cell w n 2) name) refl (rest go (eqb f n) refl o.0 o.1))
        by false e go =
            let ne : f ≡ n → ⊥ = λ z. let y : false ≡ true = sym e ∙ owned_here w tag_stored f n (rw (← z) x.tag) (rw (← z) x.own) in let k : ◌≡◌ {A = ℕ} 0 1 = cc in omega arith in
            rw (hit_owned w tag_stored f name n, e) (go (omega arith))

  module _ {h name cur : ℕ} (s : Searching w t.charges h name cur) where
    pub search_none : cur ≤ 0 → ValueFound w h name None
    unfolding values_at value_named
    search_none l = record { same = s.same ∙ rw (walk_end w (stored_rec w) cur l); stored = λ r e. absurd (never r e); low = λ r e. absurd (never r e) }
      where
        never : (r : ℕ) → None ≡ Some r → ⊥
        never r e = let z : ◌≡◌ {A = ℕ} 0 1 = cc in omega arith

    module _ (lt : 0 < cur) where
      is : cell w (cur - 1) 0 ≡ tag_stored
      is = s.handle.tag lt

      found : (r : ℕ) → r < cur → cell w r 0 ≡ tag_stored → value_named name (values_at w cur) ≡ some (value_rec w r) → ValueFound w h name (Some r)
      found r l e q = record {
        same = s.same ∙ q;
        stored = λ n z. let y : r ≡ n = cc in rw (← y) e;
        low = λ n z. let y : r ≡ n = cc in omega (arith, s.low);
      }

      on : (next : ℕ) → next < cur → HandleAt w t.charges tag_stored next → value_named name (values_at w cur) ≡ value_named name (values_at w next) → Searching w t.charges h name next
      on next l x q = record { handle = x; low = omega (arith, s.low); same = s.same ∙ q }

      -- one by one
      module _ {r : ℕ} (er : cur ≡ r + 1) (x : ℕ) (ex : x ≡ cell w r 2) where
        place : cur - 1 ≡ r
        place = omega arith

        pub search_here : x ≡ name → ValueFound w h name (Some r)
        search_here e = rw place at (found (cur - 1) (omega arith) is (one name cur lt s.handle ∙ rw (place, ← ex, eq-eqb x name e)))

        pub search_next : (x ≡ name → ⊥) → {next : ℕ} → HandleBelow (clip r (cell w r 8)) r next → Searching w t.charges h name next
        search_next ne {next} n =
            let b : HandleAt w r tag_stored (cell w r 8) = rw place at (before (cur - 1) (omega (arith, s.handle.low)) is) in
            let z : next ≡ cell w r 8 = n.same ∙ clip_in r (cell w r 8) b.low in
            rw z (on (cell w r 8) (omega (arith, b.low)) (handle_more (omega (arith, s.handle.low)) b) (one name cur lt s.handle ∙ rw (place, ← ex, ne_eqb x name ne)))

      -- by families
      module _ (f : ℕ) (ef : f ≡ cell w (cur - 1) 1) where
        at_place : cur - 1 < t.charges
        at_place = omega (arith, s.handle.low)

        low : f < cur
        low = omega (arith, ef, st.sound.families.low (cur - 1) at_place is)

        start : First w f
        start = rw ef (st.sound.families.first (cur - 1) at_place is)

        split : value_named name (values_at w cur) ≡ at name f cur
        split =
            let up : (cur - 1) + 1 ≡ cur = omega arith in
            let z : last_owned w tag_stored f cur ≡ suc (cur - 1) = rw up at (last_here (owned_by w tag_stored f) (cur - 1) (owned_here w tag_stored f (cur - 1) is (sym ef))) in
            let y : suc (cur - 1) ≡ cur = omega arith in
            ap (λ (n : ℕ). value_named name (values_at w n)) (sym (z ∙ y)) ∙ family name f cur low s.handle.low start

        pub search_found : (x : Newest) → found_of x ≡ newest w tag_stored f name cur → is_some x ≡ true → ValueFound w h name x
        search_found (Some r) q e =
            let i = newest_is (hit w tag_stored f name) cur r (sym q) in
            found r i.0 (hit_is w tag_stored f name r i.1).tag (split ∙ rw (← q))
        search_found None q e = absurd (let z : true ≡ false = sym e in let y : ◌≡◌ {A = ℕ} 0 1 = cc in omega arith)

        module _ (g : ℕ) (eg : g ≡ f) (next : ℕ) (en : next ≡ cell w g 8) where
          b : HandleAt w f tag_stored (cell w f 8)
          b = before f (omega (arith, low, s.handle.low)) start.tag

          pub search_less : next < cur
          search_less = omega (arith, en, ap (λ (k : ℕ). cell w k 8) eg, b.low, low)

          pub search_past : (x : Newest) → found_of x ≡ newest w tag_stored f name cur → is_some x ≡ false → Searching w t.charges h name next
          search_past None q e = rw (en, eg) (on (cell w f 8) (omega (arith, b.low, low)) (handle_more (omega (arith, low, s.handle.low)) b) (split ∙ rw (← q)))
          search_past (Some r) q e = absurd (let z : true ≡ false = e in let y : ◌≡◌ {A = ℕ} 0 1 = cc in omega arith)

-- ---- how many ids: as many as the records of the list
list_length : (w : List ℕ) (n h : ℕ) → h ≤ n → Walkable w tag_id h → length (records_of w h) ≡ length (back (λ r. fixed_word w r 1) w h h)
list_length w n zero le x = rw (records_none w {h = 0} refl, walk_end w (λ r. fixed_word w r 1) 0 (omega arith))
list_length w zero (suc r) le x = absurd (omega arith)
list_length w (suc n) (suc r) le x =
    let some : 0 < suc r = omega arith in
    let v : ℕ = cell w (suc r - 1) 8 in
    let l : v < suc r = walk_less x some in
    let z : suc r ≡ (suc r - 1) + 1 = omega arith in
    let b : HandleBelow (clip (suc r - 1) v) (suc r - 1) v = record { same = sym (clip_in (suc r - 1) v (omega arith)); low = omega arith } in
    let i : length (records_of w v) ≡ length (back (λ k. fixed_word w k 1) w v v) = list_length w n v (omega arith) (walk_next x some) in
    rw (records_next w z b, walk_back x some (λ k. fixed_word w k 1) refl) (omega (arith, i))

pub count_law : (w : List ℕ) (h : ℕ) → Walkable w tag_id h → length (records_of w h) ≡ length (ids_at w h)
unfolding ids_at
count_law w h x = list_length w h h (omega arith) x ∙ omega (arith, rev_length (back (λ r. fixed_word w r 1) w h h) [])
