-- How the cache of picks grows.
use mathlib.Core.Path.{◌≡◌, refl, sym, subst, ◌∙◌}
use mathlib.Core.List.{List, ◌++◌}
use mathlib.Core.Option.{Option, none, some}
use Prim.Native.Nat.{ℕ, ◌+◌, ◌*◌, ◌/◌, ◌≤◌, ◌<◌}
use native.Mathlib.Omega.{arith}
use native.Mathlib.Decide.{ℕ_discrete, dec_lt}
use lib.ListN.{length, get_or, take, drop, set, length-set, get_or-append}
use lib.Seq.{length-take-le, get_or-set_same, get_or-set_other, get_or-take}
use Rattle.sheet_rows.specs.declared.row.Row.{Row}
use Rattle.sheet_rows.specs.Rows.{rows}
use Rattle.sheet_rows.specs.Parse.{document_of, files_of}
use Rattle.pick_memo.specs.declared.Memo.{Memo}
use Rattle.pick_definition.specs.Picks.{Prototype, Pick, pick_of}
use Rattle.source_lookup.specs.declared.instance.Target.{Target}
use Rattle.std.specs.Prelude.{Option as Maybe, Some, None}
use Rattle.words_lent.specs.Words.{Outside}
use Rattle.pick_memo.specs.Memo.{MemoSound}
use Rattle.source_directory.specs.Directory.{size, base_count, picks_place, cache_of, from_of, end_of, number_of, group_of, Slot, Directory, HeldAt}
use Rattle.source_lookup.specs.Instance.{Targeted, PickedAs, target_at, target_said, Packs}
use Rattle.source_lookup.specs.Sourced.{PickAt, SlotCached, Cached, Sourced}
use Rattle.source_setup.specs.Prepared.{PickKept, NoneCached, CachedBefore, SlotAdded, PicksCached}
use Rattle.pick_memo.proofs.MemoLaws.{kept_on}
use Rattle.words_lent.proofs.WordLaws.{stays, stays_front, stays_set, stays_on, stays_wide}
use Rattle.source_directory.proofs.DirectoryLaws.{slot_on, slot_back, directory_kept}
use Rattle.source_setup.proofs.ListingLaws.{names_set}
use Rattle.source_directory.proofs.GroupLaws.{held_on, held_dir}
use Rattle.source_lookup.proofs.SourcedLaws.{cache_wide, cache_on, sourced_on}

-- ---- a pick in two words

-- it is read as it was written
pub kept_words : (w : List ℕ) (at : ℕ) → at + 1 < length w → (x y : ℕ) {t : Maybe Target} {m : ℕ} → target_said x y ≡ t → x / 65 ≡ m → PickKept w (set (set w at x) (at + 1) y) at t m
kept_words w at h x y e f =
    let w₁ = set w at x in
    let a : get_or (set w₁ (at + 1) y) at 0 ≡ x = get_or-set_other w₁ (at + 1) at y 0 (λ z. omega arith) ∙ get_or-set_same w at x 0 (omega arith) in
    let b : get_or (set w₁ (at + 1) y) (at + 1) 0 ≡ y = get_or-set_same w₁ (at + 1) y 0 (omega (arith, length-set w at x)) in
    record {
      target = rw (a, b, e);
      mark = rw (a, f);
      stays = stays_on at (at + 2) (stays_set {a = at} {b = at + 1} w at x (omega arith) (omega arith)) (stays_set {a = at + 1} {b = at + 2} w₁ (at + 1) y (omega arith) (omega arith)) (omega arith) (omega arith) (omega arith) (omega arith);
    }

-- a pick can be said so
pub packs : {root library dir : List ℕ} {o : Option Pick} (x : Maybe Target) {m : ℕ} → Directory root library dir → m ≤ 1048576 → PickedAs dir o x m → Packs x m
packs {o = none} None d h p = p.mark
packs {o = some q} None d h p = let e = p.target.is in let z : ◌≡◌ {A = ℕ} 0 1 = cc in absurd (omega arith)
packs {o = none} (Some t) d h p = let e = p.target.is in let z : ◌≡◌ {A = ℕ} 0 1 = cc in absurd (omega arith)
packs {o = some q} (Some t) d h p = (omega (arith, p.mark), h, omega (arith, p.target.valid.upto, d.few))

-- ---- a pick rests on the directory's first words alone

targeted_on : {dir dir' : List ℕ} {p : Option Prototype} (x : Maybe Target) → ((k : ℕ) → k < 195 → get_or dir' k 0 ≡ get_or dir k 0) → base_count dir ≤ 64 → Targeted dir p x → Targeted dir' p x
targeted_on None same few t = record { is = t.is; valid = tt }
targeted_on (Some x) same few t = record { is = rw (same x.slot (omega (arith, t.valid.upto))) t.is; valid = slot_on same few t.valid }

pick_on : (root library w : List ℕ) {dir dir' : List ℕ} (u i p : ℕ) → u ≤ 64 → ((k : ℕ) → k < 195 → get_or dir' k 0 ≡ get_or dir k 0) → base_count dir ≤ 64 → PickAt root library dir w u i p → PickAt root library dir' w u i p
pick_on root library w u i p h same few t =
    rw (same u (omega arith)) (record { target = targeted_on (target_at w p) same few t.target; mark = t.mark })

-- ---- the words before the region are the memo's

memo_on : {R : List Row} {m : Memo} {ys : List ℕ} (w w' : List ℕ) {lo : ℕ} → MemoSound R ys m → length ys ≡ lo → lo ≤ length w' → ((k : ℕ) → k < lo → get_or w' k 0 ≡ get_or (ys ++ drop lo w) k 0) → MemoSound R (take lo w') m
memo_on {ys = ys} w w' {lo} k e h same =
    let l = length-take-le lo w' h in
    kept_on k (omega (arith, k.within)) (λ j i. let b : j < lo = omega (arith, k.within) in get_or-take lo w' j 0 b ∙ same j b ∙ get_or-append ys (drop lo w) 0 j (omega arith))

-- they are lent before the first pick
pub before_first : {root library dir w : List ℕ} {m : Memo} {at lo : ℕ} (ys : List ℕ) → NoneCached root library dir w → MemoSound (rows library) ys m → length ys ≡ lo → lo ≡ from_of dir → at ≡ cache_of dir → CachedBefore root library dir (ys ++ drop lo w) m 0 at
before_first {root} {library} {dir} {w} {m} {at} {lo} ys n k e f g =
    let s = n.sourced in
    let h : lo ≤ length w = omega (arith, s.cache.from, s.cache.upto, s.within) in
    let p = stays_front w ys lo h e in
    let i : at ≤ end_of dir = omega (arith, s.cache.upto) in
    let c : Cached root library dir w at = record { from = s.cache.from; upto = omega arith; slots = λ u x z. absurd (omega (arith, n.none (u + 1) (omega arith) (omega (arith, x.upto, s.directory.few)))) } in
    let same : (j : ℕ) → from_of dir ≤ j → j < at → get_or (ys ++ drop lo w) j 0 ≡ get_or w j 0 = λ j a b. p.above j (omega arith) in
    record {
      sourced = sourced_on s c i same (omega (arith, p.long, s.within));
      cache = cache_on s c i same;
      upto = i;
      here = sym g;
      none = n.none;
      memo = subst (λ (j : ℕ). MemoSound (rows library) (take j (ys ++ drop lo w)) m) f (memo_on w (ys ++ drop lo w) k e (omega (arith, p.long)) (λ j x. refl));
    }

-- ---- the picks of a slot

module _ {root library dir w₀ : List ℕ} {m₀ : Memo} {s at : ℕ} (b : CachedBefore root library dir w₀ m₀ s at) where
  pub add_start : SlotAdded root library dir w₀ w₀ m₀ s at at
  add_start = record { after = omega arith; upto = b.upto; picks = λ x i h. absurd (omega arith); before = λ k h i. refl; stays = stays w₀; memo = b.memo }

  module _ {w : List ℕ} {m : Memo} {next : ℕ} (a : SlotAdded root library dir w₀ w m s at next) where
    pub sourced_now : Sourced root library dir w
    sourced_now = sourced_on b.sourced b.cache b.upto a.before (omega (arith, b.sourced.within, a.stays.long))

    from_upto : from_of dir ≤ at
    from_upto = omega (arith, b.cache.from, b.cache.upto)

    pub lent_within : {lo : ℕ} → lo ≡ from_of dir → lo ≤ length w
    lent_within e = omega (arith, from_upto, b.upto, b.sourced.within, a.stays.long)

    pub add_more : {x : Maybe Target} {mark lo hi : ℕ} {m' : Memo} (i : ℕ) (ys w₂ : List ℕ) → next ≡ at + 2 * i → next + 2 ≤ hi → hi ≡ end_of dir → lo ≡ from_of dir → length ys ≡ lo → MemoSound (rows library) ys m' → PickedAs dir (pick_of (document_of (rows root)) (files_of (rows library)) (number_of dir s) i) x mark → PickKept (ys ++ drop lo w) w₂ next x mark → SlotAdded root library dir w₀ w₂ m' s at (next + 2)
    add_more {x} {mark} {lo} i ys w₂ is_next h g f e n t k =
        let p = stays_front w ys lo (lent_within f) e in
        record {
          after = omega (arith, a.after);
          upto = omega arith;
          picks = λ u j z. pick u j z (ℕ_discrete j i);
          before = λ j c d. same j c (omega (arith, a.after)) ∙ a.before j c d;
          stays = stays_on 0 (end_of dir) a.stays (stays_on 0 (end_of dir) p k.stays (omega arith) (omega arith) (omega (arith, from_upto, b.upto)) (omega arith)) (omega arith) (omega arith) (omega arith) (omega arith);
          memo = rw f at (memo_on w w₂ n e (omega (arith, p.long, k.stays.long, lent_within f)) (λ j c. k.stays.below j (omega (arith, from_upto, a.after))));
        }
      where
        same : (j : ℕ) → from_of dir ≤ j → j < next → get_or w₂ j 0 ≡ get_or w j 0
        same j c d = k.stays.below j d ∙ (stays_front w ys lo (lent_within f) e).above j (omega arith)

        pick : Slot dir s → (j : ℕ) → at + 2 * j + 2 ≤ next + 2 → Dec (j ≡ i) → PickAt root library dir w₂ s j (at + 2 * j)
        pick u j z (yes q) =
            let y : PickAt root library dir w₂ s i next = rw (k.target, k.mark) t in
            rw (q, ← is_next) y
        pick u j z (no q) =
            let c : at + 2 * j + 2 ≤ next = omega arith in
            rw (same (at + 2 * j) (omega (arith, from_upto)) (omega arith), same (at + 2 * j + 1) (omega (arith, from_upto)) (omega arith)) (a.picks u j c)

    -- the slot has its picks: the directory says where they end
    module _ (few : s ≤ base_count dir) where
      abbrev dir' : List ℕ
      dir' = set dir (590 + (s + 1)) next

      low : s ≤ 64
      low = omega (arith, b.sourced.directory.few)

      one : Outside (590 + (s + 1)) (590 + (s + 2)) dir dir'
      one = stays_set dir (590 + (s + 1)) next (omega arith) (omega arith)

      outside : Outside 195 (length dir) dir dir'
      outside = stays_wide 195 (length dir) one (omega arith) (omega (arith, low, b.sourced.directory.long))

      next_is : picks_place dir' (s + 1) ≡ next
      next_is = get_or-set_same dir (590 + (s + 1)) next 0 (omega (arith, low, b.sourced.directory.long))

      from_is : from_of dir' ≡ from_of dir
      from_is = one.below 198 (omega arith)

      end_is : end_of dir' ≡ end_of dir
      end_is = one.below 199 (omega arith)

      cache_is : cache_of dir' ≡ cache_of dir
      cache_is = one.below 590 (omega arith)

      now_cached : Cached root library dir w at
      now_cached = cache_on b.sourced b.cache b.upto a.before

      none' : (k : ℕ) → s + 1 < k → k < 66 → picks_place dir' k ≡ 0
      none' k h i = one.above (590 + k) (omega arith) ∙ b.none k (omega arith) i

      cached' : (u : ℕ) → Slot dir' u → picks_place dir' u < picks_place dir' (u + 1) → Dec (u < s) → Dec (u ≡ s) → SlotCached root library dir' w (cache_of dir') next u
      cached' u x z (yes h) _ =
          let y = slot_back b.sourced.directory outside x in
          let p : picks_place dir' u ≡ picks_place dir u = one.below (590 + u) (omega arith) in
          let q : picks_place dir' (u + 1) ≡ picks_place dir (u + 1) = one.below (590 + (u + 1)) (omega arith) in
          let c = now_cached.slots u y (omega arith) in
          record {
            from = omega (arith, c.from, cache_is);
            upto = omega (arith, c.upto, a.after);
            is = λ i g. let f : picks_place dir u + 2 * i + 2 ≤ picks_place dir (u + 1) = omega arith in rw p (pick_on root library w u i (picks_place dir u + 2 * i) (omega (arith, low)) outside.below b.sourced.directory.few (c.is i f));
          }
      cached' u x z (no h) (yes e) =
          let y : Slot dir s = rw e at (slot_back b.sourced.directory outside x) in
          let p : picks_place dir' s ≡ at = one.below (590 + s) (omega arith) ∙ b.here in
          rw e (record {
            from = omega (arith, p, cache_is, b.cache.upto);
            upto = omega (arith, next_is);
            is = λ i g. let f : at + 2 * i + 2 ≤ next = omega (arith, p, next_is) in rw p (pick_on root library w s i (at + 2 * i) low outside.below b.sourced.directory.few (a.picks y i f));
          })
      cached' u x z (no h) (no e) =
          let y = slot_back b.sourced.directory outside x in
          absurd (omega (arith, none' (u + 1) (omega arith) (omega (arith, y.upto, b.sourced.directory.few))))

      cache' : Cached root library dir' w next
      cache' = record {
        from = omega (arith, from_is, cache_is, b.cache.from);
        upto = omega (arith, cache_is, b.cache.upto, a.after);
        slots = λ u x z. cached' u x z (dec_lt u s) (ℕ_discrete u s);
      }

      held' : (u g : ℕ) → g < 3 → Slot dir' u → HeldAt root library dir' w (from_of dir') (cache_of dir') u g
      held' u g h x =
          let y = slot_back b.sourced.directory outside x in
          let v : u < 65 = omega (arith, b.sourced.directory.few, y.upto) in
          held_dir root library dir dir' u g
          (one.below u (omega arith)) (one.below (65 + u) (omega arith)) (one.below 195 (omega arith))
          (one.below (group_of u g) (omega arith)) (one.below (group_of u g + 1) (omega arith))
          (held_on (sourced_now.held u g h y) (omega (arith, from_is)) (omega (arith, cache_is)) (λ k i j. refl))

      pub before_next : CachedBefore root library dir' w m (s + 1) next
      before_next = record {
        sourced = record {
          directory = directory_kept b.sourced.directory outside;
          within = omega (arith, end_is, sourced_now.within);
          held = held';
          names = names_set sourced_now.names from_is cache_is (one.below 196 (omega arith)) (one.below 197 (omega arith)) (λ k i j. refl);
          cache = cache_wide (omega (arith, end_is, a.upto)) cache';
        };
        cache = cache';
        upto = omega (arith, end_is, a.upto);
        here = next_is;
        none = none';
        memo = rw from_is a.memo;
      }

-- ---- one slot after another

pub record Remembering (root library dir₀ dir w₀ w : List ℕ) (m : Memo) (s at : ℕ) : Type 0 where
  pub before : CachedBefore root library dir w m s at
  pub dir_stays : Outside 591 size dir₀ dir
  pub work_stays : Outside 0 (end_of dir₀) w₀ w

module _ {root library dir₀ dir w₀ w : List ℕ} {m : Memo} {s at : ℕ} (r : Remembering root library dir₀ dir w₀ w m s at) where
  pub slot_upto : s ≤ base_count dir₀ → s ≤ base_count dir
  slot_upto h = rw (r.dir_stays.below 194 (omega arith)) h

  same_end : end_of dir ≡ end_of dir₀
  same_end = r.dir_stays.below 199 (omega arith)

  module _ {w' : List ℕ} {m' : Memo} {next : ℕ} (a : SlotAdded root library dir w w' m' s at next) where
    pub added_upto : next ≤ end_of dir₀
    added_upto = omega (arith, a.upto, same_end)

    pub remember_more : s ≤ base_count dir₀ → Remembering root library dir₀ (set dir (590 + (s + 1)) next) w₀ w' m' (s + 1) next
    remember_more h =
        let few = slot_upto h in
        let o : Outside (590 + (s + 1)) (590 + (s + 2)) dir (set dir (590 + (s + 1)) next) = stays_set dir (590 + (s + 1)) next (omega arith) (omega arith) in
        record {
          before = before_next r.before a few;
          dir_stays = stays_on 591 size r.dir_stays o (omega arith) (omega arith) (omega arith) (omega (arith, r.before.sourced.directory.few));
          work_stays = stays_on 0 (end_of dir₀) r.work_stays a.stays (omega arith) (omega arith) (omega arith) (omega (arith, same_end));
        }

  pub remembered : {w₋ : List ℕ} {lo : ℕ} → Outside 0 lo w₋ w₀ → lo ≡ from_of dir₀ → PicksCached root library dir₀ dir w₋ w
  remembered p e =
      let h = r.dir_stays.below 198 (omega arith) in
      record {
        sourced = r.before.sourced;
        dir_stays = r.dir_stays;
        work_stays = stays_on 0 (end_of dir₀) p r.work_stays (omega arith) (omega arith) (omega (arith, same_end, r.before.sourced.cache.from, r.before.sourced.cache.upto)) (omega arith);
      }
