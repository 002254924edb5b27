-- The steps of preparing: the directory of the documents, the indexes, the tables of names, an empty cache, the picks.
use mathlib.Core.Path.{◌≡◌, ◌∙◌}
use mathlib.Core.List.{List, ◌++◌}
use Prim.Native.Nat.{ℕ, ◌+◌, ◌*◌, ◌≤◌, ◌<◌}
use native.Mathlib.Omega.{arith}
use lib.ListN.{length, get_or, drop, set}
use lib.Seq.{get_or-set_same, get_or-set_other}
use Rattle.sheet_rows.specs.Rows.{rows}
use Rattle.pick_table.specs.declared.table.Table.{Table}
use Rattle.pick_table.specs.Chosen.{Final}
use Rattle.words_lent.specs.Words.{Outside, Cleared}
use Rattle.source_directory.specs.Directory.{size, picks_place, cache_of, from_of, end_of, group_of, Slot, TableStored, HeldAt}
use Rattle.source_setup.specs.Listing.{Listing}
use Rattle.source_lookup.specs.Sourced.{Sourced}
use Rattle.source_setup.specs.Prepared.{DirectoryWritten, NoneCached, PicksCached, Prepared}
use Rattle.source_directory.specs.Grouped.{AllGrouped}
use Rattle.words_lent.proofs.WordLaws.{stays_set, stays_on, stays_front, three_second, three_third}
use Rattle.source_directory.proofs.DirectoryLaws.{slot_back, directory_kept, stored_directory}
use Rattle.source_directory.proofs.GroupLaws.{held_on, held_dir}

pub opened : (root library dir w : List ℕ) (t : Table) (stride at len : ℕ) (ys : List ℕ) → Final (rows root) (rows library) t → TableStored (rows library) t dir 64 → length library ≤ 8 * 1048576 → length root ≤ 8 * 1048576 → size ≤ length dir → at ≤ length w → length ys ≡ at → DirectoryWritten root library w (ys ++ drop at w) at len (set (set (set dir 195 stride) 198 at) 199 (at + len))
opened root library dir w t stride at len ys f s small root_small long h e =
    let end = at + len in
    let d₁ = set dir 195 stride in
    let d₂ = set d₁ 198 at in
    let p : Outside 195 196 dir d₁ = stays_set dir 195 stride (omega arith) (omega arith) in
    let q : Outside 198 199 d₁ d₂ = stays_set d₁ 198 at (omega arith) (omega arith) in
    let r : Outside 199 200 d₂ (set d₂ 199 end) = stays_set d₂ 199 end (omega arith) (omega arith) in
    let o = stays_on 195 (length dir) p (stays_on 195 200 q r (omega arith) (omega arith) (omega arith) (omega arith)) (omega arith) (omega arith) (omega arith) (omega arith) in
    record {
      directory = directory_kept (stored_directory root library dir t f s small root_small long) o;
      region = record { from = three_second dir 195 stride 198 at 199 end (omega arith) (omega arith) (omega arith); end = three_third dir 195 stride 198 at 199 end (omega arith) (omega arith) (omega arith) };
      stays = stays_front w ys at h e;
    }

-- ---- the indexes and the tables of names are written, and the cache is empty

module _ {root library dir₀ dir dirₙ dir₁ w₀ w₁ w w₂ : List ℕ} {at len indexed next : ℕ} (b : DirectoryWritten root library w₀ w₁ at len dir₀) (a : AllGrouped root library dir₀ dir w₁ w at (at + len) indexed) (n : Listing root library dir dirₙ w w₂ at indexed (at + len) next) (z : Cleared 590 size size dirₙ dir₁) where
  abbrev dir₂ : List ℕ
  dir₂ = set dir₁ 590 next

  long : size ≤ length dir
  long = a.indexing.directory.long

  longₙ : size ≤ length dirₙ
  longₙ = omega (arith, long, n.dir_stays.long)

  picks : Outside 590 size dirₙ dir₂
  picks = stays_on 590 size z.stays (stays_set {a = 590} {b = 591} dir₁ 590 next (omega arith) (omega arith)) (omega arith) (omega arith) (omega arith) (omega arith)

  outside : Outside 195 (length dir) dir dir₂
  outside = stays_on 195 (length dir) n.dir_stays picks (omega arith) (omega arith) (omega (arith, long)) (omega (arith, long))

  -- a word of the directory that neither writes
  same_low : (k : ℕ) → k < 196 → get_or dir₂ k 0 ≡ get_or dir k 0
  same_low k h = picks.below k (omega arith) ∙ n.dir_stays.below k h

  same_high : (k : ℕ) → 198 ≤ k → k < 590 → get_or dir₂ k 0 ≡ get_or dir k 0
  same_high k h i = picks.below k i ∙ n.dir_stays.above k h

  cache_is : cache_of dir₂ ≡ next
  cache_is = get_or-set_same dir₁ 590 next 0 (omega (arith, longₙ, z.stays.long))

  none_is : (k : ℕ) → 0 < k → k < 66 → picks_place dir₂ k ≡ 0
  none_is k h i = get_or-set_other dir₁ 590 (590 + k) next 0 (λ e. omega arith) ∙ z.zero (590 + k) (omega arith) (omega arith)

  from_is : from_of dir₂ ≡ at
  from_is = same_high 198 (omega arith) (omega arith) ∙ a.dir_stays.below 198 (omega arith) ∙ b.region.from

  end_is : end_of dir₂ ≡ at + len
  end_is = same_high 199 (omega arith) (omega arith) ∙ a.dir_stays.below 199 (omega arith) ∙ b.region.end

  held' : (u g : ℕ) → g < 3 → Slot dir₂ u → HeldAt root library dir₂ w₂ (from_of dir₂) (cache_of dir₂) u g
  held' u g h x =
      let y = slot_back a.indexing.directory outside x in
      let few : u < 65 = omega (arith, a.indexing.directory.few, y.upto) in
      held_dir root library dir dir₂ u g
      (same_low u (omega arith)) (same_low (65 + u) (omega arith)) (same_low 195 (omega arith))
      (same_high (group_of u g) (omega arith) (omega arith)) (same_high (group_of u g + 1) (omega arith) (omega arith))
      (held_on (a.indexing.held u g h (omega (arith, y.upto)) y) (omega (arith, from_is)) (omega (arith, cache_is, n.grown.after)) (λ k i j. n.grown.between k i j))

  sourced : at + len ≤ length w₀ → Sourced root library dir₂ w₂
  sourced h = record {
    directory = directory_kept a.indexing.directory outside;
    within = omega (arith, end_is, n.grown.stays.long, a.work_stays.long, b.stays.long);
    held = held';
    names = record {
      from = omega (arith, from_is, picks.below 196 (omega arith), n.at_is, a.indexing.after);
      listed = rw (cache_is, picks.below 196 (omega arith), n.at_is, picks.below 197 (omega arith)) n.grown.listed;
    };
    cache = record {
      from = omega (arith, from_is, cache_is, a.indexing.after, n.grown.after);
      upto = omega (arith, end_is, cache_is, n.grown.upto);
      slots = λ s x g. absurd (omega (arith, none_is (s + 1) (omega arith) (omega (arith, (slot_back a.indexing.directory outside x).upto, a.indexing.directory.few))));
    };
  }

  pub started : at + len ≤ length w₀ → NoneCached root library dir₂ w₂
  started h = record { sourced = sourced h; none = none_is }

  -- the picks are added: all is prepared
  pub prepared : {dir' w' : List ℕ} → PicksCached root library dir₂ dir' w₂ w' → Prepared root library w₀ w' at len dir'
  prepared r = record {
    sourced = r.sourced;
    region = record { from = r.dir_stays.below 198 (omega arith) ∙ from_is; end = r.dir_stays.below 199 (omega arith) ∙ end_is };
    stays = stays_on 0 (at + len) (stays_on 0 (at + len) (stays_on 0 (at + len) b.stays a.work_stays (omega arith) (omega arith) (omega arith) (omega arith)) n.grown.stays (omega arith) (omega arith) (omega arith) (omega arith)) r.work_stays (omega arith) (omega arith) (omega arith) (omega (arith, end_is));
  }
