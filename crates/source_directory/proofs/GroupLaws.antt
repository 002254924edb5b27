-- The indexes of the groups: one is written, those before it stay, and a lookup goes by one.
use mathlib.Core.Path.{◌≡◌, refl, ◌∙◌}
use mathlib.Core.List.{List, map}
use Prim.Native.Nat.{ℕ, ◌+◌, ◌-◌, ◌*◌, ◌≤◌, ◌<◌}
use native.Mathlib.Omega.{arith}
use native.Mathlib.Decide.{ℕ_discrete}
use lib.ListN.{length, get_or, take, drop, set, get_elem?, length-set, length-drop}
use lib.Seq.{length-take-le, get_or-set_same, get_or-set_other, get_or-take, get_or-drop}
use Rattle.ast.specs.Ast.{Document}
use Rattle.ast.specs.Choice.{and_then}
use Rattle.ast.specs.Lookups.{node_at, proto_at, extern_proto_at}
use Rattle.sheet_rows.specs.declared.row.Row.{Row}
use Rattle.sheet_rows.specs.declared.part.Part.{Part}
use Rattle.sheet_rows.specs.declared.part.Part.TheVariants.{Nodes, Protos, Externs}
use Rattle.sheet_rows.specs.Rows.{rows, rest}
use Rattle.sheet_rows.specs.Parse.{elements, node_of, proto_of, extern_proto_of, document_of}
use Rattle.sheet_walks.specs.declared.walk.Found.{Found}
use Rattle.sheet_walks.specs.Walk.{Nth}
use Rattle.sheet_index.specs.Index.{Filled, Indexed}
use Rattle.sheet_lookup.specs.Lookup.{sheet_of, root_and_files, document_at, Looked, Located}
use Rattle.sheet_lookup.proofs.DocLaws.{looked}
use Rattle.sheet_walks.proofs.WalkLaws.{child_of}
use Rattle.words_lent.specs.Words.{Outside}
use Rattle.source_directory.specs.declared.indexes.Group.{Group}
use Rattle.source_directory.specs.Directory.{size, number_of, row_of, base_count, stride_of, group_number, group_part, group_of, index_place, filled_of, Slot, DocumentBegins, Directory, PartHeld, HeldAt}
use Rattle.source_directory.specs.Grouped.{Grouped, Indexing, AllGrouped}
use Rattle.words_lent.proofs.WordLaws.{stays, stays_set, stays_on, stays_wide, pasted, pasted_at, pasted_stays}
use Rattle.source_directory.proofs.DirectoryLaws.{slot_back, directory_kept}

pub group_low : (g : Group) → group_number g < 3
group_low Group.Nodes = omega arith
group_low Group.Protos = omega arith
group_low Group.Externs = omega arith

-- ---- an index, in the part of the words that a function is lent

module _ {t : Part} {R : List Row} {p stride : ℕ} where
  pub held_filled : {w : List ℕ} {lo hi place n : ℕ} → PartHeld t R p stride w lo hi place n → hi ≤ length w → Filled t R p stride (take (length w - place) (drop place w)) n
  held_filled {w} {lo} {hi} {place} h i = record {
    room = omega (arith, h.upto, length-take-le (length w - place) (drop place w) (omega (arith, length-drop place w)));
    slot = λ j e. rw (get_or-take (length w - place) (drop place w) j 0 (omega (arith, h.upto)), get_or-drop place w j 0) (h.slot j e);
  }

  pub filled_held : (w ys : List ℕ) (place m n : ℕ) (h : place + m ≤ length w) (e : length ys ≡ m) → Filled t R p stride ys n → PartHeld t R p stride (pasted w ys place m h e) place (place + n) place n
  filled_held w ys place m n h e f = record {
    from = omega arith;
    upto = omega arith;
    slot = λ j i. rw (pasted_at w ys place m h e j (omega (arith, f.room))) (f.slot j i);
  }

  -- an index stays where its words do
  pub held_on : {w w' : List ℕ} {lo hi lo' hi' place n : ℕ} → PartHeld t R p stride w lo hi place n → lo' ≤ lo → hi ≤ hi' → ((k : ℕ) → lo ≤ k → k < hi → get_or w' k 0 ≡ get_or w k 0) → PartHeld t R p stride w' lo' hi' place n
  held_on {place = place} h a b same = record {
    from = omega (arith, h.from);
    upto = omega (arith, h.upto);
    slot = λ j i. rw (same (place + j) (omega (arith, h.from)) (omega (arith, h.upto))) (h.slot j i);
  }

-- ... and where the directory's words on it do
pub held_dir : (root library dir dir' : List ℕ) {w : List ℕ} {lo hi : ℕ} (s g : ℕ) → number_of dir' s ≡ number_of dir s → row_of dir' s ≡ row_of dir s → stride_of dir' ≡ stride_of dir → index_place dir' s g ≡ index_place dir s g → filled_of dir' s g ≡ filled_of dir s g → HeldAt root library dir w lo hi s g → HeldAt root library dir' w lo hi s g
held_dir root library dir dir' s g a b c d e h = rw (a, b, c, d, e) h

-- ---- one index is written

module _ {root library dir : List ℕ} (w : List ℕ) (s g place end : ℕ) (d : Directory root library dir) (few : s < 65) (three : g < 3) (fits : place ≤ end) where
  pub grouped_none : 0 < s → number_of dir s ≡ 0 → Grouped root library dir dir w w s g place end place
  grouped_none h e = record {
    after = omega arith;
    upto = omega arith;
    held = λ i. absurd (omega (arith, i.real h));
    dir_stays = stays dir;
    work_stays = stays w;
  }

  module _ (ys : List ℕ) (n : ℕ) (within : place + (end - place) ≤ length w) (long : length ys ≡ end - place) where
    abbrev dir₁ : List ℕ
    dir₁ = set dir (group_of s g) place

    abbrev dir₂ : List ℕ
    dir₂ = set dir₁ (group_of s g + 1) n

    dirs : Outside (group_of s g) (group_of s g + 2) dir dir₂
    dirs = stays_on (group_of s g) (group_of s g + 2) (stays_set {a = group_of s g} {b = group_of s g + 1} dir (group_of s g) place (omega arith) (omega arith)) (stays_set {a = group_of s g + 1} {b = group_of s g + 2} dir₁ (group_of s g + 1) n (omega arith) (omega arith)) (omega arith) (omega arith) (omega arith) (omega arith)

    place_is : index_place dir₂ s g ≡ place
    place_is = get_or-set_other dir₁ (group_of s g + 1) (group_of s g) n 0 (λ z. omega arith) ∙ get_or-set_same dir (group_of s g) place 0 (omega (arith, d.long))

    filled_is : filled_of dir₂ s g ≡ n
    filled_is = get_or-set_same dir₁ (group_of s g + 1) n 0 (omega (arith, d.long, length-set dir (group_of s g) place))

    pub grouped : Indexed (group_part g) (rows (sheet_of root library (number_of dir s))) (row_of dir s + 1) (stride_of dir) (take (end - place) (drop place w)) ys n → Grouped root library dir dir₂ w (pasted w ys place (end - place) within long) s g place end (place + n)
    grouped x = record {
      after = omega arith;
      upto = omega (arith, x.filled.room);
      held = λ i. rw (dirs.below s (omega arith), dirs.below (65 + s) (omega arith), dirs.below 195 (omega arith), place_is, filled_is) (filled_held w ys place (end - place) n within long x.filled);
      dir_stays = dirs;
      work_stays = pasted_stays w ys place (end - place) within long n x.kept;
    }

-- ---- one index after another

module _ {root library dir dir' w w' : List ℕ} {lo place end next k s g : ℕ} where
  pub indexing_more : Indexing root library dir w lo place k → Grouped root library dir dir' w w' s g place end next → s < 65 → g < 3 → 3 * s + g ≡ k → Indexing root library dir' w' lo next (k + 1)
  indexing_more x y few three here = record {
    directory = directory_kept x.directory outside;
    after = omega (arith, x.after, y.after);
    held = λ u v h i z. go u v h i z (ℕ_discrete (3 * u + v) k);
  }
    where
      outside : Outside 195 (length dir) dir dir'
      outside = stays_wide 195 (length dir) y.dir_stays (omega arith) (omega (arith, x.directory.long))

      go : (u v : ℕ) → v < 3 → 3 * u + v < k + 1 → Slot dir' u → Dec (3 * u + v ≡ k) → HeldAt root library dir' w' lo next u v
      go u v h i z (yes e) =
          let a : u ≡ s = omega arith in
          let b : v ≡ g = omega arith in
          rw (a, b) (held_on (y.held (rw a at z)) x.after (omega arith) (λ j p q. refl))
      go u v h i z (no e) =
          let c = x.directory.few in
          let f : u < 65 = omega (arith, c, (slot_back x.directory outside z).upto) in
          held_dir root library dir dir' u v
          (y.dir_stays.below u (omega arith))
          (y.dir_stays.below (65 + u) (omega arith))
          (y.dir_stays.below 195 (omega arith))
          (y.dir_stays.below (group_of u v) (omega arith))
          (y.dir_stays.below (group_of u v + 1) (omega arith))
          (held_on (x.held u v h (omega arith) (slot_back x.directory outside z)) (omega arith) y.after (λ j p q. y.work_stays.below j q))

-- the indexes of the first k groups have been written, and nothing else
pub record SoFar (root library dir₀ dir w₀ w : List ℕ) (lo place end k : ℕ) : Type 0 where
  pub upto : place ≤ end
  pub dir_stays : Outside 200 size dir₀ dir
  pub work_stays : Outside lo end w₀ w
  pub indexing : Indexing root library dir w lo place k

pub so_far_start : {root library dir : List ℕ} (w : List ℕ) (lo end : ℕ) → Directory root library dir → lo ≤ end → SoFar root library dir dir w w lo lo end 0
so_far_start {dir = dir} w lo end d h = record { upto = h; dir_stays = stays dir; work_stays = stays w; indexing = record { directory = d; after = omega arith; held = λ s g h i z. absurd (omega arith) } }

module _ {root library dir₀ w₀ : List ℕ} {lo end s : ℕ} (few : s < 65) where
  one_group : {dir dir' w w' : List ℕ} {place next k : ℕ} (g : ℕ) → SoFar root library dir₀ dir w₀ w lo place end k → Grouped root library dir dir' w w' s g place end next → g < 3 → 3 * s + g ≡ k → SoFar root library dir₀ dir' w₀ w' lo next end (k + 1)
  one_group g x y h e = record {
    upto = y.upto;
    dir_stays = stays_on 200 size x.dir_stays y.dir_stays (omega arith) (omega arith) (omega arith) (omega arith);
    work_stays = stays_on lo end x.work_stays y.work_stays (omega arith) (omega (arith, x.indexing.after)) (omega arith) y.upto;
    indexing = indexing_more x.indexing y few h e;
  }

  -- one, two or three of a slot
  pub after_nodes : {dir dir₁ w w₁ : List ℕ} {place protos : ℕ} → SoFar root library dir₀ dir w₀ w lo place end (3 * s) → Grouped root library dir dir₁ w w₁ s 0 place end protos → SoFar root library dir₀ dir₁ w₀ w₁ lo protos end (3 * s + 1)
  after_nodes x a = one_group 0 x a (omega arith) (omega arith)

  pub after_protos : {dir dir₁ dir₂ w w₁ w₂ : List ℕ} {place protos externs : ℕ} → SoFar root library dir₀ dir w₀ w lo place end (3 * s) → Grouped root library dir dir₁ w w₁ s 0 place end protos → Grouped root library dir₁ dir₂ w₁ w₂ s 1 protos end externs → SoFar root library dir₀ dir₂ w₀ w₂ lo externs end (3 * s + 1 + 1)
  after_protos x a b = one_group 1 (after_nodes x a) b (omega arith) (omega arith)

  pub slot_grouped : {dir dir₁ dir₂ dir₃ w w₁ w₂ w₃ : List ℕ} {place protos externs next : ℕ}
      → SoFar root library dir₀ dir w₀ w lo place end (3 * s)
      → Grouped root library dir dir₁ w w₁ s 0 place end protos
      → Grouped root library dir₁ dir₂ w₁ w₂ s 1 protos end externs
      → Grouped root library dir₂ dir₃ w₂ w₃ s 2 externs end next
      → SoFar root library dir₀ dir₃ w₀ w₃ lo next end (3 * (s + 1))
  slot_grouped x a b c =
      let z : 3 * s + 1 + 1 + 1 ≡ 3 * (s + 1) = omega arith in
      rw z at (one_group 2 (after_protos x a b) c (omega arith) (omega arith))

pub all_grouped : {root library dir₀ dir w₀ w : List ℕ} {lo end next k : ℕ} → SoFar root library dir₀ dir w₀ w lo next end k → k ≡ 3 * (base_count dir₀ + 1) → AllGrouped root library dir₀ dir w₀ w lo end next
all_grouped {dir₀ = dir₀} {dir = dir} {k = k} x e =
    let z : k ≡ 3 * (base_count dir + 1) = omega (arith, x.dir_stays.below 194 (omega arith)) in
    record { indexing = rw z at x.indexing; upto = x.upto; dir_stays = x.dir_stays; work_stays = x.work_stays }

-- ---- what stands in a group of a slot's document is what a document of that number has

module _ (root library : List ℕ) (d row : ℕ) (b : DocumentBegins root library d row) where
  module _ {A : Type 0} (f : List Row → A) (g : Document → List A) (t : Part) (is : (l : List Row) → g (document_of l) ≡ map f (elements t (rest l))) where
    located_at : {id : ℕ} {x : Found} → Nth t (rows (sheet_of root library d)) (row + 1) id x → Located f (and_then (get_elem? (root_and_files root library) d) (λ y. get_elem? (g y) id)) (rows (sheet_of root library d)) x
    located_at {id} {x} n =
        let R = rows (sheet_of root library d) in
        let s = looked f t R row id (is (drop row R)) (child_of t R row id x n) in
        record { is = rw b s.is; below = s.below }

  pub node_at_lem : {id : ℕ} {x : Found} → Nth Nodes (rows (sheet_of root library d)) (row + 1) id x → Located node_of (node_at (root_and_files root library) d id) (rows (sheet_of root library d)) x
  unfolding node_at document_of
  node_at_lem = located_at node_of (λ y. y.nodes) Nodes (λ l. refl)

  pub proto_at_lem : {id : ℕ} {x : Found} → Nth Protos (rows (sheet_of root library d)) (row + 1) id x → Located proto_of (proto_at (root_and_files root library) d id) (rows (sheet_of root library d)) x
  unfolding proto_at document_of
  proto_at_lem = located_at proto_of (λ y. y.protos) Protos (λ l. refl)

  pub extern_at : {id : ℕ} {x : Found} → Nth Externs (rows (sheet_of root library d)) (row + 1) id x → Located extern_proto_of (extern_proto_at (root_and_files root library) d id) (rows (sheet_of root library d)) x
  unfolding extern_proto_at document_of
  extern_at = located_at extern_proto_of (λ y. y.extern_protos) Externs (λ l. refl)

  -- an extern of the document that begins at the row
  pub extern_looked : {id : ℕ} {x : Found} → Located extern_proto_of (extern_proto_at (root_and_files root library) d id) (rows (sheet_of root library d)) x → Looked extern_proto_of (document_at (rows (sheet_of root library d)) row).extern_protos (rows (sheet_of root library d)) id x
  unfolding extern_proto_at
  extern_looked l = record { is = rw b at l.is; below = l.below }
