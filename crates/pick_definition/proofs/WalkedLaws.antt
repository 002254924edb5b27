-- The walk over the root and the fetched files: each is walked once, with the same picks as by the final table.
use mathlib.Core.Path.{◌≡◌, refl, sym, ap, ◌∙◌}
use mathlib.Core.Bool.{Bool, true, false}
use mathlib.Core.List.{List, [], ◌∷◌, ◌++◌}
use mathlib.Core.Option.{Option, none, some}
use Prim.Native.Nat.{ℕ, zero, suc, ◌+◌, ◌≤◌, ◌<◌}
use native.Mathlib.Omega.{arith}
use native.Mathlib.Decide.{dec_lt, ℕ_discrete}
use lib.ListN.{length, get_elem?}
use lib.Dec.{ltb, eqb}
use borrow.Author.Tests.{eq-eqb, ne_eqb}
use Rattle.ast.specs.Ast.{Url, ExternProtoDecl, Document, File}
use Rattle.ast.specs.Choice.{choose, and_then, map_o}
use Rattle.pick_definition.specs.PickIn.{pick_in}
use Rattle.pick_definition.specs.Picks.{Prototype, Pick, Bases, Picked, library_file, pick_from, pick_url, member, remember, or_next, try_url, pick_urls, picks_from, bases_from, Walked, fetched, walk_fetched, walk_files, walk, final_bases, picks_under, picks, pick_of}
use Rattle.pick_definition.specs.Walked.{Fetched, pick_bases, Settled, PickedBy, WalkedWhole}
use Rattle.pick_definition.proofs.MemberLaws.{member_last, member_here, member_index}
use Rattle.pick_definition.proofs.NewerLaws.{file_at_lem}
use Rattle.pick_definition.proofs.GrowLaws.{Grows, grows_same, grows_on, grows_all, final, stays}

-- ---- what the urls of an extern lead to

-- a base that was not skipped is in the table
among_kept : (base : ℕ) (T : Bases) (U : Bases) → remember base T ≡ some U → member base U ≡ true
unfolding remember
among_kept base T U e = go (member base T) refl (ltb (length T) 64) e
  where
    go : (b : Bool) → member base T ≡ b → (c : Bool) → choose b (some T) (choose c (some (T ++ (base ∷ []))) none) ≡ some U → member base U ≡ true
    go true m c e = let z : T ≡ U = cc in rw (sym z) m
    go false m true e = let z : T ++ (base ∷ []) ≡ U = cc in rw (sym z) (member_last base T)
    go false m false e = let z : ◌≡◌ {A = ℕ} 0 1 = cc in absurd (omega arith)

-- the file that a url leads to is its base's
from_file : (library : List File) (u : Url) (f : Option (ℕ × File)) (p : Prototype) → library_file u.base 1 library ≡ f → and_then f (pick_from u) ≡ some p → (T : Bases) → member u.base T ≡ true → Fetched library T p.document
from_file library u none p e h T m = let z : ◌≡◌ {A = ℕ} 0 1 = cc in absurd (omega arith)
from_file library u (some f) p e h T m = go (pick_in f.1.document u.fragment) h
  where
    go : (i : Option ℕ) → and_then i (λ x. some (record { document = f.0; proto = x })) ≡ some p → Fetched library T p.document
    go none h = let z : ◌≡◌ {A = ℕ} 0 1 = cc in absurd (omega arith)
    go (some i) h =
        let q : ◌≡◌ {A = Prototype} (record { document = f.0; proto = i }) p = cc in
        let z : f.0 ≡ p.document = ap (λ (x : Prototype). x.document) q in
        record { base = u.base; file = f.1; among = m; is = rw (sym z) e }

urls_into : (library : List File) (n : ℕ) (urls : List Url) (T : Bases) (p : Pick) → (pick_urls library n urls T).0 ≡ some p → Fetched library (pick_urls library n urls T).1 p.document
unfolding pick_urls pick_url
urls_into library n [] T p e = let z : ◌≡◌ {A = ℕ} 0 1 = cc in absurd (omega arith)
urls_into library n (u ∷ l) T p e = go (remember u.base T) refl (λ U. urls_into library (suc n) l U p) e
  where
    next : Bases → Picked
    next = pick_urls library (suc n) l

    url : (U : Bases) → member u.base U ≡ true → (o : Option Prototype) → pick_url library u ≡ o → ((K : Bases) → (next K).0 ≡ some p → Fetched library (next K).1 p.document) → (or_next n next U o).0 ≡ some p → Fetched library (or_next n next U o).1 p.document
    url U m none i ih e = ih U e
    url U m (some q) i ih e =
        let z : ◌≡◌ {A = Pick} (record { document = q.document; proto = q.proto; url = n }) p = cc in
        let y : q.document ≡ p.document = ap (λ (x : Pick). x.document) z in
        rw y at (from_file library u (library_file u.base 1 library) q refl i U m)

    go : (r : Option Bases) → remember u.base T ≡ r → ((K : Bases) → (next K).0 ≡ some p → Fetched library (next K).1 p.document) → (try_url library n u next T r).0 ≡ some p → Fetched library (try_url library n u next T r).1 p.document
    go none i ih e = ih T e
    go (some U) i ih e = url U (among_kept u.base T U i) (pick_url library u) refl ih e

-- ---- the fetched files

-- they make the table grow
grows_fetched : (library : List File) (next : Bases → Walked) (T : Bases) (f : Option (ℕ × File)) → ((U : Bases) → Grows U (next U).1) → Grows T (walk_fetched library next T f).1
grows_fetched library next T none g = g T
grows_fetched library next T (some f) g = grows_on (grows_all library f.1.document.extern_protos T) (g (bases_from library f.1.document.extern_protos T))

pub grows_files : (library : List File) (n k : ℕ) (T : Bases) → Grows T (walk_files library n k T).1
unfolding walk_files
grows_files library zero k T = grows_same T
grows_files library (suc n) k T = grows_fetched library (walk_files library n (suc k)) T (fetched library T k) (grows_files library n (suc k))

none_past : (T : Bases) (k : ℕ) → length T ≤ k → get_elem? T k ≡ none
none_past [] k h = refl
none_past (b ∷ T) zero h = absurd (omega arith)
none_past (b ∷ T) (suc k) h = none_past T k (omega arith)

-- past the last base nothing is fetched
pub walk_past : (library : List File) (n k : ℕ) (T : Bases) → length T ≤ k → (walk_files library n k T).1 ≡ T
unfolding walk_files
walk_past library zero k T h = refl
walk_past library (suc n) k T h = rw (none_past T k h) (walk_past library n (suc k) T (omega arith))

pub some_below : (T : Bases) (k b : ℕ) → get_elem? T k ≡ some b → k < length T
some_below [] k b e = let z : ◌≡◌ {A = ℕ} 0 1 = cc in absurd (omega arith)
some_below (x ∷ T) zero b e = omega arith
some_below (x ∷ T) (suc k) b e = let h = some_below T k b e in omega arith

module _ (library : List File) (F : Bases) (d : ℕ) where
  -- no base of F from the k-th to before the m-th has the document
  abbrev Unmet : ℕ → ℕ → Type 0
  Unmet k m = (j b : ℕ) (g : File) → k ≤ j → j < m → get_elem? F j ≡ some b → library_file b 1 library ≡ some (d, g) → ⊥

  -- the picks of the document: those of a fetched file, or it was not met
  found : (P : List (Option Pick) → Type 0)
      → ((f : Fetched library F d) (T : Bases) → Grows (bases_from library f.file.document.extern_protos T) F → P (picks_from library f.file.document.extern_protos T))
      → (n k : ℕ) (T : Bases) → (walk_files library n k T).1 ≡ F → (Unmet k (k + n) → P []) → P (picks_under d (walk_files library n k T).0)
  unfolding walk_files picks_under
  found P met zero k T e unmet = unmet (λ j b g h i. absurd (omega arith))
  found P met (suc n) k T e unmet = go (found P met n (suc k)) (fetched library T k) refl e
    where
      next : Bases → Walked
      next = walk_files library n (suc k)

      Rest : Type 0
      Rest = (U : Bases) → (next U).1 ≡ F → (Unmet (suc k) (suc k + n) → P []) → P (picks_under d (next U).0)

      -- the base of place k is the table's already
      here : (b : ℕ) → Grows T F → k < length T → get_elem? F k ≡ some b → get_elem? T k ≡ some b
      here b g h i = sym (g.front k h) ∙ i

      -- the document is not the k-th base's: it is met later, or not at all
      later : ((b : ℕ) (g : File) → get_elem? F k ≡ some b → library_file b 1 library ≡ some (d, g) → ⊥) → Unmet (suc k) (suc k + n) → Unmet k (k + suc n)
      later unlike rest j b g h i x y = at (ℕ_discrete j k)
        where
          at : Dec (j ≡ k) → ⊥
          at (yes z) = unlike b g (rw z at x) y
          at (no z) = rest j b g (omega arith) (omega arith) x y

      go : Rest → (o : Option (ℕ × File)) → fetched library T k ≡ o → (walk_fetched library next T o).1 ≡ F → P (picks_under d (walk_fetched library next T o).0)
      go rest none i e = rest T e (λ r. unmet (later (λ b g x y. not b g x y (dec_lt k (length T))) r))
        where
          not : (b : ℕ) (g : File) → get_elem? F k ≡ some b → library_file b 1 library ≡ some (d, g) → Dec (k < length T) → ⊥
          not b g x y (yes h) =
              let t : Grows T F = rw e at (grows_files library n (suc k) T) in
              let w : get_elem? T k ≡ some b = here b t h x in
              let v : library_file b 1 library ≡ none = rw w at i in
              let z : ◌≡◌ {A = ℕ} 0 1 = cc in
              omega arith
          not b g x y (no h) =
              let s : T ≡ F = sym (walk_past library n (suc k) T (omega arith)) ∙ e in
              let l = some_below F k b x in
              omega (arith, ap length s)
      go rest (some f) i e = by (ℕ_discrete f.0 d)
        where
          externs : List ExternProtoDecl
          externs = f.1.document.extern_protos

          U : Bases
          U = bases_from library externs T

          g : Grows U F
          g = rw e at (grows_files library n (suc k) U)

          t : Grows T F
          t = grows_on (grows_all library externs T) g

          base : (o : Option ℕ) → get_elem? T k ≡ o → and_then o (λ b. library_file b 1 library) ≡ some f → (b : ℕ) × (get_elem? T k ≡ some b) × (library_file b 1 library ≡ some f)
          base none x y = let z : ◌≡◌ {A = ℕ} 0 1 = cc in absurd (omega arith)
          base (some b) x y = (b, x, y)

          by : Dec (f.0 ≡ d) → P (choose (eqb f.0 d) (picks_from library externs T) (picks_under d (next U).0))
          by (yes z) =
              let b = base (get_elem? T k) refl i in
              let w : library_file b.0 1 library ≡ some (d, f.1) = rw (sym z) b.2 in
              rw (eq-eqb _ _ z) (met (record { base = b.0; file = f.1; among = t.known b.0 (member_here b.0 T k b.1); is = w }) T g)
          by (no z) = rw (ne_eqb _ _ z) (rest U e (λ r. unmet (later not r)))
            where
              not : (b : ℕ) (h : File) → get_elem? F k ≡ some b → library_file b 1 library ≡ some (d, h) → ⊥
              not b h x y =
                  let c = base (get_elem? T k) refl i in
                  let v = sym (t.front k (some_below T k c.0 c.1)) ∙ x in
                  let q : c.0 ≡ b = cc in
                  let s : library_file b 1 library ≡ some f = rw q at c.2 in
                  let m : ◌≡◌ {A = ℕ × File} f (d, h) = cc in
                  z (ap (λ (p : ℕ × File). p.0) m)

-- a file has a number of its own, past 0
file_number : (library : List File) (F : Bases) (d : ℕ) → Fetched library F d → 0 < d
file_number library F d f = omega (arith, (file_at_lem f.base 1 library d f.file f.is).0)

module _ (root : Document) (library : List File) where
  abbrev F : Bases
  F = final_bases root library

  abbrev T : Bases
  T = bases_from library root.extern_protos []

  walked_is : (walk_files library 64 0 T).1 ≡ F
  unfolding final_bases walk
  walked_is = refl

  grows_whole : Grows T F
  grows_whole = rw (sym walked_is) (grows_files library 64 0 T)

  few : length F ≤ 64
  few = grows_whole.few ((grows_all library root.extern_protos []).few (omega arith))

  -- the picks of a list of externs that was walked
  picked : (d : ℕ) (l : List ExternProtoDecl) (U : Bases) → picks root library d ≡ picks_from library l U → Grows (bases_from library l U) F → PickedBy root library d l
  unfolding pick_of
  picked d l U e g = record { is = λ x. rw (e, final library l U F x g) (go (get_elem? l x)); settled = stays library l U F g }
    where
      go : (o : Option ExternProtoDecl) → and_then (map_o (λ x. (pick_urls library 0 x.urls F).0) o) (λ p. p) ≡ and_then o (λ x. (pick_urls library 0 x.urls F).0)
      go none = refl
      go (some x) = refl

  first : PickedBy root library 0 root.extern_protos
  unfolding picks walk picks_under
  first = picked 0 root.extern_protos [] refl grows_whole

  -- the picks of a document past the root's
  past : (d : ℕ) → 0 < d → picks root library d ≡ picks_under d (walk_files library 64 0 T).0
  unfolding picks walk picks_under
  past d h = rw (ne_eqb 0 d (λ z. omega arith))

  file : (d : ℕ) (f : Fetched library F d) → PickedBy root library d f.file.document.extern_protos
  file d f =
      found library F d (λ l. picks root library d ≡ l → PickedBy root library d f.file.document.extern_protos)
      (λ g U h e. picked d f.file.document.extern_protos U (e ∙ ap (λ (x : File). picks_from library x.document.extern_protos U) (same g)) (rw (same g) at h))
      64 0 T walked_is
      (λ unmet e. let i = member_index f.base F f.among in absurd (unmet i.0 f.base f.file (omega arith) (omega (arith, some_below F i.0 f.base i.1, few)) i.1 f.is))
      (past d (file_number library F d f))
    where
      same : (g : Fetched library F d) → g.file ≡ f.file
      same g =
          let a = (file_at_lem g.base 1 library d g.file g.is).1 in
          let b = (file_at_lem f.base 1 library d f.file f.is).1 in
          cc

  -- a document that was not walked has no pick
  none_there : (d x : ℕ) (p : Pick) → picks root library d ≡ [] → pick_of root library d x ≡ some p → ⊥
  unfolding pick_of
  none_there d x p i e = let h : ◌≡◌ {A = Option Pick} none (some p) = rw i at e in let z : ◌≡◌ {A = ℕ} 0 1 = cc in omega arith

  only : (d x : ℕ) (p : Pick) → 0 < d → pick_of root library d x ≡ some p → Fetched library F d
  only d x p h e =
      found library F d (λ l. picks root library d ≡ l → Fetched library F d) (λ f U g i. f) 64 0 T walked_is (λ r i. absurd (none_there d x p i e)) (past d h)

  -- what is picked, of a document with these externs
  leads : (d : ℕ) (l : List ExternProtoDecl) (x : ℕ) (p : Pick) → PickedBy root library d l → pick_of root library d x ≡ some p → Fetched library F p.document
  leads d l x p w e = go (get_elem? l x) refl (sym (w.is x) ∙ e)
    where
      go : (o : Option ExternProtoDecl) → get_elem? l x ≡ o → and_then o (λ y. (pick_urls library 0 y.urls F).0) ≡ some p → Fetched library F p.document
      go none i h = let z : ◌≡◌ {A = ℕ} 0 1 = cc in absurd (omega arith)
      go (some y) i h = rw (w.settled x y i) at (urls_into library 0 y.urls F p h)

  into : (d x : ℕ) (p : Pick) → pick_of root library d x ≡ some p → Fetched library F p.document
  into zero x p e = leads 0 root.extern_protos x p first e
  into (suc d) x p e =
      let f = only (suc d) x p (omega arith) e in
      leads (suc d) f.file.document.extern_protos x p (file (suc d) f) e

  -- the law of the walk
  pub walked_whole : WalkedWhole root library
  walked_whole = record { few = few; first = first; fetched = file; only = only; into = into }
