-- The marks on the urls of a declared extern: the pick's url has one, and no other (document 02, wish 1).
use mathlib.Core.Path.{◌≡◌, refl, ap, sym, ◌∙◌}
use mathlib.Core.Logic.{◌⊎◌, inl, inr}
use mathlib.Core.List.Memᴰ
use mathlib.Core.List.{List, [], ◌∷◌, map, Memᴰ}
use mathlib.Core.Option.{Option, none, some}
use mathlib.Core.Bool.{Bool, true, false}
use Prim.Native.Nat.{ℕ, zero, suc, ◌+◌, ◌-◌}
use native.Mathlib.Omega.{arith}
use lib.ListN.{length, get_elem?}
use lib.Dec.{eqb}
use borrow.Author.Tests.{eq-eqb, eqb-true}
use Rattle.ast.specs.Ast.{Url, ExternProtoDecl, Document, File}
use Rattle.ast.specs.Choice.{and_then, map_o}
use Rattle.ast.specs.Lookups.{documents, extern_proto_at}
use Rattle.pick_definition.specs.Picks.{Prototype, Pick, prototype_of, Bases, Picked, pick_url, remember, or_next, try_url, pick_urls, final_bases, pick_of, url_taken}
use Rattle.pick_definition.specs.Walked.{PickedBy}
use Rattle.pick_definition.proofs.NewerLaws.{file_at_lem}
use Rattle.pick_definition.proofs.WalkedLaws.{walked_whole}
use Rattle.expansion_definition.specs.Input.{Input, docs, used_url}
use Rattle.expansion_definition.specs.Externs.{is_used, marked, declared}
use Rattle.expansion_definition.specs.Expanded.{address, Supplied}

never : {A : Type 0} {a : A} → ◌≡◌ {A = Option A} none (some a) → ⊥
never e = let z : ◌≡◌ {A = ℕ} 0 1 = cc in omega arith

-- ---- marks

pub marked_length : (used : Option ℕ) (n : ℕ) (l : List Url) → length (marked used n l) ≡ length l
unfolding marked
marked_length used n [] = refl
marked_length used n (u ∷ l) = ap suc (marked_length used (suc n) l)

marked_same : (used : Option ℕ) (n : ℕ) (l : List Url) → map address (marked used n l) ≡ map address l
unfolding marked
marked_same used n [] = refl
marked_same used n (u ∷ l) = ap (λ (r : List (ℕ × Option ℕ)). address u ∷ r) (marked_same used (suc n) l)

-- a url with its mark
abbrev with_mark : Option ℕ → ℕ → Url → Url
with_mark used k u = record { base = u.base; fragment = u.fragment; used = is_used used k }

-- the url of index k
marked_at : (used : Option ℕ) (n : ℕ) (l : List Url) (k : ℕ) → get_elem? (marked used n l) k ≡ map_o (with_mark used (n + k)) (get_elem? l k)
unfolding marked
marked_at used n [] k = refl
marked_at used n (u ∷ l) zero = let z : n + 0 ≡ n = omega arith in rw z
marked_at used n (u ∷ l) (suc k) = let z : suc n + k ≡ n + suc k = omega arith in rw z at (marked_at used (suc n) l k)

-- it is marked as its index has it
mark_is : (used : Option ℕ) (l : List Url) (k : ℕ) (u : Url) → get_elem? (marked used 0 l) k ≡ some u → is_used used k ≡ u.used
mark_is used l k u e = go (get_elem? l k) (sym (marked_at used 0 l k) ∙ e)
  where
    go : (o : Option Url) → map_o (with_mark used (0 + k)) o ≡ some u → is_used used k ≡ u.used
    go none h = absurd (never h)
    go (some v) h =
        let z : with_mark used (0 + k) v ≡ u = cc in
        let y : 0 + k ≡ k = omega arith in
        rw y at (ap (λ (x : Url). x.used) z)

-- without a url that was taken none is marked
unmarked : (n : ℕ) (l : List Url) (u : Url) → Memᴰ u (marked none n l) → u.used ≡ false
unfolding marked
unmarked n [] u m = absurd (Memᴰ.not-nil m)
unmarked n (v ∷ l) u m = go (unmarked (suc n) l u) (Memᴰ.cases_cons m)
  where
    go : (Memᴰ u (marked none (suc n) l) → u.used ≡ false) → (u ≡ with_mark none n v) ⊎ Memᴰ u (marked none (suc n) l) → u.used ≡ false
    go h (inl e) = ap (λ (x : Url). x.used) e
    go h (inr q) = h q

-- ---- the url that a pick took

-- of urls that are counted from n, the one of index p.url leads to the picked PROTO
record TakenFrom (library : List File) (n : ℕ) (l : List Url) (p : Pick) : Type 0 where
  index : ℕ
  is : p.url ≡ n + index
  url : Url
  here : get_elem? l index ≡ some url
  leads : pick_url library url ≡ some (prototype_of p)

urls_taken : (library : List File) (n : ℕ) (l : List Url) (T : Bases) (p : Pick) → (pick_urls library n l T).0 ≡ some p → TakenFrom library n l p
unfolding pick_urls
urls_taken library n [] T p e = absurd (never e)
urls_taken library n (u ∷ l) T p e = go (λ U. urls_taken library (suc n) l U p) (remember u.base T) e
  where
    next : Bases → Picked
    next = pick_urls library (suc n) l

    After : Type 0
    After = (U : Bases) → (next U).0 ≡ some p → TakenFrom library (suc n) l p

    later : After → (U : Bases) → (next U).0 ≡ some p → TakenFrom library n (u ∷ l) p
    later f U h = let t = f U h in record { index = suc t.index; is = omega (arith, t.is); url = t.url; here = t.here; leads = t.leads }

    by : After → (U : Bases) (o : Option Prototype) → pick_url library u ≡ o → (or_next n next U o).0 ≡ some p → TakenFrom library n (u ∷ l) p
    by f U none i h = later f U h
    by f U (some q) i h =
        let z : ◌≡◌ {A = Pick} (record { document = q.document; proto = q.proto; url = n }) p = cc in
        let y : n ≡ p.url = ap (λ (x : Pick). x.url) z in
        record { index = 0; is = omega arith; url = u; here = refl; leads = i ∙ ap (λ (x : Pick). some (prototype_of x)) z }

    go : After → (r : Option Bases) → (try_url library n u next T r).0 ≡ some p → TakenFrom library n (u ∷ l) p
    go f none h = later f T h
    go f (some U) h = by f U (pick_url library u) refl h

-- the extern of an id has such a url
record TakenOf (library : List File) (x : Option ExternProtoDecl) (p : Pick) : Type 0 where
  decl : ExternProtoDecl
  there : x ≡ some decl
  url : Url
  here : get_elem? decl.urls p.url ≡ some url
  leads : pick_url library url ≡ some (prototype_of p)

-- of a document whose picks are those by the table
picked_taken : (root : Document) (library : List File) (d id : ℕ) (p : Pick) (l : List ExternProtoDecl) → PickedBy root library d l → pick_of root library d id ≡ some p → TakenOf library (get_elem? l id) p
picked_taken root library d id p l w e = go (get_elem? l id) (sym (w.is id) ∙ e)
  where
    F : Bases
    F = final_bases root library

    go : (o : Option ExternProtoDecl) → and_then o (λ x. (pick_urls library 0 x.urls F).0) ≡ some p → TakenOf library o p
    go none h = absurd (never h)
    go (some x) h =
        let t = urls_taken library 0 x.urls F p h in
        let z : p.url ≡ t.index = omega (arith, t.is) in
        record { decl = x; there = refl; url = t.url; here = ap (get_elem? x.urls) z ∙ t.here; leads = t.leads }

file_document : (l : List File) (k : ℕ) (f : File) → get_elem? l k ≡ some f → get_elem? (map (λ x. x.document) l) k ≡ some f.document
file_document [] k f e = absurd (never e)
file_document (x ∷ l) zero f e = let z : x ≡ f = cc in rw z
file_document (x ∷ l) (suc k) f e = file_document l k f e

pick_taken : (root : Document) (library : List File) (d id : ℕ) (p : Pick) → pick_of root library d id ≡ some p → TakenOf library (extern_proto_at (documents root library) d id) p
unfolding extern_proto_at
pick_taken root library zero id p e = picked_taken root library 0 id p root.extern_protos (walked_whole root library).first e
pick_taken root library (suc d) id p e =
    let f = (walked_whole root library).only (suc d) id p (omega arith) e in
    let z : suc d - 1 ≡ d = omega arith in
    let h : get_elem? library d ≡ some f.file = rw z at (file_at_lem f.base 1 library (suc d) f.file f.is).1 in
    rw (file_document library d f.file h) (picked_taken root library (suc d) id p f.file.document.extern_protos ((walked_whole root library).fetched (suc d) f) e)

-- ---- the extern

module _ (I : Input) (d id : ℕ) (decl : ExternProtoDecl) (e : extern_proto_at (docs I) d id ≡ some decl) where
  abbrev picked : Option Pick
  picked = pick_of I.root I.library d id

  by_index : (o : Option Pick) (k : ℕ) → is_used (url_taken o) k ≡ true → (p : Pick) × (o ≡ some p) × (p.url ≡ k)
  by_index none k h = let z : ◌≡◌ {A = ℕ} 0 1 = cc in absurd (omega arith)
  by_index (some p) k h = (p, refl, eqb-true p.url k h)

  one_mark : (p : Pick) → picked ≡ some p → (u : Url) × (get_elem? (marked (url_taken picked) 0 decl.urls) p.url ≡ some u) × (u.used ≡ true) × (pick_url I.library u ≡ some (prototype_of p))
  unfolding pick_url
  one_mark p q =
      let t = pick_taken I.root I.library d id p q in
      let z : t.decl ≡ decl = cc in
      let y : 0 + p.url ≡ p.url = omega arith in
      let h : get_elem? decl.urls p.url ≡ some t.url = rw z at t.here in
      (with_mark (some p.url) p.url t.url, rw q (marked_at (some p.url) 0 decl.urls p.url ∙ rw (h, y)), eq-eqb p.url p.url refl, t.leads)

  pub supplied : Supplied I (declared (used_url I d id) decl)
  supplied = record {
    document = d;
    id = id;
    decl = decl;
    declares = e;
    name = refl;
    urls = marked_same (url_taken picked) 0 decl.urls;
    taken = λ k u h m. by_index picked k (mark_is (url_taken picked) decl.urls k u h ∙ m);
    one = one_mark;
    none = λ q u m. unmarked 0 decl.urls u (rw q at m);
  }
