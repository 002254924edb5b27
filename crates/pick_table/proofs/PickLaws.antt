-- The table of bases: one url, the externs of a document, those of a fetched file, all.
use mathlib.Core.Path.{◌≡◌, refl, sym, ap, ◌∙◌}
use mathlib.Core.Bool.{Bool, true, false}
use mathlib.Core.List.{List, [], ◌∷◌, map}
use mathlib.Core.Option.{Option, none, some}
use Prim.Native.Nat.{ℕ, zero, suc, ◌+◌, ◌-◌, ◌≤◌, ◌<◌}
use native.Mathlib.Numerals.{add-one}
use native.Mathlib.Omega.{arith}
use native.Mathlib.Decide.{ℕ_discrete}
use lib.ListN.{length, get_or, drop, length-drop}
use lib.Seq.{get_or-set_same}
use lib.Dec.{eqb}
use borrow.Author.Tests.{lt-ltb, le-ltb, ne_eqb}
use Rattle.ast.specs.Ast.{Url, ExternProtoDecl, File}
use Rattle.ast.specs.Choice.{choose, and_then}
use Rattle.sheet_rows.specs.declared.row.Row.{Row}
use Rattle.sheet_rows.specs.declared.part.Part.TheVariants.{Externs, Urls}
use Rattle.sheet_rows.specs.Rows.{blank}
use Rattle.sheet_rows.specs.Parse.{passes, elements, optional, url_of, extern_proto_of, document_of, files_of}
use Rattle.sheet_walks.specs.Walk.{Stands}
use Rattle.sheet_lookup.specs.Lookup.{document_at}
use Rattle.sheet_walks.proofs.WalkLaws.{elements_take, elements_pass, elements_stop, elements_end, each_at, each_none, front_drop, rest_drop}
use Rattle.std.specs.Prelude.{Option as Maybe, Some, None}
use Rattle.std.specs.Option.{is_some}
use Rattle.pick_table.specs.declared.table.Source.{Source}
use Rattle.pick_table.specs.declared.table.Table.{Table}
use Rattle.pick_table.specs.declared.Chosen.{Chosen}
use Rattle.pick_definition.specs.Picks.{Bases, Picked, library_file, pick_from, pick_url, or_next, member, remember, pick_urls, bases_from, Walked, fetched, walk_fetched, walk_files, walk, final_bases}
use Rattle.pick_table.specs.Table.{bases_of, source_at, Empty, TableSound, StandsAt, Position, BaseAdded, IsFileOf}
use Rattle.pick_table.specs.Chosen.{prototype_by, Leads, Placed, UrlTried, UrlsTried, NoExtern, Tried, after_file, FileTried, Final}
use Rattle.pick_table.proofs.TableLaws.{position_known, position_new, stands_low, stands_here, count_is, base_at, sound_added, bases_added}
use Rattle.pick_definition.proofs.WalkedLaws.{walk_past}

-- ---- the urls of an extern

abbrev pub url_in : Row → Url
url_in r = record { base = r.a; fragment = optional r.b; used = eqb r.c 1 }

abbrev pub urls_from : List Row → ℕ → List Url
urls_from sheet p = map url_of (elements Urls (drop p sheet))

-- the next url of a sheet from row p on, and those after it
pub urls_at : {sheet : List Row} {p q : ℕ} {r : Row} → Stands Urls sheet p q → r ≡ get_or sheet q blank → urls_from sheet p ≡ url_in r ∷ urls_from sheet (q + 1)
unfolding url_of
urls_at {sheet = sheet} {q = q} h is = each_at url_of h ∙ rw (front_drop sheet q, sym is)

pub urls_none : (sheet : List Row) (p : ℕ) → elements Urls (drop p sheet) ≡ [] → urls_from sheet p ≡ []
urls_none sheet p e = each_none url_of Urls sheet p e

-- an extern's urls, from the row after its own
pub extern_urls : (sheet : List Row) (q : ℕ) → (extern_proto_of (drop q sheet)).urls ≡ urls_from sheet (q + 1)
unfolding extern_proto_of
extern_urls sheet q = rw (rest_drop sheet q)

-- what a url leads to, by the library's file of its base
pub url_leads : (R : List Row) (s : Maybe Source) (r : Row) (x : Maybe Chosen) → IsFileOf R r.a s → Leads R s (optional r.b) x → pick_url (files_of R) (url_in r) ≡ prototype_by x
unfolding pick_url
url_leads R s r x f l = ap (λ (o : Option (ℕ × File)). and_then o (pick_from (url_in r))) f ∙ sym (l r.a (eqb r.c 1))

-- where a base stands, by the answer
module _ (bases : List ℕ) {base : ℕ} {x : Maybe ℕ} where
  pub stood : {j : ℕ} → x ≡ Some j → Position bases base x → StandsAt bases base j
  stood e p = rw e at p

  pub missed : x ≡ None → Position bases base x → Position bases base None
  missed e p = rw e at p

-- ---- the externs of a document

abbrev externs_from : List Row → ℕ → List ExternProtoDecl
externs_from sheet p = map extern_proto_of (elements Externs (drop p sheet))

-- a row that may stand before a url may stand before an extern
passed : (k : ℕ) → passes Urls k ≡ true → (passes Externs k ≡ true) × (k ≡ 8 → ⊥)
passed k e = go (ℕ_discrete k 4) (ℕ_discrete k 9)
  where
    go : Dec (k ≡ 4) → Dec (k ≡ 9) → (passes Externs k ≡ true) × (k ≡ 8 → ⊥)
    go (yes z) d = (rw z, λ y. omega arith)
    go (no y) (yes z) = (rw z, λ y. omega arith)
    go (no y) (no z) =
        let f : false ≡ true = rw (ne_eqb k 4 y, ne_eqb k 9 z) at e in
        let i : ◌≡◌ {A = ℕ} 0 1 = cc in
        absurd (omega arith)

-- up to a url of an extern no extern begins
externs_past : (sheet : List Row) (n p q : ℕ) → q ≡ p + n → Stands Urls sheet p q → elements Externs (drop p sheet) ≡ elements Externs (drop (q + 1) sheet)
externs_past sheet zero p q z h =
    let e : q ≡ p = omega arith in
    let k : (get_or sheet p blank).kind ≡ 10 = rw e at h.kind in
    rw (e, add-one p) (elements_pass Externs sheet p (omega (arith, h.below)) (λ i. omega arith) (rw k))
externs_past sheet (suc n) p q z h = go (externs_past sheet n (suc p) q (omega arith)) (ℕ_discrete (get_or sheet p blank).kind 10) (passes Urls (get_or sheet p blank).kind) refl
  where
    low : p < length sheet
    low = omega (arith, h.below)

    go : (Stands Urls sheet (suc p) q → elements Externs (drop (suc p) sheet) ≡ elements Externs (drop (q + 1) sheet)) → Dec ((get_or sheet p blank).kind ≡ 10) → (b : Bool) → passes Urls (get_or sheet p blank).kind ≡ b → elements Externs (drop p sheet) ≡ elements Externs (drop (q + 1) sheet)
    go f (yes k) b e =
        let c = sym (elements_take Urls sheet p low k) ∙ h.here in
        let d : drop p sheet ≡ drop q sheet = cc in
        absurd (omega (arith, ap length d, length-drop p sheet, length-drop q sheet, h.below))
    go f (no k) false e =
        let c = sym (elements_stop Urls sheet p low k e) ∙ h.here in
        let i : ◌≡◌ {A = ℕ} 0 1 = cc in
        absurd (omega arith)
    go f (no k) true e =
        let c = passed (get_or sheet p blank).kind e in
        elements_pass Externs sheet p low c.1 c.0 ∙
        f (record { from = omega arith; below = h.below; kind = h.kind; here = sym (elements_pass Urls sheet p low k e) ∙ h.here })

-- so the next extern may be sought behind it
pub behind_next : {sheet : List Row} {at p q : ℕ} → NoExtern sheet at p → Stands Urls sheet p q → NoExtern sheet at (q + 1)
behind_next {sheet} {at} {p} {q} n h = record { from = omega (arith, n.from, h.from); same = n.same ∙ externs_past sheet (q - p) p q (omega (arith, h.from)) h }

-- ---- one url

module _ {R : List Row} {base : ℕ} {t : Table} (s : TableSound R t) where
  -- its base is known
  pub place_known : {j : ℕ} → StandsAt (bases_of t) base j → Placed R base t t (Some j)
  unfolding remember
  place_known p = record { sound = s; is = (rw (position_known p), stands_low s p, stands_here s p) }

  module _ (p : Position (bases_of t) base None) where
    new : member base (bases_of t) ≡ false
    new = position_new (bases_of t) p

    -- it is new, and there is a place for it
    pub place_new : {x : Maybe Source} {u : Table} → t.count < 64 → IsFileOf R base x → BaseAdded t base x u → Placed R base t u (Some t.count)
    unfolding remember
    place_new m f a =
        let l : length (bases_of t) < 64 = omega (arith, count_is s) in
        let i : t.count < length t.bases = omega (arith, s.long.0) in
        record {
          sound = sound_added s m a f;
          is = (rw (new, lt-ltb _ _ l, bases_added s m a), omega (arith, a.count), rw (a.bases, get_or-set_same t.bases t.count base 0));
        }

    -- or none
    pub place_none : 64 ≤ t.count → Placed R base t t None
    unfolding remember
    place_none m = let l : 64 ≤ length (bases_of t) = omega (arith, count_is s) in record { sound = s; is = (rw (new, le-ltb _ _ l), refl) }

module _ {R : List Row} {base : ℕ} {fragment : Option ℕ} {t u : Table} {x : Maybe ℕ} (p : Placed R base t u x) where
  -- without a place it is passed over
  pub url_skipped : x ≡ None → UrlTried R base fragment t u false
  url_skipped e = let i = (rw e at p).is in record { sound = p.sound; is = λ n used next. rw (i.0, i.1) }

  -- else it leads to what the file of its base says
  pub url_tried : {j : ℕ} (c : Maybe Chosen) {led : Bool} → x ≡ Some j → Leads R (source_at u j) fragment c → led ≡ is_some c → UrlTried R base fragment t u led
  unfolding pick_url
  url_tried {j} c e l b =
      let i = (rw e at p).is in
      let f : IsFileOf R base (source_at u j) = rw i.2 at (p.sound.sources j i.1) in
      record {
        sound = p.sound;
        is = λ n used next. rw (i.0, f, sym (l base used), b) (go c n next (bases_of u));
      }
    where
      go : (c : Maybe Chosen) (n : ℕ) (next : Bases → Picked) (T : Bases) → (or_next n next T (prototype_by c)).1 ≡ choose (is_some c) T (next T).1
      go (Some x) n next T = refl
      go None n next T = refl

-- ---- the urls of an extern: those from row p on are left

pub record Trying (sheet : List Row) (at : ℕ) (R : List Row) (before t : Table) (p : ℕ) : Type 0 where
  pub sound : TableSound R t
  pub url : ℕ
  pub is : (pick_urls (files_of R) 0 (urls_from sheet at) (bases_of before)).1 ≡ (pick_urls (files_of R) url (urls_from sheet p) (bases_of t)).1

pub try_start : (sheet : List Row) (at : ℕ) {R : List Row} {t : Table} → TableSound R t → Trying sheet at R t t at
try_start sheet at s = record { sound = s; url = 0; is = refl }

module _ {sheet : List Row} {at : ℕ} {R : List Row} {before t : Table} {p : ℕ} (w : Trying sheet at R before t p) where
  -- no url is left
  pub try_none : elements Urls (drop p sheet) ≡ [] → UrlsTried sheet at R before t
  unfolding pick_urls
  try_none e = record { sound = w.sound; bases = sym (w.is ∙ rw (urls_none sheet p e)) }

  module _ {q : ℕ} {r : Row} (h : Stands Urls sheet p q) (is : r ≡ get_or sheet q blank) {u : Table} {led : Bool} (y : UrlTried R r.a (optional r.b) t u led) where
    here : (pick_urls (files_of R) 0 (urls_from sheet at) (bases_of before)).1 ≡ choose led (bases_of u) (pick_urls (files_of R) (suc w.url) (urls_from sheet (q + 1)) (bases_of u)).1
    unfolding pick_urls
    here = w.is ∙ rw (urls_at h is) (y.is w.url (eqb r.c 1) (pick_urls (files_of R) (suc w.url) (urls_from sheet (q + 1))))

    -- a pick
    pub try_led : led ≡ true → UrlsTried sheet at R before u
    try_led e = record { sound = y.sound; bases = sym (here ∙ rw e) }

    -- none: the next url
    pub try_next : led ≡ false → Trying sheet at R before u (q + 1)
    try_next e = record { sound = y.sound; url = suc w.url; is = here ∙ rw e }

-- ---- the externs of a document: those from row p on are left

pub record Gathering (sheet : List Row) (document : ℕ) (R : List Row) (before t : Table) (p : ℕ) : Type 0 where
  pub sound : TableSound R t
  pub is : bases_from (files_of R) (document_at sheet document).extern_protos (bases_of before) ≡ bases_from (files_of R) (externs_from sheet p) (bases_of t)

-- the walk begins at the row after the document's
pub gather_start : (sheet : List Row) (document : ℕ) (R : List Row) (t : Table) → TableSound R t → Gathering sheet document R t t (document + 1)
unfolding document_of
gather_start sheet document R t s = record { sound = s; is = rw (rest_drop sheet document) }

-- past the last row there are none
pub gather_past : (sheet : List Row) (document : ℕ) (R : List Row) (t : Table) → TableSound R t → length sheet ≤ document → Tried sheet document R t t
unfolding document_of bases_from
gather_past sheet document R t s h =
    record { sound = s; bases = rw (rest_drop sheet document, elements_end Externs sheet (document + 1) (omega arith)) }

module _ {sheet : List Row} {document : ℕ} {R : List Row} {before t : Table} {p : ℕ} (w : Gathering sheet document R before t p) where
  -- no extern is left
  pub gather_none : elements Externs (drop p sheet) ≡ [] → Tried sheet document R before t
  unfolding bases_from
  gather_none e = record { sound = w.sound; bases = sym (w.is ∙ rw (each_none extern_proto_of Externs sheet p e)) }

  -- the urls of the next extern were tried, and the walk goes on behind them
  pub gather_next : {q b : ℕ} {u : Table} → Stands Externs sheet p q → UrlsTried sheet (q + 1) R t u → NoExtern sheet (q + 1) b → Gathering sheet document R before u b
  unfolding bases_from
  gather_next {q} h y n = record { sound = y.sound; is = w.is ∙ rw (each_at extern_proto_of h, extern_urls sheet q, y.bases, n.same) }

-- ---- the fetched files

module _ {R : List Row} {t : Table} {k : ℕ} (s : TableSound R t) (h : k < t.count) where
  fetched_is : fetched (files_of R) (bases_of t) k ≡ library_file (get_or t.bases k 0) 1 (files_of R)
  fetched_is = rw (base_at s k h)

  -- the k-th base has no file
  pub file_none : source_at t k ≡ None → FileTried R k t t
  file_none e = record { sound = s; bases = sym (rw (fetched_is, s.sources k h, e)) }

  -- or its file was walked
  pub file_tried : {f : Source} {u : Table} → source_at t k ≡ Some f → Tried R f.row R t u → FileTried R k t u
  file_tried e w = record { sound = w.sound; bases = w.bases ∙ sym (rw (fetched_is, s.sources k h, e)) }

-- the files of the first k bases were walked
pub record Walking (root R : List Row) (t : Table) (k : ℕ) : Type 0 where
  pub sound : TableSound R t
  pub upto : k ≤ 64
  pub is : final_bases (document_of root) (files_of R) ≡ (walk_files (files_of R) (64 - k) k (bases_of t)).1

-- the root's externs first
pub walk_start : (root R : List Row) {e t : Table} → Empty e → Tried root 0 R e t → Walking root R t 0
unfolding final_bases walk
walk_start root R e w = record { sound = w.sound; upto = omega arith; is = rw (w.bases, e.bases) }

fetched_step : (library : List File) (next : Bases → Walked) (T : Bases) (f : Option (ℕ × File)) → (walk_fetched library next T f).1 ≡ (next (after_file library f T)).1
fetched_step library next T none = refl
fetched_step library next T (some f) = refl

one_less : (k : ℕ) → k < 64 → 64 - k ≡ suc (64 - (k + 1))
one_less k h = omega arith

module _ {root R : List Row} {t : Table} {k : ℕ} (w : Walking root R t k) where
  pub walk_next : {u : Table} → k < t.count → FileTried R k t u → Walking root R u (k + 1)
  unfolding walk_files
  walk_next {u} h f =
      let l : k < 64 = omega (arith, w.sound.room) in
      record { sound = f.sound; upto = omega arith; is = w.is ∙ rw (one_less k l, add-one k, f.bases) (fetched_step (files_of R) (walk_files (files_of R) (64 - suc k) (suc k)) (bases_of t) (fetched (files_of R) (bases_of t) k)) }

  pub walk_end : t.count ≤ k → Final root R t
  walk_end h = record { sound = w.sound; bases = sym (w.is ∙ walk_past (files_of R) (64 - k) k (bases_of t) (omega (arith, count_is w.sound))) }
