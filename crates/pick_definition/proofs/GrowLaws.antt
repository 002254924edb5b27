-- The table only grows, and a base is skipped only when the table is full: so a later table gives each extern its pick.
use mathlib.Core.Path.{◌≡◌, refl, sym, ap, ◌∙◌}
use mathlib.Core.Bool.{Bool, true, false}
use mathlib.Core.List.{List, [], ◌∷◌, ◌++◌}
use mathlib.Core.Option.{Option, none, some}
use Prim.Native.Nat.{ℕ, zero, suc, ◌+◌, ◌≤◌, ◌<◌}
use native.Mathlib.Omega.{arith}
use native.Mathlib.Decide.{dec_lt}
use lib.ListN.{length, get_elem?, length-append}
use lib.Dec.{ltb}
use borrow.Author.Tests.{lt-ltb, le-ltb}
use Rattle.ast.specs.Ast.{Url, ExternProtoDecl, File}
use Rattle.ast.specs.Choice.{choose, and_then, map_o}
use Rattle.pick_definition.specs.Picks.{Prototype, Bases, Picked, member, remember, pick_url, or_next, try_url, pick_urls, picks_from, bases_from}
use Rattle.pick_definition.specs.Walked.{Settled}
use Rattle.pick_definition.proofs.MemberLaws.{member_more, member_last}

-- the table once a base is looked for; it stays where the base is skipped
abbrev pub table_after : Bases → Option Bases → Bases
table_after bases none = bases
table_after bases (some table) = table

-- F may stand for T's table at the end
pub record Grows (T F : Bases) : Type 0 where
  pub known : (b : ℕ) → member b T ≡ true → member b F ≡ true
  pub full : 64 ≤ length T → (b : ℕ) → member b T ≡ false → member b F ≡ false
  pub longer : length T ≤ length F
  pub front : (i : ℕ) → i < length T → get_elem? F i ≡ get_elem? T i
  pub few : length T ≤ 64 → length F ≤ 64

pub grows_same : (T : Bases) → Grows T T
grows_same T = record { known = λ b h. h; full = λ l b h. h; longer = omega arith; front = λ i h. refl; few = λ h. h }

pub grows_on : {T U F : Bases} → Grows T U → Grows U F → Grows T F
grows_on g h = record {
  known = λ b e. h.known b (g.known b e);
  full = λ l b e. h.full (omega (arith, g.longer)) b (g.full l b e);
  longer = omega (arith, g.longer, h.longer);
  front = λ i e. h.front i (omega (arith, g.longer)) ∙ g.front i e;
  few = λ e. h.few (g.few e);
}

-- ---- one base

-- the three ways of a base: known, new, one too many
remember_cases : (P : Option Bases → Type 0) (base : ℕ) (T : Bases) → (member base T ≡ true → P (some T)) → (member base T ≡ false → length T < 64 → P (some (T ++ (base ∷ [])))) → (member base T ≡ false → 64 ≤ length T → P none) → P (remember base T)
unfolding remember
remember_cases P base T known new full = go (member base T) refl (dec_lt (length T) 64)
  where
    go : (b : Bool) → member base T ≡ b → Dec (length T < 64) → P (choose b (some T) (choose (ltb (length T) 64) (some (T ++ (base ∷ []))) none))
    go true e d = known e
    go false e (yes h) = rw (lt-ltb _ _ h) (new e h)
    go false e (no h) = let l : 64 ≤ length T = omega arith in rw (le-ltb _ _ l) (full e l)

-- a base more leaves those before it where they are
more_at : (T : Bases) (base i : ℕ) → i < length T → get_elem? (T ++ (base ∷ [])) i ≡ get_elem? T i
more_at [] base i h = absurd (omega arith)
more_at (b ∷ T) base zero h = refl
more_at (b ∷ T) base (suc i) h = more_at T base i (omega arith)

more_length : (T : Bases) (base : ℕ) → length (T ++ (base ∷ [])) ≡ length T + 1
more_length T base = simp length-append (omega arith)

-- looking for a base makes the table grow, if anything
grows_kept : (base : ℕ) (T : Bases) → Grows T (table_after T (remember base T))
grows_kept base T =
    remember_cases (λ r. Grows T (table_after T r)) base T
    (λ e. grows_same T)
    (λ e h. record {
      known = λ b i. member_more b base T i;
      full = λ l b i. absurd (omega arith);
      longer = omega (arith, more_length T base);
      front = λ i k. more_at T base i k;
      few = λ k. omega (arith, more_length T base);
    })
    (λ e h. grows_same T)

-- a base that a table knows, and a new one that it has no place for
is_known : (base : ℕ) (F : Bases) → member base F ≡ true → remember base F ≡ some F
unfolding remember
is_known base F e = rw e

is_full : (base : ℕ) (F : Bases) → member base F ≡ false → 64 ≤ length F → remember base F ≡ none
unfolding remember
is_full base F e h = rw (e, le-ltb _ _ h)

-- a base that was looked for is looked for in vain in the final table exactly if it was skipped
settled : (base : ℕ) (T F : Bases) → Grows (table_after T (remember base T)) F → remember base F ≡ and_then (remember base T) (λ t. some F)
settled base T F =
    remember_cases (λ r. Grows (table_after T r) F → remember base F ≡ and_then r (λ t. some F)) base T
    (λ e g. is_known base F (g.known base e))
    (λ e h g. is_known base F (g.known base (member_last base T)))
    (λ e h g. is_full base F (g.full h base e) (omega (arith, g.longer)))

-- ---- the urls of an extern

-- a url's step: the table after its base, and the pick of its file unless the base is skipped
pub try_kept : (library : List File) (n : ℕ) (url : Url) (next : Bases → Picked) (T : Bases) (r : Option Bases) → try_url library n url next T r ≡ or_next n next (table_after T r) (and_then r (λ t. pick_url library url))
try_kept library n url next T none = refl
try_kept library n url next T (some t) = refl

-- whatever a url leads to, the table grows
grows_next : (n : ℕ) (next : Bases → Picked) (T : Bases) (p : Option Prototype) → ((U : Bases) → Grows U (next U).1) → Grows T (or_next n next T p).1
grows_next n next T none f = f T
grows_next n next T (some p) f = grows_same T

grows_urls : (library : List File) (n : ℕ) (urls : List Url) (T : Bases) → Grows T (pick_urls library n urls T).1
unfolding pick_urls
grows_urls library n [] T = grows_same T
grows_urls library n (u ∷ l) T =
    let k = table_after T (remember u.base T) in
    let p = and_then (remember u.base T) (λ t. pick_url library u) in
    rw (try_kept library n u (pick_urls library (suc n) l) T (remember u.base T))
    (grows_on (grows_kept u.base T) (grows_next n (pick_urls library (suc n) l) k p (grows_urls library (suc n) l)))

-- the urls after one that led to no pick are the same by F if they are so alone
same_next : (n : ℕ) (next : Bases → Picked) (T F : Bases) (p : Option Prototype) → (Grows (next T).1 F → next F ≡ ((next T).0, F)) → Grows (or_next n next T p).1 F → or_next n next F p ≡ ((or_next n next T p).0, F)
same_next n next T F none f g = f g
same_next n next T F (some p) f g = refl

-- by F a url is tried or skipped as it was
try_final : (library : List File) (n : ℕ) (url : Url) (next : Bases → Picked) (F : Bases) (r : Option Bases) → try_url library n url next F (and_then r (λ t. some F)) ≡ or_next n next F (and_then r (λ t. pick_url library url))
try_final library n url next F none = refl
try_final library n url next F (some t) = refl

-- by a table that the urls' table grows to, the pick is the same and the table stays
same_urls : (library : List File) (n : ℕ) (urls : List Url) (T F : Bases) → Grows (pick_urls library n urls T).1 F → pick_urls library n urls F ≡ ((pick_urls library n urls T).0, F)
unfolding pick_urls
same_urls library n [] T F g = refl
same_urls library n (u ∷ l) T F g =
    let next = pick_urls library (suc n) l in
    let k = table_after T (remember u.base T) in
    let p = and_then (remember u.base T) (λ t. pick_url library u) in
    let e = try_kept library n u next T (remember u.base T) in
    let h : Grows (or_next n next k p).1 F = rw e at g in
    rw (e, settled u.base T F (grows_on (grows_next n next k p (grows_urls library (suc n) l)) h), try_final library n u next F (remember u.base T))
    (same_next n next k F p (same_urls library (suc n) l k F) h)

-- ---- the externs of a document

-- the externs make the table grow
pub grows_all : (library : List File) (l : List ExternProtoDecl) (T : Bases) → Grows T (bases_from library l T)
unfolding bases_from
grows_all library [] T = grows_same T
grows_all library (x ∷ l) T = grows_on (grows_urls library 0 x.urls T) (grows_all library l (pick_urls library 0 x.urls T).1)

-- each pick of a list of externs is the one by F
pub final : (library : List File) (l : List ExternProtoDecl) (T F : Bases) (i : ℕ) → Grows (bases_from library l T) F → get_elem? (picks_from library l T) i ≡ map_o (λ x. (pick_urls library 0 x.urls F).0) (get_elem? l i)
unfolding picks_from bases_from
final library [] T F i g = refl
final library (x ∷ l) T F zero g =
    ap (λ (p : Picked). some p.0) (sym (same_urls library 0 x.urls T F (grows_on (grows_all library l (pick_urls library 0 x.urls T).1) g)))
final library (x ∷ l) T F (suc i) g = final library l (pick_urls library 0 x.urls T).1 F i g

-- and F stays by them
pub stays : (library : List File) (l : List ExternProtoDecl) (T F : Bases) → Grows (bases_from library l T) F → Settled library F l
unfolding bases_from
stays library [] T F g x e h = let z : ◌≡◌ {A = ℕ} 0 1 = cc in absurd (omega arith)
stays library (y ∷ l) T F g zero e h =
    let z : y ≡ e = cc in
    rw (sym z) (ap (λ (p : Picked). p.1) (same_urls library 0 y.urls T F (grows_on (grows_all library l (pick_urls library 0 y.urls T).1) g)))
stays library (y ∷ l) T F g (suc x) e h = stays library l (pick_urls library 0 y.urls T).1 F g x e h

-- ---- urls by a table that stays

module _ (library : List File) (n : ℕ) (u : Url) (l : List Url) (F : Bases) where
  -- of a base that it knows
  pub tried_known : member u.base F ≡ true → pick_urls library n (u ∷ l) F ≡ or_next n (pick_urls library (suc n) l) F (pick_url library u)
  unfolding pick_urls
  tried_known e = rw (is_known u.base F e)

  -- of a new one, where there is a place for it: as by the table that has it
  pub tried_new : member u.base F ≡ false → length F < 64 → pick_urls library n (u ∷ l) F ≡ or_next n (pick_urls library (suc n) l) (F ++ (u.base ∷ [])) (pick_url library u)
  unfolding pick_urls remember
  tried_new e h = rw (e, lt-ltb _ _ h)

  -- where there is none: the url is skipped
  pub tried_full : member u.base F ≡ false → 64 ≤ length F → pick_urls library n (u ∷ l) F ≡ pick_urls library (suc n) l F
  unfolding pick_urls
  tried_full e h = rw (is_full u.base F e h)

  -- and so it is by a table that stays
  pub tried_unknown : member u.base F ≡ false → (pick_urls library n (u ∷ l) F).1 ≡ F → pick_urls library n (u ∷ l) F ≡ pick_urls library (suc n) l F
  tried_unknown e s = go (dec_lt (length F) 64)
    where
      next : Bases → Picked
      next = pick_urls library (suc n) l

      go : Dec (length F < 64) → pick_urls library n (u ∷ l) F ≡ pick_urls library (suc n) l F
      go (yes h) =
          let m = F ++ (u.base ∷ []) in
          let r : (or_next n next m (pick_url library u)).1 ≡ F = ap (λ (p : Picked). p.1) (sym (tried_new e h)) ∙ s in
          let g = (grows_next n next m (pick_url library u) (grows_urls library (suc n) l)).longer in
          absurd (omega (arith, g, ap length r, more_length F u.base))
      go (no h) = tried_full e (omega arith)

-- a url whose base has just come into the table
pub tried_again : (library : List File) (n : ℕ) (u : Url) (l : List Url) (F : Bases) → member u.base F ≡ false → length F < 64 → pick_urls library n (u ∷ l) F ≡ pick_urls library n (u ∷ l) (F ++ (u.base ∷ []))
tried_again library n u l F e h =
    tried_new library n u l F e h ∙ sym (tried_known library n u l (F ++ (u.base ∷ [])) (member_last u.base F))
