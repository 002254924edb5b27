-- The scan of a part over printed rows: it passes over the lists before its own, finds that list, and ends at the next.
use mathlib.Core.Path.{◌≡◌, refl, sym, ap, ap₂, subst, ◌∙◌}
use mathlib.Core.List.{List, [], ◌∷◌, ◌++◌, map, append_assoc, append-nil}
use mathlib.Core.Bool.{Bool, true, false, not, ◌&&◌}
use Prim.Native.Nat.{ℕ}
use lib.Dec.{eqb}
use borrow.Author.Tests.{eq-eqb, not-true}
use Rattle.ast.proofs.Basics.{and_l, and_r}
use Rattle.sheet_rows.specs.declared.row.Row.{Row}
use Rattle.sheet_rows.specs.declared.part.Part.{Part}
use Rattle.sheet_rows.specs.Parse.{kind_of, passes, elements}
use Rattle.ast.specs.Lists.{flat}
use Rattle.ast.specs.Each.{Each}
use Rattle.sheet_roundtrip.proofs.Tests.{and_i, or_i, among, every, every_at}

-- ---- kinds of rows

-- each row is of a kind in K
abbrev pub Among : List ℕ → List Row → Type 0
Among K R = Each (λ r. among r.kind K ≡ true) R

-- the first row, if there is one, is of a kind in K
abbrev pub Follows : List ℕ → List Row → Type 0
Follows K [] = Unit {0}
Follows K (r ∷ l) = among r.kind K ≡ true

-- the first row, which there is, is of kind k, the others of kinds in K
abbrev pub Heads : ℕ → List ℕ → List Row → Type 0
Heads k K [] = ⊥
Heads k K (r ∷ l) = (r.kind ≡ k) × Among K l

-- one kind more
among_more : (j : ℕ) (K : List ℕ) (R : List Row) → Among K R → Among (j ∷ K) R
among_more j K [] h = tt
among_more j K (r ∷ R) h = (or_i (eqb r.kind j) h.0, among_more j K R h.1)

-- rows after rows
pub among_append : (K : List ℕ) (Q R : List Row) → Among K Q → Among K R → Among K (Q ++ R)
among_append K [] R h i = i
among_append K (r ∷ Q) R h i = (h.0, among_append K Q R h.1 i)

-- kinds that are all in others
pub among_in : (K M : List ℕ) (R : List Row) → every (λ k. among k M) K ≡ true → Among K R → Among M R
among_in K M [] e h = tt
among_in K M (r ∷ R) e h = (every_at (λ k. among k M) K e r.kind h.0, among_in K M R e h.1)

-- the same of the first row
pub follows_in : (K M : List ℕ) (l : List Row) → every (λ k. among k M) K ≡ true → Follows K l → Follows M l
follows_in K M [] e h = tt
follows_in K M (r ∷ l) e h = every_at (λ k. among k M) K e r.kind h

-- ---- the scan

-- a kind that the scan of a part passes over
abbrev pub passed : Part → ℕ → Bool
passed t k = not (eqb k (kind_of t)) && passes t k

-- a kind at which it ends
abbrev pub ends : Part → ℕ → Bool
ends t k = not (eqb k (kind_of t)) && not (passes t k)

-- it passes over rows
pub pass_over : (t : Part) (K : List ℕ) → every (passed t) K ≡ true → (Q l : List Row) → Among K Q → elements t (Q ++ l) ≡ elements t l
unfolding elements
pass_over t K e [] l h = refl
pass_over t K e (r ∷ Q) l h =
    let w = every_at (passed t) K e r.kind h.0 in
    rw (not-true (eqb r.kind (kind_of t)) (and_l _ _ w), and_r (not (eqb r.kind (kind_of t))) _ w) (pass_over t K e Q l h.1)

-- it ends at a row
pub ended : (t : Part) (K : List ℕ) → every (ends t) K ≡ true → (l : List Row) → Follows K l → elements t l ≡ []
unfolding elements
ended t K e [] h = refl
ended t K e (r ∷ l) h =
    let w = every_at (ends t) K e r.kind h in
    rw (not-true (eqb r.kind (kind_of t)) (and_l _ _ w), not-true (passes t r.kind) (and_r (not (eqb r.kind (kind_of t))) _ w))

-- it finds an element
element : (t : Part) (K : List ℕ) → every (passed t) K ≡ true → (R l : List Row) → Heads (kind_of t) K R → elements t (R ++ l) ≡ (R ++ l) ∷ elements t l
unfolding elements
element t K e [] l h = absurd h
element t K e (r ∷ R) l h = rw (eq-eqb r.kind (kind_of t) h.0) (ap (◌∷◌ (r ∷ R ++ l)) (pass_over t K e R l h.1))

-- ---- a printed list

-- the elements of part t are printed and parsed back so: the first row is of t's kind, the others of kinds in K;
-- an element is parsed back where a row of a kind in N follows, or none; one of t's kind may
pub record Listed {A : Type 0} (t : Part) (K N : List ℕ) (print : A → List Row) (parse : List Row → A) (Fine : A → Type 0) : Type 0 where
  pub heads : (x : A) → Heads (kind_of t) K (print x)
  pub others : every (passed t) K ≡ true
  pub again : among (kind_of t) N ≡ true
  pub back : (x : A) (l : List Row) → Fine x → Follows N l → parse (print x ++ l) ≡ x

module _ {A : Type 0} {t : Part} {K N : List ℕ} {print : A → List Row} {parse : List Row → A} {Fine : A → Type 0} (L : Listed t K N print parse Fine) where
  -- the kinds of its rows
  pub kinds : (xs : List A) → Among (kind_of t ∷ K) (flat print xs)
  kinds [] = tt
  kinds (x ∷ xs) = among_append (kind_of t ∷ K) (print x) (flat print xs) (go (print x) (L.heads x)) (kinds xs)
    where
      go : (R : List Row) → Heads (kind_of t) K R → Among (kind_of t ∷ K) R
      go [] h = absurd h
      go (r ∷ l) h = (rw (eq-eqb r.kind (kind_of t) h.0), among_more (kind_of t) K l h.1)

  -- how it begins, or else what follows it
  pub begins : (xs : List A) (M : List ℕ) (l : List Row) → Follows M l → Follows (kind_of t ∷ M) (flat print xs ++ l)
  begins [] M [] h = tt
  begins [] M (r ∷ l) h = or_i (eqb r.kind (kind_of t)) h
  begins (x ∷ xs) M l h = go (print x) (L.heads x)
    where
      go : (R : List Row) → Heads (kind_of t) K R → Follows (kind_of t ∷ M) ((R ++ flat print xs) ++ l)
      go [] h = absurd h
      go (r ∷ R) h = rw (eq-eqb r.kind (kind_of t) h.0)

  -- the scan of its part finds it, where the row that follows may and ends the scan
  found : (M : List ℕ) → every (λ k. among k N) M ≡ true → every (ends t) M ≡ true → (xs : List A) (l : List Row) → Each Fine xs → Follows M l → map parse (elements t (flat print xs ++ l)) ≡ xs
  found M n e [] l f h = ap (map parse) (ended t M e l h)
  found M n e (x ∷ xs) l f h =
      ap (λ (R : List Row). map parse (elements t R)) (append_assoc (print x) (flat print xs) l) ∙
      ap (map parse) (element t K L.others (print x) (flat print xs ++ l) (L.heads x)) ∙
      ap₂ ◌∷◌ (L.back x (flat print xs ++ l) f.0 (follows_in (kind_of t ∷ M) N (flat print xs ++ l) (and_i L.again n) (begins xs M l h))) (found M n e xs l f.1 h)

-- ---- printed lists, one after the other

-- a printed list by its kinds alone
pub record Run : Type 0 where
  pub rows : List Row
  pub kind : ℕ
  pub others : List ℕ
  pub begins : (M : List ℕ) (l : List Row) → Follows M l → Follows (kind ∷ M) (rows ++ l)
  pub kinds : Among (kind ∷ others) rows

-- a printed list as one
abbrev pub run_of : {A : Type 0} {t : Part} {K N : List ℕ} {print : A → List Row} {parse : List Row → A} {Fine : A → Type 0} → Listed t K N print parse Fine → List A → Run
run_of {t} {K} {print} L xs = record { rows = flat print xs; kind = kind_of t; others = K; begins = begins L xs; kinds = kinds L xs }

-- their rows, and then l
abbrev pub chain : List Run → List Row → List Row
chain [] l = l
chain (s ∷ ss) l = s.rows ++ chain ss l

-- the kinds that they begin with, or what follows them
abbrev pub heads_of : List Run → List ℕ → List ℕ
heads_of [] M = M
heads_of (s ∷ ss) M = s.kind ∷ heads_of ss M

-- a test of each kind in them
abbrev pub every_run : (ℕ → Bool) → List Run → Bool
every_run p [] = true
every_run p (s ∷ ss) = every p (s.kind ∷ s.others) && every_run p ss

-- how they begin
chain_follows : (ss : List Run) (M : List ℕ) (l : List Row) → Follows M l → Follows (heads_of ss M) (chain ss l)
chain_follows [] M l h = h
chain_follows (s ∷ ss) M l h = s.begins (heads_of ss M) (chain ss l) (chain_follows ss M l h)

-- the scan of a later part passes over them
pub chain_passed : (t : Part) (ss : List Run) (l : List Row) → every_run (passed t) ss ≡ true → elements t (chain ss l) ≡ elements t l
chain_passed t [] l e = refl
chain_passed t (s ∷ ss) l e =
    pass_over t (s.kind ∷ s.others) (and_l _ (every_run (passed t) ss) e) s.rows (chain ss l) s.kinds ∙ chain_passed t ss l (and_r (every (passed t) (s.kind ∷ s.others)) _ e)

-- the kinds of their rows
chain_among : (K : List ℕ) (ss : List Run) (l : List Row) → every_run (λ k. among k K) ss ≡ true → Among K l → Among K (chain ss l)
chain_among K [] l e h = h
chain_among K (s ∷ ss) l e h =
    among_append K s.rows (chain ss l) (among_in (s.kind ∷ s.others) K s.rows (and_l _ (every_run (λ k. among k K) ss) e) s.kinds) (chain_among K ss l (and_r (every (λ k. among k K) (s.kind ∷ s.others)) _ e) h)

-- the kinds of rows that are such lists
pub alone_among : (K : List ℕ) (ss : List Run) (R l : List Row) → every_run (λ k. among k K) ss ≡ true → Among K l → R ++ [] ≡ chain ss l → Among K R
alone_among K ss R l h a e = subst (Among K) (sym e ∙ append-nil R) (chain_among K ss l h a)

-- the scan of a part finds its list between others
pub found_in : {A : Type 0} {t : Part} {K N : List ℕ} {print : A → List Row} {parse : List Row → A} {Fine : A → Type 0} (before : List Run) (L : Listed t K N print parse Fine) (xs : List A) (after : List Run) (M : List ℕ) (l : List Row) →
    every_run (passed t) before ≡ true → every (λ k. among k N) (heads_of after M) ≡ true → every (ends t) (heads_of after M) ≡ true → Each Fine xs → Follows M l → map parse (elements t (chain before (flat print xs ++ chain after l))) ≡ xs
found_in {t} {print} {parse} before L xs after M l p n e f h =
    ap (map parse) (chain_passed t before (flat print xs ++ chain after l) p) ∙ found L (heads_of after M) n e xs (chain after l) f (chain_follows after M l h)

-- ---- a list of single rows

-- a row alone
abbrev pub one : {A : Type 0} → (A → Row) → A → List Row
one print x = print x ∷ []

-- written as a list of elements
pub rows_map : {A : Type 0} (print : A → Row) (xs : List A) → map print xs ≡ flat (one print) xs
rows_map print [] = refl
rows_map print (x ∷ xs) = ap (◌∷◌ (print x)) (rows_map print xs)
