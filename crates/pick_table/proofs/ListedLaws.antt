-- The list of the library's files, and the search in it for the file of a base.
use mathlib.Core.Path.{◌≡◌, refl, sym, ap, ◌∙◌}
use mathlib.Core.List.{List, [], ◌∷◌}
use mathlib.Core.Option.{none, some}
use Prim.Native.Nat.{ℕ, zero, suc, ◌+◌, ◌-◌, ◌≤◌, ◌<◌}
use native.Mathlib.Omega.{arith}
use native.Mathlib.Numerals.{add-one}
use native.Mathlib.Decide.{ℕ_discrete}
use lib.ListN.{length, get_or, take, drop, set, get_elem?, length-set}
use lib.Seq.{length-take-le, get_or-take, get_or-set_same, get_or-set_other}
use Rattle.std.specs.Prelude.{Some, None}
use Rattle.ast.specs.Ast.{File}
use Rattle.sheet_rows.specs.declared.row.Row.{Row}
use Rattle.sheet_rows.specs.declared.part.Part.TheVariants.{Files}
use Rattle.sheet_rows.specs.Rows.{blank, front}
use Rattle.sheet_rows.specs.Parse.{elements, file_of, files_of}
use Rattle.sheet_walks.specs.Walk.{Stands}
use Rattle.sheet_walks.proofs.WalkLaws.{each_at, each_none, front_drop, rest_drop, at_drop}
use Rattle.pick_table.specs.Table.{IsFileOf, FilesListed}
use Rattle.pick_definition.proofs.NewerLaws.{newer_counts}
use Rattle.pick_table.proofs.SourceLaws.{files_from}

drop_one : {A : Type 0} (n : ℕ) (l : List A) (x : A) (t : List A) → drop n l ≡ x ∷ t → drop (suc n) l ≡ t
drop_one zero [] x t e = let z : ◌≡◌ {A = ℕ} 0 1 = cc in absurd (omega arith)
drop_one zero (y ∷ l) x t e = cc
drop_one (suc n) [] x t e = let z : ◌≡◌ {A = ℕ} 0 1 = cc in absurd (omega arith)
drop_one (suc n) (y ∷ l) x t e = drop_one n l x t e

-- ---- the list is written: n files have been met, the next one is looked for from row `at` on

pub record Listing (R : List Row) (w : List ℕ) (n at : ℕ) : Type 0 where
  pub within : n ≤ length w
  pub few : n ≤ at
  pub upto : at ≤ length R
  pub row : (j : ℕ) → j < n → get_elem? (files_of R) j ≡ some (file_of (drop (get_or w j 0) R))
  pub below : (j : ℕ) → j < n → get_or w j 0 < length R
  pub rest : drop n (files_of R) ≡ files_from R at

pub list_start : (R : List Row) (w : List ℕ) → Listing R w 0 0
unfolding files_of
list_start R w =
    record { within = omega arith; few = omega arith; upto = omega arith; row = λ j i. absurd (omega arith); below = λ j i. absurd (omega arith); rest = refl }

-- the list of no file
pub listed_none : (R : List Row) (w : List ℕ) → FilesListed R (take 0 w)
listed_none R w = record { few = omega arith; row = λ j i. absurd (omega arith); below = λ j i. absurd (omega arith); all = λ h. absurd (omega arith) }

module _ {R : List Row} {w : List ℕ} {n at : ℕ} (l : Listing R w n at) where
  -- no file is left
  pub list_none : elements Files (drop at R) ≡ [] → FilesListed R (take n w)
  list_none e =
      let long : length (take n w) ≡ n = length-take-le n w l.within in
      record {
        few = omega (arith, l.few, l.upto);
        row = λ j h. let i : j < n = omega arith in rw (get_or-take n w j 0 i) (l.row j i);
        below = λ j h. let i : j < n = omega arith in rw (get_or-take n w j 0 i) (l.below j i);
        all = λ h j i.
            let z : n + (j - n) ≡ j = omega arith in
            let y : get_elem? (files_of R) (n + (j - n)) ≡ none = sym (at_drop (files_of R) n (j - n)) ∙ rw (l.rest, each_none file_of Files R at e) in
            rw z at y;
      }

  -- one more
  pub list_more : {q : ℕ} → Stands Files R at q → n < length w → Listing R (set w n q) (n + 1) (q + 1)
  list_more {q} h i = record {
    within = rw length-set (omega arith);
    few = omega (arith, l.few, h.from);
    upto = omega (arith, h.below);
    row = λ j k. at_row j k (ℕ_discrete j n);
    below = λ j k. at_below j k (ℕ_discrete j n);
    rest = rw (add-one n) (drop_one n (files_of R) _ _ cons);
  }
    where
      cons : drop n (files_of R) ≡ file_of (drop q R) ∷ files_from R (q + 1)
      cons = l.rest ∙ each_at file_of h

      here : get_elem? (files_of R) n ≡ some (file_of (drop q R))
      here =
          let z : n + 0 ≡ n = omega arith in
          let y : get_elem? (files_of R) (n + 0) ≡ some (file_of (drop q R)) = sym (at_drop (files_of R) n 0) ∙ ap (λ (x : List File). get_elem? x 0) cons in
          rw z at y

      new : get_or (set w n q) n 0 ≡ q
      new = get_or-set_same w n q 0 i

      old : (j : ℕ) → (j ≡ n → ⊥) → get_or (set w n q) j 0 ≡ get_or w j 0
      old j z = get_or-set_other w n j q 0 z

      at_row : (j : ℕ) → j < n + 1 → Dec (j ≡ n) → get_elem? (files_of R) j ≡ some (file_of (drop (get_or (set w n q) j 0) R))
      at_row j k (yes z) = rw (z, new) here
      at_row j k (no z) = rw (old j z) (l.row j (omega arith))

      at_below : (j : ℕ) → j < n + 1 → Dec (j ≡ n) → get_or (set w n q) j 0 < length R
      at_below j k (yes z) = rw (z, new) h.below
      at_below j k (no z) = rw (old j z) (l.below j (omega arith))

-- ---- the search, from the last file back: none from the j-th on is of the base

pub record Searching (R : List Row) (base n j : ℕ) : Type 0 where
  pub upto : j ≤ n
  pub none : (k : ℕ) (g : File) → j ≤ k → get_elem? (files_of R) k ≡ some g → g.base ≡ base → ⊥

module _ (R : List Row) (w : List ℕ) (base : ℕ) (l : FilesListed R w) (h : 0 < length w) where
  pub search_start : Searching R base (length w) (length w)
  search_start = record { upto = omega arith; none = λ k g i e b. never (sym (l.all h k i) ∙ e) }
    where
      never : {g : File} → none ≡ some g → ⊥
      never e = let z : ◌≡◌ {A = ℕ} 0 1 = cc in omega arith

  module _ {j : ℕ} (s : Searching R base (length w) j) where
    pub search_none : j ≡ 0 → IsFileOf R base None
    search_none e = (newer_counts (files_of R)).unresolved base (λ k f. s.none k f (omega arith))

    module _ (m : 0 < j) {q : ℕ} {r : Row} (at : q ≡ get_or w (j - 1) 0) (is : r ≡ get_or R q blank) where
      file_here : get_elem? (files_of R) (j - 1) ≡ some (file_of (drop q R))
      file_here = rw at (l.row (j - 1) (omega (arith, s.upto)))

      base_here : (front (drop q R)).a ≡ r.a
      base_here = ap (λ (x : Row). x.a) (front_drop R q ∙ sym is)

      pub search_here : r.a ≡ base → IsFileOf R base (Some (record { number = j; row = q + 1 }))
      search_here e =
          let i : j - 1 + 1 ≡ j = omega arith in
          let f = (newer_counts (files_of R)).used base (j - 1) (file_of (drop q R))
          (record { here = file_here; is = base_here ∙ e; last = λ k g a. s.none k g (omega arith) }) in
          f ∙ rw (i, base_here, e, rest_drop R q)

      pub search_next : (r.a ≡ base → ⊥) → Searching R base (length w) (j - 1)
      search_next ne = record { upto = omega (arith, s.upto); none = λ k g a e b. go k g a e b (ℕ_discrete k (j - 1)) }
        where
          go : (k : ℕ) (g : File) → j - 1 ≤ k → get_elem? (files_of R) k ≡ some g → g.base ≡ base → Dec (k ≡ j - 1) → ⊥
          go k g a e b (yes z) =
              let y : get_elem? (files_of R) (j - 1) ≡ some g = rw z at e in
              let x = file_here in
              let v : file_of (drop q R) ≡ g = cc in
              ne (sym base_here ∙ ap (λ (y : File). y.base) v ∙ b)
          go k g a e b (no z) = s.none k g (omega arith) e b
