-- Where a document begins: the root's at row 0 of the root sheet, a file's at the row after its own in the library.
use mathlib.Core.Path.{◌≡◌, refl, sym, ap, ◌∙◌}
use mathlib.Core.List.{List, [], ◌∷◌, map}
use mathlib.Core.Option.{Option, none, some}
use Prim.Native.Nat.{ℕ, zero, suc, ◌+◌, ◌-◌, ◌<◌}
use native.Mathlib.Omega.{arith}
use lib.ListN.{drop, get_elem?}
use borrow.Author.Tests.{ne_eqb}
use Rattle.ast.specs.Ast.{Document}
use Rattle.ast.specs.Choice.{and_then, map_o}
use Rattle.sheet_rows.specs.declared.row.Row.{Row}
use Rattle.sheet_rows.specs.declared.part.Part.{Part}
use Rattle.sheet_rows.specs.declared.part.Part.TheVariants.{Files}
use Rattle.sheet_rows.specs.Rows.{rows, rest}
use Rattle.sheet_rows.specs.Parse.{elements, document_of, file_of, files_of}
use Rattle.sheet_walks.specs.declared.walk.Found.{Found}
use Rattle.sheet_walks.specs.declared.walk.Found.TheVariants.{At, Nothing}
use Rattle.sheet_walks.specs.Walk.{Nth, Child, rows_at}
use Rattle.sheet_lookup.specs.Lookup.{sheet_of, root_and_files, document_at, Begins, Looked, Located}
use Rattle.sheet_walks.proofs.WalkLaws.{at_map, rest_drop}

-- document 0 is the root's
pub begins_root : (library : List ℕ) → Begins library 0 (At 0)
unfolding root_and_files
begins_root library root = refl

each_document : (l : List (List Row)) → map (λ f. f.document) (map file_of l) ≡ map (λ (x : List Row). document_of (rest x)) l
each_document [] = refl
each_document (x ∷ l) = ap (◌∷◌ (document_of (rest x))) (each_document l)

-- document k + 1 is read after the row of the k-th file, from 0
file_document : (root library : List ℕ) (k : ℕ) → get_elem? (root_and_files root library) (suc k) ≡ map_o (λ x. document_of (rest x)) (get_elem? (elements Files (rows library)) k)
unfolding root_and_files files_of
file_document root library k =
    ap (λ (l : List Document). get_elem? l k) (each_document (elements Files (rows library))) ∙ at_map (λ x. document_of (rest x)) (elements Files (rows library)) k

-- the row after a found file, or nothing
abbrev pub after_file : Found → Found
after_file (At q) = At (q + 1)
after_file Nothing = Nothing

after : (R : List Row) (x : Found) → map_o (λ l. document_of (rest l)) (rows_at R x) ≡ map_o document_of (rows_at R (after_file x))
after R (At q) = ap (λ (l : List Row). some (document_of l)) (rest_drop R q)
after R Nothing = refl

-- what the walk over the files has found
pub begins_file : (library : List ℕ) (doc : ℕ) (x y : Found) → 0 < doc → Nth Files (rows library) 0 (doc - 1) x → y ≡ after_file x → Begins library doc y
begins_file library zero x y h s e root = absurd (omega arith)
begins_file library (suc k) x y h s e root =
    let z : suc k - 1 ≡ k = omega arith in
    let s' : Nth Files (rows library) 0 k x = rw z at s in
    rw (ne_eqb (suc k) 0 (λ z. omega arith))
    (file_document root library k ∙ ap (map_o (λ l. document_of (rest l))) s'.is ∙ after (rows library) x ∙ ap (λ (f : Found). map_o document_of (rows_at (rows library) f)) (sym e))

-- ---- a lookup in the document that begins at a row is one in the document of that number; g is the group of ids

module _ {A : Type 0} (f : List Row → A) (g : Document → List A) (root library : List ℕ) (doc id : ℕ) where
  abbrev R : List Row
  R = rows (sheet_of root library doc)

  abbrev wanted : Option A
  wanted = and_then (get_elem? (root_and_files root library) doc) (λ x. get_elem? (g x) id)

  pub located : {d x : Found} (p : ℕ) → Begins library doc d → d ≡ At p → Looked f (g (document_at R p)) R id x → Located f wanted R x
  located p b e s =
      let z : get_elem? (root_and_files root library) doc ≡ some (document_at R p) = b root ∙ ap (λ (y : Found). map_o document_of (rows_at R y)) e in
      record { is = rw z s.is; below = s.below }

  pub unlocated : {d : Found} → Begins library doc d → d ≡ Nothing → Located f wanted R Nothing
  unlocated b e =
      let z : get_elem? (root_and_files root library) doc ≡ none = b root ∙ ap (λ (y : Found). map_o document_of (rows_at R y)) e in
      record { is = rw z; below = tt }

-- a lookup among what is read at the elements of a part
pub looked : {A : Type 0} (f : List Row → A) (t : Part) (R : List Row) (p n : ℕ) {x : Found} {l : List A} → l ≡ map f (elements t (rest (drop p R))) → Child t R p n x → Looked f l R n x
looked f t R p n e s = rw e (record { is = at_map f (elements t (rest (drop p R))) n ∙ ap (map_o f) s.is; below = s.below })
