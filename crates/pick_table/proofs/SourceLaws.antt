-- The walk over the library's files for that of a base.
use mathlib.Core.Path.{◌≡◌, sym, ap, ◌∙◌}
use mathlib.Core.List.{List, [], map}
use mathlib.Core.Option.{Option, none, some}
use Prim.Native.Nat.{ℕ, suc, ◌+◌, ◌≤◌, ◌<◌}
use native.Mathlib.Omega.{arith}
use native.Mathlib.Numerals.{add-one}
use lib.ListN.{length, get_or, drop}
use lib.Dec.{eqb}
use borrow.Author.Tests.{eq-eqb, ne_eqb}
use Rattle.std.specs.Prelude.{Option as Maybe, Some, None}
use Rattle.ast.specs.Ast.{File}
use Rattle.ast.specs.Choice.{choose, or_else}
use Rattle.sheet_rows.specs.declared.row.Row.{Row}
use Rattle.sheet_rows.specs.declared.part.Part.TheVariants.{Files}
use Rattle.sheet_rows.specs.Rows.{blank, front}
use Rattle.sheet_rows.specs.Parse.{elements, file_of, files_of}
use Rattle.sheet_lookup.specs.Lookup.{document_at}
use Rattle.sheet_walks.specs.Walk.{Stands}
use Rattle.sheet_walks.proofs.WalkLaws.{each_at, each_none, front_drop, rest_drop}
use Rattle.pick_table.specs.declared.table.Source.{Source}
use Rattle.pick_definition.specs.Picks.{library_file}
use Rattle.pick_table.specs.Table.{file_at, IsFileOf}
use Rattle.ast.proofs.OptionLaws.{or_assoc, or_none_lem}

-- the files from a row on
abbrev pub files_from : List Row → ℕ → List File
files_from R p = map file_of (elements Files (drop p R))

-- the file of the base among those from row `at` on, or else the best so far, is that of all; the next file has a number
pub record Seeking (R : List Row) (base : ℕ) (best : Maybe Source) (number at : ℕ) : Type 0 where
  pub is : library_file base 1 (files_of R) ≡ or_else (library_file base number (files_from R at)) (file_at R base best)
  pub from : 0 < number
  pub ahead : number ≤ at + 1
  pub upto : at ≤ length R

module _ (R : List Row) (base : ℕ) where
  -- the walk begins at the first file, number 1
  pub seek_start : Seeking R base None 1 0
  unfolding files_of
  seek_start = record { is = sym (or_none_lem (library_file base 1 (files_from R 0))); from = omega arith; ahead = omega arith; upto = omega arith }

  module _ {best : Maybe Source} {number at : ℕ} (s : Seeking R base best number at) where
    -- no file is left
    pub seek_none : elements Files (drop at R) ≡ [] → IsFileOf R base best
    unfolding library_file
    seek_none e = s.is ∙ rw (each_none file_of Files R at e)

    module _ {q : ℕ} {r : Row} (h : Stands Files R at q) (is : r ≡ get_or R q blank) where
      base_at : (front (drop q R)).a ≡ r.a
      base_at = ap (λ (x : Row). x.a) (front_drop R q ∙ sym is)

      abbrev next : Option (ℕ × File)
      next = choose (eqb r.a base) (some (number, record { base = r.a; document = document_at R (q + 1) })) none

      -- the next file comes before the best so far, and after all that follow it
      one : library_file base 1 (files_of R) ≡ or_else (library_file base (number + 1) (files_from R (q + 1))) (or_else next (file_at R base best))
      unfolding library_file
      one =
          s.is ∙ rw (each_at file_of h, base_at, rest_drop R q, add-one number)
          (or_assoc (library_file base (suc number) (files_from R (q + 1))) next (file_at R base best))

      more : (b : Maybe Source) → library_file base 1 (files_of R) ≡ or_else (library_file base (number + 1) (files_from R (q + 1))) (file_at R base b) → Seeking R base b (number + 1) (q + 1)
      more b e = record { is = e; from = omega arith; ahead = omega (arith, h.from); upto = omega (arith, h.below) }

      -- the next file is of the base
      pub seek_here : r.a ≡ base → Seeking R base (Some (record { number = number; row = q + 1 })) (number + 1) (q + 1)
      seek_here e = more _ (one ∙ rw (eq-eqb r.a base e, e))

      -- it is of another
      pub seek_next : (r.a ≡ base → ⊥) → Seeking R base best (number + 1) (q + 1)
      seek_next n = more _ (one ∙ rw (ne_eqb r.a base n))
