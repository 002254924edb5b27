-- The cases, by the tests that led to each return.
use mathlib.Core.Path.{◌≡◌, refl}
use mathlib.Core.Bool.{Bool, true, false, ◌&&◌}
use mathlib.Core.List.{List}
use Rattle.std.specs.Prelude.{Option, Some, None, Ok, Err}
use Prim.Native.Nat.{ℕ, zero, suc, ◌+◌, ◌-◌, ◌/◌, ◌≤◌, ◌<◌}
use native.Mathlib.Omega.{arith}
use borrow.Author.Tests.{le-leb, lt-leb}
use lib.Dec.{leb}
use lib.ListN.{length}
use Rattle.ast.specs.Choice.{choose}
use Rattle.sheet_rows.specs.declared.row.Row.{Row}
use Rattle.sheet_check.specs.declared.grammar.UnknownForm.{UnknownForm}
use Rattle.sheet_check.specs.Grammar.{form_of}
use Rattle.test_vectors.specs.Frame.{rows_read}
use Rattle.test_vectors.specs.Cases.{check_at, read_at, write_at, lookup_at}

-- a number of no form is none of the first three
pub formless : (n : ℕ) {u : UnknownForm} → Err u ≡ form_of n → 2 < n
unfolding form_of
formless zero e = absurd (cc)
formless (suc zero) e = absurd (cc)
formless (suc (suc zero)) e = absurd (cc)
formless (suc (suc (suc n))) e = omega arith

-- none either way
either : (b : Bool) → choose {A = Option ℕ} b None None ≡ None
either true = refl
either false = refl

module _ (input : List ℕ) (at : ℕ) (h : Row) where
  -- ---- check and write lines: rows r, and the words v then

  module _ (w : List ℕ) where
    pub no_form : 2 < h.a → check_at input at h w ≡ (None, w)
    unfolding check_at
    no_form k = rw (lt-leb h.a 2 k)

    module _ (form : h.a ≤ 2) (r : Option ℕ) (v : List ℕ) (e : rows_read input at h.c ((h.b + 7) / 8) w ≡ (r, v)) where
      pub check_bad : r ≡ None → check_at input at h w ≡ (None, v)
      unfolding check_at
      check_bad z = rw (le-leb h.a 2 form, e, z, either (leb h.b (length w)))

      pub check_few : length v ≡ length w → length v < h.b → check_at input at h w ≡ (None, v)
      unfolding check_at
      check_few l k = rw (le-leb h.a 2 form, e, lt-leb h.b (length w) (omega arith))

      pub check_all : length v ≡ length w → h.b ≤ length v → check_at input at h w ≡ (r, v)
      unfolding check_at
      check_all l k = rw (le-leb h.a 2 form, e, le-leb h.b (length w) (omega arith))

    module _ (r : Option ℕ) (v : List ℕ) (e : rows_read input at h.c ((h.a + 7) / 8) w ≡ (r, v)) where
      pub write_bad : r ≡ None → write_at input at h w ≡ (None, v)
      unfolding write_at
      write_bad z = rw (e, z, either (leb h.a (length w) && leb h.b 4096))

      pub write_few : length v ≡ length w → length v < h.a → write_at input at h w ≡ (None, v)
      unfolding write_at
      write_few l k = rw (e, lt-leb h.a (length w) (omega arith))

      pub write_short : length v ≡ length w → h.a ≤ length v → 4096 < h.b → write_at input at h w ≡ (None, v)
      unfolding write_at
      write_short l k m = rw (e, le-leb h.a (length w) (omega arith), lt-leb h.b 4096 m)

      pub write_all : length v ≡ length w → h.a ≤ length v → h.b ≤ 4096 → write_at input at h w ≡ (r, v)
      unfolding write_at
      write_all l k m = rw (e, le-leb h.a (length w) (omega arith), le-leb h.b 4096 m)

  -- ---- read lines

  pub read_far : length input < at → None ≡ read_at input at h
  unfolding read_at
  read_far k = rw (lt-leb (at + h.a) (length input) (omega arith))

  pub read_few : at ≤ length input → length input - at < h.a → None ≡ read_at input at h
  unfolding read_at
  read_few k l = rw (lt-leb (at + h.a) (length input) (omega arith))

  module _ (k : at ≤ length input) (l : h.a ≤ length input - at) where
    pub read_short : 1024 < h.b → None ≡ read_at input at h
    unfolding read_at
    read_short m = rw (le-leb (at + h.a) (length input) (omega arith), lt-leb h.b 1024 m)

    pub read_all : h.b ≤ 1024 → Some (at + h.a) ≡ read_at input at h
    unfolding read_at
    read_all m = rw (le-leb (at + h.a) (length input) (omega arith), le-leb h.b 1024 m)

  -- ---- lookup: the place after the root's rows, and its words v then; the library's s and u

  module _ (root library : List ℕ) where
    pub no_kind : 3 < h.d → lookup_at input at h root library ≡ (None, root, library)
    unfolding lookup_at
    no_kind k = rw (lt-leb h.d 3 k)

    module _ (kind : h.d ≤ 3) (r : Option ℕ) (v : List ℕ) (e : rows_read input at h.f h.a root ≡ (r, v)) where
      pub root_bad : r ≡ None → lookup_at input at h root library ≡ (None, v, library)
      unfolding lookup_at
      root_bad z = rw (le-leb h.d 3 kind, e, z)

      module _ (after : ℕ) (some : r ≡ Some after) (s : Option ℕ) (u : List ℕ) (f : rows_read input after h.g h.b library ≡ (s, u)) where
        pub library_bad : s ≡ None → lookup_at input at h root library ≡ (None, v, u)
        unfolding lookup_at
        library_bad z = rw (le-leb h.d 3 kind, e, some, f, z, either (leb h.a (length root / 8) && leb h.b (length library / 8)))

        module _ (l : length v ≡ length root) where
          pub root_few : length v / 8 < h.a → lookup_at input at h root library ≡ (None, v, u)
          unfolding lookup_at
          root_few k = rw (le-leb h.d 3 kind, e, some, f, lt-leb h.a (length root / 8) (omega arith))

          module _ (k : h.a ≤ length v / 8) (m : length u ≡ length library) where
            pub library_few : length u / 8 < h.b → lookup_at input at h root library ≡ (None, v, u)
            unfolding lookup_at
            library_few n = rw (le-leb h.d 3 kind, e, some, f, le-leb h.a (length root / 8) (omega arith), lt-leb h.b (length library / 8) (omega arith))

            pub lookup_all : h.b ≤ length u / 8 → lookup_at input at h root library ≡ (s, v, u)
            unfolding lookup_at
            lookup_all n = rw (le-leb h.d 3 kind, e, some, f, le-leb h.a (length root / 8) (omega arith), le-leb h.b (length library / 8) (omega arith))
