-- The place after a case's data, if the case is well formed, and the lent words then.
use Rattle.std.specs.Prelude.{Bool, Option, Some, None, ◌&&◌, List, ℕ, ◌+◌, ◌/◌, leb, length}
use Rattle.ast.specs.Choice.{choose}
use Rattle.sheet_rows.specs.declared.row.Row.{Row}
use Rattle.test_vectors.specs.Frame.{rows_read}

-- check: one of the first three forms, and rows that hold the words of the sheet, which fit into those lent
unfoldable pub check_at : List ℕ → ℕ → Row → List ℕ → Option ℕ × List ℕ
check_at input at h w =
    let x = rows_read input at h.c ((h.b + 7) / 8) w in
    choose (leb h.a 2) (choose (leb h.b (length w)) x.0 None, x.1) (None, w)

-- read lines: so many bytes, all in the input; at most 1024 words are lent
unfoldable pub read_at : List ℕ → ℕ → Row → Option ℕ
read_at input at h = choose (leb (at + h.a) (length input) && leb h.b 1024) (Some (at + h.a)) None

-- write lines: rows that hold the words to write, which fit into those lent; at most 4096 bytes are lent
unfoldable pub write_at : List ℕ → ℕ → Row → List ℕ → Option ℕ × List ℕ
write_at input at h w =
    let x = rows_read input at h.c ((h.a + 7) / 8) w in
    (choose (leb h.a (length w) && leb h.b 4096) x.0 None, x.1)

-- the rows of the library, from the place after the root's
abbrev pub lookup_from : List ℕ → Row → Option ℕ → Bool → List ℕ → List ℕ → Option ℕ × List ℕ × List ℕ
lookup_from input h None fits root library = (None, root, library)
lookup_from input h (Some after) fits root library =
    let y = rows_read input after h.g h.b library in
    (choose (fits && leb h.b (length library / 8)) y.0 None, root, y.1)

-- lookup: one of four kinds, and the rows of the root, then those of the library, which fit into the words lent
unfoldable pub lookup_at : List ℕ → ℕ → Row → List ℕ → List ℕ → Option ℕ × List ℕ × List ℕ
lookup_at input at h root library =
    let x = rows_read input at h.f h.a root in
    choose (leb h.d 3) (lookup_from input h x.0 (leb h.a (length root / 8)) x.1 library) (None, root, library)
