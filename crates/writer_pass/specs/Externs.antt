-- The rows of a declared extern, read from the sheet that declares it.
use Rattle.std.specs.Prelude.{Bool, List, [], ◌∷◌, ℕ, suc, eqb}
use Rattle.sheet_rows.specs.declared.row.Row.{Row}
use Rattle.sheet_rows.specs.declared.part.Part.{Part}
use Rattle.sheet_rows.specs.Rows.{front}
use Rattle.sheet_rows.specs.Parse.{kind_of, elements, extern_proto_of}
use Rattle.sheet_rows.specs.Print.{row, mark, extern_proto_rows}
use Rattle.ast.specs.Choice.{choose}
use Rattle.pick_definition.specs.Mark.{url_by}
use Rattle.expansion_definition.specs.Externs.{declared}

-- a url's row, or an interface's of class 0
abbrev pub declared_row : Part → Bool → Row → Row
declared_row t used r = choose (eqb (kind_of t) 10) (row 10 r.a r.b (mark used) 0 0 0 0) (row 4 r.a r.b r.c r.d 0 0 0)

-- those of a part, of which the n-th is to be the first; the url whose number is a mark is marked, the numbers being from 1
unfoldable pub declared_from : Part → ℕ → ℕ → List (List Row) → List Row
declared_from t m n [] = []
declared_from t m n (x ∷ l) = declared_row t (eqb (suc n) m) (front x) ∷ declared_from t m (suc n) l

abbrev pub declared_rows : Part → ℕ → List Row → List Row
declared_rows t m l = declared_from t m 0 (elements t l)

-- the rows of the extern that rows l declare
abbrev pub extern_rows_of : ℕ → List Row → List Row
extern_rows_of m l = extern_proto_rows (declared (url_by m) (extern_proto_of l))
