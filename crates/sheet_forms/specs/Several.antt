-- The words of the theorems about several documents in one sheet, and about protos alone.
use Rattle.std.specs.Prelude.{◌≡◌, List, []}
use Rattle.ast.specs.Ast.{ProtoDecl}
use Rattle.ast.specs.Lists.{flat}
use Rattle.sheet_rows.specs.declared.row.Row.{Row}

-- "Documents stand one after another in one sheet" (document 02, wish 5)
abbrev pub joined : List (List Row) → List Row
joined L = flat (λ x. x) L

-- "without body statements" (document 02, wish 14)
abbrev pub Bodiless : ProtoDecl → Type 0
Bodiless x = x.body ≡ []
