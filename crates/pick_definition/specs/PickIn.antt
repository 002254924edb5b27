-- The pick within a file (document 01, Modules: Picks): a top-level Proto statement of its document.
use Rattle.std.specs.Prelude.{Bool, false, List, [], ◌∷◌, ℕ, eqb}
use Rattle.std.proofs.Math.Option.{Option, none, some}
use Rattle.std.proofs.Math.ListN.{get_elem?}
use Rattle.ast.specs.Ast.{Statement, ProtoDecl, Document}
use Rattle.ast.specs.Choice.{choose, first}

-- the ids of the top-level Proto statements, in order
unfoldable pub top_protos : List Statement → List ℕ
top_protos [] = []
top_protos (Statement.Node i ∷ l) = top_protos l
top_protos (Statement.Proto p ∷ l) = p ∷ top_protos l
top_protos (Statement.ExternProto x ∷ l) = top_protos l
top_protos (Statement.Route r ∷ l) = top_protos l
top_protos (Statement.Other p ∷ l) = top_protos l

-- a dangling id has no name
abbrev pub is_named : ℕ → Option ProtoDecl → Bool
is_named name none = false
is_named name (some d) = eqb d.name name

unfoldable pub first_named : Document → ℕ → List ℕ → Option ℕ
first_named file name [] = none
first_named file name (p ∷ l) = choose (is_named name (get_elem? file.protos p)) (some p) (first_named file name l)

-- "With a fragment, the first top-level Proto of that name; without, the first top-level Proto, dangling or not."
unfoldable pub pick_in : Document → Option ℕ → Option ℕ
pick_in file none = first (top_protos file.statements)
pick_in file (some name) = first_named file name (top_protos file.statements)
