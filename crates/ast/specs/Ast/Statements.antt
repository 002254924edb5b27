-- Statements of a document's top, of a PROTO's body, of a node.
use Rattle.std.specs.Prelude.{ℕ}
use Rattle.ast.specs.Ast.Values

-- Other: a statement that the expansion carries unread
pub data Statement : Type 0 where
  Node : ℕ → Statement
  Proto : ℕ → Statement
  ExternProto : ℕ → Statement
  Route : Values.Route → Statement
  Other : ℕ → Statement
