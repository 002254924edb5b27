-- The expanded document (document 01, Sheets). What is read of rows is `stays_expanded` in checker's Grammar; the two are proved to agree (roundtrip).
-- "An expanded document is a root sheet without kind 7, Proto statements or origin Proto, whose nodes hold only Route and ExternProto statements and whose interfaces with an IS have class 0."
use Rattle.std.specs.Prelude.{◌≡◌, [], ℕ}
use Rattle.std.proofs.Math.Option.{none, some}
use Rattle.ast.specs.Ast.{InterfaceDecl, Statement, NodeOrigin, Node, Document}
use Rattle.ast.specs.Each.{Each}

-- no Proto statement
abbrev pub TopKept : Statement → Type 0
TopKept (Statement.Node i) = Unit {0}
TopKept (Statement.Proto i) = ⊥
TopKept (Statement.ExternProto i) = Unit {0}
TopKept (Statement.Route x) = Unit {0}
TopKept (Statement.Other p) = Unit {0}

-- in a node only Route and ExternProto
abbrev pub InnerKept : Statement → Type 0
InnerKept (Statement.Node i) = ⊥
InnerKept (Statement.Proto i) = ⊥
InnerKept (Statement.ExternProto i) = Unit {0}
InnerKept (Statement.Route x) = Unit {0}
InnerKept (Statement.Other p) = ⊥

abbrev pub OriginKept : NodeOrigin → Type 0
OriginKept NodeOrigin.Builtin = Unit {0}
OriginKept (NodeOrigin.Proto i) = ⊥
OriginKept (NodeOrigin.ExternProto i) = Unit {0}
OriginKept NodeOrigin.Unknown = Unit {0}

-- with an IS, class 0
abbrev pub InterfaceKept : InterfaceDecl → Type 0
InterfaceKept x = (t : ℕ) → x.is ≡ some t → x.value ≡ none

pub record NodeKept (x : Node) : Type 0 where
  pub origin : OriginKept x.origin
  pub interface : Each InterfaceKept x.interface
  pub statements : Each InnerKept x.statements

pub record IsExpanded (x : Document) : Type 0 where
  pub nodes : Each NodeKept x.nodes
  pub protos : x.protos ≡ []
  pub extern_protos : Each (λ e. Each InterfaceKept e.interface) x.extern_protos
  pub statements : Each TopKept x.statements
