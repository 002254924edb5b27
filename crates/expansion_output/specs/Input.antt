-- An input whose sheets fit and whose limits are within their caps: what refusals 1 to 3 let by.
use Rattle.std.specs.Prelude.{false, ℕ, ◌≤◌}
use Rattle.std.proofs.Math.Option.{Option, none, some}
use Rattle.ast.specs.Ast.{Document, Node}
use Rattle.ast.specs.Each.{Each}
use Rattle.sheet_roundtrip.specs.Ranges.{IsName, InRange, FileInRange}
use Rattle.expansion_definition.specs.Input.{Input}

-- An interface's IS target is the interface name of an association: a name. Of words, every target that is present is one.
abbrev pub IsTarget : Option ℕ → Type 0
IsTarget none = Unit {0}
IsTarget (some t) = IsName t

abbrev pub NodeTargets : Node → Type 0
NodeTargets x = Each (λ d. IsTarget d.is) x.interface

abbrev pub Targets : Document → Type 0
Targets x = Each NodeTargets x.nodes

pub record InputInRange (I : Input) : Type 0 where
  pub root : InRange false I.root
  pub root_targets : Targets I.root
  pub library : Each FileInRange I.library
  pub library_targets : Each (λ f. Targets f.document) I.library
  pub max_nodes : I.limits.max_nodes ≤ 4000000
  pub max_rows : I.limits.max_rows ≤ 16777216
