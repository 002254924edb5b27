-- Copy (document 01, Copy: `copy`): "copying a node, instantiating and copying a value call each other".
-- Each function takes the copier of one depth less; only copy recurses.
use Rattle.std.proofs.Math.Option.{Option, none, some}
use Rattle.std.specs.Prelude.{ℕ, zero, suc}
use Rattle.ast.specs.Ast.{Node}
use Rattle.ast.specs.Lookups.{node_at, proto_at}
use Rattle.pick_definition.specs.Picks.{Prototype}
use Rattle.expansion_definition.specs.Input.{Input, docs, proto_of_origin}
use Rattle.expansion_definition.specs.State.{Comp, ret, fail, lookup}
use Rattle.expansion_definition.specs.Values.{Env, src, Copier}
use Rattle.expansion_definition.specs.PlainCopy.{copy_plain}
use Rattle.expansion_definition.specs.Instances.{instantiate}

-- a plain node, or an instance of the PROTO p
unfoldable pub copy_node : Input → (Env → Copier) → Env → ℕ → Node → Option Prototype → Comp ℕ
copy_node I f env i node none = copy_plain I (f env) env i node
copy_node I f env i node (some p) = instantiate I f env i node p (proto_at (docs I) p.document p.proto)

-- "A mapped id answers its copy; else 5"; then next, of the node
unfoldable pub mapped_or : Env → ℕ → (Node → Comp ℕ) → Option ℕ → Option Node → Comp ℕ
mapped_or env i next (some o) _ = ret o
mapped_or env i next none none = fail 5 (src env) i
mapped_or env i next none (some node) = next node

-- "depth + 1 over D gives 9": the first number is the depth that is left
unfoldable pub copy : Input → ℕ → Env → Copier
copy I zero env i st = mapped_or env i (λ node. fail 9 0 0) (lookup st.world.map env.scope i) (node_at (docs I) (src env) i) st
copy I (suc left) env i st =
    mapped_or env i (λ node. copy_node I (copy I left) env i node (proto_of_origin I (src env) node.origin)) (lookup st.world.map env.scope i) (node_at (docs I) (src env) i) st
