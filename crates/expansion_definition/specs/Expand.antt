-- Expand over parsed documents (document 01, What each operation says no to, from refusal 4 on).
use Rattle.std.specs.Prelude.{List, [], map, ℕ, length, get_or}
use Rattle.std.proofs.Math.Option.{Option, none, some}
use Rattle.ast.specs.Ast.{Statement, Document}
use Rattle.expansion_definition.specs.Input.{Input}
use Rattle.expansion_definition.specs.Scopes.{Scope, scope_document}
use Rattle.expansion_definition.specs.State.{State, Result, refusal, ok, Comp, ◌>>=◌, ◌>>◌, ret, map_m, start_state}
use Rattle.expansion_definition.specs.Charges.{charge, paid}
use Rattle.expansion_definition.specs.Values.{Env, Copier}
use Rattle.expansion_definition.specs.PlainCopy.{copy_route, copy_extern, somes}
use Rattle.expansion_definition.specs.Instances.{open_scope}
use Rattle.expansion_definition.specs.Copy.{copy}

-- ---- the top

-- "Top statements lose Proto."; charged: a kept "statement"
unfoldable pub statement : Input → Copier → Env → Statement → Comp (Option Statement)
statement I c env (Statement.Node i) = do
  o ← paid I (c i)
  ret (some (Statement.Node o))
statement I c env (Statement.Proto p) = ret none
statement I c env (Statement.ExternProto x) = copy_extern I env x
statement I c env (Statement.Route r) = copy_route I env r
statement I c env (Statement.Other p) = paid I (ret (some (Statement.Other p)))

-- "Scope 0 is the root file."
abbrev pub root_env : Env
root_env = record { scope = 0; entry = Scope.Root; is_values = none }

-- charged: "at the start three (document, top, scope 0)"
unfoldable pub statements : Input → Comp (List Statement)
statements I = do
  charge I
  charge I
  open_scope I Scope.Root
  l ← map_m (statement I (copy I I.limits.max_depth root_env) root_env) I.root.statements
  ret (somes l)

-- ---- the answer

-- "The ledger has, per output node: scope, document, source id."
pub record LedgerEntry : Type 0 where
  pub scope : ℕ
  pub document : ℕ
  pub source : ℕ

abbrev pub ledger_entry : List Scope → ℕ × ℕ → LedgerEntry
ledger_entry scopes x = record { scope = x.0; document = scope_document (get_or scopes x.0 Scope.Root); source = x.1 }

-- the output, the ledger in the output's order, the scopes in the order opened, and the counts
pub record Expansion : Type 0 where
  pub document : Document
  pub ledger : List LedgerEntry
  pub scopes : List Scope
  pub node_count : ℕ
  pub scope_count : ℕ
  pub charges : ℕ

pub data Answer : Type 0 where
  Refused : ℕ → ℕ → ℕ → Answer
  Expanded : Expansion → Answer

abbrev pub output : Input → List Statement → State → Document
output I l st = record { header = I.root.header; nodes = st.nodes; protos = []; extern_protos = st.extern_protos; statements = l }

abbrev pub expansion : Input → List Statement → State → Expansion
expansion I l st = record { document = output I l st; ledger = map (ledger_entry st.world.scopes) st.world.ledger; scopes = st.world.scopes; node_count = length st.nodes; scope_count = length st.world.scopes; charges = st.charges }

unfoldable pub answer : Input → Result (List Statement) → Answer
answer I (refusal c d i) = Answer.Refused c d i
answer I (ok l st) = Answer.Expanded (expansion I l st)

unfoldable pub expand : Input → Answer
expand I = answer I (statements I start_state)
