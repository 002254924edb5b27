-- Worked examples of refusals and limits, computed: each limit from 0 on, and the answer.
-- A list of numbers is a refusal with its places, or 0, nodes, scopes, body scopes, charges.
use Rattle.std.specs.Prelude.{◌≡◌, refl, List, [], ◌∷◌, map, ℕ}
use Rattle.std.proofs.Math.Option.{none, some}
use Rattle.ast.specs.Ast.{NodeOrigin, Statement, Node}
use Rattle.expansion_definition.specs.Input.{Input}
use Rattle.expansion_definition.specs.Expand.{expand}
use Rattle.expansion_definition.specs.Expanded.{with_rows}
use Rattle.expansion_definition.specs.Scenes.{ids, field_with, interface, leaf, group, instance_of_proto, proto, limits, usual, scene, counts, seen, computed}

-- a group of a leaf and of an id that leads nowhere, behind a leaf; and the same without that id
abbrev broken : Input
broken = scene usual (leaf ∷ group (2 ∷ 9 ∷ []) ∷ leaf ∷ []) [] (Statement.Node 0 ∷ Statement.Node 1 ∷ [])

abbrev whole : Input
whole = scene usual (leaf ∷ group (2 ∷ []) ∷ leaf ∷ []) [] (Statement.Node 0 ∷ Statement.Node 1 ∷ [])

abbrev with_limit : (ℕ → Input) → List ℕ → List (List ℕ)
with_limit I ks = map (λ k. counts (expand (I k))) ks

-- 13 rows are needed: 10 with 12, and the same expansion from 13 on; its charges are 13
rows_of_whole : with_limit (λ k. with_rows k whole) (0 ∷ 3 ∷ 12 ∷ 13 ∷ 14 ∷ 400 ∷ []) ≡ ((10 ∷ 0 ∷ 0 ∷ []) ∷ (10 ∷ 0 ∷ 0 ∷ []) ∷ (10 ∷ 0 ∷ 0 ∷ []) ∷ (0 ∷ 3 ∷ 1 ∷ 0 ∷ 13 ∷ []) ∷ (0 ∷ 3 ∷ 1 ∷ 0 ∷ 13 ∷ []) ∷ (0 ∷ 3 ∷ 1 ∷ 0 ∷ 13 ∷ []) ∷ [])
unfolding computed
rows_of_whole = refl

-- 11 rows are needed to come to the 5
rows_of_broken : with_limit (λ k. with_rows k broken) (0 ∷ 10 ∷ 11 ∷ 12 ∷ 400 ∷ []) ≡ ((10 ∷ 0 ∷ 0 ∷ []) ∷ (10 ∷ 0 ∷ 0 ∷ []) ∷ (5 ∷ 0 ∷ 9 ∷ []) ∷ (5 ∷ 0 ∷ 9 ∷ []) ∷ (5 ∷ 0 ∷ 9 ∷ []) ∷ [])
unfolding computed
rows_of_broken = refl

-- the group and its leaf are open at once: 9 while fewer may be; where none may, already at the first
depths : with_limit (λ k. scene (limits 400 k 400) (group (1 ∷ []) ∷ leaf ∷ []) [] (Statement.Node 0 ∷ [])) (0 ∷ 1 ∷ 2 ∷ 3 ∷ []) ≡ ((9 ∷ 0 ∷ 0 ∷ []) ∷ (9 ∷ 0 ∷ 0 ∷ []) ∷ (0 ∷ 2 ∷ 1 ∷ 0 ∷ 10 ∷ []) ∷ (0 ∷ 2 ∷ 1 ∷ 0 ∷ 10 ∷ []) ∷ [])
unfolding computed
depths = refl

-- at the limit of depth an id that leads nowhere is 5, not 9
lost_before_deep : with_limit (λ k. scene (limits 400 k 400) (group (9 ∷ []) ∷ []) [] (Statement.Node 0 ∷ [])) (0 ∷ 1 ∷ []) ≡ ((9 ∷ 0 ∷ 0 ∷ []) ∷ (5 ∷ 0 ∷ 9 ∷ []) ∷ [])
unfolding computed
lost_before_deep = refl

-- three nodes: 8 while fewer may be there
nodes : with_limit (λ k. scene (limits k 64 400) (leaf ∷ group (2 ∷ []) ∷ leaf ∷ []) [] (Statement.Node 0 ∷ Statement.Node 1 ∷ [])) (0 ∷ 1 ∷ 2 ∷ 3 ∷ 4 ∷ []) ≡ ((8 ∷ 0 ∷ 0 ∷ []) ∷ (8 ∷ 0 ∷ 0 ∷ []) ∷ (8 ∷ 0 ∷ 0 ∷ []) ∷ (0 ∷ 3 ∷ 1 ∷ 0 ∷ 13 ∷ []) ∷ (0 ∷ 3 ∷ 1 ∷ 0 ∷ 13 ∷ []) ∷ [])
unfolding computed
nodes = refl

-- ---- entry k of the ledger is output node k's

abbrev typed : ℕ → List ℕ → Node
typed t l = record { type_name = t; def_name = none; origin = NodeOrigin.Builtin; fields = field_with 1 (ids l) ∷ []; interface = []; statements = []; body_order = []; instance = none }

-- of type 11 to 13; node 3 is an instance of a PROTO with the body 1 and a default 2
abbrev mixed : Input
mixed = scene usual (typed 11 (1 ∷ []) ∷ typed 12 [] ∷ typed 13 [] ∷ instance_of_proto 0 [] ∷ []) (proto (interface 1 (some (ids (2 ∷ []))) ∷ []) (Statement.Node 1 ∷ []) ∷ []) (Statement.Node 0 ∷ Statement.Node 3 ∷ [])

-- the top's group and its child; the default's node; the body's
in_order : (seen (λ e. map (λ x. x.type_name) e.document.nodes) (expand mixed) ≡ some (11 ∷ 12 ∷ 13 ∷ 12 ∷ [])) × (seen (λ e. map (λ x. x.scope ∷ x.source ∷ []) e.ledger) (expand mixed) ≡ some ((0 ∷ 0 ∷ []) ∷ (0 ∷ 1 ∷ []) ∷ (1 ∷ 2 ∷ []) ∷ (2 ∷ 1 ∷ []) ∷ []))
unfolding computed
in_order = (refl, refl)
