-- Flights to prove (document 01): ten inputs and their answers, one equation by computation.
use Rattle.std.specs.Prelude.{◌≡◌, refl, List, [], ◌∷◌, map, ℕ}
use Rattle.std.proofs.Math.Option.{none, some}
use Rattle.ast.specs.Ast.{Statement}
use Rattle.expansion_definition.specs.Input.{Input}
use Rattle.expansion_definition.specs.Expand.{expand}
use Rattle.expansion_definition.specs.Scenes.{ids, field_with, interface, leaf, group, instance_of_proto, proto, document, limits, usual, scene, counts, seen, computed}

-- "Instance I, its body one plain node, whose given field holds plain P, whose child is I": I is node 0, P node 1; s is what the top mentions
abbrev loop : ℕ → Input
loop s = scene usual (instance_of_proto 0 (field_with 1 (ids (1 ∷ [])) ∷ []) ∷ group (0 ∷ []) ∷ leaf ∷ []) (proto (interface 1 none ∷ []) (Statement.Node 2 ∷ []) ∷ []) (Statement.Node s ∷ [])

abbrev pub flights : List Input
flights =
    -- "No statements: 0 nodes, 1 scope."
    scene usual [] [] []
    -- "One plain node, N = 0: 8; D = 0, N = 0: 9."
    ∷ scene (limits 0 64 400) (leaf ∷ []) [] (Statement.Node 0 ∷ [])
    ∷ scene (limits 0 0 400) (leaf ∷ []) [] (Statement.Node 0 ∷ [])
    -- "Three nested, D = 2: 9."
    ∷ scene (limits 400 2 400) (group (1 ∷ []) ∷ group (2 ∷ []) ∷ leaf ∷ []) [] (Statement.Node 0 ∷ [])
    -- "One node mentioned twice: 1 node."
    ∷ scene usual (leaf ∷ []) [] (Statement.Node 0 ∷ Statement.Node 0 ∷ [])
    -- "One instance mentioned twice: 1 body scope. Two instances of it: 2."
    ∷ scene usual (instance_of_proto 0 [] ∷ leaf ∷ []) (proto [] (Statement.Node 1 ∷ []) ∷ []) (Statement.Node 0 ∷ Statement.Node 0 ∷ [])
    ∷ scene usual (instance_of_proto 0 [] ∷ leaf ∷ instance_of_proto 0 [] ∷ []) (proto [] (Statement.Node 1 ∷ []) ∷ []) (Statement.Node 0 ∷ Statement.Node 2 ∷ [])
    -- "from I 3 nodes, 2 body scopes; from P 2 nodes, 1 body scope."
    ∷ loop 0
    ∷ loop 1
    -- "A body without Node: 7."
    ∷ scene usual (instance_of_proto 0 [] ∷ []) (proto [] [] ∷ []) (Statement.Node 0 ∷ [])
    ∷ []

-- The number and the places of a refusal; or 0, nodes, scopes, body scopes, charges.
pub the_ten_flights :
    map (λ I. counts (expand I)) flights
    ≡ (
    (0 ∷ 0 ∷ 1 ∷ 0 ∷ 3 ∷ [])
    ∷ (8 ∷ 0 ∷ 0 ∷ [])
    ∷ (9 ∷ 0 ∷ 0 ∷ [])
    ∷ (9 ∷ 0 ∷ 0 ∷ [])
    ∷ (0 ∷ 1 ∷ 1 ∷ 0 ∷ 7 ∷ [])
    ∷ (0 ∷ 1 ∷ 2 ∷ 1 ∷ 10 ∷ [])
    ∷ (0 ∷ 2 ∷ 3 ∷ 2 ∷ 15 ∷ [])
    ∷ (0 ∷ 3 ∷ 3 ∷ 2 ∷ 22 ∷ [])
    ∷ (0 ∷ 2 ∷ 2 ∷ 1 ∷ 15 ∷ [])
    ∷ (7 ∷ 0 ∷ 0 ∷ [])
    ∷ []
    )
unfolding computed
the_ten_flights = refl

-- the program's input: rows `1 5`, `2 7 4294967295`, `11`, `5`
abbrev example : Input
example = scene usual (leaf ∷ []) [] (Statement.Node 0 ∷ [])

-- It gives `0 0 0 0 1 1 6 0` and the same four rows.
pub the_program's_example : (counts (expand example) ≡ (0 ∷ 1 ∷ 1 ∷ 0 ∷ 6 ∷ [])) × (seen (λ e. e.document) (expand example) ≡ some example.root)
unfolding computed
the_program's_example = (refl, refl)
