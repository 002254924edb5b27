-- The charges of small scenes, taken apart as `Counted` counts them: one equation by computation.
use Rattle.std.specs.Prelude.{◌≡◌, refl, false, ◌⊎◌, ℕ, ◌+◌}
use Rattle.std.proofs.Common.{ap, inl, inr, arith}
use mathlib.Core.List.Memᴰ
use mathlib.Core.List.{List, [], ◌∷◌, map, Memᴰ}
use Rattle.std.proofs.Math.Option.{Option, none, some}
use Rattle.ast.specs.Ast.{NodeOrigin, BodyElement, Field, InterfaceDecl, Statement, Node}
use Rattle.expansion_steps.specs.Steps.{plain_step, instance_step, no_action, then_copy, World, WholeRun}
use Rattle.expansion_definition.specs.Input.{Input}
use Rattle.expansion_definition.specs.Scopes.{Scope}
use Rattle.expansion_definition.specs.State.{State}
use Rattle.expansion_definition.specs.PlainCopy.{blank_node}
use Rattle.expansion_definition.specs.Expand.{expand}
use Rattle.expansion_definition.specs.Outputs.{sum_of}
use Rattle.expansion_definition.specs.Reached.{Known, body_scope, graph}
use Rattle.expansion_definition.specs.Counted.{of_output, of_scope, of_run, counted, held}
use Rattle.expansion_definition.specs.Until.{ids_first, plain_first, in_field, five, in_plain, OpenTop, in_node}
use Rattle.expansion_definition.specs.Scenes.{ids, number_value, field_with, field_is, interface, interface_is, route, node, leaf, plain, instance_of_proto, proto, document, limits, usual, scene, counts, seen, computed}

-- the charges; of them those that the output and the scope list show. The rest are the run's.
abbrev apart : Input → Option (List ℕ)
apart I = seen (λ e. e.charges ∷ of_output e.document ∷ sum_of (of_scope I) e.scopes ∷ []) (expand I)

-- ---- plain nodes

-- a plain node, mentioned at the top
abbrev one : Node → Input
one x = scene usual (x ∷ leaf ∷ []) [] (Statement.Node 0 ∷ [])

-- an extern with an interface and two urls; a node of it, mentioned in its own statements too
abbrev declared : Input
declared = record {
  root = document (record { type_name = 7; def_name = none; origin = NodeOrigin.ExternProto 0; fields = []; interface = []; statements = Statement.ExternProto 0 ∷ []; body_order = []; instance = none } ∷ []) [] (record { name = 6; interface = interface 1 none ∷ []; urls = record { base = 20; fragment = none; used = false } ∷ record { base = 21; fragment = none; used = false } ∷ [] } ∷ []) (Statement.Node 0 ∷ []);
  library = [];
  limits = usual;
}

-- ---- instances: node 0, of PROTO 0, mentioned at the top; nodes 1 and 2 are leaves

abbrev instanced : List Field → List InterfaceDecl → List Statement → Input
instanced fs is body = scene usual (instance_of_proto 0 fs ∷ leaf ∷ leaf ∷ plain (field_is 5 1 ∷ []) (interface_is 6 1 none ∷ []) [] [] ∷ instance_of_proto 1 (field_is 1 1 ∷ []) ∷ []) (proto is body ∷ proto (interface 1 none ∷ []) (Statement.Node 1 ∷ Statement.Node 2 ∷ route none none ∷ []) ∷ []) (Statement.Node 0 ∷ [])

abbrev scenes : List Input
scenes =
    -- nothing: "at the start three (document, top, scope 0)"
    scene usual [] [] []
    -- "a plain copy two (row, map entry)", and the top's statement
    ∷ one leaf
    -- "a kept field" with a payload; with an id, whose node is a plain copy more
    ∷ one (plain (field_with 1 (number_value 9) ∷ []) [] [] [])
    ∷ one (plain (field_with 1 (ids (1 ∷ [])) ∷ []) [] [] [])
    -- a kept interface with two ids of one node
    ∷ one (plain [] (interface 1 (some (ids (1 ∷ 1 ∷ []))) ∷ []) [] [])
    -- a kept statement, of four; a kept body-order element, of two
    ∷ one (plain [] [] (Statement.Node 1 ∷ Statement.Proto 0 ∷ route none none ∷ Statement.Other 1 ∷ []) [])
    ∷ one (plain [] (interface 1 none ∷ []) [] (BodyElement.Field ∷ BodyElement.Interface ∷ []))
    -- "an association, written or not": two that aren't, of a kept field and a kept interface
    ∷ one (plain (field_is 5 1 ∷ []) (interface_is 6 1 none ∷ []) [] [])
    -- "an extern's row, and each of its interfaces and urls", declared once
    ∷ declared
    -- an instance: "a scope; an instance's map entry; its record"
    ∷ instanced [] [] (Statement.Node 1 ∷ [])
    -- "an extra root", with its plain copy; "a body route"; other statements of a body
    ∷ instanced [] [] (Statement.Node 1 ∷ Statement.Node 2 ∷ [])
    ∷ instanced [] [] (Statement.Node 1 ∷ route none none ∷ route none none ∷ Statement.Proto 0 ∷ Statement.Other 1 ∷ [])
    -- "a stored interface value", with a payload; with an id of a node copied; the default, in a scope of its own, with two ids
    ∷ instanced (field_with 1 (number_value 9) ∷ []) (interface 1 none ∷ []) (Statement.Node 1 ∷ [])
    ∷ instanced (field_with 1 (ids (1 ∷ [])) ∷ []) (interface 1 none ∷ []) (Statement.Node 1 ∷ [])
    ∷ instanced [] (interface 1 (some (ids (1 ∷ 2 ∷ []))) ∷ []) (Statement.Node 1 ∷ [])
    -- an interface without a value stores nothing; a name that is declared twice is stored twice
    ∷ instanced [] (interface 1 none ∷ []) (Statement.Node 1 ∷ [])
    ∷ instanced (field_with 1 (ids (1 ∷ [])) ∷ []) (interface 1 none ∷ interface 1 none ∷ []) (Statement.Node 1 ∷ [])
    -- "an id of a class 2 value .. cloned", into a kept field and a kept interface; their associations are written
    ∷ instanced (field_with 1 (ids (1 ∷ [])) ∷ []) (interface 1 none ∷ []) (Statement.Node 3 ∷ [])
    -- cloned into an inner instance's stored value; "A nested instance's roots and routes aren't charged again."
    ∷ instanced (field_with 1 (ids (1 ∷ [])) ∷ []) (interface 1 none ∷ []) (Statement.Node 4 ∷ [])
    ∷ []

-- The charges, those of the output, those of the scope list; the run's are the rest: two in the eighth, and from the thirteenth on 1, 2, 3, 0, 4, 4 and 4.
pub charges_apart :
    map apart scenes
    ≡ (
    some (3 ∷ 2 ∷ 1 ∷ [])
    ∷ some (6 ∷ 5 ∷ 1 ∷ [])
    ∷ some (7 ∷ 6 ∷ 1 ∷ [])
    ∷ some (10 ∷ 9 ∷ 1 ∷ [])
    ∷ some (11 ∷ 10 ∷ 1 ∷ [])
    ∷ some (7 ∷ 6 ∷ 1 ∷ [])
    ∷ some (8 ∷ 7 ∷ 1 ∷ [])
    ∷ some (10 ∷ 7 ∷ 1 ∷ [])
    ∷ some (11 ∷ 10 ∷ 1 ∷ [])
    ∷ some (9 ∷ 5 ∷ 4 ∷ [])
    ∷ some (12 ∷ 7 ∷ 5 ∷ [])
    ∷ some (11 ∷ 5 ∷ 6 ∷ [])
    ∷ some (10 ∷ 5 ∷ 4 ∷ [])
    ∷ some (13 ∷ 7 ∷ 4 ∷ [])
    ∷ some (17 ∷ 9 ∷ 5 ∷ [])
    ∷ some (9 ∷ 5 ∷ 4 ∷ [])
    ∷ some (15 ∷ 7 ∷ 4 ∷ [])
    ∷ some (19 ∷ 11 ∷ 4 ∷ [])
    ∷ some (22 ∷ 9 ∷ 9 ∷ [])
    ∷ []
    )
unfolding computed
charges_apart = refl

-- ---- the last but one, with its run

abbrev cloned : Input
cloned = instanced (field_with 1 (ids (1 ∷ [])) ∷ []) (interface 1 none ∷ []) (Statement.Node 3 ∷ [])

-- the body's scope, where name 1 has a value
abbrev body : ℕ → Known
body = body_scope (record { document = 0; proto = 0 }) (1 ∷ [])

abbrev end : World Known
end = record { mapped = (0, 0) ∷ (1, 3) ∷ (0, 1) ∷ []; ledger = (0, 1) ∷ (1, 3) ∷ []; openers = (0, 0) ∷ []; scopes = (graph cloned).root ∷ body 0 ∷ [] }

-- node 3 isn't mapped in scope 1 where node 1 is in scope 0
other : Memᴰ {A = ℕ × ℕ} (1, 3) ((0, 1) ∷ []) → ⊥
other m = go (Memᴰ.cases_cons m)
  where
    go : (◌≡◌ {A = ℕ × ℕ} (1, 3) (0, 1)) ⊎ Memᴰ {A = ℕ × ℕ} (1, 3) [] → ⊥
    go (inl e) = let z : ◌≡◌ {A = ℕ} 1 0 = ap (λ (x : ℕ × ℕ). x.0) e in omega arith
    go (inr h) = Memᴰ.not-nil h

-- instance 0: its value, node 1; its body, node 3
its_run : WholeRun (graph cloned) end
unfolding computed
its_run = then_copy (instance_step body 3 [] Memᴰ.not-nil refl refl refl (then_copy (plain_step Memᴰ.not-nil refl no_action) no_action) (plain_step other refl no_action) no_action) no_action

-- 19: 11 and 4 as above; of the run a stored value, its id, and two associations.
cloned_counted : (of_run cloned [] its_run ≡ 4) × (seen (λ e. counted cloned e its_run) (expand cloned) ≡ some 19)
unfolding computed of_run its_run
cloned_counted = (refl, refl)

-- ---- refused: node 0 has a field with a payload, then one with the ids 1 and 9, where 9 leads nowhere

abbrev lost : ℕ → Input
lost k = scene (limits 400 64 k) (plain (field_with 1 (number_value 9) ∷ field_with 2 (ids (1 ∷ 9 ∷ [])) ∷ []) [] [] [] ∷ leaf ∷ []) [] (Statement.Node 0 ∷ [])

-- Nine charges are made until then.
lost_needs : map (λ k. counts (expand (lost k))) (8 ∷ 9 ∷ 400 ∷ []) ≡ ((10 ∷ 0 ∷ 0 ∷ []) ∷ (5 ∷ 0 ∷ 9 ∷ []) ∷ (5 ∷ 0 ∷ 9 ∷ []) ∷ [])
unfolding computed
lost_needs = refl

-- where the top statement begins, and where 9 is come to
abbrev begun : State
begun = record { world = record { map = []; ledger = []; scopes = Scope.Root ∷ [] }; nodes = []; extern_protos = []; extern_map = []; is_map = []; charges = 3 }

abbrev at_nine : State
at_nine = record {
  world = record { map = record { scope = 0; id = 1; out = 1 } ∷ record { scope = 0; id = 0; out = 0 } ∷ []; ledger = (0, 0) ∷ (0, 1) ∷ []; scopes = Scope.Root ∷ [] };
  nodes = blank_node ∷ leaf ∷ [];
  extern_protos = [];
  extern_map = [];
  is_map = [];
  charges = 9;
}

-- The way: node 0, whose first field and id 1 are done.
lost_way : OpenTop (lost 400) (Statement.Node 0) begun at_nine 5 0 9
unfolding computed plain_first ids_first
lost_way = in_node (in_plain {fs = field_with 1 (number_value 9) ∷ []} {is = []} {ids = 1 ∷ []} (record { unmapped = refl; there = refl; kind = refl }) (in_field (field_with 2 (ids (1 ∷ 9 ∷ []))) [] refl refl (record { behind = []; place = refl })) refl (five refl refl))

-- Nine: three at the start; four that the state holds, two of node 0 and two of node 1; node 0's first field, and the id 1.
lost_items : (held (lost 400) begun ≡ 1) × (held (lost 400) at_nine ≡ 1 + 4) × (at_nine.charges ≡ begun.charges + 4 + 2)
lost_items = (refl, refl, refl)
