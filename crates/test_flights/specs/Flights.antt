-- The ten flights as sheets, and their answers by the definition, computed.
use Rattle.std.specs.Prelude.{◌≡◌, refl, List, [], ◌∷◌, ℕ, replicate}
use Rattle.sheet_rows.specs.Rows.{rows, words}
use Rattle.sheet_shape.specs.Shape.{shape_fits}
use Rattle.sheet_check.specs.Grammar.{run, fits, role_of, moves}
use Rattle.sheet_rows.specs.Parse.{elements, ids_of, field_of, interface_of, route_of, statement_of, body_element_of, origin_of, association_of, instance_of, fields_of, interfaces_of, statements_of, node_of, proto_of, url_of, extern_proto_of, document_of, files_of}
use Rattle.sheet_rows.specs.Print.{document_rows}
use Rattle.expansion_definition.specs.Scenes.{computed}
use Rattle.expansion_operation.specs.Operation.{Numbers, outcome, expand_words}
use Rattle.expander_run.specs.Calls.{call_of}

-- the numbers that Expand answers to some rows, with no library, N, D and 400 charges
unfoldable pub flight_answer : List ℕ → ℕ → ℕ → Numbers
flight_answer root n d = (expand_words (call_of root [] n d 400 (replicate 3200 0) (replicate 1200 0) (replicate 2000 0) (replicate 10560 0))).answer

abbrev pub accepted_numbers : (nodes scopes charges rows : ℕ) → Numbers
accepted_numbers nodes scopes charges rows = record { refusal = 0; first_place = 0; second_place = 0; nodes = nodes; scopes = scopes; charges = charges; rows = rows }

abbrev pub refused_numbers : ℕ → Numbers
refused_numbers n = record { refusal = n; first_place = 0; second_place = 0; nodes = 0; scopes = 0; charges = 0; rows = 0 }

-- how they are printed
abbrev pub number_line : Numbers → List ℕ
number_line x = x.refusal ∷ x.first_place ∷ x.second_place ∷ x.nodes ∷ x.scopes ∷ x.charges ∷ x.rows ∷ 0 ∷ []

-- a proof that unfolds this computes an answer
unfoldable whole : List ℕ → ℕ → ℕ → Numbers
unfolding computed rows words run fits shape_fits role_of moves elements ids_of field_of interface_of route_of statement_of body_element_of origin_of association_of instance_of fields_of interfaces_of statements_of node_of proto_of url_of extern_proto_of document_of files_of document_rows outcome expand_words flight_answer
whole root n d = flight_answer root n d

-- "No statements: 0 nodes, 1 scope."
abbrev pub no_statements_rows : List ℕ
no_statements_rows =
    1 ∷ 5 ∷ 0 ∷ 0 ∷ 0 ∷ 0 ∷ 0 ∷ 0 ∷
    11 ∷ 0 ∷ 0 ∷ 0 ∷ 0 ∷ 0 ∷ 0 ∷ 0 ∷ []

pub no_statements : flight_answer no_statements_rows 400 64 ≡ accepted_numbers 0 1 3 2
unfolding whole
no_statements = refl

-- "One plain node, N = 0: 8."
abbrev pub one_node_of_none_rows : List ℕ
one_node_of_none_rows =
    1 ∷ 5 ∷ 0 ∷ 0 ∷ 0 ∷ 0 ∷ 0 ∷ 0 ∷
    2 ∷ 7 ∷ 4294967295 ∷ 0 ∷ 0 ∷ 0 ∷ 0 ∷ 0 ∷
    11 ∷ 0 ∷ 0 ∷ 0 ∷ 0 ∷ 0 ∷ 0 ∷ 0 ∷
    5 ∷ 0 ∷ 0 ∷ 0 ∷ 0 ∷ 0 ∷ 0 ∷ 0 ∷ []

pub one_node_of_none : flight_answer one_node_of_none_rows 0 64 ≡ refused_numbers 8
unfolding whole
one_node_of_none = refl

-- "D = 0, N = 0: 9."
abbrev pub one_node_no_depth_rows : List ℕ
one_node_no_depth_rows =
    1 ∷ 5 ∷ 0 ∷ 0 ∷ 0 ∷ 0 ∷ 0 ∷ 0 ∷
    2 ∷ 7 ∷ 4294967295 ∷ 0 ∷ 0 ∷ 0 ∷ 0 ∷ 0 ∷
    11 ∷ 0 ∷ 0 ∷ 0 ∷ 0 ∷ 0 ∷ 0 ∷ 0 ∷
    5 ∷ 0 ∷ 0 ∷ 0 ∷ 0 ∷ 0 ∷ 0 ∷ 0 ∷ []

pub one_node_no_depth : flight_answer one_node_no_depth_rows 0 0 ≡ refused_numbers 9
unfolding whole
one_node_no_depth = refl

-- "Three nested, D = 2: 9."
abbrev pub three_nested_rows : List ℕ
three_nested_rows =
    1 ∷ 5 ∷ 0 ∷ 0 ∷ 0 ∷ 0 ∷ 0 ∷ 0 ∷
    2 ∷ 7 ∷ 4294967295 ∷ 0 ∷ 0 ∷ 0 ∷ 0 ∷ 0 ∷
    3 ∷ 1 ∷ 0 ∷ 0 ∷ 0 ∷ 14 ∷ 2 ∷ 1 ∷
    9 ∷ 1 ∷ 0 ∷ 0 ∷ 0 ∷ 0 ∷ 0 ∷ 0 ∷
    2 ∷ 7 ∷ 4294967295 ∷ 0 ∷ 0 ∷ 0 ∷ 0 ∷ 0 ∷
    3 ∷ 1 ∷ 0 ∷ 0 ∷ 0 ∷ 14 ∷ 2 ∷ 1 ∷
    9 ∷ 2 ∷ 0 ∷ 0 ∷ 0 ∷ 0 ∷ 0 ∷ 0 ∷
    2 ∷ 7 ∷ 4294967295 ∷ 0 ∷ 0 ∷ 0 ∷ 0 ∷ 0 ∷
    11 ∷ 0 ∷ 0 ∷ 0 ∷ 0 ∷ 0 ∷ 0 ∷ 0 ∷
    5 ∷ 0 ∷ 0 ∷ 0 ∷ 0 ∷ 0 ∷ 0 ∷ 0 ∷ []

pub three_nested : flight_answer three_nested_rows 400 2 ≡ refused_numbers 9
unfolding whole
three_nested = refl

-- "One node mentioned twice: 1 node."
abbrev pub one_node_twice_rows : List ℕ
one_node_twice_rows =
    1 ∷ 5 ∷ 0 ∷ 0 ∷ 0 ∷ 0 ∷ 0 ∷ 0 ∷
    2 ∷ 7 ∷ 4294967295 ∷ 0 ∷ 0 ∷ 0 ∷ 0 ∷ 0 ∷
    11 ∷ 0 ∷ 0 ∷ 0 ∷ 0 ∷ 0 ∷ 0 ∷ 0 ∷
    5 ∷ 0 ∷ 0 ∷ 0 ∷ 0 ∷ 0 ∷ 0 ∷ 0 ∷
    5 ∷ 0 ∷ 0 ∷ 0 ∷ 0 ∷ 0 ∷ 0 ∷ 0 ∷ []

pub one_node_twice : flight_answer one_node_twice_rows 400 64 ≡ accepted_numbers 1 1 7 5
unfolding whole
one_node_twice = refl

-- "One instance mentioned twice: 1 body scope."
abbrev pub one_instance_twice_rows : List ℕ
one_instance_twice_rows =
    1 ∷ 5 ∷ 0 ∷ 0 ∷ 0 ∷ 0 ∷ 0 ∷ 0 ∷
    2 ∷ 7 ∷ 4294967295 ∷ 1 ∷ 0 ∷ 0 ∷ 0 ∷ 0 ∷
    2 ∷ 7 ∷ 4294967295 ∷ 0 ∷ 0 ∷ 0 ∷ 0 ∷ 0 ∷
    7 ∷ 3 ∷ 0 ∷ 0 ∷ 0 ∷ 0 ∷ 0 ∷ 0 ∷
    5 ∷ 0 ∷ 1 ∷ 0 ∷ 0 ∷ 0 ∷ 0 ∷ 0 ∷
    11 ∷ 0 ∷ 0 ∷ 0 ∷ 0 ∷ 0 ∷ 0 ∷ 0 ∷
    5 ∷ 0 ∷ 0 ∷ 0 ∷ 0 ∷ 0 ∷ 0 ∷ 0 ∷
    5 ∷ 0 ∷ 0 ∷ 0 ∷ 0 ∷ 0 ∷ 0 ∷ 0 ∷ []

pub one_instance_twice : flight_answer one_instance_twice_rows 400 64 ≡ accepted_numbers 1 2 10 6
unfolding whole
one_instance_twice = refl

-- "Two instances of it: 2."
abbrev pub two_instances_rows : List ℕ
two_instances_rows =
    1 ∷ 5 ∷ 0 ∷ 0 ∷ 0 ∷ 0 ∷ 0 ∷ 0 ∷
    2 ∷ 7 ∷ 4294967295 ∷ 1 ∷ 0 ∷ 0 ∷ 0 ∷ 0 ∷
    2 ∷ 7 ∷ 4294967295 ∷ 0 ∷ 0 ∷ 0 ∷ 0 ∷ 0 ∷
    2 ∷ 7 ∷ 4294967295 ∷ 1 ∷ 0 ∷ 0 ∷ 0 ∷ 0 ∷
    7 ∷ 3 ∷ 0 ∷ 0 ∷ 0 ∷ 0 ∷ 0 ∷ 0 ∷
    5 ∷ 0 ∷ 1 ∷ 0 ∷ 0 ∷ 0 ∷ 0 ∷ 0 ∷
    11 ∷ 0 ∷ 0 ∷ 0 ∷ 0 ∷ 0 ∷ 0 ∷ 0 ∷
    5 ∷ 0 ∷ 0 ∷ 0 ∷ 0 ∷ 0 ∷ 0 ∷ 0 ∷
    5 ∷ 0 ∷ 2 ∷ 0 ∷ 0 ∷ 0 ∷ 0 ∷ 0 ∷ []

pub two_instances : flight_answer two_instances_rows 400 64 ≡ accepted_numbers 2 3 15 8
unfolding whole
two_instances = refl

-- "Instance I, its body one plain node, whose given field holds plain P, whose child is I: from I 3 nodes, 2 body scopes."
abbrev pub from_the_instance_rows : List ℕ
from_the_instance_rows =
    1 ∷ 5 ∷ 0 ∷ 0 ∷ 0 ∷ 0 ∷ 0 ∷ 0 ∷
    2 ∷ 7 ∷ 4294967295 ∷ 1 ∷ 0 ∷ 0 ∷ 0 ∷ 0 ∷
    3 ∷ 1 ∷ 0 ∷ 0 ∷ 0 ∷ 14 ∷ 2 ∷ 1 ∷
    9 ∷ 1 ∷ 0 ∷ 0 ∷ 0 ∷ 0 ∷ 0 ∷ 0 ∷
    2 ∷ 7 ∷ 4294967295 ∷ 0 ∷ 0 ∷ 0 ∷ 0 ∷ 0 ∷
    3 ∷ 1 ∷ 0 ∷ 0 ∷ 0 ∷ 14 ∷ 2 ∷ 1 ∷
    9 ∷ 0 ∷ 0 ∷ 0 ∷ 0 ∷ 0 ∷ 0 ∷ 0 ∷
    2 ∷ 7 ∷ 4294967295 ∷ 0 ∷ 0 ∷ 0 ∷ 0 ∷ 0 ∷
    7 ∷ 3 ∷ 0 ∷ 0 ∷ 0 ∷ 0 ∷ 0 ∷ 0 ∷
    4 ∷ 2 ∷ 14 ∷ 1 ∷ 4294967295 ∷ 0 ∷ 0 ∷ 0 ∷
    5 ∷ 0 ∷ 2 ∷ 0 ∷ 0 ∷ 0 ∷ 0 ∷ 0 ∷
    11 ∷ 0 ∷ 0 ∷ 0 ∷ 0 ∷ 0 ∷ 0 ∷ 0 ∷
    5 ∷ 0 ∷ 0 ∷ 0 ∷ 0 ∷ 0 ∷ 0 ∷ 0 ∷ []

pub from_the_instance : flight_answer from_the_instance_rows 400 64 ≡ accepted_numbers 3 3 22 10
unfolding whole
from_the_instance = refl

-- "From P 2 nodes, 1 body scope."
abbrev pub from_the_plain_node_rows : List ℕ
from_the_plain_node_rows =
    1 ∷ 5 ∷ 0 ∷ 0 ∷ 0 ∷ 0 ∷ 0 ∷ 0 ∷
    2 ∷ 7 ∷ 4294967295 ∷ 1 ∷ 0 ∷ 0 ∷ 0 ∷ 0 ∷
    3 ∷ 1 ∷ 0 ∷ 0 ∷ 0 ∷ 14 ∷ 2 ∷ 1 ∷
    9 ∷ 1 ∷ 0 ∷ 0 ∷ 0 ∷ 0 ∷ 0 ∷ 0 ∷
    2 ∷ 7 ∷ 4294967295 ∷ 0 ∷ 0 ∷ 0 ∷ 0 ∷ 0 ∷
    3 ∷ 1 ∷ 0 ∷ 0 ∷ 0 ∷ 14 ∷ 2 ∷ 1 ∷
    9 ∷ 0 ∷ 0 ∷ 0 ∷ 0 ∷ 0 ∷ 0 ∷ 0 ∷
    2 ∷ 7 ∷ 4294967295 ∷ 0 ∷ 0 ∷ 0 ∷ 0 ∷ 0 ∷
    7 ∷ 3 ∷ 0 ∷ 0 ∷ 0 ∷ 0 ∷ 0 ∷ 0 ∷
    4 ∷ 2 ∷ 14 ∷ 1 ∷ 4294967295 ∷ 0 ∷ 0 ∷ 0 ∷
    5 ∷ 0 ∷ 2 ∷ 0 ∷ 0 ∷ 0 ∷ 0 ∷ 0 ∷
    11 ∷ 0 ∷ 0 ∷ 0 ∷ 0 ∷ 0 ∷ 0 ∷ 0 ∷
    5 ∷ 0 ∷ 1 ∷ 0 ∷ 0 ∷ 0 ∷ 0 ∷ 0 ∷ []

pub from_the_plain_node : flight_answer from_the_plain_node_rows 400 64 ≡ accepted_numbers 2 2 15 8
unfolding whole
from_the_plain_node = refl

-- "A body without Node: 7."
abbrev pub body_without_node_rows : List ℕ
body_without_node_rows =
    1 ∷ 5 ∷ 0 ∷ 0 ∷ 0 ∷ 0 ∷ 0 ∷ 0 ∷
    2 ∷ 7 ∷ 4294967295 ∷ 1 ∷ 0 ∷ 0 ∷ 0 ∷ 0 ∷
    7 ∷ 3 ∷ 0 ∷ 0 ∷ 0 ∷ 0 ∷ 0 ∷ 0 ∷
    11 ∷ 0 ∷ 0 ∷ 0 ∷ 0 ∷ 0 ∷ 0 ∷ 0 ∷
    5 ∷ 0 ∷ 0 ∷ 0 ∷ 0 ∷ 0 ∷ 0 ∷ 0 ∷ []

pub body_without_node : flight_answer body_without_node_rows 400 64 ≡ refused_numbers 7
unfolding whole
body_without_node = refl
