-- Worked examples of the whole operation, computed.
use Rattle.std.specs.Prelude.{◌≡◌, refl, List, [], ◌∷◌, ◌++◌, map, ℕ, replicate}
use Rattle.sheet_rows.specs.Rows.{rows, words}
use Rattle.sheet_shape.specs.Shape.{shape_fits}
use Rattle.sheet_check.specs.Grammar.{run, fits, role_of, moves}
use Rattle.sheet_rows.specs.Parse.{elements, ids_of, field_of, interface_of, route_of, statement_of, body_element_of, origin_of, association_of, instance_of, fields_of, interfaces_of, statements_of, node_of, proto_of, url_of, extern_proto_of, document_of, files_of}
use Rattle.sheet_rows.specs.Print.{document_rows}
use Rattle.expansion_definition.specs.Input.{Limits}
use Rattle.expansion_definition.specs.Scenes.{computed, limits, usual}
use Rattle.expansion_operation.specs.Operation.{Call, After, outcome, expand_words}

-- a proof that unfolds this computes the operation
unfoldable whole : Call → After
unfolding computed rows words run fits shape_fits role_of moves elements ids_of field_of interface_of route_of statement_of body_element_of origin_of association_of instance_of fields_of interfaces_of statements_of node_of proto_of url_of extern_proto_of document_of files_of document_rows outcome expand_words
whole c = expand_words c

-- ---- accepted calls

-- the program's example: rows `1 5`, `2 7 4294967295`, `11`, `5`
abbrev sample : List ℕ
sample =
    1 ∷ 5 ∷ 0 ∷ 0 ∷ 0 ∷ 0 ∷ 0 ∷ 0 ∷
    2 ∷ 7 ∷ 4294967295 ∷ 0 ∷ 0 ∷ 0 ∷ 0 ∷ 0 ∷
    11 ∷ 0 ∷ 0 ∷ 0 ∷ 0 ∷ 0 ∷ 0 ∷ 0 ∷
    5 ∷ 0 ∷ 0 ∷ 0 ∷ 0 ∷ 0 ∷ 0 ∷ 0 ∷ []

-- "empty library, N = 400, D = 64, K = 400", and slices of just these sizes, full of 9
abbrev program : Call
program = record { root = sample; library = []; limits = usual; out = replicate 3200 9; ledger = replicate 1200 9; scopes = replicate 2000 9; work_length = 10560 }

-- `0 0 0 0 1 1 6 0` and the same four rows; what is past them is kept
pub the_program's_words :
    expand_words program
    ≡ record {
      answer = record { refusal = 0; first_place = 0; second_place = 0; nodes = 1; scopes = 1; charges = 6; rows = 4 };
      out = sample ++ replicate 3168 9;
      ledger = 0 ∷ 0 ∷ 0 ∷ replicate 1197 9;
      scopes = 0 ∷ 0 ∷ 0 ∷ 0 ∷ 0 ∷ replicate 1995 9;
    }
unfolding whole
the_program's_words = refl

-- node 0 is an instance of PROTO 0, whose body is node 1, an instance of PROTO 1, whose body and whose interface's default are node 2; the slices are just long enough
abbrev nested : Call
nested =
    record {
      root =
          1 ∷ 5 ∷ 0 ∷ 0 ∷ 0 ∷ 0 ∷ 0 ∷ 0 ∷
          2 ∷ 7 ∷ 4294967295 ∷ 1 ∷ 0 ∷ 0 ∷ 0 ∷ 0 ∷
          2 ∷ 7 ∷ 4294967295 ∷ 1 ∷ 1 ∷ 0 ∷ 0 ∷ 0 ∷
          2 ∷ 7 ∷ 4294967295 ∷ 0 ∷ 0 ∷ 0 ∷ 0 ∷ 0 ∷
          7 ∷ 3 ∷ 0 ∷ 0 ∷ 0 ∷ 0 ∷ 0 ∷ 0 ∷
          5 ∷ 0 ∷ 1 ∷ 0 ∷ 0 ∷ 0 ∷ 0 ∷ 0 ∷
          7 ∷ 4 ∷ 0 ∷ 0 ∷ 0 ∷ 0 ∷ 0 ∷ 0 ∷
          4 ∷ 2 ∷ 14 ∷ 1 ∷ 4294967295 ∷ 14 ∷ 2 ∷ 1 ∷
          9 ∷ 2 ∷ 0 ∷ 0 ∷ 0 ∷ 0 ∷ 0 ∷ 0 ∷
          5 ∷ 0 ∷ 2 ∷ 0 ∷ 0 ∷ 0 ∷ 0 ∷ 0 ∷
          11 ∷ 0 ∷ 0 ∷ 0 ∷ 0 ∷ 0 ∷ 0 ∷ 0 ∷
          5 ∷ 0 ∷ 0 ∷ 0 ∷ 0 ∷ 0 ∷ 0 ∷ 0 ∷ [];
      library = [];
      limits = limits 2 3 17;
      out = replicate 136 9;
      ledger = replicate 6 9;
      scopes = replicate 85 9;
      work_length = 528;
    }

-- the default's copy and the body's; the scopes: root, body of PROTO 0, the default and the body of PROTO 1, both opened by scope 1
pub nested_words :
    expand_words nested
    ≡ record {
      answer = record { refusal = 0; first_place = 0; second_place = 0; nodes = 2; scopes = 4; charges = 17; rows = 6 };
      out =
          1 ∷ 5 ∷ 0 ∷ 0 ∷ 0 ∷ 0 ∷ 0 ∷ 0 ∷
          2 ∷ 7 ∷ 4294967295 ∷ 0 ∷ 0 ∷ 0 ∷ 0 ∷ 0 ∷
          2 ∷ 7 ∷ 4294967295 ∷ 0 ∷ 0 ∷ 0 ∷ 0 ∷ 0 ∷
          13 ∷ 3 ∷ 0 ∷ 0 ∷ 0 ∷ 0 ∷ 0 ∷ 0 ∷
          11 ∷ 0 ∷ 0 ∷ 0 ∷ 0 ∷ 0 ∷ 0 ∷ 0 ∷
          5 ∷ 0 ∷ 1 ∷ 0 ∷ 0 ∷ 0 ∷ 0 ∷ 0 ∷ replicate 88 9;
      ledger =
          2 ∷ 0 ∷ 2 ∷
          3 ∷ 0 ∷ 2 ∷ [];
      scopes =
          0 ∷ 0 ∷ 0 ∷ 0 ∷ 0 ∷
          1 ∷ 0 ∷ 0 ∷ 0 ∷ 0 ∷
          2 ∷ 0 ∷ 1 ∷ 0 ∷ 1 ∷
          1 ∷ 0 ∷ 1 ∷ 0 ∷ 1 ∷ replicate 65 9;
    }
unfolding whole
nested_words = refl

-- ---- refusals 1, 2 and 3, and their order

-- N = D = 0, K = 1: a call that nothing refuses before the steps is refused by 10, at the second charge
abbrev call : List ℕ → List ℕ → Call
call root library = record { root = root; library = library; limits = limits 0 0 1; out = replicate 8 9; ledger = 9 ∷ []; scopes = replicate 5 9; work_length = 80 }

-- the sample with other limits, and slices of other lengths
abbrev lent : Limits → ℕ → ℕ → ℕ → ℕ → Call
lent l out ledger scopes work = record { root = sample; library = []; limits = l; out = replicate out 9; ledger = replicate ledger 9; scopes = replicate scopes 9; work_length = work }

-- a file's row; then its document's, and a node whose type name is none
abbrev file : List ℕ
file = 12 ∷ 20 ∷ 0 ∷ 0 ∷ 0 ∷ 0 ∷ 0 ∷ 0 ∷ []

abbrev bad_file : List ℕ
bad_file = file ++ (1 ∷ 5 ∷ 0 ∷ 0 ∷ 0 ∷ 0 ∷ 0 ∷ 0 ∷ 2 ∷ 4294967295 ∷ 4294967295 ∷ 0 ∷ 0 ∷ 0 ∷ 0 ∷ 0 ∷ [])

-- a call, the number of its refusal, and the two places
abbrev table : List (Call × ℕ × ℕ × ℕ)
table =
    -- each slice one word short, and then not
    (lent (limits 0 0 1) 7 0 5 80, 1, 0, 0)
    ∷ (lent (limits 1 0 1) 8 2 5 80, 1, 0, 0)
    ∷ (lent (limits 0 0 1) 8 0 4 80, 1, 0, 0)
    ∷ (lent (limits 0 0 1) 8 0 5 79, 1, 0, 0)
    ∷ (lent (limits 1 0 1) 8 3 5 80, 10, 0, 0)
    -- a depth over its cap, and at it
    ∷ (lent (limits 0 513 1) 8 0 5 32912, 1, 0, 0)
    ∷ (lent (limits 0 512 1) 8 0 5 32848, 10, 0, 0)
    -- 1 before 2: a root of one word, and no out
    ∷ (record { root = 1 ∷ []; library = []; limits = limits 0 0 1; out = []; ledger = []; scopes = []; work_length = 80 }, 1, 0, 0)
    -- a root of a word too many; 2 before 3: a library of one word, and a root that doesn't fit
    ∷ (call (sample ++ (0 ∷ [])) [], 2, 0, 0)
    ∷ (call (replicate 8 0) (12 ∷ []), 2, 0, 0)
    -- an empty root; one that ends early; root first, where neither sheet fits
    ∷ (call [] [], 3, 0, 0)
    ∷ (call (1 ∷ 5 ∷ 0 ∷ 0 ∷ 0 ∷ 0 ∷ 0 ∷ 0 ∷ []) [], 3, 0, 1)
    ∷ (call (replicate 8 0) bad_file, 3, 0, 0)
    -- the library's third row; a file's row alone
    ∷ (call sample bad_file, 3, 1, 2)
    ∷ (call sample file, 3, 1, 1)
    -- nothing before the steps
    ∷ (call sample [], 10, 0, 0)
    ∷ []

-- "A refusal keeps out, ledger and scopes; counts are 0."
abbrev refusal : Call × ℕ × ℕ × ℕ → After
refusal x =
    record {
      answer = record { refusal = x.1; first_place = x.2; second_place = x.3; nodes = 0; scopes = 0; charges = 0; rows = 0 };
      out = x.0.out;
      ledger = x.0.ledger;
      scopes = x.0.scopes;
    }

pub the_refusals : map (λ x. expand_words x.0) table ≡ map refusal table
unfolding whole
the_refusals = refl
