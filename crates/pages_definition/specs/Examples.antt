-- Computed examples of the pages.
use Rattle.std.specs.Prelude.{◌≡◌, refl, List, [], ◌∷◌, ◌++◌, ℕ, replicate}
use Rattle.std.proofs.Math.Option.{none, some}
use Prim.Native.Char.{code}
use Prim.Native.String.{String, [] as nothing, ◌∷◌ as ◌∷ˢ◌}
use Rattle.ast.specs.Ast.{Node, NodeOrigin}
use Rattle.sheet_rows.specs.Rows.{rows}
use Rattle.sheet_rows.specs.Parse.{elements, document_of, node_of}
use Rattle.sheet_shape.specs.Shape.{shape_fits}
use Rattle.sheet_check.specs.Grammar.{run, fits, role_of, moves}
use Rattle.text_decimal.specs.Decimal.{digit_left, before, justified}
use Rattle.pages_definition.specs.Pages.{each, heading, node_line, blank_line, line_for, page, page_count, text, malformed, paged, refused, accepted, said_paged}

-- the bytes of a text
bytes : String → List ℕ
bytes nothing = []
bytes (c ∷ˢ s) = code c ∷ bytes s

named : Node
named = record { type_name = 7; def_name = some 3; origin = NodeOrigin.Builtin; fields = []; interface = []; statements = []; body_order = []; instance = none }

unnamed : Node
unnamed = record { type_name = 4294967294; def_name = none; origin = NodeOrigin.Builtin; fields = []; interface = []; statements = []; body_order = []; instance = none }

-- ---- the lines

-- "Line 1 has the page number, from 1"
page_one : heading 0 ≡ bytes "                                                                       1\n"
unfolding heading bytes justified before digit_left
page_one = refl

-- "node id, scope, document, source id, type name, DEF name"
six_numbers : node_line 12 (1 ∷ 0 ∷ 40 ∷ []) named ≡ bytes "          12           1           0          40           7           3\n"
unfolding node_line named bytes justified before digit_left
six_numbers = refl

-- "(blank if none)"
no_name : node_line 0 (0 ∷ 0 ∷ 0 ∷ []) unnamed ≡ bytes "           0           0           0           0  4294967294            \n"
unfolding node_line unnamed bytes justified before digit_left
no_name = refl

-- ---- the pages

-- "none for no nodes"
no_nodes_lem : text [] [] ≡ []
unfolding text each
no_nodes_lem = refl

-- one node: a page of 60 lines, its number, the node, and 58 blank lines
one_node_lem : text (named ∷ []) (1 ∷ 0 ∷ 40 ∷ []) ≡ heading 0 ++ (node_line 0 (1 ∷ 0 ∷ 40 ∷ []) named ++ each 58 (λ k. blank_line))
unfolding text each page line_for heading node_line blank_line named justified before digit_left
one_node_lem = refl

-- 59 nodes fill a page, and the 60th begins the second
counts : ◌≡◌ {A = List ℕ} (page_count (replicate 1 named) [] ∷ page_count (replicate 59 named) [] ∷ page_count (replicate 60 named) [] ∷ page_count (replicate 118 named) [] ∷ page_count (replicate 119 named) [] ∷ []) (1 ∷ 1 ∷ 2 ∷ 2 ∷ 3 ∷ [])
counts = refl

-- ---- refusals: 28 before 29

-- a document of no nodes, and one of one node
no_nodes : List ℕ
no_nodes =
    1 ∷ 5 ∷ 0 ∷ 0 ∷ 0 ∷ 0 ∷ 0 ∷ 0 ∷
    11 ∷ 0 ∷ 0 ∷ 0 ∷ 0 ∷ 0 ∷ 0 ∷ 0 ∷ []

one_node : List ℕ
one_node =
    1 ∷ 5 ∷ 0 ∷ 0 ∷ 0 ∷ 0 ∷ 0 ∷ 0 ∷
    2 ∷ 7 ∷ 4294967295 ∷ 0 ∷ 0 ∷ 0 ∷ 0 ∷ 0 ∷
    11 ∷ 0 ∷ 0 ∷ 0 ∷ 0 ∷ 0 ∷ 0 ∷ 0 ∷ []

-- accepted: no pages, and the lent bytes stay
nothing_written : paged no_nodes [] 32 (9 ∷ []) ≡ (accepted 0, 9 ∷ [])
unfolding paged malformed text each no_nodes rows run fits shape_fits role_of moves elements document_of
nothing_written = refl

-- 28: a ledger of one word too many, of one entry too few; work of one word too few; a word past the last row
ledger_long : paged no_nodes (0 ∷ []) 32 [] ≡ (refused 28, [])
unfolding paged malformed no_nodes rows run fits shape_fits role_of moves elements document_of
ledger_long = refl

ledger_short : paged one_node [] 48 [] ≡ (refused 28, [])
unfolding paged malformed one_node rows run fits shape_fits role_of moves elements document_of
ledger_short = refl

work_short : paged no_nodes [] 31 [] ≡ (refused 28, [])
unfolding paged malformed no_nodes rows run fits shape_fits role_of moves elements document_of
work_short = refl

half_row : paged (no_nodes ++ (0 ∷ [])) [] 48 [] ≡ (refused 28, [])
unfolding paged malformed no_nodes
half_row = refl

-- 29: no bytes for the page of one node
few_bytes : paged one_node (0 ∷ 0 ∷ 0 ∷ []) 48 (9 ∷ []) ≡ (refused 29, 9 ∷ [])
unfolding paged malformed text each page line_for heading node_line blank_line justified before digit_left one_node rows run fits shape_fits role_of moves elements document_of node_of
few_bytes = refl

-- ---- the words of the answer: "refusal, bytes"

said : said_paged (paged no_nodes [] 32 (9 ∷ [])) ≡ record { refusal = 0; numbers = 0 ∷ []; lent = 9 ∷ [] }
unfolding paged malformed text each no_nodes rows run fits shape_fits role_of moves elements document_of
said = refl
