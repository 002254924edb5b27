-- Computed examples of the operation.
use Rattle.std.specs.Prelude.{◌≡◌, refl, List, [], ◌∷◌, ◌++◌, ℕ, replicate}
use Rattle.sheet_rows.specs.Rows.{rows}
use Rattle.sheet_rows.specs.Parse.{elements, documents_of, document_of, node_of, fields_of, interfaces_of, statements_of, statement_of, field_of, ids_of, origin_of}
use Rattle.sheet_shape.specs.Shape.{shape_fits}
use Rattle.sheet_check.specs.Grammar.{run, fits, role_of, moves}
use Rattle.graph_definition.specs.Graph.{node_ids, nexts, top_node_ids, among, noted, noted_all, walked, reached, mentions}
use Rattle.count_documents.specs.Count.{named, count, total_of}
use Rattle.count_sheet.specs.Sheet.{are_protocols, repeats, wrong, malformed, totals_of, counted_sheet, refused, accepted, said_counted}

-- a node of type 7 mentioned twice at the top
twice : List ℕ
twice =
    1 ∷ 5 ∷ 0 ∷ 0 ∷ 0 ∷ 0 ∷ 0 ∷ 0 ∷
    2 ∷ 7 ∷ 4294967295 ∷ 0 ∷ 0 ∷ 0 ∷ 0 ∷ 0 ∷
    11 ∷ 0 ∷ 0 ∷ 0 ∷ 0 ∷ 0 ∷ 0 ∷ 0 ∷
    5 ∷ 0 ∷ 0 ∷ 0 ∷ 0 ∷ 0 ∷ 0 ∷ 0 ∷
    5 ∷ 0 ∷ 0 ∷ 0 ∷ 0 ∷ 0 ∷ 0 ∷ 0 ∷ []

-- the first document under 1, the second under 2: 2 and 1; name 4294967295 is a name that no node has; the lent total past the names stays
mixed : counted_sheet (twice ++ twice) (1 ∷ 2 ∷ []) (7 ∷ 4294967295 ∷ []) 160 (9 ∷ 9 ∷ 9 ∷ []) ≡ (accepted 2, 3 ∷ 0 ∷ 9 ∷ [])
unfolding counted_sheet wrong malformed totals_of are_protocols repeats total_of count named mentions reached walked noted_all noted among top_node_ids nexts node_ids twice rows run fits shape_fits role_of moves elements documents_of document_of node_of fields_of interfaces_of statements_of statement_of field_of ids_of origin_of
mixed = refl

-- no protocols and an empty sheet are accepted; so is an empty list of names
empty : ◌≡◌ {A = List ℕ} ((counted_sheet [] [] (7 ∷ []) 0 (9 ∷ [])).1 ++ (counted_sheet [] [] [] 0 (9 ∷ [])).1) (0 ∷ 9 ∷ [])
unfolding counted_sheet wrong malformed totals_of are_protocols repeats total_of among rows run elements documents_of
empty = refl

-- 17 before 18: protocol 3, a name twice, a total too few; 4,097 protocols, 65 names
seventeen : ◌≡◌ {A = List ℕ} ((counted_sheet twice (3 ∷ []) [] 0 []).0.refusal ∷ (counted_sheet twice (1 ∷ []) (7 ∷ 7 ∷ []) 0 (9 ∷ 9 ∷ [])).0.refusal ∷ (counted_sheet twice (1 ∷ []) (7 ∷ []) 0 []).0.refusal ∷ []) (17 ∷ 17 ∷ 17 ∷ [])
unfolding counted_sheet wrong are_protocols repeats among
seventeen = refl

too_many : ◌≡◌ {A = List ℕ} ((counted_sheet twice (replicate 4097 1) [] 0 []).0.refusal ∷ (counted_sheet twice (1 ∷ []) (replicate 65 7) 0 (replicate 65 9)).0.refusal ∷ []) (17 ∷ 17 ∷ [])
unfolding counted_sheet wrong are_protocols
too_many = refl

-- 18: words that are no row, work of one word too few, more protocols than documents
eighteen : ◌≡◌ {A = List ℕ} ((counted_sheet (7 ∷ []) (1 ∷ []) [] 80 []).0.refusal ∷ (counted_sheet twice (1 ∷ []) [] 79 []).0.refusal ∷ (counted_sheet twice (1 ∷ 1 ∷ []) [] 80 []).0.refusal ∷ []) (18 ∷ 18 ∷ 18 ∷ [])
unfolding counted_sheet wrong malformed are_protocols repeats among twice rows run fits shape_fits role_of moves elements documents_of document_of
eighteen = refl

-- "refusal, totals"
said : said_counted (counted_sheet twice (2 ∷ []) (7 ∷ []) 80 (9 ∷ 9 ∷ [])) ≡ record { refusal = 0; numbers = 1 ∷ []; lent = 1 ∷ 9 ∷ [] }
unfolding counted_sheet wrong malformed totals_of are_protocols repeats total_of count named mentions reached walked noted_all noted among top_node_ids nexts node_ids twice rows run fits shape_fits role_of moves elements documents_of document_of node_of fields_of interfaces_of statements_of statement_of field_of ids_of origin_of
said = refl
