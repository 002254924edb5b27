-- Worked examples of the grammar and of the parsed document, computed.
use Rattle.std.specs.Prelude.{◌≡◌, refl, List, [], ◌∷◌, ◌++◌, ℕ}
use Rattle.std.proofs.Math.Option.{none}
use Rattle.ast.specs.Ast.{Document, NodeOrigin, Statement}
use Rattle.sheet_check.specs.declared.grammar.Form.TheVariants.{Root, Library, Expanded, Documents, Protos}
use Rattle.sheet_check.specs.Checked.{Checked, Fits, Bad}
use Rattle.sheet_rows.specs.Rows.{rows, words}
use Rattle.sheet_shape.specs.Shape.{shape_fits}
use Rattle.sheet_check.specs.Grammar.{checked, run, fits, role_of, moves, checked_numbered}
use Rattle.sheet_rows.specs.Parse.{elements, document_of, node_of, fields_of, interfaces_of, statements_of, statement_of, origin_of}
use Rattle.sheet_rows.specs.Print.{document_rows}

-- document 01's sheet, four rows
sample : List ℕ
sample =
    1 ∷ 5 ∷ 0 ∷ 0 ∷ 0 ∷ 0 ∷ 0 ∷ 0 ∷
    2 ∷ 7 ∷ 4294967295 ∷ 0 ∷ 0 ∷ 0 ∷ 0 ∷ 0 ∷
    11 ∷ 0 ∷ 0 ∷ 0 ∷ 0 ∷ 0 ∷ 0 ∷ 0 ∷
    5 ∷ 0 ∷ 0 ∷ 0 ∷ 0 ∷ 0 ∷ 0 ∷ 0 ∷ []

sample_document : Document
sample_document = record { header = 5; nodes = record { type_name = 7; def_name = none; origin = NodeOrigin.Builtin; fields = []; interface = []; statements = []; body_order = []; instance = none } ∷ []; protos = []; extern_protos = []; statements = Statement.Node 0 ∷ [] }

-- it is a root sheet and an expanded document; as a library its first row doesn't fit
sample_fits : ◌≡◌ {A = List Checked} (checked Root (rows sample) ∷ checked Expanded (rows sample) ∷ checked Library (rows sample) ∷ []) (Fits ∷ Fits ∷ Bad 0 ∷ [])
unfolding sample rows run fits shape_fits role_of moves
sample_fits = refl

-- what it says, and that printed again
sample_says : document_of (rows sample) ≡ sample_document
unfolding sample sample_document rows elements document_of node_of fields_of interfaces_of statements_of statement_of origin_of
sample_says = refl

sample_printed : words (document_rows sample_document) ≡ sample
unfolding sample sample_document words document_rows
sample_printed = refl

-- a field that counts two ids and has one: the row that comes instead
one_id_of_two : checked Root (rows (1 ∷ 5 ∷ 0 ∷ 0 ∷ 0 ∷ 0 ∷ 0 ∷ 0 ∷ 2 ∷ 7 ∷ 4294967295 ∷ 0 ∷ 0 ∷ 0 ∷ 0 ∷ 0 ∷ 3 ∷ 9 ∷ 0 ∷ 0 ∷ 0 ∷ 4 ∷ 2 ∷ 2 ∷ 9 ∷ 0 ∷ 0 ∷ 0 ∷ 0 ∷ 0 ∷ 0 ∷ 0 ∷ 11 ∷ 0 ∷ 0 ∷ 0 ∷ 0 ∷ 0 ∷ 0 ∷ 0 ∷ [])) ≡ Bad 4
unfolding rows run fits shape_fits role_of moves
one_id_of_two = refl

-- an empty root ends early at row 0, an empty library fits, a file's row alone ends early at row 1
ends : ◌≡◌ {A = List Checked} (checked Root [] ∷ checked Library [] ∷ checked Library (rows (12 ∷ 3 ∷ 0 ∷ 0 ∷ 0 ∷ 0 ∷ 0 ∷ 0 ∷ [])) ∷ []) (Bad 0 ∷ Fits ∷ Bad 1 ∷ [])
unfolding rows run fits shape_fits role_of moves
ends = refl

-- ---- "Documents stand one after another in one sheet" (document 02, wish 5)

-- none fits, and so do one and two; as one document the second's row is the first that doesn't
documents : ◌≡◌ {A = List Checked} (checked Documents [] ∷ checked Documents (rows sample) ∷ checked Documents (rows (sample ++ sample)) ∷ checked Expanded (rows (sample ++ sample)) ∷ []) (Fits ∷ Fits ∷ Fits ∷ Bad 4 ∷ [])
unfolding sample rows run fits shape_fits role_of moves
documents = refl

-- each is an expanded document: a proto in the second, the second ending early, a file's row, a node before any document
document_misfits : ◌≡◌ {A = List Checked} (checked Documents (rows (sample ++ (1 ∷ 5 ∷ 0 ∷ 0 ∷ 0 ∷ 0 ∷ 0 ∷ 0 ∷ 7 ∷ 3 ∷ 0 ∷ 0 ∷ 0 ∷ 0 ∷ 0 ∷ 0 ∷ []))) ∷ checked Documents (rows (sample ++ (1 ∷ 5 ∷ 0 ∷ 0 ∷ 0 ∷ 0 ∷ 0 ∷ 0 ∷ []))) ∷ checked Documents (rows (sample ++ (12 ∷ 3 ∷ 0 ∷ 0 ∷ 0 ∷ 0 ∷ 0 ∷ 0 ∷ []))) ∷ checked Documents (rows (2 ∷ 7 ∷ 4294967295 ∷ 0 ∷ 0 ∷ 0 ∷ 0 ∷ 0 ∷ [])) ∷ []) (Bad 5 ∷ Bad 5 ∷ Bad 4 ∷ Bad 0 ∷ [])
unfolding sample rows run fits shape_fits role_of moves
document_misfits = refl

-- ---- "sheets of protos as in 01, without body statements" (document 02, wish 14)

-- two protos, the first with an interface whose default has two ids
two_protos : List ℕ
two_protos =
    7 ∷ 3 ∷ 0 ∷ 0 ∷ 0 ∷ 0 ∷ 0 ∷ 0 ∷
    4 ∷ 2 ∷ 14 ∷ 9 ∷ 4294967295 ∷ 14 ∷ 2 ∷ 2 ∷
    9 ∷ 0 ∷ 0 ∷ 0 ∷ 0 ∷ 0 ∷ 0 ∷ 0 ∷
    9 ∷ 1 ∷ 0 ∷ 0 ∷ 0 ∷ 0 ∷ 0 ∷ 0 ∷
    7 ∷ 3 ∷ 0 ∷ 0 ∷ 0 ∷ 0 ∷ 0 ∷ 0 ∷ []

-- none fits, and so do these; they are no document and no library
protos : ◌≡◌ {A = List Checked} (checked Protos [] ∷ checked Protos (rows two_protos) ∷ checked Root (rows two_protos) ∷ checked Library (rows two_protos) ∷ []) (Fits ∷ Fits ∷ Bad 0 ∷ Bad 0 ∷ [])
unfolding two_protos rows run fits shape_fits role_of moves
protos = refl

-- a body statement, an interface before any proto, an id of two missing, a document, row 11
proto_misfits : ◌≡◌ {A = List Checked} (checked Protos (rows (two_protos ++ (5 ∷ 0 ∷ 0 ∷ 0 ∷ 0 ∷ 0 ∷ 0 ∷ 0 ∷ []))) ∷ checked Protos (rows (4 ∷ 2 ∷ 14 ∷ 9 ∷ 4294967295 ∷ 0 ∷ 0 ∷ 0 ∷ [])) ∷ checked Protos (rows (7 ∷ 3 ∷ 0 ∷ 0 ∷ 0 ∷ 0 ∷ 0 ∷ 0 ∷ 4 ∷ 2 ∷ 14 ∷ 9 ∷ 4294967295 ∷ 14 ∷ 2 ∷ 2 ∷ 9 ∷ 0 ∷ 0 ∷ 0 ∷ 0 ∷ 0 ∷ 0 ∷ 0 ∷ [])) ∷ checked Protos (rows sample) ∷ checked Protos (rows (two_protos ++ (11 ∷ 0 ∷ 0 ∷ 0 ∷ 0 ∷ 0 ∷ 0 ∷ 0 ∷ []))) ∷ []) (Bad 5 ∷ Bad 0 ∷ Bad 3 ∷ Bad 0 ∷ Bad 5 ∷ [])
unfolding sample two_protos rows run fits shape_fits role_of moves
proto_misfits = refl

-- ---- the check by a form's number

-- the sample by each number; 5 is no form's
numbers : ◌≡◌ {A = List Checked} (checked_numbered 0 sample ∷ checked_numbered 1 sample ∷ checked_numbered 2 sample ∷ checked_numbered 3 sample ∷ checked_numbered 4 sample ∷ checked_numbered 5 sample ∷ []) (Fits ∷ Bad 0 ∷ Fits ∷ Fits ∷ Bad 0 ∷ Bad 0 ∷ [])
unfolding checked_numbered sample rows run fits shape_fits role_of moves
numbers = refl

-- a word past the last row: the number of whole rows; where a row before it doesn't fit, that row
past_the_rows : ◌≡◌ {A = List Checked} (checked_numbered 0 (sample ++ (1 ∷ [])) ∷ checked_numbered 3 (1 ∷ []) ∷ checked_numbered 4 (sample ++ (7 ∷ [])) ∷ []) (Bad 4 ∷ Bad 0 ∷ Bad 0 ∷ [])
unfolding checked_numbered sample rows run fits shape_fits role_of moves
past_the_rows = refl

-- a document with an extern of one url, whose mark is c
one_url : ℕ → List ℕ
one_url c =
    1 ∷ 5 ∷ 0 ∷ 0 ∷ 0 ∷ 0 ∷ 0 ∷ 0 ∷
    8 ∷ 6 ∷ 0 ∷ 0 ∷ 0 ∷ 0 ∷ 0 ∷ 0 ∷
    10 ∷ 20 ∷ 4294967295 ∷ c ∷ 0 ∷ 0 ∷ 0 ∷ 0 ∷
    11 ∷ 0 ∷ 0 ∷ 0 ∷ 0 ∷ 0 ∷ 0 ∷ 0 ∷ []

one_file : ℕ → List ℕ
one_file c = 12 ∷ 3 ∷ 0 ∷ 0 ∷ 0 ∷ 0 ∷ 0 ∷ 0 ∷ one_url c

-- "Sheets given to Expand keep 0 there; operations on an expanded document take 0 or 1." (document 02, wish 1)
marks : ◌≡◌ {A = List Checked}
    (checked Root (rows (one_url 0)) ∷ checked Root (rows (one_url 1)) ∷ checked Library (rows (one_file 0)) ∷ checked Library (rows (one_file 1)) ∷ checked Expanded (rows (one_url 0)) ∷ checked Expanded (rows (one_url 1)) ∷ checked Expanded (rows (one_url 2)) ∷ [])
    (Fits ∷ Bad 2 ∷ Fits ∷ Bad 3 ∷ Fits ∷ Fits ∷ Bad 2 ∷ [])
unfolding one_url one_file rows run fits shape_fits role_of moves
marks = refl
