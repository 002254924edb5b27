-- Computed examples of what sheets of several documents and sheets of protos say.
use Rattle.std.specs.Prelude.{◌≡◌, refl, List, [], ◌∷◌, ◌++◌, ℕ}
use Rattle.std.proofs.Math.Option.{none, some}
use Rattle.ast.specs.Ast.{Document, InterfaceDecl, ProtoDecl, FieldData, Statement}
use Rattle.sheet_rows.specs.Rows.{rows, words}
use Rattle.sheet_rows.specs.Parse.{elements, document_of, documents_of, up_to_next, sheets_of, protos_of, proto_of, node_of, interfaces_of, interface_of, statements_of, statement_of, ids_of}
use Rattle.sheet_rows.specs.Print.{document_rows, documents_rows, protos_rows}

-- a document of two rows, and one of three
two : List ℕ
two =
    1 ∷ 5 ∷ 0 ∷ 0 ∷ 0 ∷ 0 ∷ 0 ∷ 0 ∷
    11 ∷ 0 ∷ 0 ∷ 0 ∷ 0 ∷ 0 ∷ 0 ∷ 0 ∷ []

three : List ℕ
three =
    1 ∷ 6 ∷ 0 ∷ 0 ∷ 0 ∷ 0 ∷ 0 ∷ 0 ∷
    11 ∷ 0 ∷ 0 ∷ 0 ∷ 0 ∷ 0 ∷ 0 ∷ 0 ∷
    5 ∷ 0 ∷ 7 ∷ 0 ∷ 0 ∷ 0 ∷ 0 ∷ 0 ∷ []

two_says : Document
two_says = record { header = 5; nodes = []; protos = []; extern_protos = []; statements = [] }

three_says : Document
three_says = record { header = 6; nodes = []; protos = []; extern_protos = []; statements = Statement.Node 7 ∷ [] }

-- each with its own rows; of an empty sheet none
cut_there : sheets_of (rows (two ++ (three ++ two))) ≡ rows two ∷ rows three ∷ rows two ∷ []
unfolding two three rows sheets_of up_to_next elements
cut_there = refl

none_there : sheets_of (rows []) ≡ []
unfolding rows sheets_of elements
none_there = refl

-- what they say, and that printed again: a statement counts for the document that it stands in
said : documents_of (rows (three ++ two)) ≡ three_says ∷ two_says ∷ []
unfolding two three two_says three_says rows documents_of document_of elements statements_of statement_of
said = refl

printed : words (documents_rows (three_says ∷ two_says ∷ [])) ≡ three ++ two
unfolding two three two_says three_says words documents_rows document_rows
printed = refl

-- two protos, the first with an interface whose default has two ids
proto_words : List ℕ
proto_words =
    7 ∷ 3 ∷ 0 ∷ 0 ∷ 0 ∷ 0 ∷ 0 ∷ 0 ∷
    4 ∷ 2 ∷ 14 ∷ 9 ∷ 4294967295 ∷ 13 ∷ 2 ∷ 2 ∷
    9 ∷ 0 ∷ 0 ∷ 0 ∷ 0 ∷ 0 ∷ 0 ∷ 0 ∷
    9 ∷ 1 ∷ 0 ∷ 0 ∷ 0 ∷ 0 ∷ 0 ∷ 0 ∷
    7 ∷ 4 ∷ 0 ∷ 0 ∷ 0 ∷ 0 ∷ 0 ∷ 0 ∷ []

proto_says : List ProtoDecl
proto_says =
    record { name = 3; interface = record { access = 2; field_type = 14; name = 9; value = some (record { ty = 13; «data» = FieldData.Nodes (0 ∷ 1 ∷ []) }); is = none } ∷ []; body = [] } ∷
    record { name = 4; interface = []; body = [] } ∷ []

protos_said : protos_of (rows proto_words) ≡ proto_says
unfolding proto_words proto_says rows protos_of proto_of elements interfaces_of interface_of ids_of statements_of
protos_said = refl

protos_printed : words (protos_rows proto_says) ≡ proto_words
unfolding proto_words proto_says words protos_rows
protos_printed = refl
