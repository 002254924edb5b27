-- Count sheet under both protocols (document 02, wish 5): the operation over words. What is counted is in count_documents' Count.
use Rattle.std.specs.Prelude.{Result, Ok, Err, Bool, true, false, not, ◌&&◌, ◌||◌, List, [], ◌∷◌, map, ℕ, ◌*◌, ◌/◌, length, ltb, eqb}
use Rattle.ast.specs.Ast.{Document}
use Rattle.ast.specs.Choice.{choose}
use Rattle.words_lent.specs.Words.{over}
use Rattle.sheet_rows.specs.Rows.{rows}
use Rattle.sheet_rows.specs.Parse.{documents_of}
use Rattle.sheet_check.specs.declared.grammar.Form.TheVariants.{Documents}
use Rattle.sheet_check.specs.Grammar.{is_sheet}
use Rattle.graph_definition.specs.Graph.{among}
use Rattle.count_documents.specs.Count.{total_of}
use Rattle.words_answer.specs.Answer.{Said}
use Rattle.count_sheet.specs.declared.CountError.{CountError}
use Rattle.count_sheet.specs.declared.CountError.TheVariants.{WrongRequest, MalformedDocuments}

-- ---- "Refused: 17, a protocol other than 1 or 2 or over 4,096 of them, a repeated type name, over 64 names, or fewer lent totals than names"

unfoldable pub are_protocols : List ℕ → Bool
are_protocols [] = true
are_protocols (p ∷ l) = (eqb p 1 || eqb p 2) && are_protocols l

unfoldable pub repeats : List ℕ → Bool
repeats [] = false
repeats (x ∷ l) = among x l || repeats l

-- n: how many totals are lent
unfoldable pub wrong : (protocols names : List ℕ) → (n : ℕ) → Bool
wrong ps ns n =
    ltb 4096 (length ps) || (not (are_protocols ps) || (ltb 64 (length ns) || (repeats ns || ltb n (length ns))))

-- ---- "18, a malformed document, or not as many as protocol numbers"

-- "Documents stand one after another in one sheet, as many as protocol numbers."
abbrev pub documents_in : List ℕ → List Document
documents_in sheet = documents_of (rows sheet)

-- "It takes work of 16 words for each row handed in ..; less counts as malformed"
unfoldable pub malformed : (sheet protocols : List ℕ) → (work : ℕ) → Bool
malformed sheet ps work =
    not (is_sheet Documents sheet) || (ltb work (16 * (length sheet / 8)) || not (eqb (length (documents_in sheet)) (length ps)))

-- ---- the answer

-- refusal: its number, or 0; totals: how many are written
pub record Answer : Type 0 where
  pub refusal : ℕ
  pub totals : ℕ

abbrev pub refused : ℕ → Answer
refused n = record { refusal = n; totals = 0 }

abbrev pub accepted : ℕ → Answer
accepted n = record { refusal = 0; totals = n }

-- "The answer has a 64-bit total for each type name."
unfoldable pub totals_of : (sheet protocols names : List ℕ) → List ℕ
totals_of sheet ps ns = map (total_of ps (documents_in sheet)) ns

-- the answer, and the lent totals after the call; work: how many words of it are lent
unfoldable pub counted_sheet : (sheet protocols names : List ℕ) → (work : ℕ) → (lent : List ℕ) → Answer × List ℕ
counted_sheet sheet ps ns work lent =
    choose (wrong ps ns (length lent))
    (refused 17, lent)
    (choose (malformed sheet ps work) (refused 18, lent) (accepted (length ns), over (totals_of sheet ps ns) lent))

-- document 02's numbers
abbrev pub number_of : CountError → ℕ
number_of WrongRequest = 17
number_of MalformedDocuments = 18

-- for each case of the code's answer
abbrev pub answer_of : Result ℕ CountError → Answer
answer_of (Ok n) = accepted n
answer_of (Err e) = refused (number_of e)

-- as a C export says it: "refusal, totals"
abbrev pub said_counted : Answer × List ℕ → Said
said_counted r = record { refusal = r.0.refusal; numbers = r.0.totals ∷ []; lent = r.1 }
