-- A page for the logbook (document 02, wish 13).
use Rattle.std.specs.Prelude.{Result, Ok, Err, Bool, not, ◌||◌, List, [], ◌∷◌, ◌++◌, ℕ, zero, suc, ◌+◌, ◌*◌, ◌/◌, length, drop, get_or, ltb, eqb}
use Rattle.std.proofs.Math.Option.{Option, none, some}
use Rattle.std.proofs.Math.ListN.{get_elem?}
use Rattle.ast.specs.Ast.{Node}
use Rattle.ast.specs.Choice.{choose}
use Rattle.words_lent.specs.Words.{over}
use Rattle.sheet_rows.specs.Rows.{none#, rows}
use Rattle.sheet_rows.specs.Parse.{document_of}
use Rattle.sheet_check.specs.Grammar.{is_expanded}
use Rattle.text_decimal.specs.Decimal.{justified, spaces}
use Rattle.words_answer.specs.Answer.{Said}
use Rattle.pages_definition.specs.declared.PagesError.{PagesError}
use Rattle.pages_definition.specs.declared.PagesError.TheVariants.{MalformedDocument, TooFewBytes}

-- f of the first n numbers, one after another
unfoldable pub each : ℕ → (ℕ → List ℕ) → List ℕ
each zero f = []
each (suc n) f = each n f ++ f n

-- ---- "A page has 60 lines of 72 bytes and a line end, byte 10."

abbrev pub line_end : List ℕ
line_end = 10 ∷ []

-- "Line 1 has the page number, from 1, right-justified in 72."; p: the page, from 0
unfoldable pub heading : (p : ℕ) → List ℕ
heading p = justified 72 (p + 1) ++ line_end

-- "DEF name (blank if none)"
abbrev pub name_text : Option ℕ → List ℕ
name_text none = spaces 12
name_text (some n) = justified 12 n

-- "six numbers right-justified in 12 bytes: node id, scope, document, source id, type name, DEF name (blank if none)"
-- i: the node's id; entry: the ledger from the node's entry on, which is "scope, document, source id"
unfoldable pub node_line : (i : ℕ) → (entry : List ℕ) → Node → List ℕ
node_line i entry x =
    justified 12 i ++
    (justified 12 (get_or entry 0 0) ++ (justified 12 (get_or entry 1 0) ++ (justified 12 (get_or entry 2 0) ++ (justified 12 x.type_name ++ (name_text x.def_name ++ line_end)))))

unfoldable pub blank_line : List ℕ
blank_line = spaces 72 ++ line_end

-- "Each following line has, for one node in id order, .."; "The last page is filled with blank lines."
abbrev pub line_of : (i : ℕ) → (entry : List ℕ) → Option Node → List ℕ
line_of i entry none = blank_line
line_of i entry (some x) = node_line i entry x

module _ (nodes : List Node) (ledger : List ℕ) where
  -- the line of the i-th place for a node: 59 on each page
  unfoldable pub line_for : ℕ → List ℕ
  line_for i = line_of i (drop (3 * i) ledger) (get_elem? nodes i)

  unfoldable pub page : (p : ℕ) → List ℕ
  page p = heading p ++ each 59 (λ k. line_for (59 * p + k))

  -- as many as the nodes need; "none for no nodes"
  abbrev pub page_count : ℕ
  page_count = (length nodes + 58) / 59

  -- "One call writes all pages"
  unfoldable pub text : List ℕ
  text = each page_count page

-- ---- "Refused: 28, a malformed document or a ledger not of three words a node; 29, too few lent bytes."

abbrev pub document_nodes : (sheet : List ℕ) → List Node
document_nodes sheet = (document_of (rows sheet)).nodes

-- "It takes work of 16 words for each row handed in ..; less counts as malformed"; ids are below none, so more nodes than that are malformed too
unfoldable pub malformed : (sheet ledger : List ℕ) → (work : ℕ) → Bool
malformed sheet ledger work =
    not (is_expanded sheet) ||
    (ltb work (16 * (length sheet / 8)) ||
    (ltb none# (length (document_nodes sheet)) || not (eqb (length ledger) (3 * length (document_nodes sheet)))))

-- refusal: its number, or 0; bytes: how many are written
pub record Answer : Type 0 where
  pub refusal : ℕ
  pub bytes : ℕ

abbrev pub refused : ℕ → Answer
refused n = record { refusal = n; bytes = 0 }

abbrev pub accepted : ℕ → Answer
accepted n = record { refusal = 0; bytes = n }

-- the answer, and the lent bytes after the call; work: how many words of it are lent
unfoldable pub paged : (sheet ledger : List ℕ) → (work : ℕ) → (lent : List ℕ) → Answer × List ℕ
paged sheet ledger work lent =
    let t = text (document_nodes sheet) ledger in
    choose (malformed sheet ledger work)
    (refused 28, lent)
    (choose (ltb (length lent) (length t)) (refused 29, lent) (accepted (length t), over t lent))

-- document 02's numbers
abbrev pub number_of : PagesError → ℕ
number_of MalformedDocument = 28
number_of TooFewBytes = 29

-- for each case of the code's answer
abbrev pub answer_of : Result ℕ PagesError → Answer
answer_of (Ok n) = accepted n
answer_of (Err e) = refused (number_of e)

-- as a C export says it: "refusal, bytes"
abbrev pub said_paged : Answer × List ℕ → Said
said_paged r = record { refusal = r.0.refusal; numbers = r.0.bytes ∷ []; lent = r.1 }
