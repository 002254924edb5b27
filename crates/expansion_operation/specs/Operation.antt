-- Expand on words (document 01, What each operation says no to: Expand): from what a call is given and lent to its answer and the words after it.
use Rattle.std.specs.Prelude.{Ok, Err, Bool, true, false, not, ◌||◌, List, [], ◌∷◌, ℕ, ◌+◌, ◌*◌, ◌/◌, ◌%◌, length, ltb, eqb}
use Rattle.words_lent.specs.Words.{over}
use Rattle.sheet_check.specs.Checked.{Checked}
use Rattle.sheet_check.specs.declared.grammar.Form.TheVariants as form
use Rattle.sheet_rows.specs.Rows.{rows, words}
use Rattle.sheet_check.specs.Grammar.{checked}
use Rattle.sheet_rows.specs.Parse.{document_of, files_of}
use Rattle.sheet_rows.specs.Print.{document_rows}
use Rattle.expansion_definition.specs.Input.{Limits, Input}
use Rattle.expansion_definition.specs.Scopes.{scope_entry}
use Rattle.ast.specs.Lists.{flat}
use Rattle.expansion_definition.specs.Expand.{LedgerEntry, Answer, expand}

-- "Expand takes a root sheet, a library sheet, three limits and four lent slices.": their words before the call; of work, of which nothing holds after it, the length
pub record Call : Type 0 where
  pub root : List ℕ
  pub library : List ℕ
  pub limits : Limits
  pub out : List ℕ
  pub ledger : List ℕ
  pub scopes : List ℕ
  pub work_length : ℕ

-- ---- refusals, in order

-- "1, max_nodes N over 4,000,000, max_depth D over 512, max_rows K over 16,777,216"
abbrev pub over_caps : Limits → Bool
over_caps l = ltb 4000000 l.max_nodes || ltb 512 l.max_depth || ltb 16777216 l.max_rows

-- "or a slice shorter than out 8 × K, ledger 3 × N, scopes 5 × K, work 16 × K + 64 × (D + 1) words"
abbrev pub too_short : Call → Bool
too_short c =
    ltb (length c.out) (8 * c.limits.max_rows) ||
    ltb (length c.ledger) (3 * c.limits.max_nodes) ||
    ltb (length c.scopes) (5 * c.limits.max_rows) ||
    ltb c.work_length (16 * c.limits.max_rows + 64 * (c.limits.max_depth + 1))

-- "2, a sheet (root first) not a multiple of 8 words or over 1,048,576 rows"
abbrev pub wrong_length : List ℕ → Bool
wrong_length sheet = not (eqb (length sheet % 8) 0) || ltb 1048576 (length sheet / 8)

-- "Otherwise both place numbers are 0."; next: the answer where this is no refusal
abbrev pub refuse_if : Bool → ℕ → Answer → Answer
refuse_if true n next = Answer.Refused n 0 0
refuse_if false n next = next

-- "3, a malformed sheet (root first), with sheet 0 or 1 and the first row, from 0, that doesn't fit (the row count, if it ends early)"
abbrev pub refuse_bad : ℕ → Checked → Answer → Answer
refuse_bad sheet (Ok _) next = next
refuse_bad sheet (Err b) next = Answer.Refused 3 sheet b.0

-- the sheets as they are parsed: "Document 0 is the root, document n the n-th file."
abbrev pub input : Call → Input
input c = record { root = document_of (rows c.root); library = files_of (rows c.library); limits = c.limits }

-- "In order: 1 .. 2 .. 3 .. Then, at the first step that meets one": from 4 on
unfoldable pub outcome : Call → Answer
outcome c =
    refuse_if (over_caps c.limits || too_short c) 1
    (refuse_if (wrong_length c.root || wrong_length c.library) 2
    (refuse_bad 0 (checked form.Root (rows c.root))
    (refuse_bad 1 (checked form.Library (rows c.library))
    (expand (input c)))))

-- ---- the answer, and the words after the call

-- refusal: its number, or 0; "The counts are nodes, scopes, charges and out's rows."
pub record Numbers : Type 0 where
  pub refusal : ℕ
  pub first_place : ℕ
  pub second_place : ℕ
  pub nodes : ℕ
  pub scopes : ℕ
  pub charges : ℕ
  pub rows : ℕ

pub record After : Type 0 where
  pub answer : Numbers
  pub out : List ℕ
  pub ledger : List ℕ
  pub scopes : List ℕ

-- "The ledger has, per output node: scope, document, source id."
abbrev pub ledger_words : LedgerEntry → List ℕ
ledger_words x = x.scope ∷ x.document ∷ x.source ∷ []

-- "A refusal keeps out, ledger and scopes; counts are 0."; "out past its rows, ledger past its nodes and scopes past its entries keep their words"
abbrev pub after_answer : Call → Answer → After
after_answer c (Answer.Refused n d i) =
    record {
      answer = record { refusal = n; first_place = d; second_place = i; nodes = 0; scopes = 0; charges = 0; rows = 0 };
      out = c.out;
      ledger = c.ledger;
      scopes = c.scopes;
    }
after_answer c (Answer.Expanded e) =
    record {
      answer = record { refusal = 0; first_place = 0; second_place = 0; nodes = e.node_count; scopes = e.scope_count; charges = e.charges; rows = length (document_rows e.document) };
      out = over (words (document_rows e.document)) c.out;
      ledger = over (flat ledger_words e.ledger) c.ledger;
      scopes = over (flat scope_entry e.scopes) c.scopes;
    }

unfoldable pub expand_words : Call → After
expand_words c = after_answer c (outcome c)
