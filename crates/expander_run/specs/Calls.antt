-- A call of Expand and its answer, as the definition of `operation` has them.
use Rattle.std.specs.Prelude.{Bool, ◌||◌, List, ℕ, ◌+◌, ◌*◌, ◌≤◌, ◌≡◌, length, ltb}
use Rattle.words_lent.specs.Words.{over}
use Rattle.expansion_definition.specs.Input.{Limits}
use Rattle.expansion_definition.specs.Expand.{expand}
use Rattle.sheet_rows.specs.Rows.{words}
use Rattle.expansion_operation.specs.Operation.{Call, Numbers, After, over_caps, input, after_answer, expand_words}
use Rattle.expansion_operation.specs.Promises.{RoomAndCaps, Sheets, Answered, Accepted}
use Rattle.journal_reading.specs.Reading.{ledger_of, scopes_of}
use Rattle.refine_records.specs.declared.Counts.{Counts}
use Rattle.writer_pass.specs.Document.{journal_rows, Printable}
use Rattle.writer_tables.specs.Tables.{scope_text, ledger_text}
use Rattle.std.specs.declared.result.Result as either
use Rattle.std.specs.declared.result.Result.TheVariants.{Ok, Err}
pub use Rattle.refine_records.specs.declared.Refusal.{Refusal}
pub use Rattle.refine_records.specs.declared.Refusal.TheVariants.{NoRoom, WrongLength, Malformed}
pub use Rattle.refine_records.specs.Refusals.{refusal_number, first_place, second_place, PlacesOf}
use Rattle.expander_run.specs.declared.Numbers as code
use Rattle.expander_run.specs.declared.Expanded.{Expanded}

-- what a call answers: the counts of an expansion, or a refusal
abbrev pub Outcome : Type 0
Outcome = either.Result Expanded Refusal

abbrev pub limits_of : ℕ → ℕ → ℕ → Limits
limits_of n d k = record { max_nodes = n; max_depth = d; max_rows = k }

-- the words that a call is given and lent
abbrev pub call_of : (root library : List ℕ) → (n d k : ℕ) → (out ledger scopes work : List ℕ) → Call
call_of root library n d k out ledger scopes work =
    record { root = root; library = library; limits = limits_of n d k; out = out; ledger = ledger; scopes = scopes; work_length = length work }

-- the numbers of an answer: a refusal's counts are 0, an expansion's refusal and places
abbrev pub numbers_of : Outcome → Numbers
numbers_of (Ok x) = record { refusal = 0; first_place = 0; second_place = 0; nodes = x.nodes; scopes = x.scopes; charges = x.charges; rows = x.rows }
numbers_of (Err x') = record { refusal = refusal_number x'; first_place = first_place x'; second_place = second_place x'; nodes = 0; scopes = 0; charges = 0; rows = 0 }

-- the same, as code holds them
abbrev pub told : code.Numbers → Numbers
told n = record { refusal = n.refusal; first_place = n.first_place; second_place = n.second_place; nodes = n.nodes; scopes = n.scopes; charges = n.charges; rows = n.rows }

-- the answer, and the words after the call
abbrev pub after_of : Outcome → (out ledger scopes : List ℕ) → After
after_of a out ledger scopes = record { answer = numbers_of a; out = out; ledger = ledger; scopes = scopes }

-- refusal 1, by lengths
abbrev pub lacks_room : Limits → (out ledger scopes work : ℕ) → Bool
lacks_room l out ledger scopes work =
    over_caps l ||
    (ltb out (8 * l.max_rows) || ltb ledger (3 * l.max_nodes) || ltb scopes (5 * l.max_rows) || ltb work (16 * l.max_rows + 64 * (l.max_depth + 1)))

-- ---- what a call promises

-- the answer and every word of out, ledger and scopes are the definition's
abbrev pub AsDefined : (c : Call) → Outcome → (out ledger scopes : List ℕ) → Type 0
AsDefined c a out ledger scopes = after_of a out ledger scopes ≡ expand_words c

-- which calls are refused, with what, and that everything else is accepted
abbrev pub Demand1 : (c : Call) → Outcome → (out ledger scopes : List ℕ) → Type 0
Demand1 c a out ledger scopes = Answered c (after_of a out ledger scopes)

-- what holds of the words of an accepted call
abbrev pub Demand3 : (c : Call) → Outcome → (out ledger scopes : List ℕ) → Type 0
Demand3 c a out ledger scopes = (numbers_of a).refusal ≡ 0 → Accepted c (after_of a out ledger scopes)

-- ---- the run, and the writing

-- past refusals 1 and 2
abbrev pub Allowed : Call → Type 0
Allowed c = RoomAndCaps c × Sheets c

-- the steps' answer, past refusals 1 to 3
abbrev pub Ran : (c : Call) → Outcome → (out ledger scopes : List ℕ) → Type 0
Ran c a out ledger scopes = after_of a out ledger scopes ≡ after_answer c (expand (input c))

-- the records of an accepted run, and room for what they say
pub record Writable (root library w : List ℕ) (t : Counts) (tops : ℕ) (out ledger scopes : List ℕ) : Type 0 where
  pub printable : Printable w t.charges t.externs tops
  pub charges : t.charges ≤ 16777216
  pub rows : length (journal_rows root library w t.charges tops) ≤ t.charges
  pub out_room : 8 * t.charges ≤ length out
  pub ledger_room : 3 * length (ledger_of w t.charges) ≤ length ledger
  pub scopes_room : 5 * length (scopes_of w t.charges) ≤ length scopes

-- what they say, over the words lent
abbrev pub written : (root library w : List ℕ) → (t : Counts) → (tops : ℕ) → (out ledger scopes : List ℕ) → After
written root library w t tops out ledger scopes =
    record {
      answer = record { refusal = 0; first_place = 0; second_place = 0; nodes = t.nodes; scopes = t.scopes; charges = t.charges; rows = length (journal_rows root library w t.charges tops) };
      out = over (words (journal_rows root library w t.charges tops)) out;
      ledger = over (ledger_text w t.charges) ledger;
      scopes = over (scope_text w t.charges) scopes;
    }
