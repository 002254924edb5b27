-- What is promised of every call of Expand, about the words before and after it. This page states; nothing is proved on it.
use Rattle.std.specs.Prelude.{◌≡◌, List, [], ◌∷◌, ℕ, zero, suc, ◌+◌, ◌*◌, ◌/◌, ◌%◌, ◌≤◌, ◌<◌, length, get_or, take, drop}
use Rattle.sheet_rows.specs.declared.row.Row.{Row}
use Rattle.sheet_check.specs.Checked.{Fits, Bad}
use Rattle.sheet_check.specs.declared.grammar.Form.TheVariants as form
use Rattle.sheet_rows.specs.Rows.{rows}
use Rattle.sheet_check.specs.Grammar.{checked}
use Rattle.sheet_rows.specs.Parse.{document_of}
use Rattle.pick_definition.specs.Picks.{Prototype}
use Rattle.expansion_definition.specs.Scopes.{Scope, scope_entry}
use Rattle.ast.specs.Lists.{flat}
use Rattle.expansion_definition.specs.Expand.{LedgerEntry, Expansion, Answer, expand}
use Rattle.expansion_definition.specs.Expanded.{Expanded, Refusal}
use Rattle.expansion_operation.specs.Operation.{Call, After, input}

-- ---- demand 1: "Refused, with a number from document 01 and the output, ledger and scope list unchanged"

-- no "short buffers", no "limits over their caps"
pub record RoomAndCaps (c : Call) : Type 0 where
  pub max_nodes : c.limits.max_nodes ≤ 4000000
  pub max_depth : c.limits.max_depth ≤ 512
  pub max_rows : c.limits.max_rows ≤ 16777216
  pub out : 8 * c.limits.max_rows ≤ length c.out
  pub ledger : 3 * c.limits.max_nodes ≤ length c.ledger
  pub scopes : 5 * c.limits.max_rows ≤ length c.scopes
  pub work : 16 * c.limits.max_rows + 64 * (c.limits.max_depth + 1) ≤ c.work_length

-- no sheet "too long": whole rows, at most 1,048,576
pub record SheetLength (l : List ℕ) : Type 0 where
  pub whole : length l % 8 ≡ 0
  pub cap : length l / 8 ≤ 1048576

abbrev pub Sheets : Call → Type 0
Sheets c = SheetLength c.root × SheetLength c.library

-- no sheet "malformed"
abbrev pub WellFormed : Call → Type 0
WellFormed c = (checked form.Root (rows c.root) ≡ Fits) × (checked form.Library (rows c.library) ≡ Fits)

-- a refusal by its number and places: counts 0, "the output, ledger and scope list unchanged"
pub record Refused (c : Call) (r : After) (n d i : ℕ) : Type 0 where
  pub answer : r.answer ≡ record { refusal = n; first_place = d; second_place = i; nodes = 0; scopes = 0; charges = 0; rows = 0 }
  pub out : r.out ≡ c.out
  pub ledger : r.ledger ≡ c.ledger
  pub scopes : r.scopes ≡ c.scopes

-- Which calls are refused, with what, and that everything else is accepted: each call is in one of these cases, and they exclude one another.
pub data Answered (c : Call) (r : After) : Type 0 where
  -- "short buffers, limits over their caps"
  one : (RoomAndCaps c → ⊥) → Refused c r 1 0 0 → Answered c r
  -- "sheets .. too long", either of the two
  two : RoomAndCaps c → (Sheets c → ⊥) → Refused c r 2 0 0 → Answered c r
  -- "sheets malformed": the root's row that doesn't fit, or else the library's
  three_root : RoomAndCaps c → Sheets c → (row : ℕ) → checked form.Root (rows c.root) ≡ Bad row → Refused c r 3 0 row → Answered c r
  three_library : RoomAndCaps c → Sheets c → checked form.Root (rows c.root) ≡ Fits → (row : ℕ) → checked form.Library (rows c.library) ≡ Bad row → Refused c r 3 1 row → Answered c r
  -- "where the expansion meets them, ids that lead nowhere, bodies without a root, and a limit passed": 4 to 10. `Refusal` has, for each, the place to which the steps come and what is wrong there.
  four_to_ten : RoomAndCaps c → Sheets c → WellFormed c → (n d i : ℕ) → expand (input c) ≡ Answer.Refused n d i → Refusal (input c) n d i → Refused c r n d i → Answered c r
  -- "Everything else is accepted, and every call returns.": nothing that one of 4 to 10 is given for
  accepted : RoomAndCaps c → Sheets c → WellFormed c → (e : Expansion) → expand (input c) ≡ Answer.Expanded e → ((n d i : ℕ) → Refusal (input c) n d i → ⊥) → r.answer.refusal ≡ 0 → Answered c r

-- ---- demand 3: what the words after an accepted call say

-- the rows written
abbrev pub out_rows : After → List Row
out_rows r = rows (take (8 * r.answer.rows) r.out)

-- "The ledger has, per output node: scope, document, source id.": of n nodes
abbrev pub ledger_said : ℕ → List ℕ → List LedgerEntry
ledger_said zero l = []
ledger_said (suc n) l = record { scope = get_or l 0 0; document = get_or l 1 0; source = get_or l 2 0 } ∷ ledger_said n (drop 3 l)

-- "kind (0 root, 1 body, 2 default), document, PROTO id, interface index from 0 (defaults only), opening scope"
abbrev pub scope_said : ℕ → Prototype → ℕ → ℕ → Scope
scope_said zero p index opener = Scope.Root
scope_said (suc zero) p index opener = Scope.Body p opener
scope_said (suc (suc k)) p index opener = Scope.Default p index opener

-- of n scopes
abbrev pub scopes_said : ℕ → List ℕ → List Scope
scopes_said zero l = []
scopes_said (suc n) l = scope_said (get_or l 0 0) (record { document = get_or l 1 0; proto = get_or l 2 0 }) (get_or l 3 0) (get_or l 4 0) ∷ scopes_said n (drop 5 l)

-- the expansion that the answer and the words say: the document that out's rows parse to, the ledger's triples, the entries of scopes, and the counts
abbrev pub said : After → Expansion
said r =
    record {
      document = document_of (out_rows r);
      ledger = ledger_said r.answer.nodes r.ledger;
      scopes = scopes_said r.answer.scopes r.scopes;
      node_count = r.answer.nodes;
      scope_count = r.answer.scopes;
      charges = r.answer.charges;
    }

pub record Accepted (c : Call) (r : After) : Type 0 where
  -- Demand 3, sentence by sentence, with the lines of `Expanded` that say it of these words:
  -- "No PROTO and no instance, as document 01 defines them, is left in its output.": no_proto, no_instance.
  -- "Every node id of the output is below the node count, and that count is at most the node limit.": ids, node_count, node_limit.
  -- "the scope list has one entry for each scope that these steps open, and no other": steps, opens, scopes, scope_count.
  -- Document 02, wish 6, "an instance's field bound by IS to something without a value now takes the inner prototype's default, in a default scope": defaults.
  -- "The node count = the sum, over all these scopes, of the plain nodes reached in each, by document 01's closure.": nodes_reached.
  -- "The ledger has, for each of these scopes and each plain node reached in it, exactly one entry with that scope, document and source id, and no other entry.": ledger_once, ledger, ledger_size. Entry k is node k's: ledger_order, type_names.
  -- "And only a loop doubles a pod: whenever no instance reached in any of these scopes reaches itself, the body scopes opened = the sum, over all these scopes, of the instances reached in each.": pods.
  -- Document 02, wish 6, "The double-count guarantee covers the new default scopes as well.": default_count.
  -- Document 02, wish 1, "In the output, that url row has c = 1 and every other url row c = 0.": supplied.
  -- Document 01, Charges: the charges told are the items of its list, no more and no fewer: charges.
  pub expanded : Expanded (input c) (said r)
  -- "The output is exactly what document 01's steps give"
  pub steps : expand (input c) ≡ Answer.Expanded (said r)
  -- the rows written are those of an expanded document (checker's Grammar; of what they say, `form` of `Expanded`)
  pub fits : checked form.Expanded (out_rows r) ≡ Fits
  -- of a scope's entry, what its kind doesn't use is 0
  pub scope_words : take (5 * r.answer.scopes) r.scopes ≡ flat scope_entry (said r).scopes
  -- "In every accepted expansion rows ≤ charges ≤ K": the second is in `Expanded`
  pub rows_paid : r.answer.rows ≤ r.answer.charges
  -- "Otherwise both place numbers are 0."
  pub first_place : r.answer.first_place ≡ 0
  pub second_place : r.answer.second_place ≡ 0
  -- "out past its rows, ledger past its nodes and scopes past its entries keep their words"
  pub out_kept : drop (8 * r.answer.rows) r.out ≡ drop (8 * r.answer.rows) c.out
  pub ledger_kept : drop (3 * r.answer.nodes) r.ledger ≡ drop (3 * r.answer.nodes) c.ledger
  pub scopes_kept : drop (5 * r.answer.scopes) r.scopes ≡ drop (5 * r.answer.scopes) c.scopes

-- ---- the promises

pub record Promises (c : Call) (r : After) : Type 0 where
  -- demand 1
  pub answered : Answered c r
  -- demand 3
  pub accepted : r.answer.refusal ≡ 0 → Accepted c r
  -- no slice is outgrown
  pub out_length : length r.out ≡ length c.out
  pub ledger_length : length r.ledger ≡ length c.ledger
  pub scopes_length : length r.scopes ≡ length c.scopes
