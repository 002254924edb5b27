-- What is promised of every call that writes pages (document 02, wish 13). This page states; nothing is proved on it.
use Rattle.std.specs.Prelude.{◌≡◌, true, List, ℕ, ◌+◌, ◌*◌, ◌/◌, ◌%◌, ◌≤◌, ◌<◌, length, take, drop}
use Rattle.std.proofs.Math.Option.{some}
use Rattle.std.proofs.Math.ListN.{get_elem?}
use Rattle.ast.specs.Ast.{Node}
use Rattle.sheet_check.specs.Grammar.{is_expanded}
use Rattle.text_decimal.specs.Decimal.{justified}
use Rattle.pages_definition.specs.Pages.{heading, node_line, blank_line, document_nodes, Answer, refused}

-- ---- refusals

-- a document that is not malformed, with "three words a node" in the ledger, work of 16 words for each row, and ids below none
pub record Well (sheet ledger : List ℕ) (work : ℕ) : Type 0 where
  pub expanded : is_expanded sheet ≡ true
  pub room : 16 * (length sheet / 8) ≤ work
  pub ids : length (document_nodes sheet) ≤ 4294967295
  pub entries : length ledger ≡ 3 * length (document_nodes sheet)

-- a refusal by its number: no bytes are written, and the lent ones stay
pub record Refused (lent : List ℕ) (a : Answer) (after : List ℕ) (n : ℕ) : Type 0 where
  pub answer : a ≡ refused n
  pub kept : after ≡ lent

-- ---- the lines of what is written

-- "lines of 72 bytes and a line end": line l of all, from 0
abbrev pub line_at : List ℕ → ℕ → List ℕ
line_at text l = take 73 (drop (73 * l) text)

-- "A page has 60 lines", the first for its number: the line where node i stands
abbrev pub line_of_node : ℕ → ℕ
line_of_node i = 60 * (i / 59) + 1 + i % 59

module _ (nodes : List Node) (ledger text : List ℕ) where
  -- line l is a page's first, or a node's, or a blank one past the last node
  pub data Line (l : ℕ) : Type 0 where
    first : (p : ℕ) → l ≡ 60 * p → line_at text l ≡ heading p → Line l
    node : (i : ℕ) (x : Node) → get_elem? nodes i ≡ some x → l ≡ line_of_node i → line_at text l ≡ node_line i (drop (3 * i) ledger) x → Line l
    blank : (i : ℕ) → length nodes ≤ i → l ≡ line_of_node i → line_at text l ≡ blank_line → Line l

-- how many pages: all nodes have a place, and the last page has a node
pub record PagesFor (nodes : List Node) (pages : ℕ) : Type 0 where
  pub enough : length nodes ≤ 59 * pages
  pub last : (p : ℕ) → p < pages → 59 * p < length nodes

pub record Accepted (nodes : List Node) (ledger lent : List ℕ) (a : Answer) (after : List ℕ) : Type 0 where
  pub refusal : a.refusal ≡ 0
  -- "One call writes all pages", "60 lines of 72 bytes and a line end"
  pub pages : ℕ
  pub count : PagesFor nodes pages
  pub bytes : a.bytes ≡ 73 * (60 * pages)
  -- "none for no nodes"
  pub none : length nodes ≡ 0 → a.bytes ≡ 0
  -- "Line 1 has the page number": of every page
  pub numbered : (p : ℕ) → p < pages → line_at after (60 * p) ≡ heading p
  -- every line that is neither a first line nor blank is a node's
  pub each : (l : ℕ) → l < 60 * pages → Line nodes ledger after l
  -- "Every node stands on exactly one line": on one, with its six numbers;
  pub stands : (i : ℕ) (x : Node) → get_elem? nodes i ≡ some x → line_at after (line_of_node i) ≡ node_line i (drop (3 * i) ledger) x
  pub within : (i : ℕ) → i < length nodes → line_of_node i < 60 * pages
  -- and no other line begins with its id
  pub once : (l i : ℕ) → l < 60 * pages → i < length nodes → take 12 (line_at after l) ≡ justified 12 i → l ≡ line_of_node i
  -- "lent places past that stay"
  pub long : length after ≡ length lent
  pub kept : drop a.bytes after ≡ drop a.bytes lent

-- ---- the promises

-- Which calls are refused, with what, and that everything else is accepted: each call is in one of these cases, and they exclude one another.
pub data Promises (sheet ledger : List ℕ) (work : ℕ) (lent : List ℕ) (a : Answer) (after : List ℕ) : Type 0 where
  -- "28, a malformed document or a ledger not of three words a node"
  malformed : (Well sheet ledger work → ⊥) → Refused lent a after 28 → Promises sheet ledger work lent a after
  -- "29, too few lent bytes": too few for the pages that the nodes need
  too_few : Well sheet ledger work → (pages : ℕ) → PagesFor (document_nodes sheet) pages → length lent < 73 * (60 * pages) → Refused lent a after 29 → Promises sheet ledger work lent a after
  -- everything else
  otherwise : Well sheet ledger work → Accepted (document_nodes sheet) ledger lent a after → Promises sheet ledger work lent a after
