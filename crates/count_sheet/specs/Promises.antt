-- What is promised of every call that counts (document 02, wish 5). This page states; nothing is proved on it.
-- What is promised of the counts themselves, whatever the documents, is on count_documents' page: under 2 at most as many as under 1, exactly the reached nodes, the sum over the documents.
use Rattle.std.specs.Prelude.{◌≡◌, true, List, ◌⊎◌, ℕ, ◌*◌, ◌/◌, ◌≤◌, ◌<◌, length, get_or, drop}
use Rattle.sheet_check.specs.declared.grammar.Form.TheVariants.{Documents}
use Rattle.sheet_check.specs.Grammar.{is_sheet}
use Rattle.count_documents.specs.Count.{total_of}
use Rattle.count_documents.specs.Promises as tallied
use Rattle.count_sheet.specs.Sheet.{documents_in, Answer, refused}

-- ---- refusals

-- nothing that 17 is given for; n: how many totals are lent
pub record Asked (ps ns : List ℕ) (n : ℕ) : Type 0 where
  -- "a protocol other than 1 or 2 or over 4,096 of them"
  pub protocols : (i : ℕ) → i < length ps → (get_or ps i 0 ≡ 1) ⊎ (get_or ps i 0 ≡ 2)
  pub few : length ps ≤ 4096
  -- "a repeated type name, over 64 names, or fewer lent totals than names"
  pub different : (i j : ℕ) → i < length ns → j < length ns → get_or ns i 0 ≡ get_or ns j 0 → i ≡ j
  pub names : length ns ≤ 64
  pub totals : length ns ≤ n

-- nothing that 18 is given for: "a malformed document, or not as many as protocol numbers"
pub record Well (sheet ps : List ℕ) (work : ℕ) : Type 0 where
  pub documents : is_sheet Documents sheet ≡ true
  pub room : 16 * (length sheet / 8) ≤ work
  pub many : length (documents_in sheet) ≡ length ps

-- a refusal by its number: no totals are written, and the lent ones stay
pub record Refused (lent : List ℕ) (a : Answer) (after : List ℕ) (n : ℕ) : Type 0 where
  pub answer : a ≡ refused n
  pub kept : after ≡ lent

-- ---- totals

pub record Accepted (sheet ps ns lent : List ℕ) (a : Answer) (after : List ℕ) : Type 0 where
  pub refusal : a.refusal ≡ 0
  pub written : a.totals ≡ length ns
  -- "The answer has a 64-bit total for each type name."
  pub totals : (j : ℕ) → j < length ns → get_or after j 0 ≡ total_of ps (documents_in sheet) (get_or ns j 0)
  -- nothing wraps: a total is at most the rows of the sheet
  pub rows : (j : ℕ) → j < length ns → get_or after j 0 ≤ length sheet / 8
  -- and it is a sum of counts of which this holds
  pub counts : tallied.Promises
  -- "lent places past that stay"
  pub long : length after ≡ length lent
  pub kept : drop (length ns) after ≡ drop (length ns) lent

-- ---- the promises

-- Which calls are refused, with what, and that everything else is accepted: each call is in one of these cases, and they exclude one another.
pub data Promises (sheet ps ns : List ℕ) (work : ℕ) (lent : List ℕ) (a : Answer) (after : List ℕ) : Type 0 where
  seventeen : (Asked ps ns (length lent) → ⊥) → Refused lent a after 17 → Promises sheet ps ns work lent a after
  eighteen : Asked ps ns (length lent) → (Well sheet ps work → ⊥) → Refused lent a after 18 → Promises sheet ps ns work lent a after
  otherwise : Asked ps ns (length lent) → Well sheet ps work → Accepted sheet ps ns lent a after → Promises sheet ps ns work lent a after
