-- The lines of a page and the pages of a text: how long they are, and stored one after another.
use mathlib.Core.Path.{◌≡◌, refl, ap, ◌∙◌}
use mathlib.Core.List.{List, ◌++◌}
use mathlib.Core.Option.{Option, none, some}
use Prim.Native.Nat.{ℕ, ◌+◌, ◌*◌, ◌≤◌, ◌<◌}
use native.Mathlib.Omega.{arith}
use lib.ListN.{length, drop, get_or, get_elem?, length-append, length-replicate, set}
use lib.Seq.{sets, get_or-drop}
use borrow.Author.Tests.{eq-eqb, ne_eqb}
use Rattle.ast.specs.Ast.{Node}
use Rattle.sheet_rows.specs.declared.row.Row.{Row}
use Rattle.sheet_rows.specs.Rows.{none#, rows, blank}
use Rattle.sheet_rows.specs.Parse.{optional, node_of}
use Rattle.sheet_walks.proofs.WalkLaws.{front_drop}
use Rattle.text_decimal.specs.Decimal.{justified, spaces}
use Rattle.text_decimal.proofs.DecimalLaws.{justified_length}
use Rattle.pages_definition.specs.Pages.{each, line_end, heading, name_text, node_line, blank_line, line_of, line_for, page, document_nodes}
use Rattle.pages_definition.specs.Steps.{NodesFrom, LedgerOfNodes, LineReady, LinePut, PageReady, PagePut, PagesReady}
use Rattle.pages_definition.proofs.TextLaws.{then, line_put, each_more, lines_length, pages_length}

-- ---- how long

pub spaces_length : (w : ℕ) → length (spaces w) ≡ w
spaces_length w = length-replicate w 32

pub name_length : (n : Option ℕ) → length (name_text n) ≡ 12
name_length none = refl
name_length (some n) = justified_length 12 n

pub heading_length : (p : ℕ) → length (heading p) ≡ 73
unfolding heading
heading_length p = simp (length-append, justified_length)

pub blank_length : length blank_line ≡ 73
unfolding blank_line
blank_length = refl

pub node_length : (i : ℕ) (entry : List ℕ) (x : Node) → length (node_line i entry x) ≡ 73
unfolding node_line
node_length i entry x = simp (length-append, justified_length, name_length)

module _ (nodes : List Node) (ledger : List ℕ) where
  of_length : (i : ℕ) (entry : List ℕ) (x : Option Node) → length (line_of i entry x) ≡ 73
  of_length i entry none = blank_length
  of_length i entry (some x) = node_length i entry x

  pub line_length : (i : ℕ) → length (line_for nodes ledger i) ≡ 73
  unfolding line_for
  line_length i = of_length i (drop (3 * i) ledger) (get_elem? nodes i)

  abbrev pub lines_of : (p k : ℕ) → List ℕ
  lines_of p k = each k (λ j. line_for nodes ledger (59 * p + j))

  pub some_length : (p k : ℕ) → length (lines_of p k) ≡ 73 * k
  some_length p k = lines_length (λ j. line_for nodes ledger (59 * p + j)) (λ j. line_length (59 * p + j)) k

  pub page_length : (p : ℕ) → length (page nodes ledger p) ≡ 4380
  unfolding page
  page_length p = omega (arith, length-append (heading p) (lines_of p 59), heading_length p, some_length p 59)

  pub all_length : (n : ℕ) → length (each n (page nodes ledger)) ≡ 4380 * n
  all_length n = pages_length (page nodes ledger) page_length n

-- ---- a name, and a line

pub name_blank : (t : List ℕ) (at n : ℕ) {t₁ : List ℕ} → n ≡ 4294967295 → t₁ ≡ sets t at (spaces 12) → t₁ ≡ sets t at (name_text (optional n))
name_blank t at n h e = rw (eq-eqb n none# h) e

pub name_given : (t : List ℕ) (at n : ℕ) {t₁ : List ℕ} → (n ≡ 4294967295 → ⊥) → t₁ ≡ sets t at (justified 12 n) → t₁ ≡ sets t at (name_text (optional n))
name_given t at n h e = rw (ne_eqb n none# h) e

module _ (sheet ledger : List ℕ) (q i at : ℕ) (t₀ : List ℕ) {t₁ t₂ t₃ t₄ : List ℕ} {r : Row} where
  pub six_put : r ≡ get_or (rows sheet) q blank → t₁ ≡ sets t₀ at (justified 12 i ++ (justified 12 (get_or ledger (3 * i) 0) ++ justified 12 (get_or ledger (3 * i + 1) 0))) → t₂ ≡ sets t₁ (at + 36) (justified 12 (get_or ledger (3 * i + 2) 0)) → t₃ ≡ sets t₂ (at + 48) (justified 12 r.a) → t₄ ≡ sets t₃ (at + 60) (name_text (optional r.b)) → set t₄ (at + 72) 10 ≡ sets t₀ at (node_line i (drop (3 * i) ledger) (node_of (drop q (rows sheet))))
  unfolding node_line node_of
  six_put s e₁ e₂ e₃ e₄ =
      let z : 3 * i + 0 ≡ 3 * i = omega arith in
      rw (get_or-drop (3 * i) ledger 0 0, get_or-drop (3 * i) ledger 1 0, get_or-drop (3 * i) ledger 2 0, z, front_drop (rows sheet) q, ← s)
      (line_put t₀ at (justified 12 i) (justified 12 (get_or ledger (3 * i) 0)) (justified 12 (get_or ledger (3 * i + 1) 0)) (justified 12 (get_or ledger (3 * i + 2) 0)) (justified 12 r.a) (name_text (optional r.b))
      (justified_length 12 i) (justified_length 12 (get_or ledger (3 * i) 0)) (justified_length 12 (get_or ledger (3 * i + 1) 0)) (justified_length 12 (get_or ledger (3 * i + 2) 0)) (justified_length 12 r.a) (name_length (optional r.b)) e₁ e₂ e₃ e₄)

-- ---- the lines of a page

-- after k of them; t₀: the text with the page's first line
pub record Lining (sheet ledger : List ℕ) (p : ℕ) (t₀ t : List ℕ) (from k : ℕ) : Type 0 where
  pub upto : k ≤ 59
  pub long : length t ≡ length t₀
  pub here : NodesFrom sheet from (59 * p + k)
  pub written : t ≡ sets t₀ (4380 * p + 73) (lines_of (document_nodes sheet) ledger p k)

module _ (sheet ledger : List ℕ) (p : ℕ) (t₀ : List ℕ) where
  pub lines_start : {q : ℕ} → NodesFrom sheet q (59 * p) → Lining sheet ledger p t₀ t₀ q 0
  unfolding each
  lines_start {q} h = let e : 59 * p + 0 ≡ 59 * p = omega arith in record { upto = omega arith; long = refl; here = rw e h; written = refl }

  pub line_ready : {t : List ℕ} {from k room : ℕ} → LedgerOfNodes sheet ledger → Lining sheet ledger p t₀ t from k → k < 59 → length t₀ ≡ room → 4380 * p + 4380 ≤ room → LineReady sheet ledger from (59 * p + k) (4380 * p + 73 + 73 * k) (length t)
  line_ready e l h z f = record { entries = e; here = l.here; fits = omega (arith, l.long) }

  pub lines_again : {t t' : List ℕ} {from k r : ℕ} → Lining sheet ledger p t₀ t from k → k < 59 → length t' ≡ length t → LinePut sheet ledger (59 * p + k) (4380 * p + 73 + 73 * k) t t' r → Lining sheet ledger p t₀ t' r (k + 1)
  lines_again {t} {t'} {from} {k} {r} l h z w =
      let e : 59 * p + k + 1 ≡ 59 * p + (k + 1) = omega arith in
      record {
        upto = omega arith;
        long = z ∙ l.long;
        here = rw e at w.next;
        written = each_more t₀ (4380 * p + 73) k (4380 * p + 73 + 73 * k) (λ j. line_for (document_nodes sheet) ledger (59 * p + j)) (ap (λ (n : ℕ). 4380 * p + 73 + n) (some_length (document_nodes sheet) ledger p k)) l.written w.written;
      }

  pub page_put : (before : List ℕ) {t : List ℕ} {from k : ℕ} → Lining sheet ledger p t₀ t from k → 59 ≤ k → t₀ ≡ sets before (4380 * p) (heading p) → PagePut sheet ledger p before t from
  unfolding page
  page_put before {t} {from} {k} l h e =
      let z : k ≡ 59 = omega (arith, l.upto) in
      let y : 59 * p + 59 ≡ 59 * (p + 1) = omega arith in
      let here : NodesFrom sheet from (59 * p + 59) = rw z at l.here in
      let written : t ≡ sets t₀ (4380 * p + 73) (lines_of (document_nodes sheet) ledger p 59) = rw z at l.written in
      record { next = rw y at here; written = then before (4380 * p) (4380 * p + 73) (heading p) (lines_of (document_nodes sheet) ledger p 59) e written (ap (λ (n : ℕ). 4380 * p + n) (heading_length p)) }

-- ---- the pages of a text

pub record Paging (sheet ledger : List ℕ) (n : ℕ) (t₀ t : List ℕ) (from p : ℕ) : Type 0 where
  pub upto : p ≤ n
  pub long : length t ≡ length t₀
  pub here : NodesFrom sheet from (59 * p)
  pub written : t ≡ sets t₀ 0 (each p (page (document_nodes sheet) ledger))

module _ (sheet ledger : List ℕ) (n : ℕ) (t₀ : List ℕ) where
  pub pages_start : Paging sheet ledger n t₀ t₀ 1 0
  unfolding each
  pages_start = record { upto = omega arith; long = refl; here = refl; written = refl }

  pub page_ready : {t : List ℕ} {from p : ℕ} → PagesReady sheet ledger n (length t₀) → Paging sheet ledger n t₀ t from p → p < n → PageReady sheet ledger from p (length t)
  page_ready r g h = record { entries = r.entries; here = g.here; small = omega (arith, r.small); fits = omega (arith, r.fits, g.long) }

  pub pages_again : {t t' : List ℕ} {from p r : ℕ} → Paging sheet ledger n t₀ t from p → p < n → length t' ≡ length t → PagePut sheet ledger p t t' r → Paging sheet ledger n t₀ t' r (p + 1)
  pages_again {t} {t'} {from} {p} {r} g h z w =
      record {
        upto = omega arith;
        long = z ∙ g.long;
        here = w.next;
        written = each_more t₀ 0 p (4380 * p) (page (document_nodes sheet) ledger) (omega (arith, all_length (document_nodes sheet) ledger p)) g.written w.written;
      }

  pub pages_end : {t : List ℕ} {from p : ℕ} → Paging sheet ledger n t₀ t from p → n ≤ p → t ≡ sets t₀ 0 (each n (page (document_nodes sheet) ledger))
  pages_end {t} {from} {p} g h = let e : p ≡ n = omega (arith, g.upto) in rw e at g.written
