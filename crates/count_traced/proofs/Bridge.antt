-- What is counted in the output of an accepted Expand is traced to its ledger.
use mathlib.Core.Path.{◌≡◌, refl, sym, ap, subst, ◌∙◌}
use mathlib.Core.List.{List, [], ◌∷◌, ◌++◌, map, append-nil, Memᴰ}
use mathlib.Core.Option.{Option, none, some}
use Prim.Native.Nat.{ℕ, zero, suc, ◌<◌}
use native.Mathlib.Omega.{arith}
use lib.ListN.{length, get_elem?}
use Rattle.ast.specs.Ast.{Node, Document}
use Rattle.ast.specs.Choice.{map_o}
use Rattle.ast.specs.Each.{Each}
use Rattle.ast.specs.Lookups.{node_at}
use Rattle.sheet_rows.specs.declared.row.Row.{Row}
use Rattle.sheet_rows.specs.Parse.{document_of, documents_of}
use Rattle.sheet_rows.specs.Print.{document_rows, documents_rows}
use Rattle.sheet_check.specs.declared.grammar.Form.TheVariants as form
use Rattle.sheet_check.specs.Checked.{Fits}
use Rattle.sheet_check.specs.Grammar.{checked}
use Rattle.sheet_roundtrip.proofs.RoundTrip.{expanded_printed_back, expanded_in_range}
use Rattle.sheet_forms.proofs.Documents.{documents_parsed_back, documents_fit}
use Rattle.expansion_steps.specs.Lists.{Nodup}
use Rattle.expansion_definition.specs.Input.{Input, docs}
use Rattle.expansion_definition.specs.Expand.{LedgerEntry, Expansion}
use Rattle.expansion_definition.specs.Expanded.{Expanded}
use Rattle.expansion_operation.specs.Operation.{Call, After, input}
use Rattle.expansion_operation.specs.Promises.{Accepted, said, out_rows}
use Rattle.graph_definition.specs.Graph.{Reached}
use Rattle.count_documents.specs.Promises.{LeadsTo}
use Rattle.count_traced.specs.Traced.{Traced, EachTraced, Counts}

-- ---- places of a list

module _ {A : Type 0} where
  mem_of : (l : List A) (i : ℕ) (x : A) → get_elem? l i ≡ some x → Memᴰ x l
  mem_of [] i x e = absurd (let z : ◌≡◌ {A = ℕ} 0 1 = cc in omega arith)
  mem_of (y ∷ l) zero x e = let z : y ≡ x = cc in Memᴰ.head (sym z)
  mem_of (y ∷ l) (suc i) x e = Memᴰ.tail (mem_of l i x e)

  one_place : (l : List A) (i j : ℕ) (x : A) → Nodup l → get_elem? l i ≡ some x → get_elem? l j ≡ some x → j ≡ i
  one_place [] i j x d p q = absurd (let z : ◌≡◌ {A = ℕ} 0 1 = cc in omega arith)
  one_place (y ∷ l) zero zero x d p q = refl
  one_place (y ∷ l) zero (suc j) x d p q = let z : y ≡ x = cc in absurd (d.0 (rw z (mem_of l j x q)))
  one_place (y ∷ l) (suc i) zero x d p q = let z : y ≡ x = cc in absurd (d.0 (rw z (mem_of l i x p)))
  one_place (y ∷ l) (suc i) (suc j) x d p q = ap suc (one_place l i j x d.1 p q)

at_map : {A B : Type 0} (f : A → B) (l : List A) (n : ℕ) → get_elem? (map f l) n ≡ map_o f (get_elem? l n)
at_map f [] n = refl
at_map f (x ∷ l) zero = refl
at_map f (x ∷ l) (suc n) = at_map f l n

-- two lists with equal images: an element of the first has its partner in the second
partner : {A B C : Type 0} (f : A → C) (g : B → C) (l : List A) (k : List B) (i : ℕ) (x : A) → map f l ≡ map g k → get_elem? l i ≡ some x → (y : B) × (get_elem? k i ≡ some y) × (f x ≡ g y)
partner {A} {B} {C} f g l k i x e p = go (get_elem? k i) refl
  where
    images : some (f x) ≡ map_o g (get_elem? k i)
    images = sym (ap (map_o f) p) ∙ sym (at_map f l i) ∙ ap (λ m. get_elem? m i) e ∙ at_map g k i

    go : (o : Option B) → get_elem? k i ≡ o → (y : B) × (get_elem? k i ≡ some y) × (f x ≡ g y)
    go none q = absurd (let z : some (f x) ≡ none = images ∙ ap (map_o g) q in let y : ◌≡◌ {A = ℕ} 0 1 = cc in omega arith)
    go (some y) q = let z : some (f x) ≡ some (g y) = images ∙ ap (map_o g) q in (y, q, cc)

-- ---- an expansion

pub each_traced : (I : Input) (e : Expansion) (x : Expanded I e) → EachTraced I e x
each_traced I e x name i r l =
    let y = partner (λ (n : Node). some n.type_name) (λ (n : LedgerEntry). map_o (λ (z : Node). z.type_name) (node_at (docs I) n.document n.source)) e.document.nodes e.ledger i l.node x.type_names l.is in
    let h = (x.ledger y.0.scope y.0.document y.0.source).0 (mem_of e.ledger i y.0 y.1) in
    record {
      entry = y.0;
      place = y.1;
      alone = λ j q. one_place e.ledger i j y.0 x.ledger_once y.1 q;
      scope = h.0;
      document = h.1;
      source = sym y.2 ∙ ap some l.type_name;
      plain = h.2;
      reached = h.3;
    }

-- ---- the words of a call

single : (R : List Row) → checked form.Expanded R ≡ Fits → (checked form.Documents R ≡ Fits) × (documents_of R ≡ document_of R ∷ [])
unfolding documents_rows
single R h =
    let w = expanded_in_range R h in
    let e : documents_rows (document_of R ∷ []) ≡ R = append-nil (document_rows (document_of R)) ∙ expanded_printed_back R h in
    (subst (λ (l : List Row). checked form.Documents l ≡ Fits) e (documents_fit (document_of R ∷ []) (w.0, tt) (w.1, tt)), subst (λ (l : List Row). documents_of l ≡ document_of R ∷ []) e (documents_parsed_back (document_of R ∷ []) (w.0, tt)))

pub counts : (c : Call) (r : After) (a : Accepted c r) → Counts c r a
counts c r a = let s = single (out_rows r) a.fits in record { fits = s.0; one = s.1; traced = each_traced (input c) (said r) a.expanded }
