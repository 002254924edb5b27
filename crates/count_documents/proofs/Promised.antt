-- What is promised of every count.
use mathlib.Core.Path.{◌≡◌, refl, sym, ap, ◌∙◌}
use mathlib.Core.Bool.{Bool, true, false}
use mathlib.Core.Logic.{◌⊎◌, inl, inr}
use mathlib.Core.List.Memᴰ
use mathlib.Core.List.{List, [], ◌∷◌, ◌++◌, Memᴰ}
use mathlib.Core.Option.{Option, none, some}
use Prim.Native.Nat.{ℕ, ◌+◌, ◌≤◌}
use native.Mathlib.Omega.{arith}
use lib.ListN.{length, get_elem?, length-append}
use lib.Dec.{eqb}
use borrow.Author.Tests.{eqb-true, eq-eqb, ne_eqb}
use Rattle.ast.specs.Ast.{Node, Document}
use Rattle.ast.specs.Choice.{choose}
use Rattle.ast.specs.Lists.{flat}
use Rattle.sheet_rows.specs.Print.{document_rows}
use Rattle.expansion_steps.specs.Lists.{Nodup, one_if, count_if}
use Rattle.expansion_steps.specs.Sums.{Count}
use Rattle.graph_definition.specs.Graph.{Reached, top_node_ids, nexts, reached, mentions}
use Rattle.graph_definition.proofs.Exact.{reached_once, reached_exact}
use Rattle.count_documents.specs.Count.{is_of_type, named, count, total_of}
use Rattle.count_documents.specs.Promises.{LeadsTo, Mentioned, OfDocument, Promises}
use Rattle.count_documents.proofs.CountLaws.{named_below, at_most_lem, count_rows}

-- ---- the elements with P

module _ (P : ℕ → Bool) where
  those : List ℕ → List ℕ
  those [] = []
  those (x ∷ l) = choose (P x) (x ∷ those l) (those l)

  those_in : (l : List ℕ) (i : ℕ) → Memᴰ i (those l) → Memᴰ i l × (P i ≡ true)
  unfolding those
  those_in [] i m = absurd (Memᴰ.not-nil m)
  those_in (x ∷ l) i m = go (P x) refl m (those_in l i)
    where
      on : Memᴰ i l × (P i ≡ true) → Memᴰ i (x ∷ l) × (P i ≡ true)
      on z = (Memᴰ.tail z.0, z.1)

      at : P x ≡ true → (i ≡ x) ⊎ Memᴰ i (those l) → (Memᴰ i (those l) → Memᴰ i l × (P i ≡ true)) → Memᴰ i (x ∷ l) × (P i ≡ true)
      at e (inl q) f = (Memᴰ.head q, ap P q ∙ e)
      at e (inr q) f = on (f q)

      go : (b : Bool) → P x ≡ b → Memᴰ i (choose b (x ∷ those l) (those l)) → (Memᴰ i (those l) → Memᴰ i l × (P i ≡ true)) → Memᴰ i (x ∷ l) × (P i ≡ true)
      go true e k f = at e (Memᴰ.cases_cons k) f
      go false e k f = on (f k)

  those_of : (l : List ℕ) (i : ℕ) → Memᴰ i l → P i ≡ true → Memᴰ i (those l)
  unfolding those
  those_of [] i m e = absurd (Memᴰ.not-nil m)
  those_of (x ∷ l) i m e = go (P x) refl (Memᴰ.cases_cons m) (λ k. those_of l i k e)
    where
      go : (b : Bool) → P x ≡ b → (i ≡ x) ⊎ Memᴰ i l → (Memᴰ i l → Memᴰ i (those l)) → Memᴰ i (choose b (x ∷ those l) (those l))
      go true q (inl k) f = Memᴰ.head k
      go true q (inr k) f = Memᴰ.tail (f k)
      go false q (inl k) f = absurd (let z : true ≡ false = sym e ∙ ap P k ∙ q in let y : ◌≡◌ {A = ℕ} 0 1 = cc in omega arith)
      go false q (inr k) f = f k

  those_once : (l : List ℕ) → Nodup l → Nodup (those l)
  unfolding those
  those_once [] d = tt
  those_once (x ∷ l) d = go (P x) (those_once l d.1)
    where
      go : (b : Bool) → Nodup (those l) → Nodup (choose b (x ∷ those l) (those l))
      go true n = (λ m. d.0 (those_in l x m).0, n)
      go false n = n

  those_size : (l : List ℕ) → length (those l) ≡ count_if P l
  unfolding those
  those_size [] = refl
  those_size (x ∷ l) = go (P x) (those_size l)
    where
      go : (b : Bool) → length (those l) ≡ count_if P l → length (choose b (x ∷ those l) (those l)) ≡ one_if b + count_if P l
      go true e = omega arith
      go false e = omega arith

  -- as often as in the list
  those_often : (l : List ℕ) (i : ℕ) → P i ≡ true → count_if (eqb i) (those l) ≡ count_if (eqb i) l
  unfolding those
  those_often [] i e = refl
  those_often (x ∷ l) i e = go (P x) refl (those_often l i e)
    where
      go : (b : Bool) → P x ≡ b → count_if (eqb i) (those l) ≡ count_if (eqb i) l → count_if (eqb i) (choose b (x ∷ those l) (those l)) ≡ one_if (eqb i x) + count_if (eqb i) l
      go true q h = omega arith
      go false q h = omega (arith, ap one_if (ne_eqb i x (λ k. let z : true ≡ false = sym e ∙ ap P k ∙ q in let y : ◌≡◌ {A = ℕ} 0 1 = cc in omega arith)))

-- ---- nodes of a type name

leads : (l : Option Node) (t : ℕ) → is_of_type t l ≡ true → (x : Node) × (l ≡ some x) × (x.type_name ≡ t)
leads none t e = absurd (let z : ◌≡◌ {A = ℕ} 0 1 = cc in omega arith)
leads (some x) t e = (x, refl, eqb-true x.type_name t e)

module _ (d : Document) (t : ℕ) where
  leads_of : (i : ℕ) → named d t i ≡ true → LeadsTo d t i
  unfolding named
  leads_of i e = let x = leads (get_elem? d.nodes i) t e in record { node = x.0; is = x.1; type_name = x.2 }

  named_of : (i : ℕ) → LeadsTo d t i → named d t i ≡ true
  unfolding named
  named_of i x = ap (is_of_type t) x.is ∙ eq-eqb x.node.type_name t x.type_name

  nodes_count : Count (λ i. Reached d i × LeadsTo d t i) (count 2 d t)
  unfolding count
  nodes_count =
      record {
        list = those (named d t) (reached d);
        once = those_once (named d t) (reached d) (reached_once d);
        exact = λ i. (
          λ m. let x = those_in (named d t) (reached d) i m in (((reached_exact d i).0 x.0).1, leads_of i x.1),
          λ h. those_of (named d t) (reached d) i ((reached_exact d i).1 (named_below d t i (named_of i h.1), h.0)) (named_of i h.1),
        );
        size = those_size (named d t) (reached d);
      }

  every_mention : Mentioned d t (count 1 d t)
  unfolding count mentions
  every_mention =
      record {
        nodes = reached d;
        once = reached_once d;
        exact = reached_exact d;
        leading = those (named d t) (top_node_ids d ++ flat (nexts d) (reached d));
        which = λ i m. leads_of i (those_in (named d t) (top_node_ids d ++ flat (nexts d) (reached d)) i m).1;
        others = λ i m h. those_of (named d t) (top_node_ids d ++ flat (nexts d) (reached d)) i m (named_of i h);
        each = λ i h. those_often (named d t) (top_node_ids d ++ flat (nexts d) (reached d)) i (named_of i h);
        size = those_size (named d t) (top_node_ids d ++ flat (nexts d) (reached d));
      }

  of_document : OfDocument d t
  of_document = record { at_most = at_most_lem d t; nodes = nodes_count; mentions = every_mention; one = count_rows d t 1; two = count_rows d t 2 }

-- ---- totals

total_sum : (ps qs : List ℕ) (ds es : List Document) (t : ℕ) → length ps ≡ length ds → total_of (ps ++ qs) (ds ++ es) t ≡ total_of ps ds t + total_of qs es t
unfolding total_of
total_sum [] qs [] es t e = omega arith
total_sum [] qs (d ∷ ds) es t e = absurd (omega arith)
total_sum (p ∷ ps) qs [] es t e = absurd (omega arith)
total_sum (p ∷ ps) qs (d ∷ ds) es t e = omega (arith, total_sum ps qs ds es t (omega arith))

total_rows : (ps : List ℕ) (ds : List Document) (t : ℕ) → total_of ps ds t ≤ length (flat document_rows ds)
unfolding total_of
total_rows [] ds t = omega arith
total_rows (p ∷ ps) [] t = omega arith
total_rows (p ∷ ps) (d ∷ ds) t = omega (arith, count_rows d t p, total_rows ps ds t, length-append (document_rows d) (flat document_rows ds))

pub promised : Promises
promised = record { document = of_document; sum = total_sum; rows = total_rows }
