-- There are at most as many mentions in a document as rows.
use mathlib.Core.Path.{◌≡◌, refl, sym, ap}
use mathlib.Core.List.{List, [], ◌∷◌, ◌++◌, map, Memᴰ}
use mathlib.Core.Option.{Option, none, some}
use Prim.Native.Nat.{ℕ, zero, suc, ◌+◌, ◌≤◌, ◌<◌}
use native.Mathlib.Omega.{arith}
use native.Mathlib.Decide.{ℕ_discrete}
use lib.ListN.{length, get_elem?, length-append, length-map}
use lib.Dec.{eqb}
use borrow.Author.Tests.{eq-eqb, ne_eqb}
use Rattle.ast.specs.Ast.{FieldData, FieldValue, FieldBinding, Field, InterfaceDecl, Statement, Node, Document}
use Rattle.ast.specs.Choice.{choose}
use Rattle.ast.specs.Lists.{flat}
use Rattle.sheet_rows.specs.declared.row.Row.{Row}
use Rattle.sheet_rows.specs.Print.{id_row, data_rows, binding_rows, field_rows, default_rows, interface_rows, statement_row, body_element_row, any_instance_rows, node_rows, proto_rows, extern_proto_rows, top_row, document_rows}
use Rattle.expansion_steps.specs.Lists.{Nodup, sum_to}
use Rattle.expansion_steps.proofs.ListLaws.{sum_same}
use Rattle.ast.specs.Ids.{data_ids, option_ids, binding_ids, statement_ids}
use Rattle.graph_definition.specs.Graph.{field_ids, interface_ids, node_ids, top_node_ids, node_count, nexts, value_ids_in}

-- ---- sums over a list

abbrev pub sum_of : (ℕ → ℕ) → List ℕ → ℕ
sum_of f [] = 0
sum_of f (i ∷ l) = f i + sum_of f l

flat_sum : {A : Type 0} (g : ℕ → List A) (l : List ℕ) → length (flat g l) ≡ sum_of (λ i. length (g i)) l
flat_sum g [] = refl
flat_sum g (i ∷ l) = omega (arith, length-append (g i) (flat g l), flat_sum g l)

abbrev besides : ℕ → (ℕ → ℕ) → ℕ → ℕ
besides x f i = choose (eqb i x) 0 (f i)

sum_besides : (n x : ℕ) (f : ℕ → ℕ) → x < n → sum_to n f ≡ f x + sum_to n (besides x f)
sum_besides zero x f h = absurd (omega arith)
sum_besides (suc n) x f h = go (ℕ_discrete n x) (sum_besides n x f)
  where
    other : (i : ℕ) → (i ≡ x → ⊥) → f i ≡ besides x f i
    other i q = sym (ap (λ b. choose b 0 (f i)) (ne_eqb i x q))

    go : Dec (n ≡ x) → (x < n → sum_to n f ≡ f x + sum_to n (besides x f)) → sum_to n f + f n ≡ f x + (sum_to n (besides x f) + besides x f n)
    go (yes e) ih = omega (arith, sum_same n f (besides x f) (λ i q. other i (λ z. omega arith)), ap f e, ap (λ b. choose b 0 (f n)) (eq-eqb n x e))
    go (no e) ih = omega (arith, ih (omega arith), other n e)

-- each at most once
pub sum_once : (n : ℕ) (f : ℕ → ℕ) (l : List ℕ) → Nodup l → ((i : ℕ) → Memᴰ i l → i < n) → sum_of f l ≤ sum_to n f
sum_once n f [] d h = omega arith
sum_once n f (x ∷ l) d h =
    omega (arith, sum_besides n x f (h x (Memᴰ.head refl)), same l (λ m. d.0 m), sum_once n (besides x f) l d.1 (λ i m. h i (Memᴰ.tail m)))
  where
    same : (k : List ℕ) → (Memᴰ x k → ⊥) → sum_of f k ≡ sum_of (besides x f) k
    same [] q = refl
    same (i ∷ k) q = omega (arith, ap (λ b. choose b 0 (f i)) (ne_eqb i x (λ e. q (Memᴰ.head (sym e)))), same k (λ m. q (Memᴰ.tail m)))

sum_front : (n : ℕ) (f : ℕ → ℕ) → sum_to (suc n) f ≡ f 0 + sum_to n (λ i. f (suc i))
sum_front zero f = omega arith
sum_front (suc n) f = omega (arith, sum_front n f)

-- ---- ids and their rows

ids_rows : {A : Type 0} (ids : A → List ℕ) (print : A → List Row) → ((x : A) → length (ids x) ≤ length (print x)) → (l : List A) → length (flat ids l) ≤ length (flat print l)
ids_rows ids print h [] = omega arith
ids_rows ids print h (x ∷ l) = omega (arith, h x, ids_rows ids print h l, length-append (ids x) (flat ids l), length-append (print x) (flat print l))

data_rows_lem : (x : FieldData) → length (data_ids x) ≤ length (data_rows x)
data_rows_lem (FieldData.Payload p) = omega arith
data_rows_lem (FieldData.Nodes l) = omega (arith, length-map l id_row)

field_rows_lem : (x : Field) → length (field_ids x) ≤ length (field_rows x)
field_rows_lem x = go x.binding
  where
    go : (y : FieldBinding) → length (binding_ids y) ≤ length (binding_rows x y)
    go (FieldBinding.Value v) = omega (arith, data_rows_lem v.«data»)
    go (FieldBinding.Is t) = omega arith

interface_rows_lem : (x : InterfaceDecl) → length (interface_ids x) ≤ length (interface_rows x)
interface_rows_lem x = go x.value
  where
    go : (y : Option FieldValue) → length (option_ids y) ≤ length (default_rows x y)
    go none = omega arith
    go (some v) = omega (arith, data_rows_lem v.«data»)

node_rows_lem : (x : Node) → length (node_ids x) ≤ length (node_rows x)
unfolding node_ids
node_rows_lem x =
    let f = flat field_rows x.fields in
    let i = flat interface_rows x.interface in
    let t = map statement_row x.statements ++ (map body_element_row x.body_order ++ any_instance_rows x.instance) in
    omega (arith, length-append (flat field_ids x.fields) (flat interface_ids x.interface), length-append f (i ++ t), length-append i t, ids_rows field_ids field_rows field_rows_lem x.fields, ids_rows interface_ids interface_rows interface_rows_lem x.interface)

nodes_rows : (xs : List Node) → sum_to (length xs) (λ i. length (value_ids_in (get_elem? xs i))) ≤ length (flat node_rows xs)
nodes_rows [] = omega arith
nodes_rows (x ∷ xs) = omega (arith, sum_front (length xs) (λ i. length (value_ids_in (get_elem? (x ∷ xs) i))), node_rows_lem x, nodes_rows xs, length-append (node_rows x) (flat node_rows xs))

starts_rows : (s : List Statement) → length (flat statement_ids s) ≤ length s
starts_rows [] = omega arith
starts_rows (Statement.Node i ∷ s) = omega (arith, starts_rows s)
starts_rows (Statement.Proto i ∷ s) = omega (arith, starts_rows s)
starts_rows (Statement.ExternProto i ∷ s) = omega (arith, starts_rows s)
starts_rows (Statement.Route x ∷ s) = omega (arith, starts_rows s)
starts_rows (Statement.Other p ∷ s) = omega (arith, starts_rows s)

module _ (d : Document) where
  pub mentions_rows : (l : List ℕ) → Nodup l → ((i : ℕ) → Memᴰ i l → i < node_count d) → length (top_node_ids d ++ flat (nexts d) l) ≤ length (document_rows d)
  unfolding top_node_ids nexts document_rows
  mentions_rows l once h =
      let N = flat node_rows d.nodes in
      let P = flat proto_rows d.protos in
      let E = flat extern_proto_rows d.extern_protos in
      let S = map statement_row d.statements in
      omega (arith, length-append (flat statement_ids d.statements) (flat (nexts d) l), flat_sum (nexts d) l, sum_once (node_count d) (λ i. length (nexts d i)) l once h, nodes_rows d.nodes, starts_rows d.statements, length-map d.statements statement_row, length-append N (P ++ (E ++ (top_row ∷ S))), length-append P (E ++ (top_row ∷ S)), length-append E (top_row ∷ S))
