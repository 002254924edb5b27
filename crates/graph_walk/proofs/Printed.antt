-- The scans over the rows that a document is written in.
use mathlib.Core.Path.{◌≡◌, refl, sym, ap, ◌∙◌}
use mathlib.Core.Bool.{false}
use mathlib.Core.List.{List, [], ◌∷◌, ◌++◌, map, append_assoc, append-nil}
use mathlib.Core.Option.{Option, none, some}
use Prim.Native.Nat.{ℕ, zero, suc, ◌+◌, ◌≤◌, ◌<◌}
use native.Mathlib.Omega.{arith}
use lib.ListN.{length, get_or, drop, get_elem?, length-append, length-map, length-drop}
use lib.Seq.{drop-drop, drop-append_seam}
use lib.Dec.{eqb}
use Rattle.ast.specs.Ast.{FieldData, FieldValue, FieldBinding, Field, InterfaceDecl, Statement, NodeOrigin, BodyElement, ProtoInstance, Node, ProtoDecl, ExternProtoDecl, Document}
use Rattle.ast.specs.Each.{Each}
use Rattle.ast.specs.Lists.{flat}
use Rattle.sheet_rows.specs.declared.row.Row.{Row}
use Rattle.sheet_rows.specs.Rows.{blank, rest}
use Rattle.sheet_rows.specs.Print.{row, id_row, data_rows, binding_rows, field_rows, default_rows, interface_rows, route_row, statement_row, body_element_row, association_row, any_instance_rows, node_row, node_rows, proto_rows, url_row, extern_proto_rows, top_row, document_rows}
use Rattle.ast.specs.Ids.{data_ids, option_ids, binding_ids, statement_ids}
use Rattle.graph_definition.specs.Graph.{field_ids, interface_ids, node_ids, top_node_ids, node_count, nexts, value_ids_in}
use Rattle.graph_walk.specs.Scan.{places_from, top_from, ids_from, starts_from, end_from}
use Rattle.graph_walk.specs.Steps.{NodeStands}

-- ---- the kinds of rows

module _ (P : ℕ → Type 0) where
  abbrev Kinds : List Row → Type 0
  Kinds l = Each (λ r. P r.kind) l

  kinds_append : (a b : List Row) → Kinds a → Kinds b → Kinds (a ++ b)
  kinds_append [] b x y = y
  kinds_append (r ∷ a) b x y = (x.0, kinds_append a b x.1 y)

  kinds_map : {A : Type 0} (f : A → Row) → ((x : A) → P (f x).kind) → (l : List A) → Kinds (map f l)
  kinds_map f h [] = tt
  kinds_map f h (x ∷ l) = (h x, kinds_map f h l)

  kinds_flat : {A : Type 0} (f : A → List Row) → ((x : A) → Kinds (f x)) → (l : List A) → Kinds (flat f l)
  kinds_flat f h [] = tt
  kinds_flat f h (x ∷ l) = kinds_append (f x) (flat f l) (h x) (kinds_flat f h l)

  data_kinds : P 9 → (x : FieldData) → Kinds (data_rows x)
  data_kinds h (FieldData.Payload p) = tt
  data_kinds h (FieldData.Nodes l) = kinds_map id_row (λ i. h) l

  field_kinds : P 3 → P 9 → (x : Field) → Kinds (field_rows x)
  field_kinds a b x = go x.binding
    where
      go : (y : FieldBinding) → Kinds (binding_rows x y)
      go (FieldBinding.Value v) = (a, data_kinds b v.«data»)
      go (FieldBinding.Is t) = (a, tt)

  interface_kinds : P 4 → P 9 → (x : InterfaceDecl) → Kinds (interface_rows x)
  interface_kinds a b x = go x.value
    where
      go : (y : Option FieldValue) → Kinds (default_rows x y)
      go none = (a, tt)
      go (some v) = (a, data_kinds b v.«data»)

  statement_kind : P 5 → (x : Statement) → P (statement_row x).kind
  statement_kind h (Statement.Node i) = h
  statement_kind h (Statement.Proto i) = h
  statement_kind h (Statement.ExternProto i) = h
  statement_kind h (Statement.Route x) = h
  statement_kind h (Statement.Other p) = h

  order_kind : P 6 → (x : BodyElement) → P (body_element_row x).kind
  order_kind h BodyElement.Field = h
  order_kind h BodyElement.Interface = h
  order_kind h BodyElement.Statement = h

  instance_kinds : P 5 → P 9 → P 13 → P 14 → (x : Option ProtoInstance) → Kinds (any_instance_rows x)
  instance_kinds a b c e none = tt
  instance_kinds a b c e (some x) = (c, kinds_append (map id_row x.extra_roots ++ map route_row x.routes) (map association_row x.is_map) (kinds_append (map id_row x.extra_roots) (map route_row x.routes) (kinds_map id_row (λ i. b) x.extra_roots) (kinds_map route_row (λ y. a) x.routes)) (kinds_map association_row (λ y. e) x.is_map))

  pub record Node-kinds : Type 0 where
    pub three : P 3
    pub four : P 4
    pub five : P 5
    pub six : P 6
    pub nine : P 9
    pub thirteen : P 13
    pub fourteen : P 14

  inner_kinds : Node-kinds → (x : Node) → Kinds (rest (node_rows x))
  inner_kinds k x =
      kinds_append (flat field_rows x.fields) _ (kinds_flat field_rows (field_kinds k.three k.nine) x.fields)
      (kinds_append (flat interface_rows x.interface) _ (kinds_flat interface_rows (interface_kinds k.four k.nine) x.interface)
      (kinds_append (map statement_row x.statements) _ (kinds_map statement_row (statement_kind k.five) x.statements)
      (kinds_append (map body_element_row x.body_order) _ (kinds_map body_element_row (order_kind k.six) x.body_order) (instance_kinds k.five k.nine k.thirteen k.fourteen x.instance))))

  proto_kinds : P 4 → P 5 → P 7 → P 9 → (x : ProtoDecl) → Kinds (proto_rows x)
  proto_kinds a b c e x = (c, kinds_append (flat interface_rows x.interface) (map statement_row x.body) (kinds_flat interface_rows (interface_kinds a e) x.interface) (kinds_map statement_row (statement_kind b) x.body))

  extern_kinds : P 4 → P 8 → P 9 → P 10 → (x : ExternProtoDecl) → Kinds (extern_proto_rows x)
  extern_kinds a b c e x = (b, kinds_append (flat interface_rows x.interface) (map url_row x.urls) (kinds_flat interface_rows (interface_kinds a c) x.interface) (kinds_map url_row (λ u. e) x.urls))

node_kind_lem : (t : ℕ) (n : Option ℕ) (o : NodeOrigin) → (node_row t n o).kind ≡ 2
node_kind_lem t n NodeOrigin.Builtin = refl
node_kind_lem t n (NodeOrigin.Proto i) = refl
node_kind_lem t n (NodeOrigin.ExternProto i) = refl
node_kind_lem t n NodeOrigin.Unknown = refl

node_type : (t : ℕ) (n : Option ℕ) (o : NodeOrigin) → (node_row t n o).a ≡ t
node_type t n NodeOrigin.Builtin = refl
node_type t n (NodeOrigin.Proto i) = refl
node_type t n (NodeOrigin.ExternProto i) = refl
node_type t n NodeOrigin.Unknown = refl

-- ---- rows that the scans pass over

abbrev NoNode : ℕ → Type 0
NoNode k = (eqb k 11 ≡ false) × (eqb k 2 ≡ false)

abbrev NoTop : ℕ → Type 0
NoTop k = eqb k 11 ≡ false

places_over : (Q l : List Row) (p : ℕ) → Kinds NoNode Q → places_from p (Q ++ l) ≡ places_from (p + length Q) l
unfolding places_from
places_over [] l p h = ap (λ k. places_from k l) (omega arith)
places_over (r ∷ Q) l p h = rw (h.0.0, h.0.1) (places_over Q l (suc p) h.1 ∙ ap (λ k. places_from k l) (omega arith))

top_over : (Q l : List Row) (p : ℕ) → Kinds NoTop Q → top_from p (Q ++ l) ≡ top_from (p + length Q) l
unfolding top_from
top_over [] l p h = ap (λ k. top_from k l) (omega arith)
top_over (r ∷ Q) l p h = rw h.0 (top_over Q l (suc p) h.1 ∙ ap (λ k. top_from k l) (omega arith))

-- ---- where nodes stand

node_places : ℕ → List Node → List ℕ
node_places p [] = []
node_places p (x ∷ xs) = p ∷ node_places (p + length (node_rows x)) xs

places_length : (p : ℕ) (xs : List Node) → length (node_places p xs) ≡ length xs
unfolding node_places
places_length p [] = refl
places_length p (x ∷ xs) = ap suc (places_length (p + length (node_rows x)) xs)

no_node : Node-kinds NoNode
no_node = record { three = (refl, refl); four = (refl, refl); five = (refl, refl); six = (refl, refl); nine = (refl, refl); thirteen = (refl, refl); fourteen = (refl, refl) }

no_top : Node-kinds NoTop
no_top = record { three = refl; four = refl; five = refl; six = refl; nine = refl; thirteen = refl; fourteen = refl }

place_node : (x : Node) (l : List Row) (p : ℕ) → places_from p (node_rows x ++ l) ≡ p ∷ places_from (p + length (node_rows x)) l
unfolding places_from
place_node x l p =
    rw (node_kind_lem x.type_name x.def_name x.origin) (ap (λ m. p ∷ m) (places_over (rest (node_rows x)) l (suc p) (inner_kinds NoNode no_node x) ∙ ap (λ k. places_from k l) (omega arith)))

places_nodes : (xs : List Node) (l : List Row) (p : ℕ) → places_from p (flat node_rows xs ++ l) ≡ node_places p xs ++ places_from (p + length (flat node_rows xs)) l
unfolding node_places
places_nodes [] l p = ap (λ k. places_from k l) (omega arith)
places_nodes (x ∷ xs) l p =
    rw (append_assoc (node_rows x) (flat node_rows xs) l)
    (place_node x (flat node_rows xs ++ l) p ∙ ap (λ m. p ∷ m) (places_nodes xs l (p + length (node_rows x)) ∙ ap (λ k. node_places (p + length (node_rows x)) xs ++ places_from k l) (omega (arith, length-append (node_rows x) (flat node_rows xs)))))

nodes_no_top : (xs : List Node) → Kinds NoTop (flat node_rows xs)
nodes_no_top xs = kinds_flat NoTop node_rows (λ x. (ap (λ k. eqb k 11) (node_kind_lem x.type_name x.def_name x.origin), inner_kinds NoTop no_top x)) xs

-- ---- the ids of a node's values

ids_list : (i : List ℕ) (l : List Row) → ids_from (map id_row i ++ l) ≡ i ++ ids_from l
unfolding ids_from
ids_list [] l = refl
ids_list (x ∷ i) l = ap (λ m. x ∷ m) (ids_list i l)

ids_data : (x : FieldData) (l : List Row) → ids_from (data_rows x ++ l) ≡ data_ids x ++ ids_from l
ids_data (FieldData.Payload p) l = refl
ids_data (FieldData.Nodes i) l = ids_list i l

ids_field : (x : Field) (l : List Row) → ids_from (field_rows x ++ l) ≡ field_ids x ++ ids_from l
unfolding ids_from
ids_field x l = go x.binding
  where
    go : (y : FieldBinding) → ids_from (binding_rows x y ++ l) ≡ binding_ids y ++ ids_from l
    go (FieldBinding.Value v) = ids_data v.«data» l
    go (FieldBinding.Is t) = refl

ids_interface : (x : InterfaceDecl) (l : List Row) → ids_from (interface_rows x ++ l) ≡ interface_ids x ++ ids_from l
unfolding ids_from
ids_interface x l = go x.value
  where
    go : (y : Option FieldValue) → ids_from (default_rows x y ++ l) ≡ option_ids y ++ ids_from l
    go none = refl
    go (some v) = ids_data v.«data» l

ids_flat : {A : Type 0} (print : A → List Row) (ids : A → List ℕ) → ((x : A) (l : List Row) → ids_from (print x ++ l) ≡ ids x ++ ids_from l) → (xs : List A) (l : List Row) → ids_from (flat print xs ++ l) ≡ flat ids xs ++ ids_from l
ids_flat print ids h [] l = refl
ids_flat print ids h (x ∷ xs) l =
    ap ids_from (append_assoc (print x) (flat print xs) l) ∙ h x (flat print xs ++ l) ∙ ap (λ m. ids x ++ m) (ids_flat print ids h xs l) ∙ sym (append_assoc (ids x) (flat ids xs) (ids_from l))

-- behind them the rows are none of values
abbrev Ends : List Row → Type 0
Ends l = ids_from l ≡ []

ends_statements : (s : List Statement) (l : List Row) → Ends l → Ends (map statement_row s ++ l)
unfolding ids_from
ends_statements [] l h = h
ends_statements (Statement.Node i ∷ s) l h = refl
ends_statements (Statement.Proto i ∷ s) l h = refl
ends_statements (Statement.ExternProto i ∷ s) l h = refl
ends_statements (Statement.Route x ∷ s) l h = refl
ends_statements (Statement.Other p ∷ s) l h = refl

ends_order : (s : List BodyElement) (l : List Row) → Ends l → Ends (map body_element_row s ++ l)
unfolding ids_from
ends_order [] l h = h
ends_order (BodyElement.Field ∷ s) l h = refl
ends_order (BodyElement.Interface ∷ s) l h = refl
ends_order (BodyElement.Statement ∷ s) l h = refl

ends_instance : (x : Option ProtoInstance) (l : List Row) → Ends l → Ends (any_instance_rows x ++ l)
unfolding ids_from
ends_instance none l h = h
ends_instance (some x) l h = refl

ends_nodes : (xs : List Node) (l : List Row) → Ends l → Ends (flat node_rows xs ++ l)
unfolding ids_from
ends_nodes [] l h = h
ends_nodes (x ∷ xs) l h = rw (node_kind_lem x.type_name x.def_name x.origin)

ends_protos : (xs : List ProtoDecl) (l : List Row) → Ends l → Ends (flat proto_rows xs ++ l)
unfolding ids_from
ends_protos [] l h = h
ends_protos (x ∷ xs) l h = refl

ends_externs : (xs : List ExternProtoDecl) (l : List Row) → Ends l → Ends (flat extern_proto_rows xs ++ l)
unfolding ids_from
ends_externs [] l h = h
ends_externs (x ∷ xs) l h = refl

ids_node : (x : Node) (l : List Row) → Ends l → ids_from (rest (node_rows x) ++ l) ≡ node_ids x
unfolding node_ids
ids_node x l h =
    let o = map body_element_row x.body_order in
    let s = map statement_row x.statements in
    let n = any_instance_rows x.instance in
    let i = flat interface_rows x.interface in
    let f = flat field_rows x.fields in
    let behind : Ends ((s ++ (o ++ n)) ++ l) = ap ids_from (append_assoc s (o ++ n) l ∙ ap (λ m. s ++ m) (append_assoc o n l)) ∙ ends_statements x.statements (o ++ (n ++ l)) (ends_order x.body_order (n ++ l) (ends_instance x.instance l h)) in
    ap ids_from (append_assoc f (i ++ (s ++ (o ++ n))) l ∙ ap (λ m. f ++ m) (append_assoc i (s ++ (o ++ n)) l)) ∙
    ids_flat field_rows field_ids ids_field x.fields (i ++ ((s ++ (o ++ n)) ++ l)) ∙
    ap (λ m. flat field_ids x.fields ++ m) (ids_flat interface_rows interface_ids ids_interface x.interface ((s ++ (o ++ n)) ++ l) ∙ ap (λ m. flat interface_ids x.interface ++ m) behind ∙ append-nil (flat interface_ids x.interface))

-- ---- rows from a place on

module _ (R : List Row) where
  pub drop_past : (p : ℕ) (Q l : List Row) → drop p R ≡ Q ++ l → drop (p + length Q) R ≡ l
  drop_past p Q l e = sym (drop-drop (length Q) p R) ∙ ap (drop (length Q)) e ∙ drop-append_seam Q l

  drop_one : (p : ℕ) (r : Row) (l : List Row) → drop p R ≡ r ∷ l → drop (p + 1) R ≡ l
  drop_one p r l e = drop_past p (r ∷ []) l e

  drop_front : (p : ℕ) (r : Row) (l : List Row) → drop p R ≡ r ∷ l → get_or R p blank ≡ r
  drop_front p r l e = sym (at R p) ∙ ap (λ m. get_or m 0 blank) e
    where
      at : (S : List Row) (k : ℕ) → get_or (drop k S) 0 blank ≡ get_or S k blank
      at S zero = refl
      at [] (suc k) = refl
      at (s ∷ S) (suc k) = at S k

  drop_below : (p : ℕ) (r : Row) (l : List Row) → drop p R ≡ r ∷ l → p < length R
  drop_below p r l e = omega (arith, ap length e, length-drop p R)

-- a node stands at a place: its type name is the row's, and its ids are read from the next row on
pub record NodeAt (R : List Row) (found : Option Node) (place : ℕ) : Type 0 where
  pub node : Node
  pub is : found ≡ some node
  pub below : place < length R
  pub type_name : (get_or R place blank).a ≡ node.type_name
  pub ids : ids_from (drop (place + 1) R) ≡ node_ids node

nodes_at_lem : (R : List Row) (xs : List Node) (l : List Row) (p : ℕ) → Ends l → drop p R ≡ flat node_rows xs ++ l → (i : ℕ) → i < length xs → NodeAt R (get_elem? xs i) (get_or (node_places p xs) i 0)
unfolding node_places
nodes_at_lem R [] l p h e i q = absurd (omega arith)
nodes_at_lem R (x ∷ xs) l p h e zero q =
    let here : drop p R ≡ node_rows x ++ (flat node_rows xs ++ l) = e ∙ append_assoc (node_rows x) (flat node_rows xs) l in
    let head = node_row x.type_name x.def_name x.origin in
    record {
      node = x;
      is = refl;
      below = drop_below R p head (rest (node_rows x) ++ (flat node_rows xs ++ l)) here;
      type_name = ap (λ (r : Row). r.a) (drop_front R p head (rest (node_rows x) ++ (flat node_rows xs ++ l)) here) ∙ node_type x.type_name x.def_name x.origin;
      ids = ap ids_from (drop_one R p head (rest (node_rows x) ++ (flat node_rows xs ++ l)) here) ∙ ids_node x (flat node_rows xs ++ l) (ends_nodes xs l h);
    }
nodes_at_lem R (x ∷ xs) l p h e (suc i) q = nodes_at_lem R xs l (p + length (node_rows x)) h (drop_past R p (node_rows x) (flat node_rows xs ++ l) (e ∙ append_assoc (node_rows x) (flat node_rows xs) l)) i (omega arith)

-- ---- top statements

starts_list : (s : List Statement) (l : List Row) → starts_from (map statement_row s ++ l) ≡ flat statement_ids s ++ starts_from l
unfolding starts_from
starts_list [] l = refl
starts_list (Statement.Node i ∷ s) l = ap (λ m. i ∷ m) (starts_list s l)
starts_list (Statement.Proto i ∷ s) l = starts_list s l
starts_list (Statement.ExternProto i ∷ s) l = starts_list s l
starts_list (Statement.Route x ∷ s) l = starts_list s l
starts_list (Statement.Other p ∷ s) l = starts_list s l

end_list : (s : List Statement) (l : List Row) (p : ℕ) → end_from p (map statement_row s ++ l) ≡ end_from (p + length s) l
unfolding end_from
end_list [] l p = ap (λ k. end_from k l) (omega arith)
end_list (Statement.Node i ∷ s) l p = end_list s l (suc p) ∙ ap (λ k. end_from k l) (omega arith)
end_list (Statement.Proto i ∷ s) l p = end_list s l (suc p) ∙ ap (λ k. end_from k l) (omega arith)
end_list (Statement.ExternProto i ∷ s) l p = end_list s l (suc p) ∙ ap (λ k. end_from k l) (omega arith)
end_list (Statement.Route x ∷ s) l p = end_list s l (suc p) ∙ ap (λ k. end_from k l) (omega arith)
end_list (Statement.Other q ∷ s) l p = end_list s l (suc p) ∙ ap (λ k. end_from k l) (omega arith)

starts_after : (ds : List Document) → starts_from (flat document_rows ds) ≡ []
unfolding starts_from document_rows
starts_after [] = refl
starts_after (d ∷ ds) = refl

end_after : (ds : List Document) (p : ℕ) → end_from p (flat document_rows ds) ≡ p
unfolding end_from document_rows
end_after [] p = refl
end_after (d ∷ ds) p = refl

-- ---- a document

module _ (d : Document) where
  abbrev N : List Row
  N = flat node_rows d.nodes

  abbrev P : List Row
  P = flat proto_rows d.protos

  abbrev E : List Row
  E = flat extern_proto_rows d.extern_protos

  abbrev S : List Row
  S = map statement_row d.statements

  document_is : (l : List Row) → document_rows d ++ l ≡ row 1 d.header 0 0 0 0 0 0 ∷ (N ++ (P ++ (E ++ (top_row ∷ (S ++ l)))))
  unfolding document_rows
  document_is l = simp append_assoc

  document_length : length (document_rows d) ≡ 2 + length N + length P + length E + length S
  unfolding document_rows
  document_length = omega (arith, length-append N (P ++ (E ++ (top_row ∷ S))), length-append P (E ++ (top_row ∷ S)), length-append E (top_row ∷ S))

module _ (R : List Row) (from : ℕ) (d : Document) (ds : List Document) (e : NodeStands R from d ds) where
  abbrev l : List Row
  l = flat document_rows ds

  abbrev behind : List Row
  behind = P d ++ (E d ++ (top_row ∷ (S d ++ l)))

  whole : drop from R ≡ row 1 d.header 0 0 0 0 0 0 ∷ (N d ++ behind)
  whole = e ∙ document_is d l

  inside : drop (from + 1) R ≡ N d ++ behind
  inside = drop_one R from (row 1 d.header 0 0 0 0 0 0) (N d ++ behind) whole

  behind_ends : Ends behind
  unfolding ids_from
  behind_ends = ends_protos d.protos (E d ++ (top_row ∷ (S d ++ l))) (ends_externs d.extern_protos (top_row ∷ (S d ++ l)) refl)

  no_more : (p : ℕ) → places_from p behind ≡ []
  unfolding places_from
  no_more p =
      places_over (P d) (E d ++ (top_row ∷ (S d ++ l))) p (kinds_flat NoNode proto_rows (proto_kinds NoNode (refl, refl) (refl, refl) (refl, refl) (refl, refl)) d.protos) ∙
      places_over (E d) (top_row ∷ (S d ++ l)) (p + length (P d)) (kinds_flat NoNode extern_proto_rows (extern_kinds NoNode (refl, refl) (refl, refl) (refl, refl) (refl, refl)) d.extern_protos)

  places_are : places_from (from + 1) (drop (from + 1) R) ≡ node_places (from + 1) d.nodes
  places_are = ap (places_from (from + 1)) inside ∙ places_nodes d.nodes behind (from + 1) ∙ ap (λ m. node_places (from + 1) d.nodes ++ m) (no_more (from + 1 + length (N d))) ∙ append-nil (node_places (from + 1) d.nodes)

  -- Each node has its place.
  pub places_count : length (places_from (from + 1) (drop (from + 1) R)) ≡ node_count d
  places_count = ap length places_are ∙ places_length (from + 1) d.nodes

  pub node_at : (i : ℕ) → i < node_count d → NodeAt R (get_elem? d.nodes i) (get_or (places_from (from + 1) (drop (from + 1) R)) i 0)
  node_at i q = rw places_are (nodes_at_lem R d.nodes behind (from + 1) behind_ends inside i q)

  -- Its ids are read from the row after it.
  pub nexts_at : (i : ℕ) → i < node_count d → ids_from (drop (get_or (places_from (from + 1) (drop (from + 1) R)) i 0 + 1) R) ≡ nexts d i
  unfolding nexts
  nexts_at i q = let x = node_at i q in x.ids ∙ ap value_ids_in (sym x.is)

  top_at : top_from (from + 1) (drop (from + 1) R) ≡ from + 1 + length (N d) + length (P d) + length (E d)
  unfolding top_from
  top_at =
      ap (top_from (from + 1)) inside ∙
      top_over (N d) behind (from + 1) (nodes_no_top d.nodes) ∙
      top_over (P d) (E d ++ (top_row ∷ (S d ++ l))) (from + 1 + length (N d)) (kinds_flat NoTop proto_rows (proto_kinds NoTop refl refl refl refl) d.protos) ∙
      top_over (E d) (top_row ∷ (S d ++ l)) (from + 1 + length (N d) + length (P d)) (kinds_flat NoTop extern_proto_rows (extern_kinds NoTop refl refl refl refl) d.extern_protos)

  module _ (top : ℕ) (t : top ≡ top_from (from + 1) (drop (from + 1) R)) where
    statements_at_lem : drop (top + 1) R ≡ S d ++ l
    statements_at_lem =
        rw (t ∙ top_at)
        (drop_one R (from + 1 + length (N d) + length (P d) + length (E d)) top_row (S d ++ l)
        (drop_past R (from + 1 + length (N d) + length (P d)) (E d) (top_row ∷ (S d ++ l))
        (drop_past R (from + 1 + length (N d)) (P d) (E d ++ (top_row ∷ (S d ++ l)))
        (drop_past R (from + 1) (N d) behind inside))))

    pub starts_at : starts_from (drop (top + 1) R) ≡ top_node_ids d
    unfolding top_node_ids
    starts_at = ap starts_from statements_at_lem ∙ starts_list d.statements l ∙ ap (λ m. flat statement_ids d.statements ++ m) (starts_after ds) ∙ append-nil (flat statement_ids d.statements)

    pub end_at : end_from (top + 1) (drop (top + 1) R) ≡ from + length (document_rows d)
    end_at =
        ap (end_from (top + 1)) statements_at_lem ∙ end_list d.statements l (top + 1) ∙ end_after ds (top + 1 + length d.statements) ∙
        omega (arith, t, top_at, document_length d, length-map d.statements statement_row)

    pub top_below : top + 1 ≤ length R
    top_below = omega (arith, t, top_at, document_length d, ap length e, length-append (document_rows d) l, length-drop from R)

  -- The documents after it stand from its end on.
  pub after_at : drop (from + length (document_rows d)) R ≡ flat document_rows ds
  after_at = drop_past R from (document_rows d) l e

  pub document_within : from + length (document_rows d) ≤ length R
  document_within = omega (arith, ap length e, length-append (document_rows d) l, length-drop from R, document_length d)
