-- The check over a printed document: it asks that the document is in range, and of an expanded one that it is expanded, and nothing more.
use mathlib.Core.Path.{◌≡◌, refl, subst}
use mathlib.Core.List.{List, [], ◌∷◌}
use mathlib.Core.Option.{Option, none, some}
use mathlib.Core.Logic.{◌↔◌}
use mathlib.Core.Bool.{true, false}
use Prim.Native.Nat.{ℕ, ◌≤◌}
use native.Mathlib.Omega.{arith}
use lib.ListN.{length}
use lib.Dec.{eqb}
use Rattle.sheet_check.specs.declared.grammar.Form.{Form}
use Rattle.sheet_check.specs.declared.grammar.Form.TheVariants.{Library}
use Rattle.sheet_check.specs.Grammar.{takes_marks, begins_in}
use Rattle.ast.specs.Ast.{FieldValue, FieldBinding, Field, InterfaceDecl, Statement, ProtoInstance, Node, ProtoDecl, ExternProtoDecl, Document, File}
use Rattle.sheet_rows.specs.Print.{row, or_none, field_rows, binding_rows, interface_rows, default_rows, statement_row, body_element_row, instance_rows, any_instance_rows, node_rows, proto_rows, url_row, extern_proto_rows, document_rows, file_rows, library_rows}
use Rattle.ast.specs.Each.{Each}
use Rattle.sheet_roundtrip.specs.Ranges.{IsName, IsPresent, BindingInRange, FieldInRange, DefaultInRange, InterfaceInRange, AnyInstanceInRange, NodeInRange, ProtoInRange, ExternInterfaceInRange, ExternProtoInRange, InRange, FileInRange}
use Rattle.ast.specs.Expanded.{TopKept, InnerKept, InterfaceKept, NodeKept, IsExpanded}
use Rattle.sheet_roundtrip.proofs.Accepts.{bare}
use Rattle.sheet_roundtrip.proofs.Passes.{Asks, nothing, each, stay, Through, follow, instead, Passes, span, then, asking, listed, mapped, within}
use Rattle.sheet_roundtrip.proofs.Steps.{Sure, Takes, all, route_asks, ids, routes, associations, data_rows_lem, value_step, is_step, bare_interface_step, interface_step, extern_value, StatementGiven, statement_asks, statement_step_lem, inner_kept, top_kept, order_step, url_asks, url_step, instance_step_lem, node_step, proto_step, extern_step, top_step, document_step, file_step}

-- ---- what is given: what is present is not none

-- of an instance
abbrev pub InstanceGiven : Option ProtoInstance → Type 0
InstanceGiven none = Sure
InstanceGiven (some x) = Each (λ r. (route_asks r).given) x.routes

-- of interfaces
abbrev pub InterfacesGiven : List InterfaceDecl → Type 0
InterfacesGiven l = Each (λ i. IsPresent i.is) l

-- of a node
abbrev pub NodeGiven : Node → Type 0
NodeGiven x = IsPresent x.def_name × InterfacesGiven x.interface × Each StatementGiven x.statements × InstanceGiven x.instance

-- of a proto
abbrev pub ProtoGiven : ProtoDecl → Type 0
ProtoGiven x = InterfacesGiven x.interface × Each StatementGiven x.body

-- of an extern
abbrev pub ExternProtoGiven : ExternProtoDecl → Type 0
ExternProtoGiven x = InterfacesGiven x.interface × Each (λ u. IsPresent u.fragment) x.urls

-- of a document
abbrev pub DocumentGiven : Document → Type 0
DocumentGiven x = Each NodeGiven x.nodes × Each ProtoGiven x.protos × Each ExternProtoGiven x.extern_protos × Each StatementGiven x.statements

module _ (form : Form) where
  -- ---- fields

  -- what is asked of a field
  abbrev field_asks : Field → Asks
  field_asks x = record { given = Sure; range = FieldInRange x; kept = Sure }

  -- of its binding
  abbrev binding_asks : Field → FieldBinding → Asks
  binding_asks x b = record { given = Sure; range = IsName x.name × (x.inferred ≤ 1) × BindingInRange b; kept = Sure }

  -- a field by its binding
  binding_through : (la : ℕ) → la ≤ 3 → (x : Field) (b : FieldBinding) → Through form (bare 2 la) (bare 2 3) (binding_asks x b) (binding_rows x b)
  binding_through la h x (FieldBinding.Value v) =
      instead (λ o. (tt, tt)) ((λ r. (r.0.0, r.0.1, record { tag = r.0.2; ids = r.1 })), (λ r. ((r.0, r.1, r.2.tag), r.2.ids))) ((λ k. tt), (λ k. (tt, tt)))
      (follow (value_step form la x.name x.inferred v.ty v.«data» h) (data_rows_lem form 2 3 v.«data»))
  binding_through la h x (FieldBinding.Is t) = is_step form la x.name x.inferred t h

  -- a field of a node
  field_passes : (x : Field) → Passes form (span 2 2 3) (span 2 2 3) (field_asks x) (field_rows x)
  field_passes x =
      within 2 3 3 (λ la h. (3, omega arith, instead (λ o. tt) ((λ r. record { name = r.0; inferred = r.1; binding = r.2 }), (λ r. (r.name, r.inferred, r.binding))) ((λ k. tt), (λ k. tt)) (binding_through la h x x.binding)))

  -- ---- interfaces

  -- what is asked of an interface
  abbrev interface_asks : InterfaceDecl → Asks
  interface_asks x = record { given = IsPresent x.is; range = InterfaceInRange x; kept = InterfaceKept x }

  -- of its default
  abbrev default_asks : InterfaceDecl → Option FieldValue → Asks
  default_asks x w = record { given = IsPresent x.is; range = (x.access ≤ 3) × (x.field_type ≤ 41) × IsName x.name × IsPresent x.is × DefaultInRange w; kept = (t : ℕ) → x.is ≡ some t → w ≡ none }

  -- with a value the IS must be missing
  no_is : {v : FieldValue} (d : Option ℕ) → (d ≡ none) ↔ ((t : ℕ) → d ≡ some t → some v ≡ none)
  no_is none = ((λ h t e. absurd (let z : ◌≡◌ {A = ℕ} 0 1 = cc in omega arith)), (λ k. refl))
  no_is (some n) = ((λ h t e. absurd (let z : ◌≡◌ {A = ℕ} 0 1 = cc in omega arith)), (λ k. absurd (let h = k n refl in let z : ◌≡◌ {A = ℕ} 0 1 = cc in omega arith)))

  -- in a part that takes interfaces with and without a value
  default_through : (q la : ℕ) → Takes q 4 → la ≤ 4 → (x : InterfaceDecl) (w : Option FieldValue) → Through form (bare q la) (bare q 4) (default_asks x w) (default_rows x w)
  default_through q la i h x none =
      instead (λ o. o) ((λ r. (r.0, r.1, r.2, r.3, tt)), (λ r. (r.0, r.1, r.2, r.3))) ((λ k t e. refl), (λ k. tt)) (bare_interface_step form q la x.access x.field_type x.name x.is h (i (row 4 x.access x.field_type x.name (or_none x.is) 0 0 0) refl))
  default_through q la i h x (some v) =
      instead (λ o. (o, tt)) ((λ r. (r.0.0, r.0.1, r.0.2, r.0.3, record { tag = r.0.4; ids = r.1 })), (λ r. ((r.0, r.1, r.2, r.3, r.4.tag), r.4.ids)))
      ((λ k. (no_is x.is).0 k.0), (λ k. ((no_is x.is).1 k, tt)))
      (follow (interface_step form q la x.access x.field_type x.name v.ty x.is v.«data» h i) (data_rows_lem form q 4 v.«data»))

  -- in range, field by field
  interface_range : (x : InterfaceDecl) → (default_asks x x.value).range ↔ InterfaceInRange x
  interface_range x = ((λ r. record { access = r.0; tag = r.1; name = r.2; value = r.4; is = r.3 }), (λ r. (r.access, r.tag, r.name, r.is, r.value)))

  -- an interface of a node or a proto
  interface_passes : (q : ℕ) → Takes q 4 → (x : InterfaceDecl) → Passes form (span q q 4) (span q q 4) (interface_asks x) (interface_rows x)
  interface_passes q i x = within q 4 4 (λ la h. (4, omega arith, instead (λ o. o) (interface_range x) ((λ k. k), (λ k. k)) (default_through q la i h x x.value)))

  -- in an extern, without a value alone
  abbrev extern_interface_asks : InterfaceDecl → Asks
  extern_interface_asks x = record { given = IsPresent x.is; range = ExternInterfaceInRange x; kept = InterfaceKept x }

  -- of its default, which is missing
  abbrev bare_asks : InterfaceDecl → Option FieldValue → Asks
  bare_asks x w = record { given = IsPresent x.is; range = (default_asks x w).range × (w ≡ none); kept = (t : ℕ) → x.is ≡ some t → w ≡ none }

  -- one with a default is refused
  bare_through : (la : ℕ) → la ≤ 4 → (x : InterfaceDecl) (w : Option FieldValue) → Through form (bare 8 la) (bare 8 4) (bare_asks x w) (default_rows x w)
  bare_through la h x none =
      instead (λ o. o) ((λ r. ((r.0, r.1, r.2, r.3, tt), refl)), (λ r. (r.0.0, r.0.1, r.0.2, r.0.3))) ((λ k t e. refl), (λ k. tt)) (bare_interface_step form 8 la x.access x.field_type x.name x.is h refl)
  bare_through la h x (some v) =
      extern_value form 8 la x.access x.field_type x.name v.ty x.is v.«data» (bare_asks x (some v)) _ (λ r. let e = r.1 in let z : ◌≡◌ {A = ℕ} 0 1 = cc in omega arith)

  -- an interface of an extern
  extern_interface_passes : (x : InterfaceDecl) → Passes form (span 8 8 4) (span 8 8 4) (extern_interface_asks x) (interface_rows x)
  extern_interface_passes x =
      within 8 4 4 (λ la h. (4, omega arith, instead (λ o. o) ((λ r. ((interface_range x).0 r.0, r.1)), (λ r. ((interface_range x).1 r.0, r.1))) ((λ k. k), (λ k. k)) (bare_through la h x x.value)))

  -- ---- statements, body order, urls

  -- a statement of a node
  inner_statement_passes : (x : Statement) → Passes form (span 2 2 5) (span 2 2 5) (statement_asks InnerKept x) (statement_row x ∷ [])
  inner_statement_passes x = within 2 5 5 (λ la h. (5, omega arith, statement_step_lem form 2 la InnerKept x h (λ r e. rw e) (inner_kept form la x)))

  -- a statement of a body or of the top
  statement_passes : (q : ℕ) → Takes q 5 → eqb q 2 ≡ false → (x : Statement) → Passes form (span q q 5) (span q q 5) (statement_asks TopKept x) (statement_row x ∷ [])
  statement_passes q i j x = within q 5 5 (λ la h. (5, omega arith, statement_step_lem form q la TopKept x h i (top_kept form q la j x)))

  -- ---- nodes

  -- the counts of an instance are the lengths of its lists
  abbrev instance_asks : Option ProtoInstance → Asks
  instance_asks x = record { given = InstanceGiven x; range = AnyInstanceInRange x; kept = Sure }

  -- its row, its ids, its routes and its associations
  instance_through : (la : ℕ) → la ≤ 6 → (x : ProtoInstance) → Through form (bare 2 la) (bare 2 13) (instance_asks (some x)) (instance_rows x)
  instance_through la h x =
      instead (λ o. (tt, ((all (λ i. tt) x.extra_roots, o), all (λ i. tt) x.is_map))) ((λ r. record { proto_name = r.0; extra_roots = r.1.0.0; routes = r.1.0.1; is_map = r.1.1 }), (λ r. (r.proto_name, ((r.extra_roots, r.routes), r.is_map))))
      ((λ k. tt), (λ k. (tt, ((all (λ i. tt) x.extra_roots, all (λ i. tt) x.routes), all (λ i. tt) x.is_map))))
      (follow (instance_step_lem form la x.proto_name (length x.extra_roots) (length x.routes) (length x.is_map) h)
      (follow (follow (ids form 2 13 (length x.routes) (length x.is_map) x.extra_roots) (routes form (length x.is_map) x.routes)) (associations form x.is_map)))

  -- an instance, if there is one
  instance_passes : (x : Option ProtoInstance) → Passes form (span 2 2 6) (span 2 2 13) (instance_asks x) (any_instance_rows x)
  instance_passes none = within 2 6 13 (λ la h. (la, omega arith, stay form (bare 2 la)))
  instance_passes (some x) = within 2 6 13 (λ la h. (13, omega arith, instance_through la h x))

  -- what is asked of a node
  abbrev node_asks : Node → Asks
  node_asks x = record { given = NodeGiven x; range = NodeInRange x; kept = NodeKept x }

  -- its row and its five lists
  node_passes : (x : Node) → Passes form (span 1 2 13) (span 2 2 13) (node_asks x) (node_rows x)
  node_passes x =
      asking (λ p la w. w) (λ p la w. w)
      (λ o. (o.0, (all (λ i. tt) x.fields, (o.1, (o.2, (all (λ i. tt) x.body_order, o.3))))))
      ((λ r. record { type_name = r.0.0; def_name = r.0.1; origin = r.0.2; fields = r.1.0; interface = r.1.1.0; statements = r.1.1.1.0; instance = r.1.1.1.1.1 }), (λ r. ((r.type_name, r.def_name, r.origin), (r.fields, (r.interface, (r.statements, (all (λ i. tt) x.body_order, r.instance)))))))
      ((λ k. record { origin = k.0; interface = k.1.1.0; statements = k.1.1.1.0 }), (λ k. (k.origin, (all (λ i. tt) x.fields, (k.interface, (k.statements, (all (λ i. tt) x.body_order, tt)))))))
      (then {T = span 2 2 0} (λ p la w. omega arith) (λ p la w. (2, 0, omega arith, node_step form p la x.type_name x.def_name x.origin w.from w.to))
      (then (λ p la w. omega arith) (listed field_rows field_asks (λ p la w. w) field_passes x.fields)
      (then (λ p la w. omega arith) (listed interface_rows interface_asks (λ p la w. w) (interface_passes 2 (λ r e. rw e)) x.interface)
      (then (λ p la w. omega arith) (mapped statement_row (statement_asks InnerKept) (λ p la w. w) inner_statement_passes x.statements)
      (then (λ p la w. omega arith) (mapped body_element_row (λ y. nothing) (λ p la w. w) (λ y. within 2 6 6 (λ la h. (6, omega arith, order_step form la y h))) x.body_order) (instance_passes x.instance))))))

  -- ---- protos, externs

  -- what is asked of a proto: that it is not there, in an expanded document
  abbrev proto_asks : ProtoDecl → Asks
  proto_asks x = record { given = ProtoGiven x; range = ProtoInRange x; kept = ⊥ }

  -- its row, interfaces and statements
  proto_passes : (x : ProtoDecl) → Passes form (span 1 7 13) (span 7 7 5) (proto_asks x) (proto_rows x)
  proto_passes x =
      asking (λ p la w. w) (λ p la w. w) (λ o. (tt, o)) ((λ r. record { name = r.0; interface = r.1.0; body = r.1.1 }), (λ r. (r.name, (r.interface, r.body)))) ((λ k. k.0), (λ k. absurd k))
      (then {T = span 7 7 0} (λ p la w. omega arith) (λ p la w. (7, 0, omega arith, proto_step form p la x.name w.from w.to))
      (then (λ p la w. omega arith) (listed interface_rows interface_asks (λ p la w. w) (interface_passes 7 (λ r e. rw e)) x.interface) (mapped statement_row (statement_asks TopKept) (λ p la w. w) (statement_passes 7 (λ r e. rw e) refl) x.body)))

  -- what is asked of an extern
  abbrev extern_proto_asks : ExternProtoDecl → Asks
  extern_proto_asks x = record { given = ExternProtoGiven x; range = ExternProtoInRange (takes_marks form) x; kept = Each InterfaceKept x.interface }

  -- its row, interfaces and urls
  extern_passes : (x : ExternProtoDecl) → Passes form (span 1 8 13) (span 8 8 10) (extern_proto_asks x) (extern_proto_rows x)
  extern_passes x =
      asking (λ p la w. w) (λ p la w. w) (λ o. (tt, o)) ((λ r. record { name = r.0; interface = r.1.0; urls = r.1.1 }), (λ r. (r.name, (r.interface, r.urls)))) ((λ k. k.1.0), (λ k. (tt, (k, all (λ i. tt) x.urls))))
      (then {T = span 8 8 0} (λ p la w. omega arith) (λ p la w. (8, 0, omega arith, extern_step form p la x.name w.from w.to))
      (then (λ p la w. omega arith) (listed interface_rows extern_interface_asks (λ p la w. w) extern_interface_passes x.interface) (mapped url_row (url_asks form) (λ p la w. w) (λ y. within 8 10 10 (λ la h. (10, omega arith, url_step form la y h))) x.urls)))

  -- ---- a document

  -- what is asked of a document: to be in range, and expanded if it is to be
  abbrev pub document_asks : Document → Asks
  document_asks x = record { given = DocumentGiven x; range = InRange (takes_marks form) x; kept = IsExpanded x }

  -- if none may be there, there is none
  no_protos : (l : List ProtoDecl) → Each (λ x. ⊥) l ↔ (l ≡ [])
  no_protos [] = ((λ k. refl), (λ h. tt))
  no_protos (x ∷ l) = ((λ k. absurd k.0), (λ h. absurd (let z : ◌≡◌ {A = ℕ} 0 1 = cc in omega arith)))

  -- its row, its nodes, protos and externs, row 11 and its statements
  pub document_passes : begins_in form 0 ≡ true → (x : Document) → Passes form (span 0 0 0) (span 11 11 5) (document_asks x) (document_rows x)
  unfolding document_rows
  document_passes b x =
      asking (λ p la w. w) (λ p la w. w) (λ o. (tt, (o.0, (o.1, (o.2, (tt, o.3))))))
      ((λ r. record { nodes = r.1.0; protos = r.1.1.0; extern_protos = r.1.1.1.0; statements = r.1.1.1.1.1 }), (λ r. (tt, (r.nodes, (r.protos, (r.extern_protos, (tt, r.statements)))))))
      ((λ k. record { nodes = k.1.0; protos = (no_protos x.protos).0 k.1.1.0; extern_protos = k.1.1.1.0; statements = k.1.1.1.1.1 }), (λ k. (tt, (k.nodes, ((no_protos x.protos).1 k.protos, (k.extern_protos, (tt, k.statements)))))))
      (then {T = span 1 1 0} (λ p la w. omega arith) (λ p la w. let e : 0 ≡ p = omega arith in (1, 0, omega arith, subst (λ (n : ℕ). Through form (bare n la) (bare 1 0) nothing (row 1 x.header 0 0 0 0 0 0 ∷ [])) e (document_step form b la x.header)))
      (then (λ p la w. omega arith) (listed node_rows node_asks (λ p la w. omega arith) node_passes x.nodes)
      (then (λ p la w. omega arith) (listed proto_rows proto_asks (λ p la w. omega arith) proto_passes x.protos)
      (then (λ p la w. omega arith) (listed extern_proto_rows extern_proto_asks (λ p la w. omega arith) extern_passes x.extern_protos)
      (then {S = span 1 8 13} {T = span 11 11 0} (λ p la w. omega arith) (λ p la w. (11, 0, omega arith, top_step form p la w.from (omega arith)))
      (mapped statement_row (statement_asks TopKept) (λ p la w. w) (statement_passes 11 (λ r e. rw e) refl) x.statements))))))

-- ---- a library

-- of a file
abbrev pub FileGiven : File → Type 0
FileGiven x = DocumentGiven x.document

-- what is asked of a file
abbrev pub file_asks : File → Asks
file_asks x = record { given = FileGiven x; range = FileInRange x; kept = IsExpanded x.document }

-- its row and its document
file_passes : (x : File) → Passes Library (span 11 12 5) (span 11 11 5) (file_asks x) (file_rows x)
file_passes x =
    asking (λ p la w. w) (λ p la w. w) (λ o. (tt, o)) ((λ r. record { base = r.0; document = r.1 }), (λ r. (r.base, r.document))) ((λ k. k.1), (λ k. (tt, k)))
    (then {T = span 0 0 0} (λ p la w. w) (λ p la w. (0, 0, omega arith, file_step p la x.base w.from)) (document_passes Library refl x.document))

-- file after file
pub library_passes : (l : List File) → Passes Library (span 11 12 5) (span 11 12 5) (each file_asks l) (library_rows l)
unfolding library_rows
library_passes l = listed file_rows file_asks (λ p la w. omega arith) file_passes l
