-- A document within the number ranges of a sheet (document 01, Sheets).
-- Payloads and the header are any numbers; counts are the lengths of lists.
use Rattle.std.specs.Prelude.{◌≡◌, Bool, true, false, ℕ, ◌≤◌, ◌<◌}
use Rattle.std.proofs.Math.Option.{Option, none, some}
use Rattle.ast.specs.Ast.{FieldData, FieldValue, FieldBinding, Field, InterfaceDecl, Route, Statement, NodeOrigin, Association, ProtoInstance, Node, ProtoDecl, Url, ExternProtoDecl, Document, File}
use Rattle.sheet_rows.specs.Rows.{none#}
use Rattle.ast.specs.Each.{Each}

-- "names and ids are below" the number of none
abbrev pub IsName : ℕ → Type 0
IsName n = n < none#

-- an optional name or id that is there is not the number of none; among 32-bit words that is to be below it
abbrev pub IsPresent : Option ℕ → Type 0
IsPresent none = Unit {0}
IsPresent (some n) = n ≡ none# → ⊥

abbrev pub DataInRange : FieldData → Type 0
DataInRange (FieldData.Payload p) = Unit {0}
DataInRange (FieldData.Nodes l) = Each IsName l

-- "type tag 0 to 41"
pub record ValueInRange (x : FieldValue) : Type 0 where
  pub tag : x.ty ≤ 41
  pub ids : DataInRange x.«data»

abbrev pub BindingInRange : FieldBinding → Type 0
BindingInRange (FieldBinding.Value v) = ValueInRange v
BindingInRange (FieldBinding.Is t) = IsName t

-- "d inferred 0 or 1"
pub record FieldInRange (x : Field) : Type 0 where
  pub name : IsName x.name
  pub inferred : x.inferred ≤ 1
  pub binding : BindingInRange x.binding

abbrev pub DefaultInRange : Option FieldValue → Type 0
DefaultInRange none = Unit {0}
DefaultInRange (some v) = ValueInRange v

-- "a access 0 EventIn, 1 EventOut, 2 Field, 3 ExposedField, b type tag, c name, d IS target or none, v"
pub record InterfaceInRange (x : InterfaceDecl) : Type 0 where
  pub access : x.access ≤ 3
  pub tag : x.field_type ≤ 41
  pub name : IsName x.name
  pub value : DefaultInRange x.value
  pub is : IsPresent x.is

pub record RouteInRange (x : Route) : Type 0 where
  pub from_node : IsName x.from_node
  pub from_field : IsName x.from_field
  pub to_node : IsName x.to_node
  pub to_field : IsName x.to_field
  pub from_id : IsPresent x.from_id
  pub to_id : IsPresent x.to_id

abbrev pub StatementInRange : Statement → Type 0
StatementInRange (Statement.Node i) = IsName i
StatementInRange (Statement.Proto i) = IsName i
StatementInRange (Statement.ExternProto i) = IsName i
StatementInRange (Statement.Route x) = RouteInRange x
StatementInRange (Statement.Other p) = Unit {0}

pub record AssociationInRange (x : Association) : Type 0 where
  pub interface : IsName x.interface
  pub node : IsName x.node
  pub field : IsName x.field

pub record InstanceInRange (x : ProtoInstance) : Type 0 where
  pub proto_name : IsName x.proto_name
  pub extra_roots : Each IsName x.extra_roots
  pub routes : Each RouteInRange x.routes
  pub is_map : Each AssociationInRange x.is_map

abbrev pub AnyInstanceInRange : Option ProtoInstance → Type 0
AnyInstanceInRange none = Unit {0}
AnyInstanceInRange (some x) = InstanceInRange x

abbrev pub OriginInRange : NodeOrigin → Type 0
OriginInRange NodeOrigin.Builtin = Unit {0}
OriginInRange (NodeOrigin.Proto i) = IsName i
OriginInRange (NodeOrigin.ExternProto i) = IsName i
OriginInRange NodeOrigin.Unknown = Unit {0}

pub record NodeInRange (x : Node) : Type 0 where
  pub type_name : IsName x.type_name
  pub def_name : IsPresent x.def_name
  pub origin : OriginInRange x.origin
  pub fields : Each FieldInRange x.fields
  pub interface : Each InterfaceInRange x.interface
  pub statements : Each StatementInRange x.statements
  pub instance : AnyInstanceInRange x.instance

pub record ProtoInRange (x : ProtoDecl) : Type 0 where
  pub name : IsName x.name
  pub interface : Each InterfaceInRange x.interface
  pub body : Each StatementInRange x.body

-- "Sheets given to Expand keep 0 there; operations on an expanded document take 0 or 1." (document 02, wish 1)
abbrev pub MarkInRange : Bool → Bool → Type 0
MarkInRange true used = Unit {0}
MarkInRange false used = used ≡ false

-- marks: whether there may be any
pub record UrlInRange (marks : Bool) (x : Url) : Type 0 where
  pub base : IsName x.base
  pub fragment : IsPresent x.fragment
  pub used : MarkInRange marks x.used

-- "An extern is row 8, interfaces of class 0, urls."
abbrev pub ExternInterfaceInRange : InterfaceDecl → Type 0
ExternInterfaceInRange x = InterfaceInRange x × (x.value ≡ none)

pub record ExternProtoInRange (marks : Bool) (x : ExternProtoDecl) : Type 0 where
  pub name : IsName x.name
  pub interface : Each ExternInterfaceInRange x.interface
  pub urls : Each (UrlInRange marks) x.urls

pub record InRange (marks : Bool) (x : Document) : Type 0 where
  pub nodes : Each NodeInRange x.nodes
  pub protos : Each ProtoInRange x.protos
  pub extern_protos : Each (ExternProtoInRange marks) x.extern_protos
  pub statements : Each StatementInRange x.statements

pub record FileInRange (x : File) : Type 0 where
  pub base : IsName x.base
  pub document : InRange false x.document
