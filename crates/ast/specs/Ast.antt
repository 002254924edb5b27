-- The parsed document, as ast.rs has it (document 01, Sheets).
-- Names, header, payloads and type tags are numbers; an id is a place in its group, from 0.
use Rattle.std.specs.Prelude.{Bool, List, ℕ}
use Rattle.std.proofs.Math.Option.{Option}
pub mod Kinds
pub mod Values
pub mod Statements
pub use Kinds.{NodeOrigin, BodyElement}
pub use Values.{FieldData, FieldValue, FieldBinding, Field, InterfaceDecl, Route}
pub use Statements.{Statement}

-- an entry of is_map: document 01's association
pub record Association : Type 0 where
  pub interface : ℕ
  pub node : ℕ
  pub field : ℕ

pub record ProtoInstance : Type 0 where
  pub proto_name : ℕ
  pub extra_roots : List ℕ
  pub routes : List Route
  pub is_map : List Association

pub record Node : Type 0 where
  pub type_name : ℕ
  pub def_name : Option ℕ
  pub origin : NodeOrigin
  pub fields : List Field
  pub interface : List InterfaceDecl
  pub statements : List Statement
  pub body_order : List BodyElement
  pub instance : Option ProtoInstance

pub record ProtoDecl : Type 0 where
  pub name : ℕ
  pub interface : List InterfaceDecl
  pub body : List Statement

-- a url split at its first '#', and whether it supplied the prototype (document 02, wish 1)
pub record Url : Type 0 where
  pub base : ℕ
  pub fragment : Option ℕ
  pub used : Bool

pub record ExternProtoDecl : Type 0 where
  pub name : ℕ
  pub interface : List InterfaceDecl
  pub urls : List Url

pub record Document : Type 0 where
  pub header : ℕ
  pub nodes : List Node
  pub protos : List ProtoDecl
  pub extern_protos : List ExternProtoDecl
  pub statements : List Statement

-- a file of the library: the base that it is found by, and its document
pub record File : Type 0 where
  pub base : ℕ
  pub document : Document
