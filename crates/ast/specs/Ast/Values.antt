-- Values, fields, interfaces, routes.
use Rattle.std.specs.Prelude.{List, ℕ}
use Rattle.std.proofs.Math.Option.{Option}

-- what a value holds: one number for every kind of plain data, carried unread, or node ids
pub data FieldData : Type 0 where
  Payload : ℕ → FieldData
  Nodes : List ℕ → FieldData

-- ty: the type tag, an index in FieldType::ALL
pub record FieldValue : Type 0 where
  pub ty : ℕ
  pub «data» : FieldData

pub data FieldBinding : Type 0 where
  Value : FieldValue → FieldBinding
  Is : ℕ → FieldBinding

pub record Field : Type 0 where
  pub name : ℕ
  pub binding : FieldBinding
  pub inferred : ℕ

-- access: 0 EventIn, 1 EventOut, 2 Field, 3 ExposedField
pub record InterfaceDecl : Type 0 where
  pub access : ℕ
  pub field_type : ℕ
  pub name : ℕ
  pub value : Option FieldValue
  pub is : Option ℕ

pub record Route : Type 0 where
  pub from_node : ℕ
  pub from_field : ℕ
  pub to_node : ℕ
  pub to_field : ℕ
  pub from_id : Option ℕ
  pub to_id : Option ℕ
