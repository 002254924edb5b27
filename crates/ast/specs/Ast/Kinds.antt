-- Which of its kinds a node or a body element is.
use Rattle.std.specs.Prelude.{ℕ}

pub data NodeOrigin : Type 0 where
  Builtin : NodeOrigin
  Proto : ℕ → NodeOrigin
  ExternProto : ℕ → NodeOrigin
  Unknown : NodeOrigin

pub data BodyElement : Type 0 where
  Field : BodyElement
  Interface : BodyElement
  Statement : BodyElement
