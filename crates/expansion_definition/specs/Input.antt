-- What Expand takes, and what its documents say of a node (document 01, Modules: Reached).
use Rattle.std.specs.Prelude.{List, [], ◌∷◌, ℕ, eqb}
use Rattle.std.proofs.Math.Option.{Option, none, some}
use Rattle.ast.specs.Ast.{NodeOrigin, FieldBinding, Field, Document, File}
use Rattle.ast.specs.Choice.{choose, or_else}
use Rattle.ast.specs.Lookups.{documents}
use Rattle.pick_definition.specs.Picks.{Prototype, pick_of, url_taken, prototype_in}

-- "max_nodes N", "max_depth D", "max_rows K"
pub record Limits : Type 0 where
  pub max_nodes : ℕ
  pub max_depth : ℕ
  pub max_rows : ℕ

-- "Expand takes a root sheet, a library sheet, three limits": the sheets as they are parsed
pub record Input : Type 0 where
  pub root : Document
  pub library : List File
  pub limits : Limits

-- document 0 is the root, document n the n-th file
abbrev pub docs : Input → List Document
docs I = documents I.root I.library

-- the index of the url that the pick of extern x of document d took, if any
abbrev pub used_url : Input → ℕ → ℕ → Option ℕ
used_url I d x = url_taken (pick_of I.root I.library d x)

-- what a node of document d is an instance of, by its origin
abbrev pub proto_of_origin : Input → ℕ → NodeOrigin → Option Prototype
proto_of_origin I d origin = prototype_in I.root I.library d origin

-- "the last field of that name"
unfoldable pub last_field : ℕ → List Field → Option FieldBinding
last_field name [] = none
last_field name (f ∷ l) = or_else (last_field name l) (choose (eqb f.name name) (some f.binding) none)
