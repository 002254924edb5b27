-- The pick within a file, at the rows of its document.
use Rattle.std.specs.Prelude.{Option as Maybe, Some, None, ◌≡◌, List, [], ◌∷◌, map, ℕ, ◌+◌, ◌*◌, ◌≤◌, ◌<◌, length, drop}
use Rattle.std.proofs.Math.Option.{Option, none, some}
use Rattle.ast.specs.Ast.{ProtoDecl, Document}
use Rattle.sheet_rows.specs.declared.row.Row.{Row}
use Rattle.sheet_rows.specs.declared.part.Part.TheVariants.{Protos}
use Rattle.sheet_rows.specs.Parse.{elements, proto_of, statements_of}
use Rattle.pick_file.specs.declared.TopProto.{TopProto}
use Rattle.pick_definition.specs.PickIn.{top_protos, first_named}

-- a sheet of at most 1,048,576 rows, as refusal 2 has it
abbrev pub Capped : List ℕ → Type 0
Capped sheet = length sheet ≤ 8 * 1048576

-- the id that a Proto statement names
abbrev pub id_of : Maybe TopProto → Option ℕ
id_of (Some top) = some top.id.0
id_of None = none

-- an Option of the code, as one of the definition
abbrev pub option_of : Maybe ℕ → Option ℕ
option_of (Some n) = some n
option_of None = none

-- the ids of the Proto statements from a row on
abbrev pub protos_from : List Row → ℕ → List ℕ
protos_from R p = top_protos (statements_of (drop p R))

-- the first Proto statement from row p on stands at row q and names an id
pub record StandsProto (R : List Row) (p id q : ℕ) : Type 0 where
  pub from : p ≤ q
  pub below : q < length R
  pub here : protos_from R p ≡ protos_from R q
  pub is : protos_from R p ≡ id ∷ protos_from R (q + 1)

abbrev pub NextProto : List Row → ℕ → Maybe TopProto → Type 0
NextProto R p (Some top) = StandsProto R p top.id.0 top.row
NextProto R p None = protos_from R p ≡ []

-- one Proto statement after another: the next one from row p on, and the walk goes on after it; or there is none
abbrev pub StepsProto : List Row → ℕ → Maybe TopProto → List Row → ℕ → Type 0
StepsProto R p (Some top) R' p' = StandsProto R p top.id.0 top.row × (p' ≡ top.row + 1) × (R' ≡ R)
StepsProto R p None R' p' = (protos_from R p ≡ []) × (p' ≡ p) × (R' ≡ R)

-- the prototypes from a row on
abbrev pub protos_at : List Row → ℕ → List ProtoDecl
protos_at R p = map proto_of (elements Protos (drop p R))

-- x is the first Proto statement from row p on whose prototype, of those from row q on, has a name
abbrev pub FirstNamed : List Row → ℕ → ℕ → ℕ → Maybe TopProto → Type 0
FirstNamed R q name p x = (file : Document) → file.protos ≡ protos_at R q → id_of x ≡ first_named file name (protos_from R p)
