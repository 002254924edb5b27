-- The number of a refusal, and its two places, which are 0 where it names none.
use Rattle.std.specs.Prelude.{ℕ, ◌≡◌}
use Rattle.refine_records.specs.declared.Refusal.{Refusal}
use Rattle.refine_records.specs.declared.Refusal.TheVariants.{NoRoom, WrongLength, Malformed, DanglingExtern, DanglingNode, DanglingProto, NoRoot, TooManyNodes, TooDeep, TooManyRows}

abbrev pub refusal_number : Refusal → ℕ
refusal_number NoRoom = 1
refusal_number WrongLength = 2
refusal_number (Malformed sheet row) = 3
refusal_number (DanglingExtern document id) = 4
refusal_number (DanglingNode document id) = 5
refusal_number (DanglingProto document id) = 6
refusal_number (NoRoot document proto) = 7
refusal_number TooManyNodes = 8
refusal_number TooDeep = 9
refusal_number TooManyRows = 10

abbrev pub first_place : Refusal → ℕ
first_place NoRoom = 0
first_place WrongLength = 0
first_place (Malformed sheet row) = sheet
first_place (DanglingExtern document id) = document
first_place (DanglingNode document id) = document
first_place (DanglingProto document id) = document
first_place (NoRoot document proto) = document
first_place TooManyNodes = 0
first_place TooDeep = 0
first_place TooManyRows = 0

abbrev pub second_place : Refusal → ℕ
second_place NoRoom = 0
second_place WrongLength = 0
second_place (Malformed sheet row) = row
second_place (DanglingExtern document id) = id
second_place (DanglingNode document id) = id
second_place (DanglingProto document id) = id
second_place (NoRoot document proto) = proto
second_place TooManyNodes = 0
second_place TooDeep = 0
second_place TooManyRows = 0

-- the two places of a refusal
pub record PlacesOf (e : Refusal) (p : ℕ × ℕ) : Type 0 where
  pub first : p.0 ≡ first_place e
  pub second : p.1 ≡ second_place e
