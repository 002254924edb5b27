-- The arena: records of twelve words, one to a charge. Word 0 of a record is its tag.
use Rattle.std.specs.Prelude.{◌≡◌, Bool, true, List, ℕ, ◌+◌, ◌*◌, ◌<◌, ◌≤◌, get_or, eqb}
use Rattle.ast.specs.Choice.{choose}
use Rattle.journal_records.specs.declared.Record.{Record}

-- The tags. A record of tag 0 is a charge that keeps nothing else.
abbrev pub tag_paid : ℕ
tag_paid = 0

abbrev pub tag_map : ℕ
tag_map = 1

abbrev pub tag_extern : ℕ
tag_extern = 2

abbrev pub tag_node : ℕ
tag_node = 3

abbrev pub tag_id : ℕ
tag_id = 4

abbrev pub tag_field : ℕ
tag_field = 5

abbrev pub tag_interface : ℕ
tag_interface = 6

abbrev pub tag_statement : ℕ
tag_statement = 7

abbrev pub tag_order : ℕ
tag_order = 8

abbrev pub tag_stored : ℕ
tag_stored = 9

abbrev pub tag_scope : ℕ
tag_scope = 10

abbrev pub tag_root : ℕ
tag_root = 11

abbrev pub tag_route : ℕ
tag_route = 12

abbrev pub tag_association : ℕ
tag_association = 13

abbrev pub tag_instance : ℕ
tag_instance = 14

-- word j of record r
unfoldable pub cell : List ℕ → ℕ → ℕ → ℕ
cell w r j = get_or w (r * 12 + j) 0

-- the tags of keyed records: a record of them is found by its tag and its words 1 and 2
abbrev pub keyed : ℕ → Bool
keyed t = choose (eqb t tag_map) true (choose (eqb t tag_extern) true (eqb t tag_stored))

-- how many of a record's first words never change, by its tag
abbrev pub stays : ℕ → ℕ
stays t = choose (eqb t tag_node) 3 (choose (eqb t tag_scope) 9 (choose (eqb t tag_route) 10 (choose (keyed t) 9 12)))

-- all words of the records below c are the same
pub record Same (c : ℕ) (w w' : List ℕ) : Type 0 where
  pub keeps : (r j : ℕ) → r < c → j < 12 → cell w' r j ≡ cell w r j

-- the words of record r that never change are the same
pub record Steady (r : ℕ) (w w' : List ℕ) : Type 0 where
  pub keeps : (j : ℕ) → j < stays (cell w r 0) → cell w' r j ≡ cell w r j

-- so it is for each record below c
pub record Fixed (c : ℕ) (w w' : List ℕ) : Type 0 where
  pub steady : (r : ℕ) → r < c → Steady r w w'

-- record n has the words of r
pub record Holds (w : List ℕ) (n : ℕ) (r : Record) : Type 0 where
  pub at0 : cell w n 0 ≡ r.tag
  pub at1 : cell w n 1 ≡ r.a
  pub at2 : cell w n 2 ≡ r.b
  pub at3 : cell w n 3 ≡ r.c
  pub at4 : cell w n 4 ≡ r.d
  pub at5 : cell w n 5 ≡ r.e
  pub at6 : cell w n 6 ≡ r.f
  pub at7 : cell w n 7 ≡ r.g
  pub at8 : cell w n 8 ≡ r.h
  pub at9 : cell w n 9 ≡ r.i
  pub at10 : cell w n 10 ≡ r.j
  pub at11 : cell w n 11 ≡ r.k

-- record n is written, and nothing else
pub record Pushed (w w' : List ℕ) (n : ℕ) (r : Record) : Type 0 where
  pub same : Same n w w'
  pub holds : Holds w' n r
  pub above : (m : ℕ) → n * 12 + 12 ≤ m → get_or w' m 0 ≡ get_or w m 0

-- word j of record n is set, and nothing else
pub record SetWord (w w' : List ℕ) (n j v : ℕ) : Type 0 where
  pub here : cell w' n j ≡ v
  pub other : (m : ℕ) → (m ≡ n * 12 + j → ⊥) → get_or w' m 0 ≡ get_or w m 0

-- `count` charges from n on that keep nothing
pub record Paid (w w' : List ℕ) (n count : ℕ) : Type 0 where
  pub same : Same n w w'
  pub tags : (r : ℕ) → n ≤ r → r < n + count → cell w' r 0 ≡ tag_paid
  pub above : (m : ℕ) → (n + count) * 12 ≤ m → get_or w' m 0 ≡ get_or w m 0
