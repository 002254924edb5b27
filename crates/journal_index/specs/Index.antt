-- The index of the keyed records: a digital tree for each slot, with newer records above older ones, and the roots of the
-- trees in a table after the records. The table is never cleared: a head counts only where it is a keyed record of its slot.
use Rattle.std.specs.Prelude.{◌≡◌, Bool, true, false, List, ℕ, suc, ◌+◌, ◌*◌, ◌/◌, ◌%◌, ◌<◌, ◌≤◌, ◌^◌, length, get_or, eqb, ltb}
use Rattle.std.proofs.Math.Option.{Option, none, some}
use Rattle.ast.specs.Choice.{choose}
use Rattle.journal_records.specs.declared.Record.{Record}
use Rattle.std.specs.declared.option.Option as code
use Rattle.std.specs.declared.option.Option.TheVariants.{None, Some}
use Rattle.journal_records.specs.Records.{keyed, cell, Holds}
use Rattle.journal_records.specs.Logs.{newest_of}

unfoldable pub slot_of : ℕ → ℕ → ℕ → ℕ
slot_of slots x y = (2 * x + (y % 4 + y / 4 % 128 * 512 + y / 512 % 128 * 4 + y / 65536 * 65536)) % slots

-- a key as one number: word 2 in the low half; above it the tag and word 1, which is a place or the number of a document
unfoldable pub number_of : ℕ → ℕ → ℕ → ℕ
number_of t x y = (x % 268435456 * 16 + t % 16) * 4294967296 + y

-- the side to which a number goes at depth d: its bit d; from the last bit on all go to side 0
abbrev pub bits : ℕ
bits = 64

unfoldable pub side_of : ℕ → ℕ → ℕ
side_of d k = choose (ltb d bits) (k / 2 ^ d % 2) 0

unfoldable pub number_at : List ℕ → ℕ → ℕ
number_at w r = number_of (cell w r 0) (cell w r 1) (cell w r 2)

unfoldable pub side_at : List ℕ → ℕ → ℕ → ℕ
side_at w d r = side_of d (number_at w r)

-- words 9 and 10 of a keyed record are its links, one for each side
abbrev pub link_at : List ℕ → ℕ → ℕ → ℕ
link_at w s r = cell w r (9 + s)

-- record r has the key
unfoldable pub hit : List ℕ → ℕ → ℕ → ℕ → ℕ → Bool
hit w t x y r = choose (eqb (cell w r 0) t) (choose (eqb (cell w r 1) x) (eqb (cell w r 2) y) false) false

-- the newest record below c of a key
abbrev pub newest : List ℕ → ℕ → ℕ → ℕ → ℕ → Option ℕ
newest w t x y c = newest_of (hit w t x y) c

-- what a search finds: a record, or nothing
abbrev pub Newest : Type 0
Newest = code.Option ℕ

abbrev pub found_of : Newest → Option ℕ
found_of (Some i) = some i
found_of None = none

-- record r is keyed, and of slot b
unfoldable pub in_slot : List ℕ → ℕ → ℕ → ℕ → Bool
in_slot w slots b r = choose (keyed (cell w r 0)) (eqb (slot_of slots (cell w r 1) (cell w r 2)) b) false

-- the word x as the head of slot b: a record with one added, or 0 where x is none of that slot below c
unfoldable pub headed : List ℕ → ℕ → ℕ → ℕ → ℕ → ℕ
headed w slots b c x = choose (ltb x c) (choose (in_slot w slots b x) (suc x) 0) 0

-- those that pass a test and go to side s at depth d
unfoldable pub going : (ℕ → ℕ → ℕ) → (ℕ → Bool) → ℕ → ℕ → ℕ → Bool
going side test d s r = choose (test r) (eqb (side d r) s) false

-- The tree of the records below `bound` that pass a test, at depth d: at its root stands the newest of them, with one added,
-- and its links are the trees of those below it that go to each side; 0 for none. So every path goes from newer records to
-- older ones.
pub data Tree (side link : ℕ → ℕ → ℕ) : ℕ → (ℕ → Bool) → ℕ → ℕ → Type 0 where
  empty : {d : ℕ} {test : ℕ → Bool} {bound : ℕ} → ((r : ℕ) → r < bound → test r ≡ false) → Tree side link d test bound 0
  root : {d : ℕ} {test : ℕ → Bool} {bound m : ℕ} → m < bound → test m ≡ true → ((r : ℕ) → m < r → r < bound → test r ≡ false) → Tree side link (suc d) (going side test d 0) m (link 0 m)
      → Tree side link (suc d) (going side test d 1) m (link 1 m) → Tree side link d test bound (suc m)

-- each head is the root of the tree of its slot
pub record SlotsIndexed (w : List ℕ) (at slots c : ℕ) : Type 0 where
  pub some : 0 < slots
  pub few : slots ≤ 2 ^ 32
  pub trees : (b : ℕ) → b < slots → Tree (side_at w) (link_at w) 0 (in_slot w slots b) c (headed w slots b c (get_or w (at + b) 0))

-- c records, the heads at `at`, and the words behind each other; a place with one added is a word
pub record IndexRoom (w : List ℕ) (at slots c : ℕ) : Type 0 where
  pub records : c * 12 ≤ at
  pub heads : at + slots ≤ length w
  pub narrow : c ≤ 16777216

-- what a search asks, and what a keyed record asks
pub record Findable (w : List ℕ) (at slots c t : ℕ) : Type 0 where
  pub room : IndexRoom w at slots c
  pub index : SlotsIndexed w at slots c
  pub key : keyed t ≡ true

pub record Enterable (w : List ℕ) (at slots c : ℕ) (r : Record) : Type 0 where
  pub room : IndexRoom w at slots (c + 1)
  pub index : SlotsIndexed w at slots c
  pub key : keyed r.tag ≡ true

pub record Slotted (slots x y b : ℕ) : Type 0 where
  pub same : b ≡ slot_of slots x y
  pub below : b < slots

pub record HeadRead (w : List ℕ) (at slots b c r : ℕ) : Type 0 where
  pub same : r ≡ headed w slots b c (get_or w (at + b) 0)
  pub low : r ≤ c

-- the record with its links
abbrev pub linked : Record → ℕ → ℕ → Record
linked r x y = record { tag = r.tag; a = r.a; b = r.b; c = r.c; d = r.d; e = r.e; f = r.f; g = r.g; h = r.h; i = x; j = y; k = r.k }

-- the links of record p are written, and nothing else
pub record LinksWritten (w w' : List ℕ) (p zero one : ℕ) : Type 0 where
  pub first : cell w' p 9 ≡ zero
  pub second : cell w' p 10 ≡ one
  pub other : (m : ℕ) → (m ≡ p * 12 + 9 → ⊥) → (m ≡ p * 12 + 10 → ⊥) → get_or w' m 0 ≡ get_or w m 0

-- record p, at depth d, has record m on m's own side, and on the other side what m had there; m's own side is what is next
pub record Displaced (w w' : List ℕ) (p m d next : ℕ) : Type 0 where
  pub written : LinksWritten w w' p (choose (eqb (side_at w d m) 0) (m + 1) (link_at w 0 m)) (choose (eqb (side_at w d m) 0) (link_at w 1 m) (m + 1))
  pub own : next ≡ choose (eqb (side_at w d m) 0) (link_at w 0 m) (link_at w 1 m)

-- record p can be put above the tree at depth d whose root is n
pub record Raisable (w : List ℕ) (p n d : ℕ) : Type 0 where
  pub room : p * 12 + 12 ≤ length w
  pub narrow : p < 16777216
  pub test : ℕ → Bool
  pub tree : Tree (side_at w) (link_at w) d test p n

-- the links of p as the root at depth d of what passes a test
pub record Rooted (side link : ℕ → ℕ → ℕ) (d : ℕ) (test : ℕ → Bool) (p : ℕ) : Type 0 where
  pub zero : Tree side link (suc d) (going side test d 0) p (link 0 p)
  pub one : Tree side link (suc d) (going side test d 1) p (link 1 p)

-- record p is put above the tree whose root is n: its links and those of the records that pass the tree's test are
-- written, and nothing else
pub record Raised (w w' : List ℕ) (p n d : ℕ) : Type 0 where
  pub rooted : (side : ℕ → ℕ → ℕ) → ((e r : ℕ) → r < p → side e r ≡ side_at w e r) → (test : ℕ → Bool) → Tree side (link_at w) d test p n → Rooted side (link_at w') d test p
  pub kept : (side : ℕ → ℕ → ℕ) → ((e r : ℕ) → r < p → side e r ≡ side_at w e r) → (test : ℕ → Bool) → Tree side (link_at w) d test p n → (r : ℕ) → (r ≡ p → ⊥) → (r < p → test r ≡ false) → (s : ℕ) → s < 2 → link_at w' s r ≡ link_at w s r
  pub words : (r j : ℕ) → j < 12 → (9 ≤ j → j < 11 → ⊥) → cell w' r j ≡ cell w r j
  pub above : (m : ℕ) → p * 12 + 12 ≤ m → get_or w' m 0 ≡ get_or w m 0

-- the records below c are the same but for the links of keyed ones
pub record SameButLinks (c : ℕ) (w w' : List ℕ) : Type 0 where
  pub keeps : (r j : ℕ) → r < c → j < 12 → (keyed (cell w r 0) ≡ true → 9 ≤ j → j < 11 → ⊥) → cell w' r j ≡ cell w r j

-- record c is written, with the links of its slot's records and the head of the slot; nothing else
pub record RecordEntered (w w' : List ℕ) (at slots c : ℕ) (r : Record) : Type 0 where
  pub same : SameButLinks c w w'
  pub holds : Holds w' c (linked r (cell w' c 9) (cell w' c 10))
  pub between : (m : ℕ) → c * 12 + 12 ≤ m → m < at → get_or w' m 0 ≡ get_or w m 0
  pub above : (m : ℕ) → at + slots ≤ m → get_or w' m 0 ≡ get_or w m 0
  pub index : SlotsIndexed w' at slots (c + 1)
