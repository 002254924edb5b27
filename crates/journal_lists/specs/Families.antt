-- Stored values: chains of records of tag 9 in families. Word 1 is the family, the place of its first record; word 2 the name,
-- word 8 the handle of the one before. Within a family that is the newest before it; what stands before a family's first
-- record may be any. Word 11 of the first record is the handle of the family's newest.
use Rattle.std.specs.Prelude.{◌≡◌, true, List, ℕ, ◌+◌, ◌-◌, ◌<◌, ◌≤◌, get_or}
use Rattle.journal_records.specs.declared.Record.{Record}
use Rattle.journal_records.specs.Records.{tag_stored, keyed, cell, Holds}
use Rattle.journal_index.specs.Index.{SlotsIndexed, IndexRoom}
use Rattle.journal_lists.specs.Owned.{last_owned}

-- record f is the first of a family
pub record First (w : List ℕ) (f : ℕ) : Type 0 where
  pub tag : cell w f 0 ≡ tag_stored
  pub own : cell w f 1 ≡ f

pub record Families (w : List ℕ) (c : ℕ) : Type 0 where
  pub low : (r : ℕ) → r < c → cell w r 0 ≡ tag_stored → cell w r 1 ≤ r
  pub first : (r : ℕ) → r < c → cell w r 0 ≡ tag_stored → First w (cell w r 1)
  pub links : (r : ℕ) → r < c → cell w r 0 ≡ tag_stored → cell w r 1 < r → cell w r 8 ≡ last_owned w tag_stored (cell w r 1) r
  pub tips : (f : ℕ) → f < c → First w f → cell w f 11 ≡ last_owned w tag_stored f c

-- a record c may stand behind handle h
pub record Behind (w : List ℕ) (c h : ℕ) : Type 0 where
  pub low : h ≤ c
  pub tag : 0 < h → cell w (h - 1) 0 ≡ tag_stored
  pub families : Families w c

-- behind h it is of family f, a new one or one whose newest is h
pub record Joins (w : List ℕ) (c h f : ℕ) : Type 0 where
  pub low : f ≤ c
  pub first : f < c → First w f
  pub tip : f < c → h ≡ last_owned w tag_stored f c

pub record Joinable (w : List ℕ) (at slots c : ℕ) (r : Record) : Type 0 where
  pub room : IndexRoom w at slots (c + 1)
  pub index : SlotsIndexed w at slots c
  pub tag : r.tag ≡ tag_stored
  pub behind : Behind w c r.h

-- the record with what is found for it: the family, the links, the newest of its family
abbrev pub family_joined : List ℕ → ℕ → Record → Record
family_joined w c r =
    record { tag = r.tag; a = cell w c 1; b = r.b; c = r.c; d = r.d; e = r.e; f = r.f; g = r.g; h = r.h; i = cell w c 9; j = cell w c 10; k = cell w c 11 }

-- record c is written, the newest of its family, and the links of keyed records; nothing else
pub record Joined (w w' : List ℕ) (at slots c : ℕ) (r : Record) : Type 0 where
  pub other : (n j : ℕ) → n < c → j < 12 → (cell w n 0 ≡ tag_stored → j ≡ 11 → ⊥) → (keyed (cell w n 0) ≡ true → 9 ≤ j → j < 11 → ⊥) → cell w' n j ≡ cell w n j
  pub holds : Holds w' c (family_joined w' c r)
  pub above : (m : ℕ) → at + slots ≤ m → get_or w' m 0 ≡ get_or w m 0
  pub index : SlotsIndexed w' at slots (c + 1)
  pub families : Families w' (c + 1)
