-- Lists that a scope owns: its extra roots, routes and associations, each a chain from a word of the scope's record. Word 6
-- of a scope is its number; words 9, 10 and 11 are the last of its records of tags 11, 12 and 13. Word 1 of such a record
-- is its scope's number, word 8 the one before it of its tag and scope.
use Rattle.std.specs.Prelude.{◌≡◌, Bool, false, List, ℕ, ◌+◌, ◌*◌, ◌-◌, ◌<◌, ◌≤◌, length, get_or, eqb}
use Rattle.ast.specs.Choice.{choose}
use Rattle.journal_records.specs.declared.Record.{Record}
use Rattle.journal_records.specs.Records.{tag_scope, tag_root, tag_association, cell, Holds}
use Rattle.journal_records.specs.Logs.{newest_below, count_below, only, log_up}

-- record r has the tag t
unfoldable pub tagged : List ℕ → ℕ → ℕ → Bool
tagged w t r = eqb (cell w r 0) t

-- the tags of owned records
pub record OwnedTag (t : ℕ) : Type 0 where
  pub low : tag_root ≤ t
  pub high : t ≤ tag_association

-- the word of a scope that is the last of its records of tag t
abbrev pub head_word : ℕ → ℕ
head_word t = t - 2

-- record r has the tag t and the scope of number s
unfoldable pub owned_by : List ℕ → ℕ → ℕ → ℕ → Bool
owned_by w t s r = choose (eqb (cell w r 0) t) (eqb (cell w r 1) s) false

abbrev pub last_owned : List ℕ → ℕ → ℕ → ℕ → ℕ
last_owned w t s c = newest_below (owned_by w t s) c

abbrev pub scopes_below : List ℕ → ℕ → ℕ
scopes_below w c = count_below (tagged w tag_scope) c

-- the records below c of a tag and a scope, oldest first
abbrev pub owned_log : {A : Type 0} → (ℕ → A) → List ℕ → ℕ → ℕ → ℕ → List A
owned_log d w t s c = log_up (only (owned_by w t s) d) c

-- the scopes are numbered in order, and heads and links are the newest
pub record Owned (w : List ℕ) (c : ℕ) : Type 0 where
  pub numbers : (r : ℕ) → r < c → cell w r 0 ≡ tag_scope → cell w r 6 ≡ scopes_below w r
  pub heads : (r t : ℕ) → r < c → cell w r 0 ≡ tag_scope → OwnedTag t → cell w r (head_word t) ≡ last_owned w t (cell w r 6) c
  pub links : (r t : ℕ) → r < c → cell w r 0 ≡ t → OwnedTag t → cell w r 8 ≡ last_owned w t (cell w r 1) r
  pub known : (r t : ℕ) → r < c → cell w r 0 ≡ t → OwnedTag t → cell w r 1 < scopes_below w r

-- the scope at place s may be given the record r as record c
pub record Ownable (w : List ℕ) (s c : ℕ) (r : Record) : Type 0 where
  pub room : c * 12 + 12 ≤ length w
  pub narrow : c < 16777216
  pub below : s < c
  pub scope : cell w s 0 ≡ tag_scope
  pub number : r.a ≡ cell w s 6
  pub tag : OwnedTag r.tag
  pub owned : Owned w c

-- the record with the one before it
abbrev pub linked_after : Record → ℕ → Record
linked_after r q = record { tag = r.tag; a = r.a; b = r.b; c = r.c; d = r.d; e = r.e; f = r.f; g = r.g; h = q; i = r.i; j = r.j; k = r.k }

-- record c is written behind the last of the scope at place s, and is that last; nothing else
pub record Appended (w w' : List ℕ) (s c : ℕ) (r : Record) : Type 0 where
  pub other : (n j : ℕ) → n < c → j < 12 → (n ≡ s → j ≡ head_word r.tag → ⊥) → cell w' n j ≡ cell w n j
  pub head : cell w' s (head_word r.tag) ≡ c + 1
  pub scope : cell w s 0 ≡ tag_scope
  pub tag : OwnedTag r.tag
  pub holds : Holds w' c (linked_after r (cell w s (head_word r.tag)))
  pub above : (m : ℕ) → c * 12 + 12 ≤ m → get_or w' m 0 ≡ get_or w m 0
  pub owned : Owned w' (c + 1)
