-- What holds of each record: its handles are of records before it, and of the right tag.
use Rattle.std.specs.Prelude.{◌≡◌, Bool, true, false, List, ℕ, ◌*◌, ◌-◌, ◌≤◌, ◌<◌, length, eqb, ltb}
use Rattle.ast.specs.Choice.{choose}
use Rattle.journal_records.specs.Records.{tag_map, tag_node, tag_id, tag_field, tag_interface, tag_statement, tag_order, tag_stored, tag_scope, tag_root, tag_route, tag_association, tag_instance, cell}
use Rattle.journal_lists.specs.Owned.{last_owned}
use Rattle.journal_reading.specs.Reading.{below}

-- h is 0, or the handle of a record of tag t below c
pub record HandleAt (w : List ℕ) (c t h : ℕ) : Type 0 where
  pub low : h ≤ c
  pub tag : 0 < h → cell w (h - 1) 0 ≡ t

-- place (one past a record) is the node o's
pub record NodeAt (w : List ℕ) (c o place : ℕ) : Type 0 where
  pub some : 0 < place
  pub low : place ≤ c
  pub tag : cell w (place - 1) 0 ≡ tag_node
  pub number : below w tag_node (place - 1) ≡ o

-- place is the record of the scope of number s
pub record ScopeAt (w : List ℕ) (c s place : ℕ) : Type 0 where
  pub low : place < c
  pub tag : cell w place 0 ≡ tag_scope
  pub number : cell w place 6 ≡ s

-- a map entry: its copy, and its scope, by place and by number
pub record MapClosed (w : List ℕ) (r : ℕ) : Type 0 where
  pub copy : NodeAt w r (cell w r 3) (cell w r 4)
  pub scope : ScopeAt w r (cell w r 5) (cell w r 1)

-- the tags of the records of lists that nodes, values and instances have: word 8 is the one before
abbrev pub listed : ℕ → Bool
listed t = choose (ltb t tag_id) false (choose (ltb tag_stored t) (eqb t tag_instance) true)

-- the tags of the records that have a value: words 5 to 7
abbrev pub valued : ℕ → Bool
valued t = choose (eqb t tag_field) true (choose (eqb t tag_interface) true (eqb t tag_stored))

-- the handles of a node
pub record NodeClosed (w : List ℕ) (c r : ℕ) : Type 0 where
  pub fields : HandleAt w c tag_field (cell w r 7)
  pub interface : HandleAt w c tag_interface (cell w r 8)
  pub statements : HandleAt w c tag_statement (cell w r 9)
  pub body_order : HandleAt w c tag_order (cell w r 10)
  pub instance : HandleAt w c tag_instance (cell w r 11)

-- an instance has the last of each of its scope's lists
pub record InstanceClosed (w : List ℕ) (r : ℕ) : Type 0 where
  pub known : cell w r 1 < below w tag_scope r
  pub roots : cell w r 3 ≡ last_owned w tag_root (cell w r 1) r
  pub routes : cell w r 4 ≡ last_owned w tag_route (cell w r 1) r
  pub is_map : cell w r 5 ≡ last_owned w tag_association (cell w r 1) r

pub record RecordWellFormed (w : List ℕ) (c r : ℕ) : Type 0 where
  pub mapped : cell w r 0 ≡ tag_map → MapClosed w r
  pub node : cell w r 0 ≡ tag_node → NodeClosed w c r
  pub scoped : cell w r 0 ≡ tag_node → cell w r 1 < below w tag_scope r
  pub instance : cell w r 0 ≡ tag_instance → InstanceClosed w r
  pub linked : listed (cell w r 0) ≡ true → HandleAt w r (cell w r 0) (cell w r 8)
  pub value : valued (cell w r 0) ≡ true → cell w r 6 ≡ 2 → HandleAt w r tag_id (cell w r 7)

-- so it is for each record below c
pub record AllWellFormed (w : List ℕ) (c : ℕ) : Type 0 where
  pub each : (r : ℕ) → r < c → RecordWellFormed w c r

-- what a walk of a list of records of tag t asks, from its handle on
pub record Walkable (w : List ℕ) (t h : ℕ) : Type 0 where
  pub room : h * 12 ≤ length w
  pub tag : 0 < h → cell w (h - 1) 0 ≡ t
  pub linked : (r : ℕ) → r < h → cell w r 0 ≡ t → HandleAt w r t (cell w r 8)
