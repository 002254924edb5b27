-- Handles and fair records stay so.
use mathlib.Core.Path.{◌≡◌, refl, sym, ◌∙◌}
use mathlib.Core.Bool.{Bool, true, false}
use mathlib.Core.List.{List}
use Prim.Native.Nat.{ℕ, ◌+◌, ◌-◌, ◌<◌, ◌≤◌}
use native.Mathlib.Omega.{arith}
use lib.Dec.{eqb}
use borrow.Author.Tests.{ne_eqb, eqb-true, lt-ltb, le-ltb}
use Rattle.ast.specs.Choice.{choose}
use Rattle.journal_records.specs.Records.{tag_map, tag_node, tag_id, tag_field, tag_interface, tag_stored, tag_scope, tag_root, tag_route, tag_association, tag_instance, cell, stays, Fixed}
use Rattle.journal_lists.specs.Owned.{owned_by, last_owned}
use Rattle.journal_records.proofs.Frame.{steady_tag, steady_is, stays_nine, fixed_less, last_fixed}
use Rattle.journal_lists.proofs.Owned.{owned_stable}
use Rattle.journal_reading.specs.Reading.{below}
use Rattle.journal_reading.specs.WellFormed.{HandleAt, NodeAt, ScopeAt, MapClosed, listed, valued, NodeClosed, InstanceClosed, RecordWellFormed}
use Rattle.journal_reading.proofs.Logs.{below_fixed}

-- ---- handles
pub handle_none : (w : List ℕ) (c t : ℕ) → HandleAt w c t 0
handle_none w c t = record { low = omega arith; tag = λ l. absurd (omega arith) }

-- the last record
pub handle_new : (w : List ℕ) (c t : ℕ) → cell w c 0 ≡ t → HandleAt w (c + 1) t (c + 1)
handle_new w c t e = record { low = omega arith; tag = λ l. let z : c + 1 - 1 ≡ c = omega arith in rw z e }

pub handle_more : {w : List ℕ} {c k t h : ℕ} → c ≤ k → HandleAt w c t h → HandleAt w k t h
handle_more le x = record { low = omega (arith, x.low); tag = x.tag }

pub node_at_more : {w : List ℕ} {c k o p : ℕ} → c ≤ k → NodeAt w c o p → NodeAt w k o p
node_at_more le x = record { some = x.some; low = omega (arith, x.low); tag = x.tag; number = x.number }

module _ {c : ℕ} {w w' : List ℕ} (f : Fixed c w w') where
  tag_kept : (r t : ℕ) → r < c → cell w r 0 ≡ t → cell w' r 0 ≡ t
  tag_kept r t l e = steady_tag (f.steady r l) ∙ e

  tag_was : (r t : ℕ) → r < c → cell w' r 0 ≡ t → cell w r 0 ≡ t
  tag_was r t l e = sym (steady_tag (f.steady r l)) ∙ e

  pub handle_fixed : {k k' t h : ℕ} → k ≤ c → k ≤ k' → HandleAt w k t h → HandleAt w' k' t h
  handle_fixed {k} {k'} {t} {h} le le' x = record { low = omega (arith, x.low); tag = λ l. tag_kept (h - 1) t (omega (arith, x.low)) (x.tag l) }

  pub node_at_fixed : {k k' o p : ℕ} → k ≤ c → k ≤ k' → NodeAt w k o p → NodeAt w' k' o p
  node_at_fixed {k} {k'} {o} {p} le le' x = record {
    some = x.some;
    low = omega (arith, x.low);
    tag = tag_kept (p - 1) tag_node (omega (arith, x.low, x.some)) x.tag;
    number = below_fixed tag_node f (p - 1) (omega (arith, x.low)) ∙ x.number;
  }

  pub scope_at_fixed : {k k' s p : ℕ} → k ≤ c → k ≤ k' → ScopeAt w k s p → ScopeAt w' k' s p
  scope_at_fixed {k} {k'} {s} {p} le le' x =
      let l : p < c = omega (arith, x.low) in
      record { low = omega (arith, x.low); tag = tag_kept p tag_scope l x.tag; number = steady_is (f.steady p l) tag_scope x.tag 6 (omega arith) ∙ x.number }

  map_fixed : (r : ℕ) → r < c → cell w r 0 ≡ tag_map → MapClosed w r → MapClosed w' r
  map_fixed r l e x =
      let k : (j : ℕ) → j < 9 → cell w' r j ≡ cell w r j = λ j lj. steady_is (f.steady r l) tag_map e j lj in
      record {
        copy = rw (k 3 (omega arith), k 4 (omega arith)) (node_at_fixed (omega arith) (omega arith) x.copy);
        scope = rw (k 1 (omega arith), k 5 (omega arith)) (scope_at_fixed (omega arith) (omega arith) x.scope);
      }

  instance_fixed : (r : ℕ) → r < c → cell w r 0 ≡ tag_instance → InstanceClosed w r → InstanceClosed w' r
  instance_fixed r l e x =
      let k : (j : ℕ) → j < 12 → cell w' r j ≡ cell w r j = λ j lj. steady_is (f.steady r l) tag_instance e j lj in
      let g : Fixed r w w' = fixed_less (omega arith) f in
      let own : (t : ℕ) → last_owned w t (cell w r 1) r ≡ last_owned w' t (cell w r 1) r = λ t. sym (last_fixed g (λ u. owned_by u t (cell w r 1)) (owned_stable t (cell w r 1))) in
      record {
        known = rw (k 1 (omega arith), below_fixed tag_scope f r (omega arith)) x.known;
        roots = rw (k 1 (omega arith), k 3 (omega arith)) (x.roots ∙ own tag_root);
        routes = rw (k 1 (omega arith), k 4 (omega arith)) (x.routes ∙ own tag_route);
        is_map = rw (k 1 (omega arith), k 5 (omega arith)) (x.is_map ∙ own tag_association);
      }

  -- what a node has, where its words are the same
  pub closed_fixed : {k : ℕ} (r : ℕ) → c ≤ k → ((j : ℕ) → 3 ≤ j → j < 12 → cell w' r j ≡ cell w r j) → NodeClosed w c r → NodeClosed w' k r
  closed_fixed r le s x = record {
    fields = rw (s 7 (omega arith) (omega arith)) (handle_fixed (omega arith) le x.fields);
    interface = rw (s 8 (omega arith) (omega arith)) (handle_fixed (omega arith) le x.interface);
    statements = rw (s 9 (omega arith) (omega arith)) (handle_fixed (omega arith) le x.statements);
    body_order = rw (s 10 (omega arith) (omega arith)) (handle_fixed (omega arith) le x.body_order);
    instance = rw (s 11 (omega arith) (omega arith)) (handle_fixed (omega arith) le x.instance);
  }

-- ---- words that stay, of listed records and of those with a value
never : false ≡ true → ⊥
never z = let k : ◌≡◌ {A = ℕ} 0 1 = cc in omega arith

pub listed_stays : (t : ℕ) → listed t ≡ true → 9 ≤ stays t
listed_stays t e = stays_nine t (λ q. never (rw q at e))

pub valued_listed : (t : ℕ) → valued t ≡ true → listed t ≡ true
valued_listed t e = by (eqb t tag_field) refl (eqb t tag_interface) refl e
  where
    by : (x : Bool) → eqb t tag_field ≡ x → (y : Bool) → eqb t tag_interface ≡ y → choose x true (choose y true (eqb t tag_stored)) ≡ true → listed t ≡ true
    by true p y q z = rw (eqb-true t tag_field p)
    by false p true q z = rw (eqb-true t tag_interface q)
    by false p false q z = rw (eqb-true t tag_stored z)

pub unlisted_own : (t : ℕ) → tag_scope ≤ t → t ≤ tag_association → listed t ≡ false
unlisted_own t lo hi = rw (le-ltb t tag_id (omega arith), lt-ltb tag_stored t (omega arith), ne_eqb t tag_instance (λ e. omega arith))

-- a record that is in no such list is fair
pub fair_plain : (w : List ℕ) (c r : ℕ) → listed (cell w r 0) ≡ false → (cell w r 0 ≡ tag_map → MapClosed w r) → (cell w r 0 ≡ tag_node → NodeClosed w c r × (cell w r 1 < below w tag_scope r)) → RecordWellFormed w c r
fair_plain w c r e m n = record {
  mapped = m;
  node = λ z. (n z).0;
  scoped = λ z. (n z).1;
  instance = λ z. absurd (never (sym e ∙ rw z));
  linked = λ z. absurd (never (sym e ∙ z));
  value = λ z q. absurd (never (sym e ∙ valued_listed (cell w r 0) z));
}

-- a record below stays fair; what a node has is shown apart
pub fair_fixed : {c : ℕ} {w w' : List ℕ} → Fixed c w w' → (k r : ℕ) → r < c → (cell w r 0 ≡ tag_node → NodeClosed w' k r) → RecordWellFormed w c r → RecordWellFormed w' k r
fair_fixed {c} {w} {w'} f k r l cl x = record {
  mapped = λ e. let z : cell w r 0 ≡ tag_map = tag_was f r tag_map l e in map_fixed f r l z (x.mapped z);
  node = λ e. cl (tag_was f r tag_node l e);
  scoped = λ e. let z : cell w r 0 ≡ tag_node = tag_was f r tag_node l e in rw (keep tag_node z 1 (omega arith), below_fixed tag_scope f r (omega arith)) (x.scoped z);
  instance = λ e. let z : cell w r 0 ≡ tag_instance = tag_was f r tag_instance l e in instance_fixed f r l z (x.instance z);
  linked = λ e.
      let z : listed (cell w r 0) ≡ true = rw (steady_tag (f.steady r l)) at e in
      rw (steady_tag (f.steady r l), whole z 8 (omega arith)) (handle_fixed f (omega arith) (omega arith) (x.linked z));
  value = λ e q.
      let z : valued (cell w r 0) ≡ true = rw (steady_tag (f.steady r l)) at e in
      let y : listed (cell w r 0) ≡ true = valued_listed (cell w r 0) z in
      rw (whole y 7 (omega arith)) (handle_fixed f (omega arith) (omega arith) (x.value z (sym (whole y 6 (omega arith)) ∙ q)));
}
  where
    keep : (t : ℕ) → cell w r 0 ≡ t → (j : ℕ) → j < stays t → cell w' r j ≡ cell w r j
    keep t e j lj = steady_is (f.steady r l) t e j lj

    whole : listed (cell w r 0) ≡ true → (j : ℕ) → j < 9 → cell w' r j ≡ cell w r j
    whole e j lj = (f.steady r l).keeps j (omega (arith, listed_stays (cell w r 0) e))
