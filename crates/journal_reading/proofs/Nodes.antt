-- The nodes of the output: they last while their words and the ends of recorded routes do, and one that is changed is set.
use mathlib.Core.Path.{◌≡◌, refl, sym, ◌∙◌}
use mathlib.Core.Bool.{Bool, true, false}
use mathlib.Core.List.{List, [], ◌∷◌, ◌++◌}
use Prim.Native.Nat.{ℕ, ◌+◌, ◌-◌, ◌<◌, ◌≤◌}
use native.Mathlib.Omega.{arith}
use lib.ListN.{length, set}
use Rattle.ast.specs.Choice.{choose}
use Rattle.sheet_rows.specs.Parse.{origin_of}
use Rattle.expansion_definition.specs.PlainCopy.{blank_node}
use Rattle.journal_records.specs.declared.Record.{Record}
use Rattle.journal_records.specs.Records.{tag_node, tag_root, tag_route, tag_association, tag_instance, cell, Same, Fixed}
use Rattle.journal_records.specs.Logs.{only}
use Rattle.journal_lists.specs.Owned.{tagged, owned_by, Appended}
use Rattle.journal_index.specs.Index.{RecordEntered}
use Rattle.journal_index.proofs.Keys.{keyed_low}
use Rattle.journal_index.proofs.Index.{links_fixed}
use Rattle.journal_lists.specs.Families.{Joined}
use Rattle.journal_records.proofs.Frame.{steady_tag, same_fixed}
use Rattle.journal_records.proofs.Lists.{up_same, up_span, up_one, only_here, only_other, up_count, up_patch, scan_end}
use Rattle.journal_lists.proofs.Owned.{tagged_here, tagged_other, tagged_is, tagged_stable, owned_is, owned_stable, append_fixed}
use Rattle.journal_lists.proofs.Families.{join_fixed}
use Rattle.journal_reading.specs.Reading.{fixed_word, root_rec, route_rec, association_rec, instance_rec, merged, instances_at, node_by, node_rec, nodes_of, below}
use Rattle.journal_reading.specs.WellFormed.{HandleAt, NodeClosed, AllWellFormed}
use Rattle.journal_reading.specs.RecordsStay.{EndsKept, NodeWordsKept, RecordsStay}
use Rattle.journal_reading.proofs.Words.{kept_is, kept_fixed}
use Rattle.journal_reading.proofs.Chains.{scan_on, root_lasting, association_lasting, fields_fixed, interfaces_fixed, statements_fixed, order_fixed, fields_none, interfaces_none, statements_none, order_none}
use Rattle.journal_reading.proofs.Logs.{up_fixed}

-- how many there are is how many records of nodes there are
pub nodes_length : (w : List ℕ) (c : ℕ) → length (nodes_of w c) ≡ below w tag_node c
unfolding nodes_of
nodes_length w c = up_count (tagged w tag_node) (node_rec w) c

-- ---- instances
module _ {c : ℕ} {w w' : List ℕ} (f : Fixed c w w') (fair : AllWellFormed w c) (ends : EndsKept c w w') where
  -- the routes of a recorded instance
  route_same : (q : ℕ) → q < c → cell w q 0 ≡ tag_instance → (r : ℕ) → r < q → only (owned_by w' tag_route (fixed_word w q 1)) (route_rec w') r ≡ only (owned_by w tag_route (fixed_word w q 1)) (route_rec w) r
  unfolding only
  route_same q lq e r lr = rw ((owned_stable tag_route (fixed_word w q 1)).same r w w' (f.steady r (omega arith))) (by (owned_by w tag_route (fixed_word w q 1) r) refl)
    where
      by : (t : Bool) → owned_by w tag_route (fixed_word w q 1) r ≡ t → choose t (route_rec w' r ∷ []) [] ≡ choose t (route_rec w r ∷ []) []
      by true p =
          let o = owned_is w tag_route (fixed_word w q 1) r p in
          let s : cell w r 1 ≡ cell w q 1 = o.1 ∙ kept_is w q tag_instance 1 (cell w q 1) e (omega arith) refl in
          rw (
            kept_fixed f r 2 (omega arith),
            kept_fixed f r 3 (omega arith),
            kept_fixed f r 4 (omega arith),
            kept_fixed f r 5 (omega arith),
            ends.from r q lr lq e o.0 s,
            ends.to r q lr lq e o.0 s,
          )
      by false p = refl

  instance_same : (q : ℕ) → q < c → cell w q 0 ≡ tag_instance → instance_rec w' q ≡ instance_rec w q
  instance_same q lq e =
      rw (
        kept_fixed f q 1 lq,
        kept_fixed f q 2 lq,
        up_fixed (λ u. owned_by u tag_root (fixed_word w q 1)) (owned_stable tag_root (fixed_word w q 1)) root_rec root_lasting f q (omega arith),
        up_same (only (owned_by w tag_route (fixed_word w q 1)) (route_rec w)) (only (owned_by w' tag_route (fixed_word w q 1)) (route_rec w')) q (route_same q lq e),
        up_fixed (λ u. owned_by u tag_association (fixed_word w q 1)) (owned_stable tag_association (fixed_word w q 1)) association_rec association_lasting f q (omega arith),
      )

  pub instances_same : (h : ℕ) → HandleAt w c tag_instance h → instances_at w' h ≡ instances_at w h
  unfolding instances_at
  instances_same h x =
      scan_on (λ r. cell w r 0 ≡ tag_instance) (instance_rec w) (instance_rec w') (λ r. fixed_word w r 8) (λ r. fixed_word w' r 8) h h
      (λ r l e. instance_same r (omega (arith, x.low)) e) (λ r l e. kept_fixed f r 8 (omega (arith, x.low))) next x.tag
    where
      next : (r : ℕ) → r < h → cell w r 0 ≡ tag_instance → 0 < fixed_word w r 8 → cell w (fixed_word w r 8 - 1) 0 ≡ tag_instance
      next r l e pos =
          let z : fixed_word w r 8 ≡ cell w r 8 = kept_is w r tag_instance 8 (cell w r 8) e (omega arith) refl in
          let p : 0 < cell w r 8 = omega arith in
          rw z (((fair.each r (omega (arith, x.low))).linked (rw e)).tag p ∙ e)

  -- ---- nodes: what their handles stand for is the same
  pub node_same : (ty def kind id fs is ss os x : ℕ) → fs ≤ c → is ≤ c → ss ≤ c → os ≤ c → HandleAt w c tag_instance x → node_by w' ty def kind id fs is ss os x ≡ node_by w ty def kind id fs is ss os x
  unfolding node_by
  node_same ty def kind id fs is ss os x l1 l2 l3 l4 h =
      rw (fields_fixed f fs l1, interfaces_fixed f is l2, statements_fixed f ss l3, order_fixed f os l4, instances_same x h)

  record_same : (r : ℕ) → r < c → cell w r 0 ≡ tag_node → NodeWordsKept r w w' → node_rec w' r ≡ node_rec w r
  record_same r l e k =
      let x : NodeClosed w c r = (fair.each r l).node e in
      rw (
        k.keeps 3 (omega arith) (omega arith),
        k.keeps 4 (omega arith) (omega arith),
        k.keeps 5 (omega arith) (omega arith),
        k.keeps 6 (omega arith) (omega arith),
        k.keeps 7 (omega arith) (omega arith),
        k.keeps 8 (omega arith) (omega arith),
        k.keeps 9 (omega arith) (omega arith),
        k.keeps 10 (omega arith) (omega arith),
        k.keeps 11 (omega arith) (omega arith),
      )
      (node_same (cell w r 3) (cell w r 4) (cell w r 5) (cell w r 6) (cell w r 7) (cell w r 8) (cell w r 9) (cell w r 10) (cell w r 11) x.fields.low x.interface.low x.statements.low x.body_order.low x.instance)

  log_same : (r : ℕ) → r < c → (cell w r 0 ≡ tag_node → NodeWordsKept r w w') → only (tagged w' tag_node) (node_rec w') r ≡ only (tagged w tag_node) (node_rec w) r
  unfolding only
  log_same r l k = rw ((tagged_stable tag_node).same r w w' (f.steady r l)) (by (tagged w tag_node r) refl)
    where
      by : (t : Bool) → tagged w tag_node r ≡ t → choose t (node_rec w' r ∷ []) [] ≡ choose t (node_rec w r ∷ []) []
      by true p = let e : cell w r 0 ≡ tag_node = tagged_is w tag_node r p in rw (record_same r l e (k e))
      by false p = refl

  -- one node is changed
  pub nodes_patch : (n : ℕ) → n < c → cell w n 0 ≡ tag_node → ((r : ℕ) → r < c → (r ≡ n → ⊥) → cell w r 0 ≡ tag_node → NodeWordsKept r w w') → nodes_of w' c ≡ set (nodes_of w c) (below w tag_node n) (node_rec w' n)
  unfolding nodes_of
  nodes_patch n l e k =
      up_patch (only (tagged w tag_node) (node_rec w)) (only (tagged w' tag_node) (node_rec w')) n (node_rec w' n) (node_rec w n)
      (only_here (tagged w tag_node) (node_rec w) n (tagged_here w tag_node n e))
      (only_here (tagged w' tag_node) (node_rec w') n (tagged_here w' tag_node n (steady_tag (f.steady n l) ∙ e)))
      c l (λ r ne lr. log_same r lr (k r lr ne))
      ∙ rw (up_count (tagged w tag_node) (node_rec w) n)

-- ---- nothing of a node is changed
module _ {c : ℕ} {w w' : List ℕ} (q : RecordsStay c w w') (fair : AllWellFormed w c) where
  pub nodes_fixed : nodes_of w' c ≡ nodes_of w c
  unfolding nodes_of
  nodes_fixed = up_same (only (tagged w tag_node) (node_rec w)) (only (tagged w' tag_node) (node_rec w')) c (λ r l. log_same q.fixed fair q.ends r l (q.nodes r l))

  -- n records more that are no nodes
  pub nodes_stays : (n : ℕ) → ((r : ℕ) → c ≤ r → r < c + n → cell w' r 0 ≡ tag_node → ⊥) → nodes_of w' (c + n) ≡ nodes_of w c
  unfolding nodes_of
  nodes_stays n quiet =
      up_span (only (tagged w' tag_node) (node_rec w')) c n (λ r l h. only_other (tagged w' tag_node) (node_rec w') r (tagged_other w' tag_node r (quiet r l h))) ∙ nodes_fixed

  pub nodes_new : cell w' c 0 ≡ tag_node → nodes_of w' (c + 1) ≡ nodes_of w c ++ (node_rec w' c ∷ [])
  unfolding nodes_of
  nodes_new e = up_one (only (tagged w' tag_node) (node_rec w')) c ∙ rw (only_here (tagged w' tag_node) (node_rec w') c (tagged_here w' tag_node c e), nodes_fixed)

-- a node that has nothing yet
pub node_blank : (w : List ℕ) → node_by w 0 4294967295 0 0 0 0 0 0 0 ≡ blank_node
unfolding node_by origin_of instances_at merged
node_blank w = rw (fields_none w, interfaces_none w, statements_none w, order_none w, scan_end (instance_rec w) (λ r. fixed_word w r 8))

-- ---- what is calm
pub calm_same : {c : ℕ} {w w' : List ℕ} → Same c w w' → RecordsStay c w w'
calm_same s = record {
  fixed = same_fixed s;
  ends = record { from = λ n q l lq e t o. s.keeps n 10 (omega arith) (omega arith); to = λ n q l lq e t o. s.keeps n 11 (omega arith) (omega arith) };
  nodes = λ r l e. record { keeps = λ j a b. s.keeps r j l b };
}

-- a keyed record, and links
pub calm_enter : {w w' : List ℕ} {at slots c : ℕ} {r : Record} → RecordEntered w w' at slots c r → RecordsStay c w w'
calm_enter {w} a = record {
  fixed = links_fixed a.same;
  ends = record { from = λ n q l lq e t o. a.same.keeps n 10 (omega arith) (omega arith) (λ k lo hi. omega (arith, (keyed_low (cell w n 0) k).0)); to = λ n q l lq e t o. a.same.keeps n 11 (omega arith) (omega arith) (λ k lo hi. omega arith) };
  nodes = λ n l e. record { keeps = λ j x b. a.same.keeps n j l b (λ k lo hi. (keyed_low (cell w n 0) k).1 e) };
}

-- a record at the end of its scope's list
pub calm_append : {w w' : List ℕ} {s c : ℕ} {r : Record} → Appended w w' s c r → RecordsStay c w w'
calm_append {w} {w'} {s} {c} {r} a = record {
  fixed = append_fixed a;
  ends = record { from = λ n q l lq e t o. a.other n 10 (omega arith) (omega arith) (λ z y. apart n tag_route (omega arith) t z); to = λ n q l lq e t o. a.other n 11 (omega arith) (omega arith) (λ z y. apart n tag_route (omega arith) t z) };
  nodes = λ n l e. record { keeps = λ j x b. a.other n j l b (λ z y. apart n tag_node (omega arith) e z) };
}
  where
    apart : (n t : ℕ) → (t ≡ 10 → ⊥) → cell w n 0 ≡ t → n ≡ s → ⊥
    apart n t ne e z = ne (sym e ∙ rw z a.scope)

-- a stored record, and the newest of its family
pub calm_join : {w w' : List ℕ} {at slots c : ℕ} {r : Record} → Joined w w' at slots c r → RecordsStay c w w'
calm_join {w} a = record {
  fixed = join_fixed a;
  ends = record { from = λ n q l lq e t o. a.other n 10 (omega arith) (omega arith) (λ z y. omega arith) (λ k lo hi. omega (arith, (keyed_low (cell w n 0) k).0)); to = λ n q l lq e t o. a.other n 11 (omega arith) (omega arith) (λ z y. omega arith) (λ k lo hi. omega arith) };
  nodes = λ n l e. record { keeps = λ j x b. a.other n j l b (λ z y. omega arith) (λ k lo hi. (keyed_low (cell w n 0) k).1 e) };
}
