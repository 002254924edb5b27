-- `fill`: a node gets its contents, and nothing else is changed.
use mathlib.Core.Path.{◌≡◌, refl, sym, ap, ◌∙◌}
use mathlib.Core.Bool.{Bool, true, false}
use mathlib.Core.List.{List}
use Prim.Native.Nat.{ℕ, zero, suc, ◌+◌, ◌*◌, ◌-◌, ◌≤◌, ◌<◌}
use native.Mathlib.Omega.{arith}
use lib.ListN.{length, get_or, set}
use lib.Dec.{eqb, ltb}
use borrow.Author.Tests.{eqb-true, eqb-false, ltb-true, ltb-false}
use Rattle.expansion_definition.specs.State.{ok, with_nodes}
use Rattle.journal_records.specs.Records.{tag_extern, tag_node, tag_field, tag_interface, tag_statement, tag_order, tag_stored, tag_scope, tag_route, tag_instance, cell, Fixed, Pushed}
use Rattle.journal_records.specs.Made.{node_record}
use Rattle.journal_lists.specs.Owned.{head_word}
use Rattle.journal_records.proofs.Frame.{stays_most}
use Rattle.journal_index.proofs.Keys.{keyed_low}
use Rattle.journal_index.proofs.Index.{index_keep}
use Rattle.journal_lists.proofs.Owned.{owned_keep}
use Rattle.journal_lists.proofs.Families.{families_keep}
use Rattle.journal_reading.specs.Reading.{node_by, node_rec, nodes_of, below}
use Rattle.journal_reading.specs.WellFormed.{HandleAt, NodeAt, NodeClosed}
use Rattle.journal_reading.proofs.Fair.{handle_none, handle_fixed, fair_fixed, closed_fixed}
use Rattle.journal_reading.proofs.Logs.{below_fixed}
use Rattle.journal_reading.proofs.Nodes.{node_same, nodes_patch}
use Rattle.journal_reading.specs.RecordsStay.{EndsKept}
use Rattle.journal_reading.proofs.States.{state_patch}
use Rattle.refine_records.specs.declared.Limits.{Limits}
use Rattle.refine_records.specs.declared.Counts.{Counts}
use Rattle.refine_records.specs.Sound.{Source, heads_at, JournalSound, Later}
use Rattle.refine_records.specs.Does.{did, number, at, Does}
use Rattle.refine_records.specs.Contract.{contents_of}

-- what is written
pub fill_law : (w w' : List ℕ) (place ty def kind id fs is ss os m s q : ℕ) → m ≡ place → s ≡ cell w (m - 1) 1 → q ≡ cell w (m - 1) 2
    → Pushed w w' (m - 1) (node_record s q ty def kind id fs is ss os) → Pushed w w' (place - 1) (contents_of w (place - 1) ty def kind id fs is ss os)
fill_law w w' place ty def kind id fs is ss os m s q em es eq p = rw (← em, ← es, ← eq) p

-- ---- one node's words are changed, and nothing else
pub record OnlyNode (n : ℕ) (w w' : List ℕ) : Type 0 where
  pub node : cell w n 0 ≡ tag_node
  pub first : (j : ℕ) → j < 3 → cell w' n j ≡ cell w n j
  pub other : (r j : ℕ) → (r ≡ n → ⊥) → j < 12 → cell w' r j ≡ cell w r j

module _ {n : ℕ} {w w' : List ℕ} (x : OnlyNode n w w') where
  -- a record is that one, or another
  which : {P : Type 0} (r : ℕ) → (r ≡ n → P) → ((r ≡ n → ⊥) → P) → P
  which {P} r f g = by (eqb r n) refl
    where
      by : (b : Bool) → eqb r n ≡ b → P
      by true e = f (eqb-true r n e)
      by false e = g (eqb-false r n e)

  pub node_fixed : (c : ℕ) → Fixed c w w'
  node_fixed c = record { steady = λ r l. which r (λ z. rw z (record { keeps = λ j lj. x.first j (rw x.node at lj) })) (λ ne. record { keeps = λ j lj. x.other r j ne (omega (arith, stays_most (cell w r 0))) }) }

  another : (r t : ℕ) → (t ≡ tag_node → ⊥) → cell w r 0 ≡ t → r ≡ n → ⊥
  another r t ne e z = ne (sym e ∙ rw z x.node)

  pub node_ends : (c : ℕ) → EndsKept c w w'
  node_ends c = record {
    from = λ m q l lq e t o. x.other m 10 (another m tag_route (λ z. omega arith) t) (omega arith);
    to = λ m q l lq e t o. x.other m 11 (another m tag_route (λ z. omega arith) t) (omega arith);
  }

  -- what holds of the journal after it
  module _ {L : Limits} {t : Counts} (so : JournalSound L w t) (heads : (m : ℕ) → heads_at L ≤ m → get_or w' m 0 ≡ get_or w m 0) (long : length w' ≡ length w) (closed : NodeClosed w' t.charges n) where
    abbrev c : ℕ
    c = t.charges

    pub node_sound : JournalSound L w' t
    node_sound = record {
      charges = so.charges;
      nodes = so.nodes ∙ sym (below_fixed tag_node (node_fixed c) c (omega arith));
      scopes = so.scopes ∙ sym (below_fixed tag_scope (node_fixed c) c (omega arith));
      externs = so.externs ∙ sym (below_fixed tag_extern (node_fixed c) c (omega arith));
      fair = record { each = λ r l. fair_fixed (node_fixed c) c r l (λ e. which r (λ z. rw z closed) (λ ne. closed_fixed (node_fixed c) r (omega arith) (λ j a b. x.other r j ne b) ((so.fair.each r l).node e))) (so.fair.each r l) };
      index = index_keep (node_fixed c) (record { keeps = λ n j ln e lo hi. which n (λ z. absurd ((keyed_low (cell w n 0) e).1 (rw z x.node))) (λ ne. x.other n j ne (omega arith)) }) so.index (λ b lb. heads (heads_at L + b) (omega arith));
      owned = owned_keep (node_fixed c) so.owned (λ r g l e o. x.other r (head_word g) (another r tag_scope (λ z. omega arith) e) (omega (arith, o.high)));
      families = families_keep (node_fixed c) (λ r l e. x.other r 11 (another r tag_stored (λ z. omega arith) e) (omega arith)) so.families;
    }

    pub node_later : (young : ℕ) → Later L young w t w' t
    node_later young = record { grew = omega arith; scoped = omega arith; kept = node_fixed c; behind = λ m l. heads m (omega arith); long = long; fresh = λ r a b o. absurd (omega arith); sound = node_sound }

    pub node_state : n < t.charges → (S : Source) → at S w' t ≡ with_nodes (set (nodes_of w c) (below w tag_node n) (node_rec w' n)) (at S w t)
    node_state l S =
        state_patch S.root S.library (node_fixed c) (set (nodes_of w c) (below w tag_node n) (node_rec w' n))
        (nodes_patch (node_fixed c) so.fair (node_ends c) n l x.node (λ r lr ne e. record { keeps = λ j a b. x.other r j ne b }))

-- ---- all its contents
module _ {L : Limits} {w : List ℕ} {t : Counts} (so : JournalSound L w t) {o place : ℕ} (at' : NodeAt w t.charges o place) (ty def kind id fs is ss os : ℕ)
    (hf : HandleAt w t.charges tag_field fs) (hi : HandleAt w t.charges tag_interface is) (hs : HandleAt w t.charges tag_statement ss) (ho : HandleAt w t.charges tag_order os)
    {w' : List ℕ} (long : length w' ≡ length w) (p : Pushed w w' (place - 1) (contents_of w (place - 1) ty def kind id fs is ss os)) where
  abbrev n : ℕ
  n = place - 1

  low : n < t.charges
  low = omega (arith, at'.low, at'.some)

  only : OnlyNode n w w'
  unfolding cell
  only = record { node = at'.tag; first = first; other = other }
    where
      first : (j : ℕ) → j < 3 → cell w' n j ≡ cell w n j
      first zero l = p.holds.at0 ∙ sym at'.tag
      first (suc zero) l = p.holds.at1
      first (suc (suc zero)) l = p.holds.at2
      first (suc (suc (suc j))) l = absurd (omega arith)

      other : (r j : ℕ) → (r ≡ n → ⊥) → j < 12 → cell w' r j ≡ cell w r j
      other r j ne l = by (ltb r n) refl
        where
          by : (b : Bool) → ltb r n ≡ b → cell w' r j ≡ cell w r j
          by true e = p.same.keeps r j (ltb-true r n e) l
          by false e = let k : n ≤ r = ltb-false r n e in p.above (r * 12 + j) (omega arith)

  fx : Fixed t.charges w w'
  fx = node_fixed only t.charges

  closed : NodeClosed w' t.charges n
  closed = record {
    fields = rw p.holds.at7 (handle_fixed fx (omega arith) (omega arith) hf);
    interface = rw p.holds.at8 (handle_fixed fx (omega arith) (omega arith) hi);
    statements = rw p.holds.at9 (handle_fixed fx (omega arith) (omega arith) hs);
    body_order = rw p.holds.at10 (handle_fixed fx (omega arith) (omega arith) ho);
    instance = rw p.holds.at11 (handle_none w' t.charges tag_instance);
  }

  contents : node_rec w' n ≡ node_by w ty def kind id fs is ss os 0
  contents =
      rw (p.holds.at3, p.holds.at4, p.holds.at5, p.holds.at6, p.holds.at7, p.holds.at8, p.holds.at9, p.holds.at10, p.holds.at11)
      (node_same fx so.fair (node_ends only t.charges) ty def kind id fs is ss os 0 hf.low hi.low hs.low ho.low (handle_none w t.charges tag_instance))

  heads : (m : ℕ) → heads_at L ≤ m → get_or w' m 0 ≡ get_or w m 0
  heads m l = p.above m (omega (arith, low, so.charges))

  pub fill_later : (young : ℕ) → Later L young w t w' t
  fill_later young = node_later only so heads long closed young

  pub fill_does : (S : Source) (young q : ℕ) → Does S L young number (λ st. ok o (with_nodes (set st.nodes o (node_by w ty def kind id fs is ss os 0)) st)) w t w' (did t o q)
  fill_does S young q = record { same = ap (ok o) (node_state only so heads long closed low S ∙ rw (contents, at'.number)); later = fill_later young }
