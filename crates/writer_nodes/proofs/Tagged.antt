-- Read by its words as they stand, a list is what the state has of it: its records have the tag of the list.
use mathlib.Core.Path.{◌≡◌, refl, sym, ap, ◌∙◌}
use mathlib.Core.Bool.{Bool, true, false}
use mathlib.Core.List.{List, [], ◌∷◌}
use Prim.Native.Nat.{ℕ, ◌-◌, ◌<◌, ◌≤◌}
use native.Mathlib.Omega.{arith}
use lib.Dec.{eqb}
use borrow.Author.Tests.{eqb-true}
use Rattle.ast.specs.Ast.{FieldData, FieldValue}
use Rattle.ast.specs.Choice.{choose}
use Rattle.journal_records.specs.Records.{tag_id, tag_field, tag_interface, tag_statement, tag_order, tag_root, tag_route, tag_association, cell, stays}
use Rattle.journal_records.specs.Logs.{rev_onto, only}
use Rattle.journal_lists.specs.Owned.{OwnedTag, owned_by, last_owned, owned_log, Owned}
use Rattle.journal_records.proofs.Lists.{last_low, scan_low, scan_all, up_rev, up_same}
use Rattle.journal_lists.proofs.Owned.{owned_is}
use Rattle.journal_reading.specs.Reading.{fixed_word, fields_at, interfaces_at, statements_at, order_at}
use Rattle.journal_reading.specs.Reading as state
use Rattle.journal_reading.specs.WellFormed.{HandleAt, listed, valued, AllWellFormed}
use Rattle.journal_reading.proofs.Words.{kept_is}
use Rattle.journal_reading.proofs.Chains.{scan_on}
use Rattle.journal_reading.proofs.Fair.{listed_stays, valued_listed}
use Rattle.writer_lists.specs.Cells.{cell_chain, cell_ids, value_cells, field_cells, interface_cells, statement_cells, order_cells, root_cell, route_cells, association_cells}

-- a word that stays
word : (w : List ℕ) (r t j : ℕ) → cell w r 0 ≡ t → j < stays t → fixed_word w r j ≡ cell w r j
word w r t j e l = kept_is w r t j (cell w r j) e l refl

listed_word : (w : List ℕ) (r t j : ℕ) → listed t ≡ true → cell w r 0 ≡ t → j < 9 → fixed_word w r j ≡ cell w r j
listed_word w r t j l e lj = word w r t j e (omega (arith, listed_stays t l))

module _ {w : List ℕ} where
  -- ---- lists that handles lead to
  module _ {c : ℕ} (fair : AllWellFormed w c) where
    module _ {A : Type 0} (t : ℕ) (l : listed t ≡ true) (d d' : ℕ → A) {top h : ℕ} (le : top ≤ c) (x : HandleAt w top t h) where
      chain_read : ((r : ℕ) → r < top → cell w r 0 ≡ t → d' r ≡ d r) → state.chain d' w top h ≡ cell_chain d w top h
      chain_read same = ap (λ (k : List A). rev_onto k []) (scan_on (λ r. cell w r 0 ≡ t) d d' (λ r. cell w r 8) (λ r. fixed_word w r 8) top h same (λ r lr e. listed_word w r t 8 l e (omega arith)) next x.tag)
        where
          next : (r : ℕ) → r < top → cell w r 0 ≡ t → 0 < cell w r 8 → cell w (cell w r 8 - 1) 0 ≡ t
          next r lr e some = ((fair.each r (omega arith)).linked (rw e l)).tag some ∙ e

    value_read : (r t : ℕ) → r < c → cell w r 0 ≡ t → valued t ≡ true → state.value_rec w r ≡ value_cells w r
    value_read r t lr e v = rw (k 5 (omega arith), k 6 (omega arith), k 7 (omega arith)) (by (eqb (cell w r 6) 2) refl)
      where
        k : (j : ℕ) → j < 9 → fixed_word w r j ≡ cell w r j
        k j lj = listed_word w r t j (valued_listed t v) e lj

        by : (b : Bool) → eqb (cell w r 6) 2 ≡ b
            → ◌≡◌ {A = FieldValue} (record { ty = cell w r 5; «data» = choose b (FieldData.Nodes (state.ids_in w r (cell w r 7))) (FieldData.Payload (cell w r 7)) }) (record { ty = cell w r 5; «data» = choose b (FieldData.Nodes (cell_ids w r (cell w r 7))) (FieldData.Payload (cell w r 7)) })
        by true q =
            rw (chain_read tag_id refl (λ k. cell w k 1) (λ k. fixed_word w k 1) {top = r} (omega arith) ((fair.each r lr).value (rw e v) (eqb-true (cell w r 6) 2 q)) (λ k lk z. word w k tag_id 1 z (omega arith)))
        by false q = refl

    -- the fields of a node
    pub fields_read : {h : ℕ} → HandleAt w c tag_field h → fields_at w h ≡ cell_chain (field_cells w) w h h
    unfolding fields_at
    fields_read {h} x =
        chain_read tag_field refl (field_cells w) (state.field_rec w) x.low (record { low = omega arith; tag = x.tag })
        (λ r lr e. rw (word w r tag_field 1 e (omega arith), word w r tag_field 2 e (omega arith), word w r tag_field 3 e (omega arith), word w r tag_field 4 e (omega arith), value_read r tag_field (omega (arith, x.low)) e refl))

    -- its interfaces
    pub interfaces_read : {h : ℕ} → HandleAt w c tag_interface h → interfaces_at w h ≡ cell_chain (interface_cells w) w h h
    unfolding interfaces_at
    interfaces_read {h} x =
        chain_read tag_interface refl (interface_cells w) (state.interface_rec w) x.low (record { low = omega arith; tag = x.tag })
        (λ r lr e. rw (word w r tag_interface 1 e (omega arith), word w r tag_interface 2 e (omega arith), word w r tag_interface 3 e (omega arith), word w r tag_interface 4 e (omega arith), value_read r tag_interface (omega (arith, x.low)) e refl, word w r tag_interface 6 e (omega arith)))

    -- its statements, and those at the top
    pub statements_read : {h : ℕ} → HandleAt w c tag_statement h → statements_at w h ≡ cell_chain (statement_cells w) w h h
    unfolding statements_at
    statements_read {h} x =
        chain_read tag_statement refl (statement_cells w) (state.statement_rec w) x.low (record { low = omega arith; tag = x.tag })
        (λ r lr e. rw (word w r tag_statement 1 e (omega arith), word w r tag_statement 2 e (omega arith), word w r tag_statement 3 e (omega arith), word w r tag_statement 4 e (omega arith), word w r tag_statement 5 e (omega arith), word w r tag_statement 6 e (omega arith), word w r tag_statement 7 e (omega arith)))

    -- its body order
    pub order_read : {h : ℕ} → HandleAt w c tag_order h → order_at w h ≡ cell_chain (order_cells w) w h h
    unfolding order_at
    order_read {h} x =
        chain_read tag_order refl (order_cells w) (state.order_rec w) x.low (record { low = omega arith; tag = x.tag })
        (λ r lr e. rw (word w r tag_order 1 e (omega arith)))

  -- ---- lists that a scope owns
  module _ {c : ℕ} (ow : Owned w c) (s r : ℕ) (le : r ≤ c) where
    own_read : {A : Type 0} (t : ℕ) → OwnedTag t → (d d' : ℕ → A) → ((k : ℕ) → cell w k 0 ≡ t → d' k ≡ d k) → {h : ℕ} → h ≡ last_owned w t s r → owned_log d' w t s r ≡ cell_chain d w h h
    unfolding only
    own_read {A} t o d d' same {h} e =
        up_same (only p d) (only p d') r (λ k lk. one k)
        ∙ sym (rw e (ap (λ (l : List A). rev_onto l []) (sym (scan_low d (λ k. cell w k 8) r (last_owned w t s r) (last_low p r)) ∙ scan_all d (λ k. cell w k 8) p r link) ∙ up_rev p d r))
      where
        p : ℕ → Bool
        p = owned_by w t s

        link : (k : ℕ) → k < r → p k ≡ true → cell w k 8 ≡ last_owned w t s k
        link k lk q = let z = owned_is w t s k q in ow.links k t (omega arith) z.0 o ∙ rw z.1

        one : (k : ℕ) → only p d' k ≡ only p d k
        one k = by (p k) refl
          where
            by : (b : Bool) → p k ≡ b → choose b (d' k ∷ []) [] ≡ choose b (d k ∷ []) []
            by true q = rw (same k (owned_is w t s k q).0)
            by false q = refl

    -- its extra roots
    pub roots_read : {h : ℕ} → h ≡ last_owned w tag_root s r → owned_log (state.root_rec w) w tag_root s r ≡ cell_chain (root_cell w) w h h
    roots_read e = own_read tag_root (record { low = omega arith; high = omega arith }) (root_cell w) (state.root_rec w) (λ k z. word w k tag_root 2 z (omega arith)) e

    -- its routes
    pub routes_read : {h : ℕ} → h ≡ last_owned w tag_route s r → owned_log (state.route_rec w) w tag_route s r ≡ cell_chain (route_cells w) w h h
    routes_read e =
        own_read tag_route (record { low = omega arith; high = omega arith }) (route_cells w) (state.route_rec w)
        (λ k z. rw (word w k tag_route 2 z (omega arith), word w k tag_route 3 z (omega arith), word w k tag_route 4 z (omega arith), word w k tag_route 5 z (omega arith))) e

    -- its associations
    pub map_read : {h : ℕ} → h ≡ last_owned w tag_association s r → owned_log (state.association_rec w) w tag_association s r ≡ cell_chain (association_cells w) w h h
    map_read e =
        own_read tag_association (record { low = omega arith; high = omega arith }) (association_cells w) (state.association_rec w)
        (λ k z. rw (word w k tag_association 2 z (omega arith), word w k tag_association 3 z (omega arith), word w k tag_association 4 z (omega arith))) e
