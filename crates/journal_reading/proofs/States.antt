-- Which state the records stand for after records are written: those that no log reads, and one of each other tag.
use mathlib.Core.Path.{◌≡◌, sym, ◌∙◌}
use mathlib.Core.List.{List, [], ◌∷◌, ◌++◌}
use Prim.Native.Nat.{ℕ, suc, ◌+◌, ◌<◌, ◌≤◌}
use native.Mathlib.Omega.{arith}
use native.Mathlib.Numerals.{add-one}
use lib.ListN.{length}
use Rattle.ast.specs.Ast.{Node, ExternProtoDecl}
use Rattle.expansion_definition.specs.Scopes.{Scope}
use Rattle.expansion_definition.specs.State.{ExternEntry, State, with_world, with_nodes}
use Rattle.expansion_definition.specs.Charges.{one_more}
use Rattle.expansion_definition.specs.PlainCopy.{push_association}
use Rattle.expansion_definition.specs.Instances.{add_entry}
use Rattle.journal_records.specs.declared.Record.{Record}
use Rattle.journal_records.specs.Records.{tag_map, tag_extern, tag_node, tag_scope, tag_association, cell, stays, Fixed, Holds}
use Rattle.journal_lists.specs.Owned.{tagged}
use Rattle.journal_records.proofs.Lists.{up_count}
use Rattle.journal_lists.proofs.Owned.{tagged_here, tagged_other, tagged_stable}
use Rattle.journal_reading.specs.Reading.{fixed_word, scope_by, scope_rec, extern_by, extern_rec, entry_rec, ledger_rec, extern_entry_rec, is_rec, map_of, ledger_of, scopes_of, nodes_of, externs_of, extern_map_of, is_map_of, state_of, node_rec, below}
use Rattle.journal_reading.specs.WellFormed.{AllWellFormed}
use Rattle.journal_reading.proofs.Words.{kept_is, kept_fixed, Lasting}
use Rattle.journal_reading.proofs.Chains.{association_lasting}
use Rattle.journal_reading.proofs.Logs.{up_stays, down_stays, up_new, down_new}
use Rattle.journal_reading.proofs.Nodes.{nodes_stays, nodes_new}
use Rattle.journal_reading.specs.RecordsStay.{RecordsStay}

-- ---- what each log reads of a record lasts
module _ {r : ℕ} {w w' : List ℕ} (f : Fixed (suc r) w w') where
  word : (j : ℕ) → fixed_word w' r j ≡ fixed_word w r j
  word j = kept_fixed f r j (omega arith)

pub entry_lasting : Lasting entry_rec
entry_lasting = record { same = λ r w w' f. rw (word f 5, word f 2, word f 3) }

pub ledger_lasting : Lasting ledger_rec
ledger_lasting = record { same = λ r w w' f. rw (word f 1, word f 2) }

pub scope_lasting : Lasting scope_rec
scope_lasting = record { same = λ r w w' f. rw (word f 1, word f 2, word f 3, word f 4, word f 5) }

pub extern_lasting : (root library : List ℕ) → Lasting (extern_rec root library)
extern_lasting root library = record { same = λ r w w' f. rw (word f 1, word f 4, word f 6) }

pub extern_entry_lasting : Lasting extern_entry_rec
extern_entry_lasting = record { same = λ r w w' f. rw (word f 1, word f 2, word f 3) }

pub is_lasting : Lasting is_rec
is_lasting = record { same = λ r w w' f. rw (word f 1, association_lasting.same r w w' f) }

-- how many scopes and externs there are
pub scopes_length_lem : (w : List ℕ) (c : ℕ) → length (scopes_of w c) ≡ below w tag_scope c
unfolding scopes_of
scopes_length_lem w c = up_count (tagged w tag_scope) (scope_rec w) c

pub externs_length : (root library w : List ℕ) (c : ℕ) → length (externs_of root library w c) ≡ below w tag_extern c
unfolding externs_of
externs_length root library w c = up_count (tagged w tag_extern) (extern_rec root library w) c

-- ---- n records more, none of the tag of a log
abbrev pub Free : List ℕ → ℕ → ℕ → ℕ → Type 0
Free w c n t = (r : ℕ) → c ≤ r → r < c + n → cell w r 0 ≡ t → ⊥

module _ {c : ℕ} {w w' : List ℕ} (f : Fixed c w w') (n : ℕ) where
  pub map_stays : Free w' c n tag_map → map_of w' (c + n) ≡ map_of w c
  unfolding map_of
  map_stays h = down_stays (λ u. tagged u tag_map) (tagged_stable tag_map) entry_rec entry_lasting f n (λ r l k. tagged_other w' tag_map r (h r l k))

  pub ledger_stays : Free w' c n tag_node → ledger_of w' (c + n) ≡ ledger_of w c
  unfolding ledger_of
  ledger_stays h = up_stays (λ u. tagged u tag_node) (tagged_stable tag_node) ledger_rec ledger_lasting f n (λ r l k. tagged_other w' tag_node r (h r l k))

  pub scopes_stays : Free w' c n tag_scope → scopes_of w' (c + n) ≡ scopes_of w c
  unfolding scopes_of
  scopes_stays h = up_stays (λ u. tagged u tag_scope) (tagged_stable tag_scope) scope_rec scope_lasting f n (λ r l k. tagged_other w' tag_scope r (h r l k))

  pub externs_stays : (root library : List ℕ) → Free w' c n tag_extern → externs_of root library w' (c + n) ≡ externs_of root library w c
  unfolding externs_of
  externs_stays root library h = up_stays (λ u. tagged u tag_extern) (tagged_stable tag_extern) (extern_rec root library) (extern_lasting root library) f n (λ r l k. tagged_other w' tag_extern r (h r l k))

  pub extern_map_stays : Free w' c n tag_extern → extern_map_of w' (c + n) ≡ extern_map_of w c
  unfolding extern_map_of
  extern_map_stays h = down_stays (λ u. tagged u tag_extern) (tagged_stable tag_extern) extern_entry_rec extern_entry_lasting f n (λ r l k. tagged_other w' tag_extern r (h r l k))

  pub is_map_stays : Free w' c n tag_association → is_map_of w' (c + n) ≡ is_map_of w c
  unfolding is_map_of
  is_map_stays h = up_stays (λ u. tagged u tag_association) (tagged_stable tag_association) is_rec is_lasting f n (λ r l k. tagged_other w' tag_association r (h r l k))

-- a tag that no log reads
pub record Silent (t : ℕ) : Type 0 where
  pub map : t ≡ tag_map → ⊥
  pub extern : t ≡ tag_extern → ⊥
  pub node : t ≡ tag_node → ⊥
  pub scope : t ≡ tag_scope → ⊥
  pub association : t ≡ tag_association → ⊥

-- a state with other parts
abbrev pub with_ledger : List (ℕ × ℕ) → State → State
with_ledger l st = with_world (record { map = st.world.map; ledger = l; scopes = st.world.scopes }) st

abbrev pub with_scopes : List Scope → State → State
with_scopes l st = with_world (record { map = st.world.map; ledger = st.world.ledger; scopes = l }) st

abbrev pub with_externs : List ExternProtoDecl → List ExternEntry → State → State
with_externs l m st = record { world = st.world; nodes = st.nodes; extern_protos = l; extern_map = m; is_map = st.is_map; charges = st.charges }

abbrev pub more : ℕ → State → State
more n st = record { world = st.world; nodes = st.nodes; extern_protos = st.extern_protos; extern_map = st.extern_map; is_map = st.is_map; charges = st.charges + n }

module _ (root library : List ℕ) {c : ℕ} {w w' : List ℕ} (q : RecordsStay c w w') (fair : AllWellFormed w c) where
  abbrev before : State
  before = state_of root library w c

  -- n records that no log reads
  pub state_silent : (n : ℕ) → ((r : ℕ) → c ≤ r → r < c + n → Silent (cell w' r 0)) → state_of root library w' (c + n) ≡ more n before
  state_silent n s =
      rw (
        map_stays q.fixed n (λ r l k. (s r l k).map),
        ledger_stays q.fixed n (λ r l k. (s r l k).node),
        scopes_stays q.fixed n (λ r l k. (s r l k).scope),
        nodes_stays q fair n (λ r l k. (s r l k).node),
        externs_stays q.fixed n root library (λ r l k. (s r l k).extern),
        extern_map_stays q.fixed n (λ r l k. (s r l k).extern),
        is_map_stays q.fixed n (λ r l k. (s r l k).association),
      )

  -- no record more
  pub state_fixed : state_of root library w' c ≡ before
  state_fixed = let z : c + 0 ≡ c = omega arith in rw z at (state_silent 0 (λ r l k. absurd (omega arith)))

  -- ---- one record more, of a tag that a log reads
  module _ (r : Record) (o : Holds w' c r) where
    put : (j v : ℕ) → j < stays r.tag → cell w' c j ≡ v → fixed_word w' c j ≡ v
    put j v l e = kept_is w' c r.tag j v o.at0 l e

    -- that record alone
    alone : (n : ℕ) → c ≤ n → n < c + 1 → cell w' n 0 ≡ r.tag
    alone n l h = let z : n ≡ c = omega arith in rw z o.at0

    other : (t : ℕ) → (r.tag ≡ t → ⊥) → Free w' c 1 t
    other t ne n l h e = ne (sym (alone n l h) ∙ e)

    pub state_one : Silent r.tag → state_of root library w' (c + 1) ≡ one_more before
    state_one s = state_silent 1 (λ n l h. rw (alone n l h) s) ∙ rw (add-one c)

    maps : (r.tag ≡ tag_map → ⊥) → map_of w' (c + 1) ≡ map_of w c
    maps ne = map_stays q.fixed 1 (other tag_map ne)

    ledgers : (r.tag ≡ tag_node → ⊥) → ledger_of w' (c + 1) ≡ ledger_of w c
    ledgers ne = ledger_stays q.fixed 1 (other tag_node ne)

    scopes : (r.tag ≡ tag_scope → ⊥) → scopes_of w' (c + 1) ≡ scopes_of w c
    scopes ne = scopes_stays q.fixed 1 (other tag_scope ne)

    nodes : (r.tag ≡ tag_node → ⊥) → nodes_of w' (c + 1) ≡ nodes_of w c
    nodes ne = nodes_stays q fair 1 (other tag_node ne)

    externs : (r.tag ≡ tag_extern → ⊥) → externs_of root library w' (c + 1) ≡ externs_of root library w c
    externs ne = externs_stays q.fixed 1 root library (other tag_extern ne)

    extern_maps : (r.tag ≡ tag_extern → ⊥) → extern_map_of w' (c + 1) ≡ extern_map_of w c
    extern_maps ne = extern_map_stays q.fixed 1 (other tag_extern ne)

    is_maps : (r.tag ≡ tag_association → ⊥) → is_map_of w' (c + 1) ≡ is_map_of w c
    is_maps ne = is_map_stays q.fixed 1 (other tag_association ne)

    -- a map entry
    module _ (e : r.tag ≡ tag_map) where
      map_new : map_of w' (c + 1) ≡ record { scope = r.e; id = r.b; out = r.c } ∷ map_of w c
      unfolding map_of
      map_new =
          down_new (λ u. tagged u tag_map) (tagged_stable tag_map) entry_rec entry_lasting q.fixed (tagged_here w' tag_map c (o.at0 ∙ e))
          ∙ rw (put 5 r.e (rw e (omega arith)) o.at5, put 2 r.b (rw e (omega arith)) o.at2, put 3 r.c (rw e (omega arith)) o.at3)

      pub state_map : state_of root library w' (c + 1) ≡ add_entry r.e r.b r.c (one_more before)
      state_map =
          rw (
            map_new,
            ledgers (λ z. omega arith),
            scopes (λ z. omega arith),
            nodes (λ z. omega arith),
            externs (λ z. omega arith),
            extern_maps (λ z. omega arith),
            is_maps (λ z. omega arith),
            add-one c,
          )

    -- a node
    module _ (e : r.tag ≡ tag_node) where
      ledger_new : ledger_of w' (c + 1) ≡ ledger_of w c ++ ((r.a, r.b) ∷ [])
      unfolding ledger_of
      ledger_new =
          up_new (λ u. tagged u tag_node) (tagged_stable tag_node) ledger_rec ledger_lasting q.fixed (tagged_here w' tag_node c (o.at0 ∙ e))
          ∙ rw (put 1 r.a (rw e (omega arith)) o.at1, put 2 r.b (rw e (omega arith)) o.at2)

      pub state_node : state_of root library w' (c + 1) ≡ with_ledger (ledger_of w c ++ ((r.a, r.b) ∷ [])) (with_nodes (nodes_of w c ++ (node_rec w' c ∷ [])) (one_more before))
      state_node =
          rw (
            maps (λ z. omega arith),
            ledger_new,
            scopes (λ z. omega arith),
            nodes_new q fair (o.at0 ∙ e),
            externs (λ z. omega arith),
            extern_maps (λ z. omega arith),
            is_maps (λ z. omega arith),
            add-one c,
          )

    -- a scope
    module _ (e : r.tag ≡ tag_scope) where
      scope_new : scopes_of w' (c + 1) ≡ scopes_of w c ++ (scope_by r.a r.b r.c r.d r.e ∷ [])
      unfolding scopes_of
      scope_new =
          up_new (λ u. tagged u tag_scope) (tagged_stable tag_scope) scope_rec scope_lasting q.fixed (tagged_here w' tag_scope c (o.at0 ∙ e))
          ∙ rw (
            put 1 r.a (rw e (omega arith)) o.at1,
            put 2 r.b (rw e (omega arith)) o.at2,
            put 3 r.c (rw e (omega arith)) o.at3,
            put 4 r.d (rw e (omega arith)) o.at4,
            put 5 r.e (rw e (omega arith)) o.at5,
          )

      pub state_scope : state_of root library w' (c + 1) ≡ with_scopes (scopes_of w c ++ (scope_by r.a r.b r.c r.d r.e ∷ [])) (one_more before)
      state_scope =
          rw (
            maps (λ z. omega arith),
            ledgers (λ z. omega arith),
            scope_new,
            nodes (λ z. omega arith),
            externs (λ z. omega arith),
            extern_maps (λ z. omega arith),
            is_maps (λ z. omega arith),
            add-one c,
          )

    -- an association
    module _ (e : r.tag ≡ tag_association) where
      is_new : is_map_of w' (c + 1) ≡ is_map_of w c ++ ((r.a, record { interface = r.b; node = r.c; field = r.d }) ∷ [])
      unfolding is_map_of
      is_new =
          up_new (λ u. tagged u tag_association) (tagged_stable tag_association) is_rec is_lasting q.fixed (tagged_here w' tag_association c (o.at0 ∙ e))
          ∙ rw (
            put 1 r.a (rw e (omega arith)) o.at1,
            put 2 r.b (rw e (omega arith)) o.at2,
            put 3 r.c (rw e (omega arith)) o.at3,
            put 4 r.d (rw e (omega arith)) o.at4,
          )

      pub state_association : state_of root library w' (c + 1) ≡ push_association r.a (record { interface = r.b; node = r.c; field = r.d }) (one_more before)
      state_association =
          rw (
            maps (λ z. omega arith),
            ledgers (λ z. omega arith),
            scopes (λ z. omega arith),
            nodes (λ z. omega arith),
            externs (λ z. omega arith),
            extern_maps (λ z. omega arith),
            is_new,
            add-one c,
          )

    -- an extern
    module _ (e : r.tag ≡ tag_extern) where
      extern_new : externs_of root library w' (c + 1) ≡ externs_of root library w c ++ (extern_by root library r.a r.d r.f ∷ [])
      unfolding externs_of
      extern_new =
          up_new (λ u. tagged u tag_extern) (tagged_stable tag_extern) (extern_rec root library) (extern_lasting root library) q.fixed (tagged_here w' tag_extern c (o.at0 ∙ e))
          ∙ rw (put 1 r.a (rw e (omega arith)) o.at1, put 4 r.d (rw e (omega arith)) o.at4, put 6 r.f (rw e (omega arith)) o.at6)

      extern_entry : extern_map_of w' (c + 1) ≡ record { document = r.a; id = r.b; out = r.c } ∷ extern_map_of w c
      unfolding extern_map_of
      extern_entry =
          down_new (λ u. tagged u tag_extern) (tagged_stable tag_extern) extern_entry_rec extern_entry_lasting q.fixed (tagged_here w' tag_extern c (o.at0 ∙ e))
          ∙ rw (put 1 r.a (rw e (omega arith)) o.at1, put 2 r.b (rw e (omega arith)) o.at2, put 3 r.c (rw e (omega arith)) o.at3)

      pub state_extern : state_of root library w' (c + 1) ≡ with_externs (externs_of root library w c ++ (extern_by root library r.a r.d r.f ∷ [])) (record { document = r.a; id = r.b; out = r.c } ∷ extern_map_of w c) (one_more before)
      state_extern =
          rw (
            maps (λ z. omega arith),
            ledgers (λ z. omega arith),
            scopes (λ z. omega arith),
            nodes (λ z. omega arith),
            extern_new,
            extern_entry,
            is_maps (λ z. omega arith),
            add-one c,
          )

-- one node is changed, and no record is written
pub state_patch : (root library : List ℕ) {c : ℕ} {w w' : List ℕ} → Fixed c w w' → (l : List Node) → nodes_of w' c ≡ l → state_of root library w' c ≡ with_nodes l (state_of root library w c)
state_patch root library {c} {w} {w'} f l e =
    let z : c + 0 ≡ c = omega arith in
    rw (
      e,
      (rw z at (map_stays f 0 (λ r a b. absurd (omega arith)))),
      (rw z at (ledger_stays f 0 (λ r a b. absurd (omega arith)))),
      (rw z at (scopes_stays f 0 (λ r a b. absurd (omega arith)))),
      (rw z at (externs_stays f 0 root library (λ r a b. absurd (omega arith)))),
      (rw z at (extern_map_stays f 0 (λ r a b. absurd (omega arith)))),
      (rw z at (is_map_stays f 0 (λ r a b. absurd (omega arith)))),
    )
