-- The record of an instance on its root.
use mathlib.Core.Path.{◌≡◌, refl, sym, ap, ◌∙◌}
use mathlib.Core.Bool.{Bool, true, false}
use mathlib.Core.List.{List, [], ◌∷◌, map}
use mathlib.Core.Option.{some}
use Prim.Native.Nat.{ℕ, ◌+◌, ◌*◌, ◌-◌, ◌≤◌, ◌<◌}
use native.Mathlib.Omega.{arith}
use lib.ListN.{length, get_or, get_elem?, set}
use borrow.Author.Tests.{ne_eqb}
use Rattle.ast.specs.Ast.{Route, ProtoInstance, Node}
use Rattle.ast.specs.Choice.{choose, and_then, or_else}
use Rattle.sheet_rows.specs.Parse.{optional}
use Rattle.expansion_definition.specs.State.{State, ok, with_nodes, lookup}
use Rattle.expansion_definition.specs.Charges.{one_more}
use Rattle.expansion_definition.specs.Instances.{associations_of, nested_roots, nested_routes, with_instance, record_instance}
use Rattle.journal_records.specs.declared.Record.{Record}
use Rattle.journal_records.specs.Records.{tag_node, tag_scope, tag_extern, tag_root, tag_route, tag_association, tag_instance, cell, Fixed, SetWord, Pushed}
use Rattle.journal_records.specs.Made.{instance_record}
use Rattle.journal_records.specs.Logs.{log_up, only}
use Rattle.journal_lists.specs.Owned.{OwnedTag, head_word, tagged, owned_by, owned_log, last_owned}
use Rattle.journal_records.proofs.Cells.{set_cell}
use Rattle.journal_records.proofs.Frame.{fixed_trans, last_fixed, steady_tag}
use Rattle.journal_records.proofs.Lists.{up_get, up_count, up_same, only_here, scan_push, scan_low}
use Rattle.journal_index.proofs.Index.{index_push}
use Rattle.journal_index.proofs.Keys.{unkeyed}
use Rattle.journal_lists.proofs.Owned.{tagged_here, owned_push, owned_is, owned_stable}
use Rattle.journal_lists.proofs.Families.{families_one}
use Rattle.journal_reading.specs.Reading.{fixed_word, below, root_rec, body_route_rec, route_rec, association_rec, InstanceRead, instance_rec, merged, merged_roots, merged_routes, instances_at, node_by, node_rec, nodes_of, map_of, is_map_of, body_of}
use Rattle.journal_reading.specs.WellFormed.{HandleAt, NodeAt, NodeClosed, InstanceClosed, RecordWellFormed}
use Rattle.journal_reading.proofs.Words.{kept_is, kept_fixed}
use Rattle.journal_reading.proofs.Chains.{root_lasting, association_lasting, fields_fixed, interfaces_fixed, statements_fixed, order_fixed}
use Rattle.journal_reading.proofs.Fair.{handle_fixed, handle_new}
use Rattle.journal_reading.proofs.Logs.{up_fixed, up_map, below_fixed}
use Rattle.journal_reading.proofs.Lookups.{associations_owned}
use Rattle.journal_reading.proofs.Nodes.{calm_same, instances_same}
use Rattle.journal_reading.specs.RecordsStay.{RecordsStay}
use Rattle.journal_reading.proofs.States.{Silent, state_one, state_fixed}
use Rattle.refine_records.specs.declared.Limits.{Limits}
use Rattle.std.specs.declared.result.Result.TheVariants.{Err}
use Rattle.refine_records.specs.declared.Refusal.TheVariants.{TooManyRows}
use Rattle.refine_records.specs.declared.Counts.{Counts}
use Rattle.refine_records.specs.declared.Env as code
use Rattle.refine_records.specs.Sound.{Source, heads_at, JournalSound, Standing, OfBody, Later, EnvAt}
use Rattle.refine_records.specs.Does.{Answer, did, number, at}
use Rattle.refine_records.specs.Contract.{charged}
use Rattle.refine_records.proofs.Later.{env_known, later_trans, later_node, later_env}
use Rattle.refine_records.proofs.Grow.{sound_more, later_more, alone, count_other}
use Rattle.refine_records.proofs.Charges.{change_refused, change_done}
use Rattle.refine_nodes.proofs.Filling.{OnlyNode, node_fixed, node_ends, node_later, node_state}
use Rattle.expander_bindings.specs.Contract.{Remapped, Recordable, Recorded}

-- ---- a DEF name
pub named_old : (def old : ℕ) → def ≡ 4294967295 → optional old ≡ or_else (optional def) (optional old)
named_old def old e = rw e

pub named_new : (def old : ℕ) → (def ≡ 4294967295 → ⊥) → optional def ≡ or_else (optional def) (optional old)
named_new def old ne = rw (ne_eqb def 4294967295 ne)

-- ---- no charge is left
pub record_full : (L : Limits) (w : List ℕ) (t : Counts) (e : code.Env) (name def out place : ℕ) → L.rows ≤ t.charges → (a : Answer) → a ≡ Err TooManyRows → Recorded L w t e name def out place w a
record_full L w t e name def out place h a q = rw q (record { does = λ S young le. change_refused S young number (record_instance name (optional def) e.scope (body_of w t.charges e.scope out place) out) h; done = tt })

-- ---- what is nested
nested_roots_lem : (l : List InstanceRead) → nested_roots (merged l) ≡ merged_roots l
unfolding merged merged_roots
nested_roots_lem [] = refl
nested_roots_lem (x ∷ l) = refl

nested_routes_lem : (l : List InstanceRead) → nested_routes (merged l) ≡ merged_routes l
unfolding merged merged_routes
nested_routes_lem [] = refl
nested_routes_lem (x ∷ l) = refl

-- ---- places that are read and written
module _ (L : Limits) (w : List ℕ) (t : Counts) (e : code.Env) (out place : ℕ) (st : Standing L w t) (x : Recordable w t.charges e out place) {w1 : List ℕ} (m : Remapped L w t e.scope w1) where
  pub scope_place : e.place * 12 + 12 ≤ length w1
  scope_place = rw (m.later 0).long (omega (arith, x.remap.env.place, st.sound.charges, st.ready.room))

  pub node_place : (p : ℕ) → p ≡ place → (p - 1) * 12 + 12 ≤ length w1
  node_place p ep = rw (m.later 0).long (omega (arith, x.node.some, x.node.low, st.sound.charges, st.ready.room))

  pub node_some : (p : ℕ) → p ≡ place → 1 ≤ p
  node_some p ep = omega (arith, x.node.some)

  pub new_place : t.charges < L.rows → t.charges * 12 + 12 ≤ length w1
  new_place room = rw (m.later 0).long (omega (arith, st.ready.room))

module _ (L : Limits) (w : List ℕ) (t : Counts) (e : code.Env) (name def out place : ℕ) (st : Standing L w t) (x : Recordable w t.charges e out place) (room : t.charges < L.rows)
    {w1 : List ℕ} (m : Remapped L w t e.scope w1) (roots routes associations p old nested def' : ℕ)
    (e9 : roots ≡ cell w1 e.place 9) (e10 : routes ≡ cell w1 e.place 10) (e11 : associations ≡ cell w1 e.place 11) (ep : p ≡ place) (eo : old ≡ cell w1 (p - 1) 4) (en : nested ≡ cell w1 (p - 1) 11)
    {w2 : List ℕ} (pu : Pushed w1 w2 t.charges (instance_record e.scope name roots routes associations nested)) (long2 : length w2 ≡ length w1) (ed : optional def' ≡ or_else (optional def) (optional old))
    {w3 : List ℕ} (s3 : SetWord w2 w3 (p - 1) 4 def') (long3 : length w3 ≡ length w2) {w4 : List ℕ} (s4 : SetWord w3 w4 (p - 1) 11 (t.charges + 1)) (long4 : length w4 ≡ length w3) where
  abbrev c : ℕ
  c = t.charges

  abbrev n : ℕ
  n = p - 1

  abbrev t2 : Counts
  t2 = charged t 1

  abbrev rec : Record
  rec = instance_record e.scope name roots routes associations nested

  node : NodeAt w c out p
  node = rw ep x.node

  low : n < c
  low = omega (arith, node.some, node.low)

  env1 : EnvAt w1 c e
  env1 = later_env (m.later 0) x.remap.env

  so1 : JournalSound L w1 t
  so1 = (m.later 0).sound

  node1 : NodeAt w1 c out p
  node1 = later_node (m.later 0) node

  -- the instance's record
  calm2 : RecordsStay c w1 w2
  calm2 = calm_same pu.same

  silent : Silent tag_instance
  silent = record { map = λ z. omega arith; extern = λ z. omega arith; node = λ z. omega arith; scope = λ z. omega arith; association = λ z. omega arith }

  last : (g : ℕ) → OwnedTag g → cell w1 e.place (head_word g) ≡ last_owned w2 g e.scope c
  last g o = so1.owned.heads e.place g env1.place env1.tag o ∙ rw env1.number (sym (last_fixed calm2.fixed (λ u. owned_by u g e.scope) (owned_stable g e.scope)))

  closed2 : InstanceClosed w2 c
  closed2 = record {
    known = rw (pu.holds.at1, below_fixed tag_scope calm2.fixed c (omega arith)) (env_known so1.owned env1);
    roots = rw (pu.holds.at1, pu.holds.at3) (e9 ∙ last tag_root (record { low = omega arith; high = omega arith }));
    routes = rw (pu.holds.at1, pu.holds.at4) (e10 ∙ last tag_route (record { low = omega arith; high = omega arith }));
    is_map = rw (pu.holds.at1, pu.holds.at5) (e11 ∙ last tag_association (record { low = omega arith; high = omega arith }));
  }

  nested1 : HandleAt w1 c tag_instance nested
  nested1 = rw en ((so1.fair.each n low).node node1.tag).instance

  fair2 : RecordWellFormed w2 (c + 1) c
  fair2 = record {
    mapped = λ z. absurd (omega (arith, pu.holds.at0));
    node = λ z. absurd (omega (arith, pu.holds.at0));
    scoped = λ z. absurd (omega (arith, pu.holds.at0));
    instance = λ z. closed2;
    linked = λ z. rw (pu.holds.at0, pu.holds.at8) (handle_fixed calm2.fixed (omega arith) (omega arith) nested1);
    value = λ z q. absurd (let y : ◌≡◌ {A = Bool} false true = rw pu.holds.at0 at z in omega (arith, ap {B = ℕ} (λ (b : Bool). choose b 1 0) y));
  }

  so2 : JournalSound L w2 t2
  so2 =
      sound_more so1 calm2 1 t.nodes t.scopes t.externs (omega arith)
      (count_other calm2.fixed rec pu.holds tag_node so1.nodes silent.node)
      (count_other calm2.fixed rec pu.holds tag_scope so1.scopes silent.scope)
      (count_other calm2.fixed rec pu.holds tag_extern so1.externs silent.extern)
      (alone c (RecordWellFormed w2 (c + 1)) fair2)
      (index_push pu (omega arith) (unkeyed tag_instance silent.map silent.extern (λ z. omega arith)) so1.index)
      (owned_push pu (λ a b. omega arith) so1.owned)
      (families_one pu.same (λ z. omega (arith, pu.holds.at0)) so1.families)

  later2 : (young : ℕ) → young ≤ e.scope → Later L young w1 t w2 t2
  later2 young le =
      later_more so1 calm2 1 t.nodes t.scopes t.externs young (omega arith) (λ k l. pu.above k (omega arith)) long2
      (alone c (λ k. OfBody (cell w2 k 0) → young ≤ cell w2 k 1) (λ o. omega (arith, pu.holds.at1)))
      so2

  -- the root's words
  kept4 : (r j : ℕ) → j < 12 → (r ≡ n → j ≡ 4 → ⊥) → (r ≡ n → j ≡ 11 → ⊥) → cell w4 r j ≡ cell w2 r j
  kept4 r j lj a b = set_cell w3 w4 n 11 (c + 1) (omega arith) s4 r j lj b ∙ set_cell w2 w3 n 4 def' (omega arith) s3 r j lj a

  only4 : OnlyNode n w2 w4
  only4 = record {
    node = steady_tag (calm2.fixed.steady n low) ∙ node1.tag;
    first = λ j lj. kept4 n j (omega arith) (λ a b. omega arith) (λ a b. omega arith);
    other = λ r j ne lj. kept4 r j lj (λ a b. ne a) (λ a b. ne a);
  }

  closed4 : NodeClosed w4 (c + 1) n
  closed4 =
      let y : NodeClosed w2 (c + 1) n = (so2.fair.each n (omega (arith, low))).node only4.node in
      let f : Fixed (c + 1) w2 w4 = node_fixed only4 (c + 1) in
      let k : (j : ℕ) → j < 11 → (j ≡ 4 → ⊥) → cell w4 n j ≡ cell w2 n j = λ j lj ne. kept4 n j (omega arith) (λ a b. ne b) (λ a b. omega arith) in
      record {
        fields = rw (k 7 (omega arith) (λ z. omega arith)) (handle_fixed f (omega arith) (omega arith) y.fields);
        interface = rw (k 8 (omega arith) (λ z. omega arith)) (handle_fixed f (omega arith) (omega arith) y.interface);
        statements = rw (k 9 (omega arith) (λ z. omega arith)) (handle_fixed f (omega arith) (omega arith) y.statements);
        body_order = rw (k 10 (omega arith) (λ z. omega arith)) (handle_fixed f (omega arith) (omega arith) y.body_order);
        instance = rw s4.here (handle_new w4 c tag_instance (kept4 c 0 (omega arith) (λ a b. omega arith) (λ a b. omega arith) ∙ pu.holds.at0));
      }

  heads4 : (k : ℕ) → heads_at L ≤ k → get_or w4 k 0 ≡ get_or w2 k 0
  heads4 k l = s4.other k (λ z. omega (arith, low, room)) ∙ s3.other k (λ z. omega (arith, low, room))

  later4 : (young : ℕ) → young ≤ e.scope → Later L young w t w4 t2
  later4 young le = later_trans (m.later young) (later_trans (later2 young le) (node_later only4 so2 heads4 (long4 ∙ long3) closed4 young))

  fixed4 : Fixed c w w4
  fixed4 = fixed_trans (omega arith) m.calm.fixed (fixed_trans (omega arith) calm2.fixed (node_fixed only4 c))

  state2 : (S : Source) → at S w2 t2 ≡ one_more (at S w t)
  state2 S = state_one S.root S.library calm2 so1.fair rec pu.holds silent ∙ ap one_more (state_fixed S.root S.library m.calm st.sound.fair)

  number2 : below w2 tag_node n ≡ out
  number2 = below_fixed tag_node calm2.fixed n (omega (arith, low)) ∙ node1.number

  state4 : (S : Source) → at S w4 t2 ≡ with_nodes (set (nodes_of w c) out (node_rec w4 n)) (one_more (at S w t))
  state4 S =
      node_state only4 so2 heads4 (long4 ∙ long3) closed4 (omega (arith, low)) S
      ∙ (let z : nodes_of w2 (c + 1) ≡ nodes_of w c = ap (λ (s : State). s.nodes) (state2 S) in rw (z, number2) (ap (with_nodes (set (nodes_of w c) out (node_rec w4 n))) (state2 S)))

  -- the root as it was
  root : get_elem? (nodes_of w c) out ≡ some (node_rec w n)
  unfolding nodes_of
  root =
      let z : length (log_up (only (tagged w tag_node) (node_rec w)) n) ≡ out = up_count (tagged w tag_node) (node_rec w) n ∙ node.number in
      rw z at (up_get (only (tagged w tag_node) (node_rec w)) n (node_rec w n) (only_here (tagged w tag_node) (node_rec w) n (tagged_here w tag_node n node.tag)) c low).0

  was : (j : ℕ) → 3 ≤ j → j < 12 → cell w1 n j ≡ cell w n j
  was j a b = (m.calm.nodes n low node.tag).keeps j a b

  stays : (j : ℕ) → 3 ≤ j → j < 11 → (j ≡ 4 → ⊥) → cell w4 n j ≡ cell w n j
  stays j a b ne = kept4 n j (omega arith) (λ q z. ne z) (λ q z. omega arith) ∙ pu.same.keeps n j low (omega arith) ∙ was j a (omega arith)

  -- ---- the instance that is read
  abbrev remapped : Route → Route
  remapped r = record { from_node = r.from_node; from_field = r.from_field; to_node = r.to_node; to_field = r.to_field; from_id = and_then r.from_id (lookup (map_of w c) e.scope); to_id = and_then r.to_id (lookup (map_of w c) e.scope) }

  route_now : (r : ℕ) → r < c → only (owned_by w4 tag_route e.scope) (route_rec w4) r ≡ only (owned_by w tag_route e.scope) (λ k. remapped (body_route_rec w k)) r
  unfolding only
  route_now r l = rw ((owned_stable tag_route e.scope).same r w w4 (fixed4.steady r l)) (by (owned_by w tag_route e.scope r) refl)
    where
      by : (b : Bool) → owned_by w tag_route e.scope r ≡ b → choose b (route_rec w4 r ∷ []) [] ≡ choose b (remapped (body_route_rec w r) ∷ []) []
      by true q =
          let o = owned_is w tag_route e.scope r q in
          let apart : (r ≡ n → ⊥) = λ z. omega (arith, o.0, rw z at o.0, node.tag) in
          let word : (j : ℕ) → j < 12 → cell w4 r j ≡ cell w1 r j = λ j lj. kept4 r j lj (λ a b. apart a) (λ a b. apart a) ∙ pu.same.keeps r j l lj in
          let from : optional (cell w1 r 10) ≡ and_then (optional (cell w r 6)) (lookup (map_of w c) e.scope) = m.from r l o.0 o.1 in
          let to : optional (cell w1 r 11) ≡ and_then (optional (cell w r 7)) (lookup (map_of w c) e.scope) = m.to r l o.0 o.1 in
          rw (
            kept_fixed fixed4 r 2 l,
            kept_fixed fixed4 r 3 l,
            kept_fixed fixed4 r 4 l,
            kept_fixed fixed4 r 5 l,
            kept_is w r tag_route 6 (cell w r 6) o.0 (omega arith) refl,
            kept_is w r tag_route 7 (cell w r 7) o.0 (omega arith) refl,
            word 10 (omega arith),
            word 11 (omega arith),
            from,
            to,
          )
      by false q = refl

  routes4 : owned_log (route_rec w4) w4 tag_route e.scope c ≡ map remapped (owned_log (body_route_rec w) w tag_route e.scope c)
  routes4 = up_same (only (owned_by w tag_route e.scope) (λ k. remapped (body_route_rec w k))) (only (owned_by w4 tag_route e.scope) (route_rec w4)) c route_now ∙ sym (up_map remapped (owned_by w tag_route e.scope) (body_route_rec w) c)

  put : (j v : ℕ) → j < 12 → cell w2 c j ≡ v → fixed_word w4 c j ≡ v
  put j v lj q = kept_is w4 c tag_instance j v (kept4 c 0 (omega arith) (λ a b. omega arith) (λ a b. omega arith) ∙ pu.holds.at0) lj (kept4 c j lj (λ a b. omega (arith, low)) (λ a b. omega (arith, low)) ∙ q)

  abbrev now : InstanceRead
  now = record { name = name; extra_roots = owned_log (root_rec w) w tag_root e.scope c; routes = map remapped (owned_log (body_route_rec w) w tag_route e.scope c); is_map = associations_of e.scope (is_map_of w c) }

  instance_now : instance_rec w4 c ≡ now
  instance_now =
      rw (
        put 1 e.scope (omega arith) pu.holds.at1,
        put 2 name (omega arith) pu.holds.at2,
        up_fixed (λ u. owned_by u tag_root e.scope) (owned_stable tag_root e.scope) root_rec root_lasting fixed4 c (omega arith),
        routes4,
        up_fixed (λ u. owned_by u tag_association e.scope) (owned_stable tag_association e.scope) association_rec association_lasting fixed4 c (omega arith),
        associations_owned w c e.scope,
      )

  nested0 : nested ≡ cell w n 11
  nested0 = en ∙ was 11 (omega arith) (omega arith)

  instances_now : instances_at w4 (c + 1) ≡ now ∷ instances_at w (cell w n 11)
  unfolding instances_at
  instances_now =
      scan_push (instance_rec w4) (λ r. fixed_word w4 r 8) c
      ∙ rw (instance_now, put 8 nested (omega arith) pu.holds.at8, scan_low (instance_rec w4) (λ r. fixed_word w4 r 8) c nested nested1.low) (ap (λ (l : List InstanceRead). now ∷ l) deeper)
    where
      deeper : instances_at w4 nested ≡ instances_at w (cell w n 11)
      deeper =
          instances_same (node_fixed only4 (c + 1)) so2.fair (node_ends only4 (c + 1)) nested (handle_fixed calm2.fixed (omega arith) (omega arith) nested1)
          ∙ instances_same calm2.fixed so1.fair calm2.ends nested nested1
          ∙ rw nested0 (instances_same m.calm.fixed st.sound.fair m.calm.ends (cell w n 11) ((st.sound.fair.each n low).node node.tag).instance)

  abbrev given : ProtoInstance
  given = record { proto_name = name; extra_roots = owned_log (root_rec w) w tag_root e.scope c; routes = map remapped (owned_log (body_route_rec w) w tag_route e.scope c); is_map = associations_of e.scope (is_map_of w c) }

  name4 : optional (cell w4 n 4) ≡ or_else (optional def) (optional (cell w n 4))
  name4 =
      let z : cell w4 n 4 ≡ def' = set_cell w3 w4 n 11 (c + 1) (omega arith) s4 n 4 (omega arith) (λ a b. omega arith) ∙ s3.here in
      let y : old ≡ cell w n 4 = eo ∙ was 4 (omega arith) (omega arith) in
      rw z (ed ∙ rw y)

  node4 : node_rec w4 n ≡ with_instance (optional def) given (node_rec w n)
  unfolding node_by merged
  node4 =
      let y : NodeClosed w c n = (st.sound.fair.each n low).node node.tag in
      rw (
        stays 3 (omega arith) (omega arith) (λ z. omega arith),
        name4,
        stays 5 (omega arith) (omega arith) (λ z. omega arith),
        stays 6 (omega arith) (omega arith) (λ z. omega arith),
        stays 7 (omega arith) (omega arith) (λ z. omega arith),
        stays 8 (omega arith) (omega arith) (λ z. omega arith),
        stays 9 (omega arith) (omega arith) (λ z. omega arith),
        stays 10 (omega arith) (omega arith) (λ z. omega arith),
        s4.here,
        fields_fixed fixed4 (cell w n 7) y.fields.low,
        interfaces_fixed fixed4 (cell w n 8) y.interface.low,
        statements_fixed fixed4 (cell w n 9) y.statements.low,
        order_fixed fixed4 (cell w n 10) y.body_order.low,
        instances_now,
        nested_roots_lem (instances_at w (cell w n 11)),
        nested_routes_lem (instances_at w (cell w n 11)),
      )

  recorded : (S : Source) → ok out (at S w4 t2) ≡ record_instance name (optional def) e.scope (body_of w c e.scope out place) out (one_more (at S w t))
  unfolding record_instance
  recorded S = ap (ok out) (state4 S ∙ ap (λ (y : Node). with_nodes (set (nodes_of w c) out y) (one_more (at S w t))) node4) ∙ rw root

  pub record_done : (t' : Counts) → t' ≡ charged t 1 → Recorded L w t e name def out place w4 (did t' out place)
  record_done t' q =
      rw q
      (record {
        does = λ S young le. change_done S young number (record_instance name (optional def) e.scope (body_of w c e.scope out place) out) room (later4 young le) out place (recorded S);
        done = record { counts = refl; value = refl; node = refl };
      })
