-- The routes of a scope are remapped one after another, from the last to the first.
use mathlib.Core.Path.{◌≡◌, refl, sym, ap, ◌∙◌}
use mathlib.Core.Bool.{Bool, true, false}
use mathlib.Core.List.{List}
use Prim.Native.Nat.{ℕ, zero, suc, ◌+◌, ◌*◌, ◌-◌, ◌≤◌, ◌<◌}
use native.Mathlib.Omega.{arith}
use lib.ListN.{length}
use lib.Dec.{eqb, ltb}
use borrow.Author.Tests.{eqb-true, eqb-false, ltb-true, ltb-false}
use Rattle.ast.specs.Choice.{choose}
use Rattle.journal_records.specs.Records.{tag_node, tag_scope, tag_extern, tag_route, cell, SetWord}
use Rattle.journal_records.specs.Logs.{newest_below}
use Rattle.journal_lists.specs.Owned.{OwnedTag, owned_by, last_owned}
use Rattle.journal_records.proofs.Cells.{set_cell}
use Rattle.journal_records.proofs.Frame.{set_fixed}
use Rattle.journal_records.proofs.Lists.{last_low, last_is}
use Rattle.journal_index.proofs.Keys.{keyed_low}
use Rattle.journal_index.proofs.Index.{index_set}
use Rattle.journal_lists.proofs.Owned.{owned_here, owned_is, owned_set}
use Rattle.journal_lists.proofs.Families.{families_set}
use Rattle.journal_reading.specs.Reading.{map_of}
use Rattle.journal_reading.proofs.Fair.{fair_fixed, closed_fixed}
use Rattle.journal_reading.proofs.Logs.{below_fixed}
use Rattle.journal_reading.specs.RecordsStay.{Unrecorded}
use Rattle.journal_reading.proofs.States.{map_stays}
use Rattle.refine_records.specs.declared.Limits.{Limits}
use Rattle.refine_records.specs.declared.Counts.{Counts}
use Rattle.refine_records.specs.declared.Env as code
use Rattle.refine_records.specs.Sound.{JournalSound, Standing, Later}
use Rattle.refine_records.proofs.Later.{later_refl, later_trans, later_standing}
use Rattle.refine_records.specs.Contract.{EndOf}
use Rattle.expander_bindings.specs.Contract.{Remappable, Remapped}

-- nothing above the last that passes a test passes it
last_gap : (p : ℕ → Bool) (c r : ℕ) → r < c → newest_below p c ≤ r → p r ≡ true → ⊥
unfolding newest_below
last_gap p zero r l h e = omega arith
last_gap p (suc c) r l h e = by (p c) refl h (λ k y. last_gap p c r k y e)
  where
    by : (b : Bool) → p c ≡ b → choose b (suc c) (newest_below p c) ≤ r → (r < c → newest_below p c ≤ r → ⊥) → ⊥
    by true q k down = omega arith
    by false q k down = at (eqb r c) refl
      where
        at : (b : Bool) → eqb r c ≡ b → ⊥
        at true z = let y : ◌≡◌ {A = Bool} true false = sym e ∙ rw (eqb-true r c z) q in omega (arith, ap {B = ℕ} (λ (x : Bool). choose x 1 0) y)
        at false z = down (omega (arith, eqb-false r c z)) k

-- ---- a word of a route that may change
module _ {L : Limits} {w w' : List ℕ} {t : Counts} {r j v : ℕ} (st : Standing L w t) (s : SetWord w w' r j v) (lo : 10 ≤ j) (hi : j < 12) (l : r < t.charges) (e : cell w r 0 ≡ tag_route) (long : length w' ≡ length w) where
  abbrev so : JournalSound L w t
  so = st.sound

  pub end_later : Later L 0 w t w' t
  end_later = record {
    grew = omega arith;
    scoped = omega arith;
    kept = set_fixed t.charges s hi (rw e lo);
    behind = λ m k. s.other m (λ z. omega (arith, so.charges));
    long = long;
    fresh = λ n a b o. absurd (omega arith);
    sound = record {
      charges = so.charges;
      nodes = so.nodes ∙ sym (below_fixed tag_node (set_fixed t.charges s hi (rw e lo)) t.charges (omega arith));
      scopes = so.scopes ∙ sym (below_fixed tag_scope (set_fixed t.charges s hi (rw e lo)) t.charges (omega arith));
      externs = so.externs ∙ sym (below_fixed tag_extern (set_fixed t.charges s hi (rw e lo)) t.charges (omega arith));
      fair = record { each = λ n ln. fair_fixed (set_fixed t.charges s hi (rw e lo)) t.charges n ln (λ z. closed_fixed (set_fixed t.charges s hi (rw e lo)) n (omega arith) (λ i a b. set_cell w w' r j v hi s n i b (λ q y. let k : cell w r 0 ≡ tag_node = rw q at z in omega arith)) ((so.fair.each n ln).node z)) (so.fair.each n ln) };
      index = index_set s hi (rw e lo) (λ k. omega (arith, (keyed_low (cell w r 0) k).0)) (omega (arith, so.charges)) so.index;
      owned = owned_set s hi (rw e lo) (λ z. omega arith) so.owned;
      families = families_set s hi (rw e lo) (λ z. omega arith) so.families;
    };
  }

-- ---- the routes from cur on are remapped; what else may change is as it was
pub record Remapping (L : Limits) (w₀ : List ℕ) (t : Counts) (n : ℕ) (w : List ℕ) (cur : ℕ) : Type 0 where
  pub later : Later L 0 w₀ t w t
  pub other : (r j : ℕ) → j < 12 → (cell w₀ r 0 ≡ tag_route → cell w₀ r 1 ≡ n → 10 ≤ j → ⊥) → cell w r j ≡ cell w₀ r j
  pub from : (r : ℕ) → cur ≤ r → r < t.charges → cell w₀ r 0 ≡ tag_route → cell w₀ r 1 ≡ n → EndOf w₀ t.charges n (cell w₀ r 6) (cell w r 10)
  pub to : (r : ℕ) → cur ≤ r → r < t.charges → cell w₀ r 0 ≡ tag_route → cell w₀ r 1 ≡ n → EndOf w₀ t.charges n (cell w₀ r 7) (cell w r 11)
  pub low : cur ≤ t.charges
  pub here : 0 < cur → owned_by w₀ tag_route n (cur - 1) ≡ true

module _ (L : Limits) (w₀ : List ℕ) (t : Counts) (st : Standing L w₀ t) where
  route_tag : OwnedTag tag_route
  route_tag = record { low = omega arith; high = omega arith }

  pub scope_room : {e : code.Env} → Remappable w₀ t.charges e → e.place * 12 + 12 ≤ length w₀
  scope_room x = omega (arith, x.env.place, st.sound.charges, st.ready.room)

  -- the last one first
  pub remapping_start : (e : code.Env) → Remappable w₀ t.charges e → (h cur : ℕ) → h ≡ cell w₀ e.place 10 → cur ≡ h → Remapping L w₀ t e.scope w₀ cur
  remapping_start e x h cur eh ec =
      let z : cur ≡ last_owned w₀ tag_route e.scope t.charges = ec ∙ eh ∙ st.sound.owned.heads e.place tag_route x.env.place x.env.tag route_tag ∙ rw x.env.number in
      record {
        later = later_refl 0 st.sound;
        other = λ r j l ne. refl;
        from = λ r a l q o. absurd (last_gap (owned_by w₀ tag_route e.scope) t.charges r l (omega arith) (owned_here w₀ tag_route e.scope r q o));
        to = λ r a l q o. absurd (last_gap (owned_by w₀ tag_route e.scope) t.charges r l (omega arith) (owned_here w₀ tag_route e.scope r q o));
        low = omega (arith, last_low (owned_by w₀ tag_route e.scope) t.charges);
        here = λ p. rw z (last_is (owned_by w₀ tag_route e.scope) t.charges (omega arith));
      }

  module _ {n : ℕ} {w : List ℕ} {cur : ℕ} (x : Remapping L w₀ t n w cur) where
    pub remapping_standing : Standing L w t
    remapping_standing = later_standing x.later st

    module _ (pos : 0 < cur) where
      abbrev r : ℕ
      r = cur - 1

      low : r < t.charges
      low = omega (arith, x.low)

      tag : cell w₀ r 0 ≡ tag_route
      tag = (owned_is w₀ tag_route n r (x.here pos)).0

      scope : cell w₀ r 1 ≡ n
      scope = (owned_is w₀ tag_route n r (x.here pos)).1

      pub remapping_room : r * 12 + 12 ≤ length w
      remapping_room = omega (arith, low, remapping_standing.sound.charges, remapping_standing.ready.room)

      -- an end as the map was at the start
      end_then : (j id o : ℕ) → j < 10 → id ≡ cell w r j → EndOf w t.charges n id o → EndOf w₀ t.charges n (cell w₀ r j) o
      end_then j id o lj e y =
          let z : t.charges + 0 ≡ t.charges = omega arith in
          let m : map_of w t.charges ≡ map_of w₀ t.charges = rw z at (map_stays x.later.kept 0 (λ k a b. absurd (omega arith))) in
          y ∙ rw (m, e, x.other r j (omega arith) (λ a b c. omega arith))

      module _ (id6 id7 from to : ℕ) (e6 : id6 ≡ cell w r 6) (e7 : id7 ≡ cell w r 7) (yf : EndOf w t.charges n id6 from) (yt : EndOf w t.charges n id7 to)
          {w1 w2 : List ℕ} (s1 : SetWord w w1 r 10 from) (long1 : length w1 ≡ length w) (s2 : SetWord w1 w2 r 11 to) (long2 : length w2 ≡ length w1) where
        tag_w : cell w r 0 ≡ tag_route
        tag_w = x.other r 0 (omega arith) (λ a b c. omega arith) ∙ tag

        l1 : Later L 0 w t w1 t
        l1 = end_later remapping_standing s1 (omega arith) (omega arith) low tag_w long1

        tag_1 : cell w1 r 0 ≡ tag_route
        tag_1 = set_cell w w1 r 10 from (omega arith) s1 r 0 (omega arith) (λ a b. omega arith) ∙ tag_w

        l2 : Later L 0 w1 t w2 t
        l2 = end_later (later_standing l1 remapping_standing) s2 (omega arith) (omega arith) low tag_1 long2

        -- the words that are not set
        unset : (m j : ℕ) → j < 12 → (m ≡ r → 10 ≤ j → ⊥) → cell w2 m j ≡ cell w m j
        unset m j lj ne = set_cell w1 w2 r 11 to (omega arith) s2 m j lj (λ a b. ne a (omega arith)) ∙ set_cell w w1 r 10 from (omega arith) s1 m j lj (λ a b. ne a (omega arith))

        -- the one before it
        link : (h cur' : ℕ) → h ≡ cell w2 r 8 → cur' ≡ h → cur' ≡ last_owned w₀ tag_route n r
        link h cur' eh ec = ec ∙ eh ∙ unset r 8 (omega arith) (λ a b. omega arith) ∙ x.other r 8 (omega arith) (λ a b c. omega arith) ∙ st.sound.owned.links r tag_route low tag route_tag ∙ rw scope

        pub remapping_next : (h cur' : ℕ) → h ≡ cell w2 r 8 → cur' ≡ h → Remapping L w₀ t n w2 cur'
        remapping_next h cur' eh ec =
            let z : cur' ≡ last_owned w₀ tag_route n r = link h cur' eh ec in
            record {
              later = later_trans x.later (later_trans l1 l2);
              other = λ m j lj ne. unset m j lj (λ a b. ne (rw a tag) (rw a scope) b) ∙ x.other m j lj ne;
              from = λ m a b e o. at m a b e o (eqb m r) refl;
              to = λ m a b e o. at' m a b e o (eqb m r) refl;
              low = omega (arith, last_low (owned_by w₀ tag_route n) r, low);
              here = λ p. rw z (last_is (owned_by w₀ tag_route n) r (omega arith));
            }
          where
            far : (m : ℕ) → last_owned w₀ tag_route n r ≤ m → (m ≡ r → ⊥) → cell w₀ m 0 ≡ tag_route → cell w₀ m 1 ≡ n → cur ≤ m
            far m a ne e o = by (ltb m r) refl
              where
                by : (b : Bool) → ltb m r ≡ b → cur ≤ m
                by true q = absurd (last_gap (owned_by w₀ tag_route n) r m (ltb-true m r q) a (owned_here w₀ tag_route n m e o))
                by false q = omega (arith, ltb-false m r q, ne)

            at : (m : ℕ) → cur' ≤ m → m < t.charges → cell w₀ m 0 ≡ tag_route → cell w₀ m 1 ≡ n → (b : Bool) → eqb m r ≡ b → EndOf w₀ t.charges n (cell w₀ m 6) (cell w2 m 10)
            at m a l e o true q =
                let z : m ≡ r = eqb-true m r q in
                let s : cell w2 r 10 ≡ from = set_cell w1 w2 r 11 to (omega arith) s2 r 10 (omega arith) (λ a b. omega arith) ∙ s1.here in
                rw (z, s) (end_then 6 id6 from (omega arith) e6 yf)
            at m a l e o false q = rw (unset m 10 (omega arith) (λ z k. eqb-false m r q z)) (x.from m (far m (omega (arith, link h cur' eh ec)) (eqb-false m r q) e o) l e o)

            at' : (m : ℕ) → cur' ≤ m → m < t.charges → cell w₀ m 0 ≡ tag_route → cell w₀ m 1 ≡ n → (b : Bool) → eqb m r ≡ b → EndOf w₀ t.charges n (cell w₀ m 7) (cell w2 m 11)
            at' m a l e o true q = let z : m ≡ r = eqb-true m r q in rw (z, s2.here) (end_then 7 id7 to (omega arith) e7 yt)
            at' m a l e o false q = rw (unset m 11 (omega arith) (λ z k. eqb-false m r q z)) (x.to m (far m (omega (arith, link h cur' eh ec)) (eqb-false m r q) e o) l e o)

        pub remapping_less : (h cur' : ℕ) → h ≡ cell w2 r 8 → cur' ≡ h → cur' < cur
        remapping_less h cur' eh ec =
            let z : cur' ≡ last_owned w₀ tag_route n r = link h cur' eh ec in
            omega (arith, last_low (owned_by w₀ tag_route n) r)

    -- the first is done
    pub remapping_end : cur ≤ 0 → Unrecorded w₀ t.charges n → Remapped L w₀ t n w
    remapping_end done un = record {
      from = λ r l e o. x.from r (omega arith) l e o;
      to = λ r l e o. x.to r (omega arith) l e o;
      calm = record {
        fixed = x.later.kept;
        ends = record {
          from = λ m q l lq i e o. x.other m 10 (omega arith) (λ a b c. un.apart q lq i (sym o ∙ b));
          to = λ m q l lq i e o. x.other m 11 (omega arith) (λ a b c. un.apart q lq i (sym o ∙ b));
        };
        nodes = λ r l e. record { keeps = λ j a b. x.other r j b (λ p q c. omega arith) };
      };
      later = λ young. record { grew = x.later.grew; scoped = x.later.scoped; kept = x.later.kept; behind = x.later.behind; long = x.later.long; fresh = λ r a b o. absurd (omega arith); sound = x.later.sound };
    }
