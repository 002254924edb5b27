-- From one step to a later one: how `Later` goes together, and what stays true.
use mathlib.Core.Path.{◌≡◌, refl, sym, ap, ◌∙◌}
use mathlib.Core.Bool.{Bool, true, false}
use mathlib.Core.Logic.{inl, inr}
use mathlib.Core.List.{List}
use mathlib.Core.Option.{some}
use Prim.Native.Nat.{ℕ, ◌+◌, ◌-◌, ◌≤◌, ◌<◌}
use native.Mathlib.Omega.{arith}
use lib.Dec.{ltb}
use borrow.Author.Tests.{ltb-true, ltb-false}
use Rattle.ast.specs.Choice.{map_o}
use Rattle.std.specs.declared.option.Option.{Option}
use Rattle.std.specs.declared.option.Option.TheVariants.{None, Some}
use Rattle.journal_records.specs.Records.{tag_stored, tag_scope, tag_root, tag_route, tag_instance, cell, Fixed}
use Rattle.journal_index.specs.Index.{found_of}
use Rattle.journal_lists.specs.Owned.{tagged, owned_by, owned_log, Owned}
use Rattle.journal_records.proofs.Frame.{fixed_refl, fixed_trans, fixed_less, steady_tag, steady_first, steady_is}
use Rattle.journal_records.proofs.Lists.{count_above}
use Rattle.journal_lists.proofs.Owned.{tagged_here, owned_is, owned_stable}
use Rattle.journal_reading.specs.Reading.{root_rec, body_route_rec, body_of, below, values_at}
use Rattle.journal_reading.specs.WellFormed.{HandleAt, NodeAt, ScopeAt}
use Rattle.journal_reading.proofs.Words.{Lasting}
use Rattle.journal_reading.proofs.Chains.{values_fixed, root_lasting, body_route_lasting}
use Rattle.journal_reading.proofs.Logs.{up_stays}
use Rattle.journal_reading.proofs.Fair.{handle_more, handle_fixed, node_at_fixed}
use Rattle.journal_reading.specs.RecordsStay.{Unrecorded}
use Rattle.journal_reading.proofs.States.{scope_lasting}
use Rattle.refine_records.specs.declared.Limits.{Limits}
use Rattle.refine_records.specs.declared.Counts.{Counts}
use Rattle.refine_records.specs.declared.Journal.{Journal}
use Rattle.refine_records.specs.declared.Env as code
use Rattle.refine_records.specs.Sound.{JournalSound, Standing, StillLent, OfBody, Later, ValuesBelow, EnvAt, env_of}

-- the lent words, over no step and over two
pub lent_same : {j : Journal} → StillLent j j
lent_same = record { same_reference = refl; long = refl }

pub lent_more : {j j' j'' : Journal} → StillLent j j' → StillLent j' j'' → StillLent j j''
lent_more x y = record { same_reference = y.same_reference ∙ x.same_reference; long = y.long ∙ x.long }

-- an Env's scope is one of the journal's
pub env_known : {w : List ℕ} {c : ℕ} {e : code.Env} → Owned w c → EnvAt w c e → e.scope < below w tag_scope c
env_known {w} {c} {e} ow y = rw (← y.number, ow.numbers e.place y.place y.tag) (count_above (tagged w tag_scope) e.place c y.place (tagged_here w tag_scope e.place y.tag))

pub env_scope : {w : List ℕ} {c : ℕ} {e : code.Env} → EnvAt w c e → ScopeAt w c e.scope e.place
env_scope y = record { low = y.place; tag = y.tag; number = y.number }

-- its values are stored
pub env_values : {w : List ℕ} {c : ℕ} {e : code.Env} → EnvAt w c e → {h : ℕ} → e.values ≡ Some h → HandleAt w c tag_stored h
env_values y q = handle_more (omega (arith, y.place)) (rw q at y.values)

-- and stay so where the records below are kept
pub values_kept : {w w' : List ℕ} {c c' d : ℕ} → Fixed c w w' → d ≤ c → d ≤ c' → (o : Option ℕ) → ValuesBelow w d o → ValuesBelow w' c' o
values_kept k l l' (Some h) y = handle_fixed k l l' y
values_kept k l l' None y = tt

pub values_same : {w w' : List ℕ} {c d : ℕ} → Fixed c w w' → d ≤ c → (o : Option ℕ) → ValuesBelow w d o → map_o (values_at w') (found_of o) ≡ map_o (values_at w) (found_of o)
values_same k l (Some h) y = ap some (values_fixed k h (omega (arith, y.low)))
values_same k l None y = refl

-- ---- how it goes together
pub later_refl : {L : Limits} {w : List ℕ} {t : Counts} (young : ℕ) → JournalSound L w t → Later L young w t w t
later_refl {L} {w} {t} young so = record { grew = omega arith; scoped = omega arith; kept = fixed_refl t.charges w; behind = λ m l. refl; long = refl; fresh = λ r a b o. absurd (omega arith); sound = so }

pub later_trans : {L : Limits} {young : ℕ} {w w' w'' : List ℕ} {t t' t'' : Counts} → Later L young w t w' t' → Later L young w' t' w'' t'' → Later L young w t w'' t''
later_trans {L} {young} {w} {w'} {w''} {t} {t'} {t''} x y = record {
  grew = omega (arith, x.grew, y.grew);
  scoped = omega (arith, x.scoped, y.scoped);
  kept = fixed_trans x.grew x.kept y.kept;
  behind = λ m l. y.behind m l ∙ x.behind m l;
  long = y.long ∙ x.long;
  fresh = λ r a b o. by r a b o (ltb r t'.charges) refl;
  sound = y.sound;
}
  where
    by : (r : ℕ) → t.charges ≤ r → r < t''.charges → OfBody (cell w'' r 0) → (u : Bool) → ltb r t'.charges ≡ u → young ≤ cell w'' r 1
    by r a b o true e =
        let l : r < t'.charges = ltb-true r t'.charges e in
        let s = y.kept.steady r l in
        rw (steady_first s 1 (omega arith)) (x.fresh r a l (rw (steady_tag s) at o))
    by r a b o false e = y.fresh r (ltb-false r t'.charges e) b o

-- with an older bound
pub later_young : {L : Limits} {young young' : ℕ} {w w' : List ℕ} {t t' : Counts} → young ≤ young' → Later L young' w t w' t' → Later L young w t w' t'
later_young le x = record { grew = x.grew; scoped = x.scoped; kept = x.kept; behind = x.behind; long = x.long; fresh = λ r a b o. omega (arith, x.fresh r a b o); sound = x.sound }

-- ---- what stays true
module _ {L : Limits} {young : ℕ} {w w' : List ℕ} {t t' : Counts} (x : Later L young w t w' t') where
  pub later_standing : Standing L w t → Standing L w' t'
  later_standing s = record { ready = record { room = rw x.long s.ready.room; rows = s.ready.rows; nodes = s.ready.nodes }; sound = x.sound }

  pub later_handle : {g h : ℕ} → HandleAt w t.charges g h → HandleAt w' t'.charges g h
  later_handle y = handle_fixed x.kept (omega arith) x.grew y

  pub later_node : {o p : ℕ} → NodeAt w t.charges o p → NodeAt w' t'.charges o p
  later_node y = node_at_fixed x.kept (omega arith) x.grew y

  pub later_env : {e : code.Env} → EnvAt w t.charges e → EnvAt w' t'.charges e
  later_env {e} y =
      let s = x.kept.steady e.place y.place in
      record {
        place = omega (arith, y.place, x.grew);
        tag = steady_tag s ∙ y.tag;
        number = steady_is s tag_scope y.tag 6 (omega arith) ∙ y.number;
        values = values_kept x.kept (omega (arith, y.place)) (omega arith) e.values y.values;
      }

  pub env_later : {e : code.Env} → EnvAt w t.charges e → env_of w' e ≡ env_of w e
  env_later {e} y =
      rw (
        scope_lasting.same e.place w w' (fixed_less (omega (arith, y.place)) x.kept),
        values_same x.kept (omega (arith, y.place)) e.values y.values,
      )

  -- the own lists of a scope older than what is new
  module _ (n : ℕ) (old : n < young) where
    own_later : {A : Type 0} (g : ℕ) (d : List ℕ → ℕ → A) → Lasting d → ((r : ℕ) → cell w' r 0 ≡ g → OfBody (cell w' r 0)) → owned_log (d w') w' g n t'.charges ≡ owned_log (d w) w g n t.charges
    own_later {A} g d la body =
        let z : t.charges + (t'.charges - t.charges) ≡ t'.charges = omega (arith, x.grew) in
        rw z at (up_stays (λ u. owned_by u g n) (owned_stable g n) d la x.kept (t'.charges - t.charges) other)
      where
        other : (r : ℕ) → t.charges ≤ r → r < t.charges + (t'.charges - t.charges) → owned_by w' g n r ≡ false
        other r a b = by (owned_by w' g n r) refl
          where
            by : (u : Bool) → owned_by w' g n r ≡ u → owned_by w' g n r ≡ false
            by false e = e
            by true e = let o = owned_is w' g n r e in absurd (omega (arith, x.fresh r a (omega arith) (body r o.0), o.1))

    pub body_later : (out place : ℕ) → body_of w' t'.charges n out place ≡ body_of w t.charges n out place
    body_later out place = rw (own_later tag_root root_rec root_lasting (λ r e. inl e), own_later tag_route body_route_rec body_route_lasting (λ r e. inr (inl e)))

    -- and no instance of it is recorded
    pub unrecorded_later : Unrecorded w t.charges n → Unrecorded w' t'.charges n
    unrecorded_later u = record { apart = λ q l e s. by q l e s (ltb q t.charges) refl }
      where
        by : (q : ℕ) → q < t'.charges → cell w' q 0 ≡ tag_instance → cell w' q 1 ≡ n → (b : Bool) → ltb q t.charges ≡ b → ⊥
        by q l e s true z =
            let k : q < t.charges = ltb-true q t.charges z in
            let st = x.kept.steady q k in
            u.apart q k (sym (steady_tag st) ∙ e) (sym (steady_first st 1 (omega arith)) ∙ s)
        by q l e s false z = omega (arith, x.fresh q (ltb-false q t.charges z) l (inr (inr e)))
