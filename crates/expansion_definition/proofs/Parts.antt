-- What the first parts of a node are charged, with the run that they are.
use mathlib.Core.Path.{◌≡◌, refl, ap, sym, ◌∙◌, subst}
use mathlib.Core.List.{List, [], map}
use Prim.Native.Nat.{ℕ, ◌+◌}
use lib.ListN.{length, length-map}
use Rattle.ast.specs.Ast.{Statement}
use Rattle.ast.specs.Lists.{flat}
use Rattle.expansion_steps.specs.Steps.{copy_id, add_default, count, Task, all, Run}
use Rattle.expansion_steps.specs.Steps
use Rattle.expansion_definition.specs.Input.{Input}
use Rattle.expansion_definition.specs.State.{State}
use Rattle.ast.specs.Ids.{statement_ids}
use Rattle.expansion_definition.specs.Values.{Values, Env}
use Rattle.expansion_definition.specs.Reached.{Known, known_entry, graph}
use Rattle.expansion_definition.specs.Outputs.{sum_of}
use Rattle.expansion_definition.specs.Counted.{routes_in, of_scope, of_value, of_run, held, values_or}
use Rattle.expansion_definition.specs.Until.{Fit, Named, scope_of, Charged, DefaultCharged, BodyDone, of_body, BodyCharged, PartsCharged}
use Rattle.expansion_definition.proofs.Outcome.{at_ok}
use Rattle.expansion_definition.proofs.Worlds.{Unseen, see}
use Rattle.expansion_definition.proofs.Running.{Fits}
use Rattle.expansion_definition.proofs.Walk.{PartRan, DefaultRan, BodyPartRan, plain_ran, given_ran, default_ran, body_ran}
use Rattle.expansion_definition.proofs.Costs.{Sees}
use Rattle.expansion_definition.proofs.Counted.{row_is, plain_first_lem, given_first_lem, default_first_lem, body_part}

module _ (I : Input) where
  -- A state that has a world's entries fits it,
  pub fit : {g : Unseen} {st : State} → Fits I g st → Fit I (see g st.world) st
  fit h = record { mapped = refl; ledger = refl; scopes = h.entries; listed = h.listed; room = h.room; externs = h.valid }

  -- and the other way round.
  abbrev unseen : Steps.World Known → Unseen
  unseen w = record { openers = w.openers; scopes = w.scopes }

  fits : {w : Steps.World Known} {st : State} → Fit I w st → Fits I (unseen w) st
  fits h = record { entries = h.scopes; listed = h.listed; room = h.room; valid = h.externs }

  is_seen : (w : Steps.World Known) (st : State) → Fit I w st → see (unseen w) st.world ≡ w
  is_seen w st h = λ j. record { mapped = sym h.mapped j; ledger = sym h.ledger j; openers = w.openers; scopes = w.scopes }

  sees : {w : Steps.World Known} {st : State} → Fit I w st → Sees I w st.world
  sees {w} h = record { mapped = h.mapped; scopes = sym (length-map w.scopes known_entry) ∙ ap length h.scopes }

  -- A run of the world that is seen is one of the world that fits.
  plain_there : {t : Task Known} {w : Steps.World Known} {st st' : State} (n i : ℕ) → Fit I w st → PartRan I t (Steps.add_plain n i (see (unseen w) st.world)) st' → PartRan I t (Steps.add_plain n i w) st'
  plain_there {t} {w} {st} {st'} n i h r = subst (λ (v : Steps.World Known). PartRan I t (Steps.add_plain n i v) st') (is_seen w st h) r

  part_there : {t : Task Known} {w : Steps.World Known} {st st' : State} → Fit I w st → PartRan I t (see (unseen w) st.world) st' → PartRan I t w st'
  part_there {t} {w} {st} {st'} h r = subst (λ (v : Steps.World Known). PartRan I t v st') (is_seen w st h) r

  default_there : {t : Task Known} {b : Known} {ids : List ℕ} {w : Steps.World Known} {st st' : State} → Fit I w st → DefaultRan I t b ids (see (unseen w) st.world) st' → DefaultRan I t b ids w st'
  default_there {t} {b} {ids} {w} {st} {st'} h r = subst (λ (v : Steps.World Known). DefaultRan I t b ids v st') (is_seen w st h) r

  body_there : {n i : ℕ} {b : Known} {t : Task Known} {l : List ℕ} {w : Steps.World Known} {st st' : State} → Fit I w st → BodyPartRan I n i b t l (see (unseen w) st.world) st' → BodyPartRan I n i b t l w st'
  body_there {n} {i} {b} {t} {l} {w} {st} {st'} h r = subst (λ (v : Steps.World Known). BodyPartRan I n i b t l v st') (is_seen w st h) r

  -- ---- a run with what it counts

  part_charged : {t : Task Known} {w : Steps.World Known} {st' : State} (vs : Values) (st : State) (items : ℕ) → PartRan I t w st' → ((v : Steps.World Known) (r : Run (graph I) t w v) → st'.charges + held I st ≡ st.charges + held I st' + items + of_run I vs r) → Charged I vs t w st st' items
  part_charged {st' = st'} vs st items x q = record { after = see x.after st'.world; run = x.run; fits = fit x.fits; charges = q (see x.after st'.world) x.run }

  default_charged : {t : Task Known} {b : Known} {ids : List ℕ} {w : Steps.World Known} {st' : State} (vs : Values) (st : State) (items : ℕ) → DefaultRan I t b ids w st'
      → ((v v' : Steps.World Known) (r : Run (graph I) t w v) (q : Run (graph I) (all (count v) b (map copy_id ids)) (add_default b v) v') → st'.charges + held I st ≡ st.charges + held I st' + (items + of_run I vs r) + of_run I [] q) → DefaultCharged I vs t b ids w st st' items
  default_charged vs st items x q = record { before = x.before; values = x.values'; inside = part_charged [] st (items + of_run I vs x.values') x.inside (λ v r. q x.before v x.values' r) }

  body_charged : (env : Env) (t : Task Known) (i : ℕ) (inner : Env) (names : List ℕ) (ss : List Statement) (w : Steps.World Known) (st st' : State) → Named inner names → BodyPartRan I env.scope i (scope_of inner names) t (flat statement_ids ss) w st'
      → ((v : Steps.World Known) (r : Run (graph I) t w v) (b : BodyDone I env.scope i (scope_of inner names) v (flat statement_ids ss))
      → st'.charges + held I st + of_scope I inner.entry ≡ st.charges + held I st' + 1 + sum_of of_value (values_or inner.is_values) + length (flat statement_ids ss) + routes_in ss + of_run I (values_or env.is_values) r + of_body (values_or inner.is_values) b) → BodyCharged I env t i inner names ss w st st'
  body_charged env t i inner names ss w st st' hn x q = record { named = hn; before = x.before; values = x.values'; done = x.body_done; fits = subst (λ (v : Steps.World Known). Fit I v st') x.world (fit x.fits); charges = q x.before x.values' x.body_done }

  -- What the first parts of a node are charged.
  pub parts_charged : PartsCharged I
  parts_charged = record {
    row = λ env i new st st' e. at_ok (row_is I env i st) e;
    plain = λ left env names hn i node fs is ss ids x st st' e w h. part_charged _ st _ (plain_there {w = w} {st = st} env.scope i h (at_ok (plain_ran I left env names hn i node fs is ss ids (unseen w) st (fits h)) e)) (λ v r. at_ok (plain_first_lem I left env names hn i node fs is ss ids st w v (sees h) r) e);
    given = λ left env names hn p decl ep fields is behind q ids vs st st' e w h. part_charged _ st _ (part_there {w = w} {st = st} h (at_ok (given_ran I left env names hn p decl ep fields is behind q ids (unseen w) st (fits h)) e)) (λ v r. at_ok (given_first_lem I left env names hn p decl ep fields is behind q ids st w v (sees h) r) e);
    default = λ left env names hn p decl ep fields is behind q ids n vs st st' e w h. default_charged _ st _ (default_there {w = w} {st = st} h (at_ok (default_ran I left env names hn p decl ep fields is behind q ids (unseen w) st (fits h)) e)) (λ v v' r z. at_ok (default_first_lem I left env names hn p decl ep fields is behind q ids st w v v' (sees h) r z) e);
    body = λ left env names hn i node p decl ep ss x st st' e w h. body_charged env _ i _ _ ss w st st' (at_ok (body_ran I left env names hn i node p decl ep ss (unseen w) st (fits h)) e).0 (body_there {w = w} {st = st} h (at_ok (body_ran I left env names hn i node p decl ep ss (unseen w) st (fits h)) e).1)
        (λ v r b. at_ok (body_part I left env names hn i node p decl ep ss st) e _ (at_ok (body_ran I left env names hn i node p decl ep ss (unseen w) st (fits h)) e).0 w v (sees h) r _ refl b);
  }
